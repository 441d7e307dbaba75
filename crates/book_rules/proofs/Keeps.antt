-- Entering a loan and striking one out keep the chains and the vacant places right, and each loan is found by its serial.
use mathlib.Core.Path.{◌≡◌, refl, sym, ap, subst, ◌∙◌}
use mathlib.Core.Bool.{Bool, true, false}
use mathlib.Core.Logic.{◌⊎◌, inl, inr, ⊎_elim}
use mathlib.Core.List.{List, [], ◌∷◌, ◌++◌}
use Prim.Native.Nat.{ℕ, ◌+◌, ◌-◌, ◌*◌, ◌^◌, ◌%◌, ◌≤◌, ◌<◌}
use native.Mathlib.Nat.{mod-lt, mod-eq_of_lt}
use native.Mathlib.Omega.{arith}
use lib.ListN.{length, length-append, length-set, get_or, set}
use Rattle.lists.specs.Members.{Mem, Distinct, Below, head_or}
use Rattle.lists.proofs.Bools.{same?, true_false, lt_or_le}
use Rattle.lists.proofs.Members.{below_mem, mem_left, split, mem_left_over, mem_of_left, distinct_out}
use Rattle.words.specs.Words.{cell_of}
use Rattle.slabs.specs.Slab.{nowhere, record_of, vacant_at, link_at, removed, removed_links, Chain, Parted, changed}
use Rattle.slabs.specs.Test.{vacancies}
use Rattle.slabs.specs.declared.Slab.{Slab}
use Rattle.slabs.specs.declared.Taken.{Taken}
use Rattle.slabs.proofs.Links.{place_record}
use Rattle.slabs.proofs.Places.{insert_first, insert_next, insert_last, inserted_parted, parted_same, removed_parted, chain_distinct, chain_same, changed_here, changed_other}
use Rattle.words.proofs.Records.{length_written}
use Rattle.store_rules.specs.Loans.{loan_words, size_at, loan_row}
use Rattle.store_rules.specs.declared.Loan.{Loan}
use Rattle.book_rules.specs.Book.{entry_words, vacated_at, vacant_after_at, index_words, first_of, next_of, led_to, serial_of, slab_of, first_in, next_in, taken_of, entered, entered_index, word_to, counted, struck, struck_index}
use Rattle.book_rules.specs.Chains.{Falling, InChain, Chained}
use Rattle.book_rules.proofs.Seeking.{word_is}
use Rattle.book_rules.proofs.Used.{used_most}
use Rattle.book_rules.proofs.Counted.{counted_long, counted_serial, counted_vacant}
use Rattle.book_rules.proofs.Falling.{falling_same, falling_cut}
use Rattle.book_rules.proofs.Decides.{serial_once}
use Rattle.book_rules.proofs.Cutting.{word_past, After, word_past_lem, word_leads, seek_found, chain_cut}
use Rattle.book_rules.proofs.Putting.{put_chained}
use Rattle.book_rules.proofs.Changed.{serial_here, serial_other, used_here, used_other, first_put, first_here, first_other, next_here, next_other, vacated_put, link_put, cleared, serial_kept, vacant_now, struck_stays, struck_past, struck_vacated, struck_link}

-- what the words of a book say: a place is vacant, the next in a chain, the next that is vacant
abbrev pub free_in : List ℕ → ℕ → Bool
free_in loans p = vacant_at loans size_at loan_words p

abbrev pub vacant_in : List ℕ → ℕ → ℕ
vacant_in index p = link_at index vacant_after_at entry_words p

-- the chains of a book are right
abbrev pub BookChained : List ℕ → List ℕ → ℕ → ℕ → ℕ → Type 0
BookChained loans index n places given = Chained (free_in loans) (first_in index) (next_in index) (serial_of loans) n places given

-- and so are its vacant places
abbrev pub BookParted : List ℕ → List ℕ → ℕ → ℕ → Type 0
BookParted loans index n places = Parted (free_in loans) (vacant_in index) (slab_of places index) n

-- a book with no place used, and no chain that leads anywhere
pub fresh_chained : (loans index : List ℕ) (n given : ℕ) → ((i : ℕ) → i < n → first_in index i ≡ nowhere) → BookChained loans index n 0 given
fresh_chained loans index n given e i h = record {
  members = [];
  chain = e i h;
  falling = tt;
  right = λ p m. absurd m;
  all = λ p k u s. absurd (omega arith);
}

-- no table grows or shrinks
pub entered_long : (places : ℕ) (index : List ℕ) (l : Loan) (loans : List ℕ) → length (entered places index l loans) ≡ length loans
unfolding entered
entered_long places index l loans =
    length_written loan_row (taken_of places index).place l (counted l.serial (taken_of places index).slab.places loans) ∙ counted_long l.serial (taken_of places index).slab.places loans

pub entered_wide : (n places serial : ℕ) (index : List ℕ) → length (entered_index n places serial index) ≡ length index
unfolding entered_index
entered_wide n places serial index = simp length-set

pub struck_long : (at : ℕ) (index loans : List ℕ) → length (struck at index loans) ≡ length loans
unfolding struck
struck_long at index loans = simp length-set

pub struck_wide : (at : ℕ) (index : List ℕ) → length (struck_index at index) ≡ length index
unfolding struck_index
struck_wide at index = simp length-set

-- ---- a loan is entered

module _ (loans index : List ℕ) (n places : ℕ) (few : n < nowhere) (P : BookParted loans index n places) where
  -- the place that it takes was vacant or is new
  record Place (p places' : ℕ) : Type 0 where
    vacant : p < places → free_in loans p ≡ true
    below : p < places'
    kept : places ≤ places'
    grown : (x : ℕ) → x < places' → (x ≡ p → ⊥) → x < places

  place_new : (p places' : ℕ) → p ≡ places → places' ≡ places + 1 → Place p places'
  place_new p places' e f = record {
    vacant = λ h. absurd (omega arith);
    below = omega arith;
    kept = omega arith;
    grown = λ x h o. ⊎_elim (λ (q : x ≡ places). absurd (o (q ∙ sym e))) (λ (q : x ≡ places → ⊥). omega arith) (same? x places);
  }

  place_again : (x p places' : ℕ) → Mem x P.chained → p ≡ x → x < places → places' ≡ places → Place p places'
  place_again x p places' m e h f = record {
    vacant = λ g. rw e (P.vacant x m);
    below = omega arith;
    kept = omega arith;
    grown = λ y g o. omega arith;
  }

  place_taken : Place (taken_of places index).place (taken_of places index).slab.places
  place_taken = by P.chained refl
    where
      by : (l : List ℕ) → P.chained ≡ l → Place (taken_of places index).place (taken_of places index).slab.places
      by [] e =
          let v : led_to index vacated_at ≡ nowhere = rw e at P.chain in
          let q : places ≤ n = P.limit in
          let m : (places + 1) % 2 ^ 64 ≡ places + 1 = mod-eq_of_lt (omega arith) in
          let t = insert_next (slab_of places index) index vacant_after_at entry_words (omega arith) in
          place_new _ _ (ap (λ (u : Taken). u.place) t) (ap (λ (u : Taken). u.slab.places) t ∙ m)
      by (x ∷ l) e =
          let c : Chain (vacant_in index) (led_to index vacated_at) (x ∷ l) = rw e at P.chain in
          let b : Below places (x ∷ l) = rw e at P.below in
          let v : led_to index vacated_at ≡ x = c.0 in
          let h : x < places = b.0 in
          let t = insert_first (slab_of places index) index vacant_after_at entry_words (omega arith) in
          place_again x _ _ (rw e (inl refl)) (ap (λ (u : Taken). u.place) t ∙ v) h (ap (λ (u : Taken). u.slab.places) t)

  -- it is the next new one, or one that was vacant, and then no place more is used
  pub taken_where : (((taken_of places index).place ≡ places) × ((taken_of places index).slab.places ≡ places + 1))
      ⊎ (((taken_of places index).place < places) × (free_in loans (taken_of places index).place ≡ true) × ((taken_of places index).slab.places ≡ places))
  taken_where = by (taken_of places index).place (taken_of places index).slab.places place_taken
    where
      by : (p q : ℕ) → Place p q → ((p ≡ places) × (q ≡ places + 1)) ⊎ ((p < places) × (free_in loans p ≡ true) × (q ≡ places))
      by p q k =
          let below : p < q = k.below in
          let kept : places ≤ q = k.kept in
          ⊎_elim
          (λ (h : p < places). inr (h, k.vacant h, ⊎_elim (λ (g : places < q). let z = k.grown places g (λ e. omega arith) in absurd (omega arith)) (λ (g : q ≤ places). omega arith) (lt_or_le places q)))
          (λ (h : places ≤ p).
          let e : p ≡ places = ⊎_elim (λ (g : places < p). let z = k.grown places (omega arith) (λ e. omega arith) in absurd (omega arith)) (λ (g : p ≤ places). omega arith) (lt_or_le places p) in
          inl (e, ⊎_elim (λ (g : places + 1 < q). let z = k.grown (places + 1) g (λ f. omega arith) in absurd (omega arith)) (λ (g : q ≤ places + 1). omega arith) (lt_or_le (places + 1) q)))
          (lt_or_le p places)

  module _ (given : ℕ) (l : Loan) (long : length loans ≡ loan_words + loan_words * n) (wide : index_words n ≤ length index)
      (room : (taken_of places index).place < n) (next : l.serial ≡ given + 1) (whole : l.size ≡ 0 → ⊥) where
    abbrev taken : ℕ
    taken = (taken_of places index).place

    -- the table whose counts are written, in which the record is then
    abbrev kept : List ℕ
    kept = counted l.serial (taken_of places index).slab.places loans

    kept_long : length kept ≡ loan_words + loan_words * n
    kept_long = counted_long l.serial (taken_of places index).slab.places loans ∙ long

    here_used : free_in (entered places index l loans) taken ≡ false
    unfolding entered
    here_used = used_here kept n taken l kept_long room whole

    others_used : (x : ℕ) → (x ≡ taken → ⊥) → free_in (entered places index l loans) x ≡ free_in loans x
    unfolding entered
    others_used x o = used_other kept n taken l kept_long room x o ∙ counted_vacant l.serial (taken_of places index).slab.places loans x

    here_serial : serial_of (entered places index l loans) taken ≡ l.serial
    unfolding entered
    here_serial = serial_here kept n taken l kept_long room

    others_serial : (x : ℕ) → (x ≡ taken → ⊥) → serial_of (entered places index l loans) x ≡ serial_of loans x
    unfolding entered
    others_serial x o = serial_other kept n taken l kept_long room x o ∙ counted_serial l.serial (taken_of places index).slab.places loans x

    own : (given + 1) % n < n
    own = mod-lt (given + 1) (omega arith)

    abbrev index' : List ℕ
    index' = first_put index n ((given + 1) % n) taken (get_or index (first_of ((given + 1) % n)) 0) (record_of (taken_of places index).slab.vacant) wide own room

    index_as : entered_index n places l.serial index ≡ index'
    unfolding entered_index
    index_as = ap (λ (s : ℕ). entered_index n places s index) next

    pub entered_chained : BookChained loans index n places given
        → BookChained (entered places index l loans) (entered_index n places l.serial index) n (taken_of places index).slab.places (given + 1)
    entered_chained C =
        let t = place_taken in
        let f = get_or index (first_of ((given + 1) % n)) 0 in
        let v = record_of (taken_of places index).slab.vacant in
        subst (λ (i : List ℕ). BookChained (entered places index l loans) i n (taken_of places index).slab.places (given + 1)) (sym index_as)
        (put_chained _ _ _ _ _ _ _ _ n places _ given taken t.vacant t.below t.kept t.grown
        here_used others_used (here_serial ∙ next) others_serial
        (next_here index n ((given + 1) % n) taken f v wide own room) (next_other index n ((given + 1) % n) taken f v wide own room)
        (first_here index n ((given + 1) % n) taken f v wide own room)
        (λ i h o. first_other index n ((given + 1) % n) taken f v wide own room i o) C)

    pub entered_parted : BookParted (entered places index l loans) (entered_index n places l.serial index) n (taken_of places index).slab.places
    entered_parted =
        let c = (given + 1) % n in
        let f = get_or index (first_of ((given + 1) % n)) 0 in
        let v = record_of (taken_of places index).slab.vacant in
        let free = free_in loans in
        let h : head_or places P.chained < n = omega (arith, insert_last free index vacant_after_at entry_words (slab_of places index) n P few, room) in
        let Q = inserted_parted free index vacant_after_at entry_words (slab_of places index) n P few h in
        let same : (x : ℕ) → free_in (entered places index l loans) x ≡ changed free taken false x =
        λ x. ⊎_elim (λ e. ap (free_in (entered places index l loans)) e ∙ here_used ∙ sym (changed_here free taken false x e))
        (λ o. others_used x o ∙ sym (changed_other free taken false x o)) (same? x taken) in
        let R = parted_same (changed free taken false) (free_in (entered places index l loans)) (vacant_in index) (vacant_in index') (taken_of places index).slab n
        (λ x g. same x) (λ x g. link_put index n c taken f v wide own room x) Q in
        let s : slab_of (taken_of places index).slab.places index' ≡ (taken_of places index).slab =
        ap (λ (w : ℕ). record { places = (taken_of places index).slab.places; vacant = w }) (vacated_put index n c taken f v wide own room ∙ place_record (taken_of places index).slab.vacant) in
        subst (λ (i : List ℕ). BookParted (entered places index l loans) i n (taken_of places index).slab.places) (sym index_as)
        (subst (λ (d : Slab). Parted (free_in (entered places index l loans)) (vacant_in index') d n) (sym s) R)

-- ---- a loan is looked for

module _ (loans index : List ℕ) (n places given : ℕ) (some : 0 < n) (limit : places ≤ n) (few : n < nowhere) (C : BookChained loans index n places given) where
  module _ (p : ℕ) (h : p < places) (u : free_in loans p ≡ false) where
    abbrev at : ℕ
    at = word_to loans index n places (serial_of loans p)

    abbrev home : ℕ
    home = serial_of loans p % n

    in_home : InChain (free_in loans) (first_in index) (next_in index) (serial_of loans) n places given home
    in_home = C home (mod-lt (serial_of loans p) some)

    chain_home : Chain (next_in index) (first_in index home) in_home.members
    chain_home = in_home.chain

    -- the way to it along its chain
    record Way : Type 0 where
      a : List ℕ
      b : List ℕ
      is : in_home.members ≡ a ++ (p ∷ b)
      distinct : Distinct (a ++ (p ∷ b))
      word : at ≡ word_past (first_of home) a

    way : Way
    way =
        let c = in_home in
        let s = split p c.members (c.all p h u refl) in
        let d = chain_distinct (next_in index) places (first_in index home) c.members (omega arith) chain_home (below_mem places c.members (λ x m. (c.right x m).0)) in
        let d' : Distinct (s.a ++ (p ∷ s.b)) = rw s.is at d in
        let most : length c.members ≤ places - vacancies (free_in loans) places = used_most (free_in loans) places c.members d (λ x m. let r = c.right x m in (r.0, r.1)) in
        let short : length s.a < places = omega (arith, ap length s.is, length-append s.a (p ∷ s.b)) in
        let into : (x : ℕ) → Mem x (s.a ++ (p ∷ s.b)) → Mem x c.members = λ x m. rw s.is m in
        let other : (x : ℕ) → Mem x s.a → serial_of loans x ≡ serial_of loans p → ⊥ =
        λ x m e. let r = c.right x (into x (mem_left x s.a (p ∷ s.b) m)) in
        let q : x ≡ p = serial_once (free_in loans) (first_in index) (next_in index) (serial_of loans) n places given x p some C r.0 h r.1 u e in
        distinct_out p s.a s.b d' (mem_left p s.a s.b (rw q at m)) in
        record {
          a = s.a;
          b = s.b;
          is = s.is;
          distinct = d';
          word =
              word_is loans index n places (serial_of loans p)
              ∙ seek_found index loans places (serial_of loans p) (first_of home) places p s.a s.b (rw s.is at chain_home) (λ x m. (c.right x (into x m)).0) other refl short;
        }

    chain_way : Chain (next_in index) (first_in index home) (way.a ++ (p ∷ way.b))
    chain_way = rw way.is at chain_home

    found_leads : led_to index (word_to loans index n places (serial_of loans p)) ≡ p
    found_leads = ap (λ (w : ℕ). led_to index w) way.word ∙ word_leads index (first_of home) p way.a way.b chain_way

    -- the word that leads to it is the first of its chain or the one after another of its chain
    found_word : (at ≡ first_of home) ⊎ After at way.a
    found_word = rw way.word (word_past_lem (first_of home) way.a)

    before : (x : ℕ) → Mem x way.a → (x < places) × (free_in loans x ≡ false) × (serial_of loans x % n ≡ home)
    before x m = in_home.right x (rw way.is (mem_left x way.a (p ∷ way.b) m))

    found_inside : word_to loans index n places (serial_of loans p) < index_words n
    found_inside =
        let g : home < n = mod-lt (serial_of loans p) some in
        ⊎_elim (λ e. omega arith) (λ r. let k : r.place < places = (before r.place r.member).0 in omega (arith, r.is)) found_word

    -- one that is there is found
    pub found : (word_to loans index n places (serial_of loans p) < index_words n) × (led_to index (word_to loans index n places (serial_of loans p)) ≡ p)
    found = (found_inside, found_leads)

    found_chained : at % 3 ≡ 2 → ⊥
    found_chained z = ⊎_elim (λ e. omega arith) (λ r. omega (arith, r.is)) found_word

    -- ---- and struck out

    module _ (long : length loans ≡ loan_words + loan_words * n) (wide : index_words n ≤ length index) where
      room : p < n
      room = omega arith

      loans_as : struck at index loans ≡ cleared loans p
      unfolding struck
      loans_as = ap (cleared loans) found_leads

      stays : (v : ℕ) → (v % 3 ≡ 2 → ⊥) → (v ≡ at → ⊥) → led_to (struck_index at index) v ≡ led_to index v
      stays = struck_stays index n at p wide room found_inside found_chained found_leads

      past : led_to (struck_index at index) at ≡ next_in index p
      past = struck_past index n at p wide room found_inside found_chained found_leads

      serials : (x : ℕ) → (x ≡ p → ⊥) → serial_of (struck at index loans) x ≡ serial_of loans x
      serials x o = ap (λ (t : List ℕ). serial_of t x) loans_as ∙ serial_kept loans n p long room x o

      frees : (x : ℕ) → free_in (struck at index loans) x ≡ changed (free_in loans) p true x
      frees x = ap (λ (t : List ℕ). free_in t x) loans_as ∙ vacant_now loans n p long room x

      free_here : (x : ℕ) → x ≡ p → free_in (struck at index loans) x ≡ true
      free_here x e = frees x ∙ changed_here (free_in loans) p true x e

      free_other : (x : ℕ) → (x ≡ p → ⊥) → free_in (struck at index loans) x ≡ free_in loans x
      free_other x o = frees x ∙ changed_other (free_in loans) p true x o

      -- a loan of a chain that is not p is still one, and those that still are were
      module _ (i : ℕ) (c : InChain (free_in loans) (first_in index) (next_in index) (serial_of loans) n places given i) where
        right_still : (x : ℕ) → Mem x c.members → (x ≡ p → ⊥) → (x < places) × (free_in (struck at index loans) x ≡ false) × (serial_of (struck at index loans) x % n ≡ i)
        right_still x m o = let r = c.right x m in (r.0, free_other x o ∙ r.1, ap (λ (s : ℕ). s % n) (serials x o) ∙ r.2)

        all_still : (x : ℕ) → x < places → free_in (struck at index loans) x ≡ false → serial_of (struck at index loans) x % n ≡ i → (x ≡ p → ⊥) × Mem x c.members
        all_still x g f s =
            let o : x ≡ p → ⊥ = λ e. true_false _ (free_here x e) f in
            (o, c.all x g (sym (free_other x o) ∙ f) (ap (λ (t : ℕ). t % n) (sym (serials x o)) ∙ s))

      abbrev StillIn : ℕ → Type 0
      StillIn i = InChain (free_in (struck at index loans)) (first_in (struck_index at index)) (next_in (struck_index at index)) (serial_of (struck at index loans)) n places given i

      -- its own chain goes past it
      struck_own : StillIn home
      struck_own =
          let w = way in
          let into : (x : ℕ) → Mem x (w.a ++ w.b) → Mem x in_home.members = λ x m. rw w.is (mem_of_left p x w.a w.b m) in
          let other : (x : ℕ) → Mem x (w.a ++ w.b) → x ≡ p → ⊥ = λ x m e. distinct_out p w.a w.b w.distinct (rw e at m) in
          let fall : Falling (free_in loans) (first_in index) (next_in index) (serial_of loans) given (w.a ++ (p ∷ w.b)) = rw w.is at in_home.falling in
          record {
            members = w.a ++ w.b;
            chain =
                (chain_cut index (struck_index at index) at p stays past (first_of home) w.a w.b w.word (λ z. omega arith) (λ x m z. omega arith) w.distinct chain_way);
            falling = falling_cut (free_in loans) (first_in index) (next_in index) (serial_of loans) (serial_of (struck at index loans)) given p w.a w.b (λ x m. serials x (other x m)) fall;
            right = λ x m. right_still home in_home x (into x m) (other x m);
            all = λ x g f s. let r = all_still home in_home x g f s in mem_left_over p x w.a w.b r.0 (rw w.is at r.1);
          }

      -- the others stay
      struck_other : (i : ℕ) → i < n → (i ≡ home → ⊥) → StillIn i
      struck_other i g o =
          let c = C i g in
          let out : (x : ℕ) → Mem x c.members → x ≡ p → ⊥ = λ x m e. o (sym (c.right x m).2 ∙ ap (λ (q : ℕ). serial_of loans q % n) e) in
          let next_out : (x : ℕ) → Mem x c.members → next_of x ≡ at → ⊥ =
          λ x m z. ⊎_elim (λ e. omega arith)
          (λ r. let q : x ≡ r.place = omega (arith, r.is) in o (sym (c.right x m).2 ∙ ap (λ (y : ℕ). serial_of loans y % n) q ∙ (before r.place r.member).2)) found_word in
          let first_out : first_of i ≡ at → ⊥ = λ z. ⊎_elim (λ e. o (omega arith)) (λ r. omega (arith, r.is)) found_word in
          record {
            members = c.members;
            chain =
                rw (stays (first_of i) (λ z. omega arith) first_out)
                (chain_same (next_in index) (next_in (struck_index at index)) (first_in index i) c.members (λ x m. stays (next_of x) (λ z. omega arith) (next_out x m)) c.chain);
            falling = falling_same (free_in loans) (first_in index) (next_in index) (serial_of loans) (serial_of (struck at index loans)) given given c.members (omega arith) (λ x m. serials x (out x m)) c.falling;
            right = λ x m. right_still i c x m (out x m);
            all = λ x k f s. (all_still i c x k f s).1;
          }

      pub struck_chained : BookChained (struck (word_to loans index n places (serial_of loans p)) index loans) (struck_index (word_to loans index n places (serial_of loans p)) index) n places given
      struck_chained i g = ⊎_elim (λ e. subst StillIn (sym e) struck_own) (struck_other i g) (same? i home)

      pub struck_parted : BookParted loans index n places → BookParted (struck (word_to loans index n places (serial_of loans p)) index loans) (struck_index (word_to loans index n places (serial_of loans p)) index) n places
      unfolding removed removed_links
      struck_parted P =
          let free = free_in loans in
          let Q = removed_parted free index vacant_after_at entry_words (slab_of places index) n p P h u (omega arith) (omega arith) in
          let R = parted_same (changed free p true) (free_in (struck at index loans)) (link_at (set index (cell_of vacant_after_at entry_words p) (record_of (led_to index vacated_at))) vacant_after_at entry_words) (vacant_in (struck_index at index)) (record { places = places; vacant = p }) n
          (λ x g. frees x) (λ x g. struck_link index n at p wide room found_inside found_chained found_leads x) Q in
          let s : slab_of places (struck_index at index) ≡ record { places = places; vacant = p } =
          ap (λ (v : ℕ). record { places = places; vacant = v }) (struck_vacated index n at p wide room found_inside found_chained found_leads) in
          subst (λ (d : Slab). Parted (free_in (struck at index loans)) (vacant_in (struck_index at index)) d n) (sym s) R
