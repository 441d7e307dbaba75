-- The laws of a slab: what parts its places, and that insertions, removals and other stores keep it.
use Rattle.std.proofs.Common.{◌≡◌, ℕ, ◌+◌, ◌%◌, ◌^◌, ◌<◌, ◌≤◌, Bool, true, false, eqb, ◌⊎◌, List, [], ◌∷◌, ◌++◌, length, drop, set, sym, refl, ap, ◌∙◌, inl, inr, ⊎_elim, mod-eq_of_lt, add_left_cancel, arith, length-append, get_or-set_other, get_or-set_same, le-ltb, lt-ltb, eq-eqb, ne_eqb}
use native.Mathlib.Nat.{eq_of_mul-eq-mul_left}
use Rattle.lists.specs.Members.{Mem, NotIn, Distinct, Below, head_or}
use Rattle.lists.proofs.Bools.{same?, lt_or_le, told, true_false}
use Rattle.lists.proofs.Members.{mem_not, not_mem, mem_below, split, below_from}
use Rattle.words.specs.Words.{cell_of}
use Rattle.slabs.specs.declared.Slab.{Slab}
use Rattle.slabs.specs.declared.Taken.{Taken}
use Rattle.slabs.proofs.Links.{place_record}
use Rattle.slabs.specs.Slab.{nowhere, place_of, record_of, vacant_at, link_at, fresh, inserted, removed, removed_links, Chain, Parted, changed}

-- from each place there is one chain that ends
pub chain_unique : (next : ℕ → ℕ) (n h : ℕ) (l l' : List ℕ) → n ≤ nowhere → Chain next h l → Chain next h l' → Below n l → Below n l' → l ≡ l'
chain_unique next n h [] [] o c d b b' = refl
chain_unique next n h [] (y ∷ l') o c d b b' = let k : y < n = b'.0 in absurd (omega arith)
chain_unique next n h (x ∷ l) [] o c d b b' = let k : x < n = b.0 in absurd (omega arith)
chain_unique next n h (x ∷ l) (y ∷ l') o c d b b' =
    let e : y ≡ x = sym d.0 ∙ c.0 in
    let t : l ≡ l' = chain_unique next n (next x) l l' o c.1 (rw e at d.1) b.1 b'.1 in
    cc

pub chain_from : (next : ℕ → ℕ) (h x : ℕ) (a b : List ℕ) → Chain next h (a ++ (x ∷ b)) → Chain next x (x ∷ b)
chain_from next h x [] b c = (refl, c.1)
chain_from next h x (y ∷ a) b c = chain_from next (next y) x a b c.1

-- so a chain that ends meets no place twice
pub chain_distinct : (next : ℕ → ℕ) (n h : ℕ) (l : List ℕ) → n ≤ nowhere → Chain next h l → Below n l → Distinct l
chain_distinct next n h [] o c b = tt
chain_distinct next n h (x ∷ l) o c b = (mem_not x l twice, chain_distinct next n (next x) l o c.1 b.1)
  where
    twice : Mem x l → ⊥
    twice m =
        let s = split x l m in
        let c' : Chain next (next x) (s.a ++ (x ∷ s.b)) = rw s.is at c.1 in
        let b' : Below n (s.a ++ (x ∷ s.b)) = rw s.is at b.1 in
        let u : x ∷ s.b ≡ x ∷ l = chain_unique next n x (x ∷ s.b) (x ∷ l) o (chain_from next (next x) x s.a s.b c') (refl, c.1) (below_from n x s.a s.b b') b in
        omega (arith, ap length u, ap length s.is, length-append s.a (x ∷ s.b))

-- a chain stays where the links of its places do
pub chain_same : (next next' : ℕ → ℕ) (h : ℕ) (l : List ℕ) → ((x : ℕ) → Mem x l → next' x ≡ next x) → Chain next h l → Chain next' h l
chain_same next next' h [] f c = c
chain_same next next' h (x ∷ l) f c = (c.0, rw (f x (inl refl)) (chain_same next next' (next x) l (λ y m. f y (inr m)) c.1))

-- two records have no word in common
pub cell_one : (at step p x : ℕ) → 0 < step → cell_of at step x ≡ cell_of at step p → x ≡ p
cell_one at step p x o e = eq_of_mul-eq-mul_left step o x p (add_left_cancel at e)

-- an answer changed at p
pub changed_here : (free : ℕ → Bool) (p : ℕ) (b : Bool) (x : ℕ) → x ≡ p → changed free p b x ≡ b
changed_here free p b x e = rw (eq-eqb x p e)

pub changed_other : (free : ℕ → Bool) (p : ℕ) (b : Bool) (x : ℕ) → (x ≡ p → ⊥) → changed free p b x ≡ free x
changed_other free p b x n = rw (ne_eqb x p n)

pub still_free : (free : ℕ → Bool) (p x : ℕ) → changed free p false x ≡ true → (x ≡ p → ⊥) × (free x ≡ true)
still_free free p x t = ⊎_elim (λ e. absurd (true_false _ t (changed_here free p false x e))) (λ n. (n, sym (changed_other free p false x n) ∙ t)) (same? x p)

pub now_free : (free : ℕ → Bool) (p x : ℕ) → changed free p true x ≡ true → (x ≡ p) ⊎ (free x ≡ true)
now_free free p x t = ⊎_elim (λ e. inl e) (λ n. inr (sym (changed_other free p true x n) ∙ t)) (same? x p)

-- a store to the mark of the record at p changes the mark of that record only
pub vacant_set : (records : List ℕ) (mark width p v x : ℕ) → 0 < width → cell_of mark width p < length records → vacant_at (set records (cell_of mark width p) v) mark width x ≡ changed (vacant_at records mark width) p (eqb v 0) x
vacant_set records mark width p v x o h = ⊎_elim here other (same? x p)
  where
    here : x ≡ p → vacant_at (set records (cell_of mark width p) v) mark width x ≡ changed (vacant_at records mark width) p (eqb v 0) x
    here e =
        ap (λ y. vacant_at (set records (cell_of mark width p) v) mark width y) e
        ∙ ap (λ w. eqb w 0) (get_or-set_same records (cell_of mark width p) v 0 h)
        ∙ sym (changed_here (vacant_at records mark width) p (eqb v 0) x e)

    other : (x ≡ p → ⊥) → vacant_at (set records (cell_of mark width p) v) mark width x ≡ changed (vacant_at records mark width) p (eqb v 0) x
    other n =
        ap (λ w. eqb w 0) (get_or-set_other records (cell_of mark width p) (cell_of mark width x) v 0 (λ e. n (cell_one mark width p x o e)))
        ∙ sym (changed_other (vacant_at records mark width) p (eqb v 0) x n)

-- a store to the link of the place p changes the link of that place only
pub link_here : (links : List ℕ) (at step p v : ℕ) → cell_of at step p < length links → link_at (set links (cell_of at step p) (record_of v)) at step p ≡ v
link_here links at step p v h = ap place_of (get_or-set_same links (cell_of at step p) (record_of v) 0 h) ∙ place_record v

pub link_other : (links : List ℕ) (at step p v x : ℕ) → 0 < step → (x ≡ p → ⊥) → link_at (set links (cell_of at step p) v) at step x ≡ link_at links at step x
link_other links at step p v x o n = ap place_of (get_or-set_other links (cell_of at step p) (cell_of at step x) v 0 (λ e. n (cell_one at step p x o e)))

-- no place used: nothing to part
pub parted_fresh : (free : ℕ → Bool) (next : ℕ → ℕ) (most : ℕ) → Parted free next fresh most
parted_fresh free next most = record {
  chained = [];
  chain = refl;
  distinct = tt;
  below = tt;
  vacant = λ p m. absurd m;
  all = λ p h e. absurd (omega arith);
  limit = omega arith;
}

-- nothing is said of a place that was never used
pub parted_same : (free free' : ℕ → Bool) (next next' : ℕ → ℕ) (s : Slab) (most : ℕ) → ((x : ℕ) → x < s.places → free' x ≡ free x) → ((x : ℕ) → x < s.places → next' x ≡ next x) → Parted free next s most → Parted free' next' s most
parted_same free free' next next' s most f g P =
    let under : (x : ℕ) → Mem x P.chained → x < s.places = λ x m. mem_below s.places x P.chained P.below m in
    record {
      chained = P.chained;
      chain = chain_same next next' s.vacant P.chained (λ x m. g x (under x m)) P.chain;
      distinct = P.distinct;
      below = P.below;
      vacant = λ x m. f x (under x m) ∙ P.vacant x m;
      all = λ x h e. P.all x h (sym (f x h) ∙ e);
      limit = P.limit;
    }

-- a place in use is not in the chain
pub used_out : (free : ℕ → Bool) (next : ℕ → ℕ) (s : Slab) (most : ℕ) (P : Parted free next s most) (p : ℕ) → free p ≡ false → NotIn p P.chained
used_out free next s most P p e = mem_not p P.chained (λ m. true_false (free p) (P.vacant p m) e)

-- each place ever used is in use or vacant, by its record and by the chain alike, and not both; the chain has it once
pub parts : (free : ℕ → Bool) (next : ℕ → ℕ) (s : Slab) (most : ℕ) (P : Parted free next s most) → Distinct P.chained × ((p : ℕ) → p < s.places → ((free p ≡ false) × NotIn p P.chained) ⊎ ((free p ≡ true) × Mem p P.chained))
parts free next s most P = (P.distinct, λ p h. ⊎_elim (λ e. inr (e, P.all p h e)) (λ e. inl (e, used_out free next s most P p e)) (told (free p)))

-- what parts a slab parts any other that has as many places and the same head
parted_as : (free : ℕ → Bool) (next : ℕ → ℕ) (s s' : Slab) (most : ℕ) → s'.places ≡ s.places → s'.vacant ≡ s.vacant → Parted free next s most → Parted free next s' most
parted_as free next s s' most n v P = record {
  chained = P.chained;
  chain = rw v P.chain;
  distinct = P.distinct;
  below = rw n P.below;
  vacant = P.vacant;
  all = λ x h e. P.all x (rw n at h) e;
  limit = rw n P.limit;
}

-- what an insertion gives: the place vacated last
pub insert_first : (s : Slab) (links : List ℕ) (at step : ℕ) → s.vacant < s.places → inserted s links at step ≡ record { place = s.vacant; slab = record { places = s.places; vacant = link_at links at step s.vacant } }
unfolding inserted
insert_first s links at step h = rw (lt-ltb s.vacant s.places h)

-- or, where none is vacant, the next new one
pub insert_next : (s : Slab) (links : List ℕ) (at step : ℕ) → s.places ≤ s.vacant → inserted s links at step ≡ record { place = s.places; slab = record { places = (s.places + 1) % 2 ^ 64; vacant = s.vacant } }
unfolding inserted
insert_next s links at step h = rw (le-ltb s.vacant s.places h)

module _ (free : ℕ → Bool) (links : List ℕ) (at step : ℕ) (s : Slab) (most : ℕ) (P : Parted free (link_at links at step) s most) where
  -- what it gives by the chain
  again : (x : ℕ) (l : List ℕ) → P.chained ≡ x ∷ l → inserted s links at step ≡ record { place = x; slab = record { places = s.places; vacant = link_at links at step x } }
  again x l e =
      let c : Chain (link_at links at step) s.vacant (x ∷ l) = rw e at P.chain in
      let b : Below s.places (x ∷ l) = rw e at P.below in
      let v : s.vacant ≡ x = c.0 in
      let k : x < s.places = b.0 in
      insert_first s links at step (omega arith) ∙ rw v

  new : P.chained ≡ [] → most < nowhere → inserted s links at step ≡ record { place = s.places; slab = record { places = s.places + 1; vacant = s.vacant } }
  new e o =
      let c : s.vacant ≡ nowhere = rw e at P.chain in
      let q : s.places ≤ most = P.limit in
      let m : (s.places + 1) % 2 ^ 64 ≡ s.places + 1 = mod-eq_of_lt (omega arith) in
      insert_next s links at step (omega arith) ∙ rw m

  -- "insert takes the most recently vacated place, else the next new one"
  pub insert_last : most < nowhere → (inserted s links at step).place ≡ head_or s.places P.chained
  insert_last o = by P.chained refl
    where
      by : (l : List ℕ) → P.chained ≡ l → (inserted s links at step).place ≡ head_or s.places l
      by [] e = ap (λ (t : Taken). t.place) (new e o)
      by (x ∷ l) e = ap (λ (t : Taken). t.place) (again x l e)

  -- what is vacant after x is taken was chained after x
  chained_after : (x : ℕ) (l : List ℕ) → P.chained ≡ x ∷ l → (p : ℕ) → p < s.places → changed free x false p ≡ true → Mem p l
  chained_after x l e p h t =
      let k = still_free free x p t in
      let m : Mem p (x ∷ l) = rw e at (P.all p h k.1) in
      ⊎_elim (λ q. absurd (k.0 q)) (λ i. i) m

  -- a vacant place taken again: the chain goes on from its link
  pub insert_again : (x : ℕ) (l : List ℕ) → P.chained ≡ x ∷ l → Parted (changed free x false) (link_at links at step) (inserted s links at step).slab most
  insert_again x l e =
      let c : Chain (link_at links at step) s.vacant (x ∷ l) = rw e at P.chain in
      let b : Below s.places (x ∷ l) = rw e at P.below in
      let d : Distinct (x ∷ l) = rw e at P.distinct in
      parted_as _ _ (record { places = s.places; vacant = link_at links at step x }) _ most
      (ap (λ (t : Taken). t.slab.places) (again x l e))
      (ap (λ (t : Taken). t.slab.vacant) (again x l e))
      (record {
        chained = l;
        chain = c.1;
        distinct = d.1;
        below = b.1;
        vacant = λ p m. changed_other free x false p (λ q. not_mem x l d.0 (rw q at m)) ∙ P.vacant p (rw e (inr m));
        all = chained_after x l e;
        limit = P.limit;
      })

  -- none is vacant after a new place is taken
  chained_none : P.chained ≡ [] → (p : ℕ) → p < s.places + 1 → changed free s.places false p ≡ true → Mem p []
  chained_none e p k t =
      let f = still_free free s.places p t in
      ⊎_elim (λ (i : p < s.places). rw e at (P.all p i f.1)) (λ i. absurd (f.0 (omega arith))) (lt_or_le p s.places)

  -- a new place taken: the chain stays empty
  pub insert_new : P.chained ≡ [] → s.places < most → most < nowhere → Parted (changed free s.places false) (link_at links at step) (inserted s links at step).slab most
  insert_new e h o =
      parted_as _ _ (record { places = s.places + 1; vacant = s.vacant }) _ most
      (ap (λ (t : Taken). t.slab.places) (new e o))
      (ap (λ (t : Taken). t.slab.vacant) (new e o))
      (record {
        chained = [];
        chain = rw e at P.chain;
        distinct = tt;
        below = tt;
        vacant = λ p m. absurd m;
        all = chained_none e;
        limit = omega arith;
      })

  -- either way
  taken : (l : List ℕ) → P.chained ≡ l → most < nowhere → head_or s.places l < most → Parted (changed free (head_or s.places l) false) (link_at links at step) (inserted s links at step).slab most
  taken [] e o h = insert_new e h o
  taken (x ∷ l) e o h = insert_again x l e

  pub inserted_parted : most < nowhere → head_or s.places P.chained < most → Parted (changed free (inserted s links at step).place false) (link_at links at step) (inserted s links at step).slab most
  inserted_parted o h =
      parted_same (changed free (head_or s.places P.chained) false) _ (link_at links at step) _ _ most
      (λ x i. ap (λ (p : ℕ). changed free p false x) (insert_last o)) (λ x i. refl) (taken P.chained refl o h)

  -- and the chain is the rest of what it was
  pub inserted_chain : (o : most < nowhere) (h : head_or s.places P.chained < most) → (inserted_parted o h).chained ≡ drop 1 P.chained
  unfolding inserted_parted parted_same taken insert_again insert_new parted_as
  inserted_chain o h = by P.chained refl h
    where
      by : (l : List ℕ) (e : P.chained ≡ l) (h : head_or s.places l < most) → (taken l e o h).chained ≡ drop 1 l
      by [] e h = refl
      by (x ∷ l) e h = refl

-- a place vacated: it is the first of the chain
pub removed_parted : (free : ℕ → Bool) (links : List ℕ) (at step : ℕ) (s : Slab) (most p : ℕ) → Parted free (link_at links at step) s most → p < s.places → free p ≡ false → cell_of at step p < length links → 0 < step → Parted (changed free p true) (link_at (removed_links s links at step p) at step) (removed s p) most
unfolding removed removed_links
removed_parted free links at step s most p P h u k o =
    let out : NotIn p P.chained = used_out free (link_at links at step) s most P p u in
    let other : (x : ℕ) → Mem x P.chained → x ≡ p → ⊥ = λ x m e. not_mem p P.chained out (rw e at m) in
    let c : Chain (link_at (removed_links s links at step p) at step) s.vacant P.chained = chain_same (link_at links at step) _ s.vacant P.chained (λ x m. link_other links at step p (record_of s.vacant) x o (other x m)) P.chain in
    record {
      chained = p ∷ P.chained;
      chain = (refl, rw (link_here links at step p s.vacant k) c);
      distinct = (out, P.distinct);
      below = (h, P.below);
      vacant = λ x m. ⊎_elim (changed_here free p true x) (λ i. changed_other free p true x (other x i) ∙ P.vacant x i) m;
      all = λ x i t. ⊎_elim (λ e. inl e) (λ e. inr (P.all x i e)) (now_free free p x t);
      limit = P.limit;
    }

pub removed_chain : (free : ℕ → Bool) (links : List ℕ) (at step : ℕ) (s : Slab) (most p : ℕ) (P : Parted free (link_at links at step) s most) (h : p < s.places) (u : free p ≡ false) (k : cell_of at step p < length links) (o : 0 < step) → (removed_parted free links at step s most p P h u k o).chained ≡ p ∷ P.chained
unfolding removed_parted
removed_chain free links at step s most p P h u k o = refl

-- the place vacated last is the next that is taken, and the slab is then as it was
pub last_vacated : (s : Slab) (links : List ℕ) (at step p : ℕ) → p < s.places → cell_of at step p < length links → inserted (removed s p) (removed_links s links at step p) at step ≡ record { place = p; slab = s }
unfolding removed removed_links
last_vacated s links at step p h k =
    insert_first (record { places = s.places; vacant = p }) (removed_links s links at step p) at step h
    ∙ rw (link_here links at step p s.vacant k)
