-- A block that was returned is never taken again with the loans table that it was returned to, whatever calls of whichever
-- engines come between, their tables mixed in any way, but an accepted set-up of that loans table.
use mathlib.Core.Path.{◌≡◌, refl, sym, ap, subst, ◌∙◌}
use mathlib.Core.Logic.{◌⊎◌, inl, inr, ⊎_elim}
use mathlib.Core.List.Memᴰ
use mathlib.Core.List.{List, [], ◌∷◌, Memᴰ}
use Prim.Native.Nat.{ℕ, ◌≤◌, ◌<◌}
use native.Mathlib.Omega.{arith}
use lib.ListN.{length, length-set, get_or, set}
use lib.Seq.{get_or-set_same, get_or-set_other, set-get_or}
use Rattle.lists.proofs.Bools.{same?}
use Rattle.counter.specs.Paper as Paper
use Rattle.counter.specs.Reasons.{Given}
use Rattle.counter.specs.declared.account.Account.{Account}
use Rattle.counter.specs.declared.answers.Block.{Block}
use Rattle.store_rules.specs.Outcomes.{Listed, listed}
use Rattle.store_rules.specs.Views.{All}
use Rattle.store_rules.specs.declared.Loan.{Loan}
use Rattle.store_rules.proofs.Said.{refuses, not_refused}
use Rattle.engines.specs.Engines.{Engine}
use Rattle.engines.specs.Pools.{Slot, of_head, of_loans, of_chunks, of_index, of_room, slots, table_of, seal, Sealed, Pool, lent_from, written, Different, Turn, did, turned, course, NoNewLoans, handing, GoneFrom}
use Rattle.store_rules.specs.Rows.{list_rows}
use Rattle.engines.specs.Serials.{Gone}
use Rattle.engines.specs.Shapes.{Tables, Begun, Call, sets_up, returns, Shape, does, words_of}
use Rattle.engines.proofs.NeverAgain.{no_set_up}
use Rattle.engines.proofs.Visits.{set_up?}

-- ---- slots

-- something of each slot, or not of one
each? : (P : Slot → Type 0) → ((z : Slot) → P z ⊎ (P z → ⊥)) → ((z : Slot) → P z) ⊎ (((z : Slot) → P z) → ⊥)
each? P d = h (d of_head)
  where
    all : P of_head → P of_loans → P of_chunks → P of_index → P of_room → (z : Slot) → P z
    all a b c e f of_head = a
    all a b c e f of_loans = b
    all a b c e f of_chunks = c
    all a b c e f of_index = e
    all a b c e f of_room = f

    h : P of_head ⊎ (P of_head → ⊥) → ((z : Slot) → P z) ⊎ (((z : Slot) → P z) → ⊥)
    h (inr n) = inr (λ x. n (x of_head))
    h (inl a) = l (d of_loans)
      where
        l : P of_loans ⊎ (P of_loans → ⊥) → ((z : Slot) → P z) ⊎ (((z : Slot) → P z) → ⊥)
        l (inr n) = inr (λ x. n (x of_loans))
        l (inl b) = c (d of_chunks)
          where
            c : P of_chunks ⊎ (P of_chunks → ⊥) → ((z : Slot) → P z) ⊎ (((z : Slot) → P z) → ⊥)
            c (inr n) = inr (λ x. n (x of_chunks))
            c (inl q) = i (d of_index)
              where
                i : P of_index ⊎ (P of_index → ⊥) → ((z : Slot) → P z) ⊎ (((z : Slot) → P z) → ⊥)
                i (inr n) = inr (λ x. n (x of_index))
                i (inl e) = ⊎_elim (λ f. inl (all a b q e f)) (λ n. inr (λ x. n (x of_room))) (d of_room)

pub each_slot : (z : Slot) → Memᴰ z slots
each_slot of_head = Memᴰ.head refl
each_slot of_loans = Memᴰ.tail (Memᴰ.head refl)
each_slot of_chunks = Memᴰ.tail (Memᴰ.tail (Memᴰ.head refl))
each_slot of_index = Memᴰ.tail (Memᴰ.tail (Memᴰ.tail (Memᴰ.head refl)))
each_slot of_room = Memᴰ.tail (Memᴰ.tail (Memᴰ.tail (Memᴰ.tail (Memᴰ.head refl))))

-- table i is lent in one of these slots, or in none
pub lent_in? : (at : Slot → ℕ) (i : ℕ) (zs : List Slot) → ((z : Slot) × (at z ≡ i)) ⊎ ((z : Slot) → Memᴰ z zs → at z ≡ i → ⊥)
lent_in? at i [] = inr (λ z m e. Memᴰ.not-nil m)
lent_in? at i (y ∷ zs) = go (same? (at y) i) (lent_in? at i zs)
  where
    go : (at y ≡ i) ⊎ (at y ≡ i → ⊥) → ((z : Slot) × (at z ≡ i)) ⊎ ((z : Slot) → Memᴰ z zs → at z ≡ i → ⊥) → ((z : Slot) × (at z ≡ i)) ⊎ ((z : Slot) → Memᴰ z (y ∷ zs) → at z ≡ i → ⊥)
    go (inl e) w = inl (y, e)
    go (inr n) (inl w) = inl w
    go (inr n) (inr f) = inr (λ z m e. ⊎_elim (λ q. n (ap at (sym q) ∙ e)) (λ k. f z k e) (Memᴰ.cases_cons m))

-- ---- what is lent, and what is written

pub lent_table : (p : Pool) (at : Slot → ℕ) (z : Slot) → table_of (lent_from p at) z ≡ get_or p (at z) []
lent_table p at of_head = refl
lent_table p at of_loans = refl
lent_table p at of_chunks = refl
lent_table p at of_index = refl
lent_table p at of_room = refl

module _ (at : Slot → ℕ) (t : Tables) where
  pub written_length : (p : Pool) (zs : List Slot) → length (written p at t zs) ≡ length p
  written_length p [] = refl
  written_length p (z ∷ zs) = written_length (set p (at z) (table_of t z)) zs ∙ length-set p (at z) (table_of t z)

  -- a table that is not lent stays
  pub written_other : (p : Pool) (zs : List Slot) (i : ℕ) → ((z : Slot) → Memᴰ z zs → at z ≡ i → ⊥) → get_or (written p at t zs) i [] ≡ get_or p i []
  written_other p [] i f = refl
  written_other p (z ∷ zs) i f =
      written_other (set p (at z) (table_of t z)) zs i (λ y m. f y (Memᴰ.tail m))
      ∙ get_or-set_other p (at z) i (table_of t z) [] (λ e. f z (Memᴰ.head refl) (sym e))

  module _ (d : Different at) (y : Slot) where
    -- what is written in a slot's place stays there
    written_stays : (p : Pool) (zs : List Slot) → at y < length p → get_or p (at y) [] ≡ table_of t y → get_or (written p at t zs) (at y) [] ≡ table_of t y
    written_stays p [] h e = e
    written_stays p (z ∷ zs) h e =
        written_stays (set p (at z) (table_of t z)) zs (omega (arith, length-set p (at z) (table_of t z)))
        (⊎_elim here (λ n. get_or-set_other p (at z) (at y) (table_of t z) [] (λ q. n (sym q)) ∙ e) (same? (at z) (at y)))
      where
        here : at z ≡ at y → get_or (set p (at z) (table_of t z)) (at y) [] ≡ table_of t y
        here q =
            let x : z ≡ y = d z y q in
            subst (λ (w : Slot). get_or (set p (at w) (table_of t w)) (at y) [] ≡ table_of t y) (sym x) (get_or-set_same p (at y) (table_of t y) [] h)

    -- and each slot is written
    pub written_here : (p : Pool) (zs : List Slot) → Memᴰ y zs → at y < length p → get_or (written p at t zs) (at y) [] ≡ table_of t y
    written_here p [] m h = absurd (Memᴰ.not-nil m)
    written_here p (z ∷ zs) m h =
        let h' : at y < length (set p (at z) (table_of t z)) = omega (arith, length-set p (at z) (table_of t z)) in
        ⊎_elim
        (λ q. written_stays (set p (at z) (table_of t z)) zs h' (subst (λ (w : Slot). get_or (set p (at w) (table_of t w)) (at y) [] ≡ table_of t y) q (get_or-set_same p (at y) (table_of t y) [] h)))
        (λ k. written_here (set p (at z) (table_of t z)) zs k h')
        (Memᴰ.cases_cons m)

-- tables that are written as they were lent leave the pool
written_same : (p : Pool) (at : Slot → ℕ) (zs : List Slot) → written p at (lent_from p at) zs ≡ p
written_same p at [] = refl
written_same p at (z ∷ zs) =
    ap (λ (q : Pool). written q at (lent_from p at) zs) (ap (set p (at z)) (lent_table p at z) ∙ set-get_or p (at z) []) ∙ written_same p at zs

-- ---- the signs of five tables

module _ (E : Shape) (Z : Sealed E) where
  abbrev pub Signed : Tables → Type 0
  Signed t = (z : Slot) → seal (table_of t z) ≡ Z.marking.sign z

  pub signed? : (t : Tables) → Signed t ⊎ (Signed t → ⊥)
  signed? t = each? (λ z. seal (table_of t z) ≡ Z.marking.sign z) (λ z. same? (seal (table_of t z)) (Z.marking.sign z))

  -- serial k is gone, in the loans table alone
  gone_of : (k : ℕ) (t : Tables) → Signed t → k ≤ Z.given_in t.loans → All (λ (l : Loan). l.serial ≡ k → ⊥) (Z.loans_in t.loans) → Gone E k t
  gone_of k t g old away =
      record {
        marked = g of_head ∙ sym Z.marking.head_sign;
        old = subst (λ (n : ℕ). k ≤ n) (sym (Z.given_there t)) old;
        away = subst (All (λ (l : Loan). l.serial ≡ k → ⊥)) (sym (Z.loans_there t)) away;
      }

  gone_old : (k : ℕ) (t : Tables) → Gone E k t → k ≤ Z.given_in t.loans
  gone_old k t g = subst (λ (n : ℕ). k ≤ n) (Z.given_there t) g.old

  gone_away : (k : ℕ) (t : Tables) → Gone E k t → All (λ (l : Loan). l.serial ≡ k → ⊥) (Z.loans_in t.loans)
  gone_away k t g = subst (All (λ (l : Loan). l.serial ≡ k → ⊥)) (Z.loans_there t) g.away

-- 1 to 4 are the numbers of a return's first rows
early : (E : Shape) (s : E.Settings) (a : Account) (t : Tables) (list : List ℕ) (n : ℕ) → Given (list_rows (words_of E) s a t list) n → (0 < n) × (n ≤ 4)
early E s a t list n =
    ⊎_elim (λ w. let e = w.1 in (omega arith, omega arith))
    (λ w. ⊎_elim (λ x. let e = x.1 in (omega arith, omega arith))
    (λ x. ⊎_elim (λ y. let e = y.1 in (omega arith, omega arith))
    (λ y. ⊎_elim (λ z. let e = z.1 in (omega arith, omega arith)) (λ z. absurd z.1) y.1) x.1) w.1)

-- no two tables of the engines are signed alike
module _ (K : Type 0) (E : K → Engine) (Z : (k : K) → Sealed (E k).shape) (differ : (i j : K) (y z : Slot) → (Z i).marking.sign y ≡ (Z j).marking.sign z → (i ≡ j) × (y ≡ z)) where
  -- ---- over one call

  module _ (e : K) (k i : ℕ) (p : Pool) (v : Turn K E) (old : v.places of_loans ≡ i → v.call ≡ sets_up → (did K E p v).said ≡ Paper.ready → ⊥) (h : i < length p) (g : GoneFrom K E Z e k (get_or p i [])) where
    abbrev f : K
    f = v.by

    abbrev t : Tables
    t = lent_from p v.places

    abbrev u : Tables
    u = (did K E p v).tables

    -- table i is lent in slot z
    module _ (z : Slot) (q : v.places z ≡ i) where
      before : table_of t z ≡ get_or p i []
      before = lent_table p v.places z ∙ ap (λ (j : ℕ). get_or p j []) q

      unchanged : u ≡ t → GoneFrom K E Z e k (table_of u z)
      unchanged c = subst (GoneFrom K E Z e k) (sym (ap (λ (x : Tables). table_of x z) c ∙ before)) g

      -- a set-up that is accepted signs it as another than a loans table
      accepted : v.call ≡ sets_up → ((E f).shape.set_up v.settings t).said ≡ Paper.ready → GoneFrom K E Z e k (table_of u z)
      accepted c r =
          let d = ap (does (E f).shape v.settings v.account t) c in
          let s : seal (table_of u z) ≡ (Z f).marking.sign z = ap (λ (x : Listed Tables). seal (table_of x.tables z)) d ∙ (Z f).marking.signs v.settings t r z in
          let none : (x : K) → seal (table_of u z) ≡ (Z x).marking.sign of_loans → ⊥ =
          λ x w. old (subst (λ (y : Slot). v.places y ≡ i) (differ f x z of_loans (sym s ∙ w)).1 q) c (ap (λ (x : Listed Tables). x.said) d ∙ r) in
          record { whose = λ x w. absurd (none x w); old = λ w. absurd (none e w); away = λ w. absurd (none e w) }

      first : v.call ≡ sets_up → GoneFrom K E Z e k (table_of u z)
      first c =
          ⊎_elim (accepted c)
          (λ w. unchanged (ap (λ (x : Call (E f).shape.Own). (does (E f).shape v.settings v.account t x).tables) c ∙ ap (λ (r : Begun). r.tables) ((E f).refuses.set_up_leaves v.settings t w.0 w.1 w.2)))
          ((E f).tells.set_up_says v.settings t)

      -- any other call, where all five are signed
      module _ (c : v.call ≡ sets_up → ⊥) (s : Signed (E f).shape (Z f) t) where
        stays : seal (table_of u z) ≡ seal (table_of t z)
        stays = (Z f).marking.seals_stay v.settings v.account t v.call c z

        which : seal (table_of u z) ≡ (Z e).marking.sign of_loans → (f ≡ e) × (z ≡ of_loans)
        which w = differ f e z of_loans (sym (s z) ∙ sym stays ∙ w)

        gone_before : (f ≡ e) × (z ≡ of_loans) → Gone (E f).shape k t
        gone_before w =
            let gf : GoneFrom K E Z f k (get_or p i []) = subst (λ (x : K). GoneFrom K E Z x k (get_or p i [])) (sym w.0) g in
            let b : t.loans ≡ get_or p i [] = ap (λ (j : ℕ). get_or p j []) (subst (λ (y : Slot). v.places y ≡ i) w.1 q) in
            let m : seal (get_or p i []) ≡ (Z f).marking.sign of_loans = ap seal (sym b) ∙ s of_loans in
            gone_of (E f).shape (Z f) k t s (subst (λ (x : List ℕ). k ≤ (Z f).given_in x) (sym b) (gf.old m))
            (subst (λ (x : List ℕ). All (λ (l : Loan). l.serial ≡ k → ⊥) ((Z f).loans_in x)) (sym b) (gf.away m))

        gone_after : (f ≡ e) × (z ≡ of_loans) → Gone (E f).shape k u
        gone_after w = (E f).counts.gone_stays k v.settings v.account t v.call c (gone_before w)

        moved : (P : K → List ℕ → Type 0) → (f ≡ e) × (z ≡ of_loans) → P f u.loans → P e (table_of u z)
        moved P w x = subst (λ (y : K). P y (table_of u z)) w.0 (subst (λ (y : Slot). P f (table_of u y)) (sym w.1) x)

        signed : GoneFrom K E Z e k (table_of u z)
        signed =
            record {
              whose = λ x w. g.whose x (ap seal (sym before) ∙ sym stays ∙ w);
              old = λ w. let x = which w in moved (λ y b. k ≤ (Z y).given_in b) x (gone_old (E f).shape (Z f) k u (gone_after x));
              away = λ w. let x = which w in moved (λ y b. All (λ (l : Loan). l.serial ≡ k → ⊥) ((Z y).loans_in b)) x (gone_away (E f).shape (Z f) k u (gone_after x));
            }

      later : (v.call ≡ sets_up → ⊥) → GoneFrom K E Z e k (table_of u z)
      later c =
          ⊎_elim (signed c) (λ n. unchanged (ap (λ (d : Listed Tables). d.tables) ((Z f).marking.unsigned v.settings v.account t v.call c n).1))
          (signed? (E f).shape (Z f) t)

      in_slot : GoneFrom K E Z e k (table_of u z)
      in_slot = ⊎_elim first later (set_up? v.call)

    gone_turn : GoneFrom K E Z e k (get_or (turned K E p v) i [])
    gone_turn =
        ⊎_elim
        (λ w. subst (λ (j : ℕ). GoneFrom K E Z e k (get_or (turned K E p v) j [])) w.1
        (subst (GoneFrom K E Z e k) (sym (written_here v.places u v.different w.0 p slots (each_slot w.0) (subst (λ (j : ℕ). j < length p) (sym w.1) h))) (in_slot w.0 w.1)))
        (λ n. subst (GoneFrom K E Z e k) (sym (written_other v.places u p slots i n)) g)
        (lent_in? v.places i slots)

  -- ---- over any course of calls

  pub gone_course : (e : K) (k i : ℕ) (p : Pool) (vs : List (Turn K E)) → NoNewLoans K E i p vs → i < length p → GoneFrom K E Z e k (get_or p i []) → GoneFrom K E Z e k (get_or (course K E p vs) i [])
  gone_course e k i p [] f h g = g
  gone_course e k i p (v ∷ vs) f h g =
      gone_course e k i (turned K E p v) vs f.1 (omega (arith, written_length v.places (did K E p v).tables p slots)) (gone_turn e k i p v f.0 h g)

  -- where it is gone from table i, a return of a block of that serial that is lent table i for the loans is refused
  pub gone_refused : (e : K) (b : Block) (t : List ℕ) → GoneFrom K E Z e b.serial t → (g : K) (s : (E g).shape.Settings) (a : Account) (u : Tables) (list : List ℕ) → u.loans ≡ t
      → (m : ℕ) × ((E g).shape.return s a b u list ≡ listed (Paper.refusal m []) a u list) × ((m ≡ 7) ⊎ ((0 < m) × (m ≤ 4)))
  gone_refused e b t gone g s a u list same = ⊎_elim yes not (signed? (E g).shape (Z g) u)
    where
      not : (Signed (E g).shape (Z g) u → ⊥) → (m : ℕ) × ((E g).shape.return s a b u list ≡ listed (Paper.refusal m []) a u list) × ((m ≡ 7) ⊎ ((0 < m) × (m ≤ 4)))
      not n = let w = (Z g).marking.unsigned s a u (returns b list) (no_set_up b list) n in (w.0, w.1, inr (w.2, omega (arith, w.3)))

      yes : Signed (E g).shape (Z g) u → (m : ℕ) × ((E g).shape.return s a b u list ≡ listed (Paper.refusal m []) a u list) × ((m ≡ 7) ⊎ ((0 < m) × (m ≤ 4)))
      yes signs =
          let m : seal t ≡ (Z g).marking.sign of_loans = ap seal (sym same) ∙ signs of_loans in
          let gg : GoneFrom K E Z g b.serial t = subst (λ (x : K). GoneFrom K E Z x b.serial t) (sym (gone.whose g m)) gone in
          let G = gone_of (E g).shape (Z g) b.serial u signs (subst (λ (x : List ℕ). b.serial ≤ (Z g).given_in x) (sym same) (gg.old m))
          (subst (λ (x : List ℕ). All (λ (l : Loan). l.serial ≡ b.serial → ⊥) ((Z g).loans_in x)) (sym same) (gg.away m)) in
          let w = (E g).counts.gone_refused s a b u list G in
          (w.0, w.1, ⊎_elim (λ x. inl x) (λ x. inr (early (E g).shape s a u list w.0 x)) w.2)

  -- ---- from a return on

  module _ (p : Pool) (e : K) (s : (E e).shape.Settings) (a : Account) (at : Slot → ℕ) (d : Different at) (b : Block) (list : List ℕ) (here : at of_loans < length p) (n : ℕ)
      (taken : (did K E p (handing K E e s a at d b list)).said ≡ Paper.released n) where
    all_signed : Signed (E e).shape (Z e) (lent_from p at)
    all_signed =
        ⊎_elim (λ x. x)
        (λ x. let w = (Z e).marking.unsigned s a (lent_from p at) (returns b list) (no_set_up b list) x in
        not_refused ((E e).shape.return s a b (lent_from p at) list).said w.0 [] (ap refuses taken) (ap (λ (r : Listed Tables). r.said) w.1))
        (signed? (E e).shape (Z e) (lent_from p at))

    gone_now : GoneFrom K E Z e b.serial (get_or (turned K E p (handing K E e s a at d b list)) (at of_loans) [])
    gone_now =
        let u = ((E e).shape.return s a b (lent_from p at) list).tables in
        let G = (E e).counts.released_gone s a b (lent_from p at) list n taken in
        let m : seal u.loans ≡ (Z e).marking.sign of_loans = (Z e).marking.seals_stay s a (lent_from p at) (returns b list) (no_set_up b list) of_loans ∙ all_signed of_loans in
        subst (GoneFrom K E Z e b.serial) (sym (written_here at u d of_loans p slots (each_slot of_loans) here))
        (record {
          whose = λ x w. sym (differ e x of_loans of_loans (sym m ∙ w)).0;
          old = λ w. gone_old (E e).shape (Z e) b.serial u G;
          away = λ w. gone_away (E e).shape (Z e) b.serial u G;
        })

    -- a block was returned to engine e, lent table i for the loans, and taken. Then any calls of any of the engines were made,
    -- with any settings, accounts and arguments, each lent any five different tables of the pool in any slots, and no set-up
    -- that was lent table i for the loans was accepted. Any engine's return of that block that is lent table i for the loans,
    -- and any other four, is refused, by 7 or by 1 to 4, and changes nothing
    pub never_mixed : (vs : List (Turn K E)) → NoNewLoans K E (at of_loans) (turned K E p (handing K E e s a at d b list)) vs
        → (g : K) (s' : (E g).shape.Settings) (a' : Account) (at' : Slot → ℕ) (list' : List ℕ) → at' of_loans ≡ at of_loans
        → let t = lent_from (course K E (turned K E p (handing K E e s a at d b list)) vs) at' in
        (m : ℕ) × ((E g).shape.return s' a' b t list' ≡ listed (Paper.refusal m []) a' t list') × ((m ≡ 7) ⊎ ((0 < m) × (m ≤ 4)))
    never_mixed vs f g s' a' at' list' same =
        let q = turned K E p (handing K E e s a at d b list) in
        let r = gone_course e b.serial (at of_loans) q vs f (omega (arith, written_length at ((E e).shape.return s a b (lent_from p at) list).tables p slots)) gone_now in
        gone_refused e b (get_or (course K E q vs) (at of_loans) []) r g s' a' (lent_from (course K E q vs) at') list' (ap (λ (j : ℕ). get_or (course K E q vs) j []) same)

    -- so the pool stays as it is
    pub never_mixed_pool : (vs : List (Turn K E)) → NoNewLoans K E (at of_loans) (turned K E p (handing K E e s a at d b list)) vs
        → (g : K) (s' : (E g).shape.Settings) (a' : Account) (at' : Slot → ℕ) (d' : Different at') (list' : List ℕ) → at' of_loans ≡ at of_loans
        → let q = course K E (turned K E p (handing K E e s a at d b list)) vs in
        turned K E q (handing K E g s' a' at' d' b list') ≡ q
    never_mixed_pool vs f g s' a' at' d' list' same =
        let q = course K E (turned K E p (handing K E e s a at d b list)) vs in
        ap (λ (r : Listed Tables). written q at' r.tables slots) (never_mixed vs f g s' a' at' list' same).1 ∙ written_same q at' slots
