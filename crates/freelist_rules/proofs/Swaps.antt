-- A return with its release: a release before it makes no difference, and the other loans are still on loan.
use mathlib.Core.Path.{◌≡◌, refl, sym, ◌∙◌, ap}
use mathlib.Core.Bool.{Bool, true, false, cond, ◌&&◌, not}
use mathlib.Core.Logic.{◌⊎◌, inl, inr, ⊎_elim}
use mathlib.Core.List.{List, [], ◌∷◌, Memᴰ}
use Prim.Native.Nat.{ℕ, ◌+◌, ◌≤◌, ◌<◌, max}
use native.Mathlib.Omega.{arith}
use lib.Dec.{ltb, eqb}
use borrow.Author.Tests.{ltb-true, ltb-false, eqb-true, eq-eqb, ne_eqb}
use Rattle.counter.specs.InTable.{FreeListIn}
use Rattle.counter.specs.Limits.{chunk_size_most}
use Rattle.counter.specs.declared.settings.FreeListSettings.{FreeListSettings}
use Rattle.lists.proofs.Bools.{or_cases, or_left, or_right, told, lt_or_le}
use Rattle.store_rules.specs.declared.Loan.{Loan}
use Rattle.freelist_rules.specs.Records.{Store}
use Rattle.freelist_rules.specs.Pieces.{piece, line, lo, hi, Rising}
use Rattle.freelist_rules.specs.Sound.{Sound}
use Rattle.freelist_rules.specs.Join.{meets, join, absorb, insert}
use Rattle.freelist_rules.specs.Steps.{released}
use Rattle.store_rules.specs.declared.Chunk.{Chunk}
use Rattle.store_rules.specs.declared.Region.{Region}
use Rattle.freelist_rules.proofs.Facts.{Low, region_low, loan_some, loan_low}
use Rattle.freelist_rules.proofs.Joins.{meets_is}
use Rattle.freelist_rules.proofs.Releases.{released_sound}
use Rattle.freelist_rules.proofs.Giving.{those, those_mem, mem_those, those_same, those_twice, some_where, some_yes, without, give, give_sound, same_store}
use Rattle.freelist_rules.proofs.Settling.{last_or, busy, stays, released_chunks, released_last}

-- ---- the chunk of the last region

last_up : (n e : ℕ) (rs : List Region) → Low rs → Rising lo hi 1 (1 + line n e) rs → n ≤ last_or n rs
last_up n e [] l r = omega arith
last_up n e (c ∷ rs) l r =
    let w = l c (Memᴰ.head refl) in
    let k = last_up c.chunk c.end rs (λ a m. l a (Memᴰ.tail m)) r.2 in
    omega (arith, r.0, r.1)

-- a region put in moves the last one's chunk up to its own, or not at all
pub last_insert : (d p : ℕ) (b : Region) (rs : List Region) → d ≤ b.chunk → b.start < b.end → b.end ≤ chunk_size_most → Low rs → Rising lo hi 1 p rs → last_or d (insert b rs) ≡ max (last_or d rs) b.chunk
unfolding insert
last_insert d p b [] h k m l r = omega arith
last_insert d p b (c ∷ rs) h k m l r =
    go (told (ltb (lo b) (lo c))) (told (meets b c)) (told (meets c b)) (λ q. last_insert c.chunk (1 + hi c) b rs q k m (λ a w. l a (Memᴰ.tail w)) r.2)
  where
    up : c.chunk ≤ last_or c.chunk rs
    up = last_up c.chunk c.end rs (λ a w. l a (Memᴰ.tail w)) r.2

    lc : c.end ≤ chunk_size_most
    lc = l c (Memᴰ.head refl)

    joined : (ss : List Region) → last_or d (absorb (join c b) ss) ≡ last_or c.chunk ss
    joined [] = refl
    joined (x ∷ ss) = ⊎_elim (λ q. rw q (ap (λ (z : ℕ). last_or z ss) (meets_is (join c b) x q).0)) (λ q. rw q) (told (meets (join c b) x))

    go : (ltb (lo b) (lo c) ≡ true) ⊎ (ltb (lo b) (lo c) ≡ false) → (meets b c ≡ true) ⊎ (meets b c ≡ false) → (meets c b ≡ true) ⊎ (meets c b ≡ false) → (c.chunk ≤ b.chunk → last_or c.chunk (insert b rs) ≡ max (last_or c.chunk rs) b.chunk)
        → last_or d (cond (ltb (lo b) (lo c)) (absorb b (c ∷ rs)) (cond (meets c b) (absorb (join c b) rs) (c ∷ insert b rs))) ≡ max (last_or c.chunk rs) b.chunk
    go (inl e) (inl f) g ih =
        let w = ltb-true (lo b) (lo c) e in
        let q = meets_is b c f in
        rw (e, f) (omega (arith, ap (λ (z : ℕ). last_or z rs) q.0, up, q.0))
    go (inl e) (inr f) g ih =
        let w = ltb-true (lo b) (lo c) e in
        rw (e, f) (omega (arith, up, lc, r.1))
    go (inr e) f (inl g) ih =
        let q = meets_is c b g in
        rw (e, g) (omega (arith, joined rs, up, q.0))
    go (inr e) f (inr g) ih =
        let w = ltb-false (lo b) (lo c) e in
        rw (e, g) (ih (omega arith))

-- ---- one return after a release

and_left_true : (a b : Bool) → (b ≡ true → a ≡ true) → (a && b) ≡ b
and_left_true true b f = refl
and_left_true false true f = f refl
and_left_true false false f = refl

busy_less : (k : ℕ) (ls : List Loan) (n : ℕ) → busy (without k ls) n ≡ true → busy ls n ≡ true
busy_less k ls n e =
    let w = some_where (λ (l : Loan). eqb l.chunk n) (without k ls) e in
    some_yes (λ (l : Loan). eqb l.chunk n) ls w.0 (those_mem _ w.0 ls w.1) w.2

max_is : (a b n : ℕ) → n ≡ max a b → (n ≡ a) ⊎ (n ≡ b)
max_is a b n e = ⊎_elim (λ h. inr (omega arith)) (λ h. inl (omega arith)) (lt_or_le a b)

-- a loan comes back, and chunks go
abbrev pub settled : Loan → Store → Store
settled l t = released true (give l t)

module _ (s : FreeListSettings) (t : Store) (fit : FreeListIn s) (sound : Sound s t) (l : Loan) (m : Memᴰ l t.loans) where
  -- what the chunk of the last region is after a return
  last_give : last_or 0 (give l t).regions ≡ max (last_or 0 t.regions) l.chunk
  last_give =
      last_insert 0 0 (piece l) t.regions (omega arith) (omega (arith, loan_some s t fit sound l m)) (loan_low s t fit sound l m) (region_low s t fit sound) sound.regions_rise

  -- what stays after the return had stayed before it
  stayed : (n : ℕ) → stays (max (last_or 0 t.regions) l.chunk) (without l.serial t.loans) n ≡ true → stays (last_or 0 t.regions) t.loans n ≡ true
  stayed n e =
      ⊎_elim
      (λ h. or_left (busy t.loans n) (eqb n (last_or 0 t.regions)) (busy_less l.serial t.loans n h))
      (λ h.
      ⊎_elim (λ g. or_right (busy t.loans n) (eqb n (last_or 0 t.regions)) (eq-eqb n (last_or 0 t.regions) g))
      (λ g. or_left (busy t.loans n) (eqb n (last_or 0 t.regions)) (some_yes (λ (d : Loan). eqb d.chunk n) t.loans l m (eq-eqb l.chunk n (sym g))))
      (max_is _ _ n (eqb-true n _ h)))
      (or_cases (busy (without l.serial t.loans) n) (eqb n (max (last_or 0 t.regions) l.chunk)) e)

  pub settled_sound : Sound s (settled l t)
  settled_sound = released_sound s (give l t) fit (give_sound s t fit sound l m) true

  settled_chunks : (settled l t).chunks ≡ those (λ (c : Chunk). stays (max (last_or 0 t.regions) l.chunk) (without l.serial t.loans) c.number) t.chunks
  settled_chunks =
      released_chunks s (give l t) fit (give_sound s t fit sound l m)
      ∙ ap (λ (z : ℕ). those (λ (c : Chunk). stays z (without l.serial t.loans) c.number) t.chunks) last_give

module _ (s : FreeListSettings) (t : Store) (fit : FreeListIn s) (sound : Sound s t) (l : Loan) (m : Memᴰ l t.loans) where
  -- a release before a return makes no difference
  pub release_return : settled l (released true t) ≡ settled l t
  release_return =
      let first = released_sound s t fit sound true in
      let chosen : ℕ → List Chunk → List Chunk = λ z cs. those (λ (c : Chunk). stays (max z l.chunk) (without l.serial t.loans) c.number) cs in
      same_store s (settled l (released true t)) fit (settled_sound s (released true t) fit first l m) (settled l t) (settled_sound s t fit sound l m) refl refl refl refl
      (settled_chunks s (released true t) fit first l m
      ∙ ap (λ (z : ℕ). chosen z (released true t).chunks) (released_last s t fit sound)
      ∙ ap (chosen (last_or 0 t.regions)) (released_chunks s t fit sound)
      ∙ those_twice _ _ t.chunks
      ∙ those_same _ _ t.chunks (λ c k. and_left_true _ _ (stayed s t fit sound l m c.number))
      ∙ sym (settled_chunks s t fit sound l m))

-- one that is not given back is still on loan
pub still : (l d : Loan) (t : Store) → Memᴰ d t.loans → (d.serial ≡ l.serial → ⊥) → Memᴰ d (give l t).loans
still l d t m f = mem_those _ d t.loans m (ap not (ne_eqb d.serial l.serial f))
