-- Multiples of the atom unit: chunk sizes are, and so are the gaps between loans that are.
use mathlib.Core.Path.{◌≡◌, refl, sym, ◌∙◌, ap}
use mathlib.Core.Logic.{◌⊎◌, inl, inr, ⊎_elim}
use mathlib.Core.List.Memᴰ
use mathlib.Core.List.{List, [], ◌∷◌}
use Prim.Native.Nat.{ℕ, ◌+◌, ◌*◌, ◌/◌, ◌^◌, ◌%◌, ◌≤◌, ◌<◌}
use native.Mathlib.Nat.{mod-add-mod, mul-mod_left, mul_assoc, mul_comm, zero-mod}
use native.Mathlib.Omega.{arith}
use lib.Dec.{ltb}
use Rattle.counter.specs.InTable.{FreeListIn}
use Rattle.counter.specs.declared.settings.FreeListSettings.{FreeListSettings}
use Rattle.lists.proofs.Bools.{told, lt_or_le}
use Rattle.rounding_rules.proofs.Raising.{whole}
use Rattle.store_rules.specs.declared.Loan.{Loan}
use Rattle.freelist_rules.specs.Records.{region}
use Rattle.freelist_rules.specs.Pieces.{All}
use Rattle.freelist_rules.specs.Sound.{Units, Sized}
use Rattle.freelist_rules.specs.Walk.{front, behind, gaps, gaps_of}
use Rattle.store_rules.specs.declared.Chunk.{Chunk}
use Rattle.store_rules.specs.declared.Region.{Region}
use Rattle.freelist_rules.proofs.Gaps.{front_in, behind_in}

-- ---- multiples of any u

pub multiple_plus : (u a b : ℕ) → a % u ≡ 0 → b % u ≡ 0 → (a + b) % u ≡ 0
multiple_plus u a b p q = sym (mod-add-mod a u b) ∙ ap (λ (k : ℕ). (k + b) % u) p ∙ ap (λ (k : ℕ). k % u) (zero_plus b) ∙ q
  where
    zero_plus : (k : ℕ) → 0 + k ≡ k
    zero_plus k = omega arith

pub multiple_times : (u a k : ℕ) → a % u ≡ 0 → (a * k) % u ≡ 0
multiple_times u a k p = ap (λ (x : ℕ). x % u) turned ∙ mul-mod_left (k * (a / u)) u
  where
    turned : a * k ≡ k * (a / u) * u
    turned = mul_comm a k ∙ ap (λ (x : ℕ). k * x) (sym (whole a u p)) ∙ sym (mul_assoc k (a / u) u)

module _ (s : FreeListSettings) where
  pub sized_units : FreeListIn s → (z : ℕ) → Sized s z → Units s z
  sized_units fit z w = go (lt_or_le (s.start * 2 ^ w.0) s.last)
    where
      go : (s.start * 2 ^ w.0 < s.last) ⊎ (s.last ≤ s.start * 2 ^ w.0) → Units s z
      go (inl h) = let e : z ≡ s.start * 2 ^ w.0 = omega (arith, w.1) in rw e (multiple_times (s.store.atom + 1) s.start (2 ^ w.0) fit.start_multiple)
      go (inr h) = let e : z ≡ s.last = omega (arith, w.1) in rw e fit.last_multiple

  -- ---- loans and regions in whole units

  abbrev pub LoanUnits : Loan → Type 0
  LoanUnits l = Units s l.offset × Units s l.size

  abbrev pub RegionUnits : Region → Type 0
  RegionUnits r = Units s r.start × Units s r.end

  with_first : (r : Region) (rs : List Region) → RegionUnits r → All RegionUnits rs → All RegionUnits (r ∷ rs)
  with_first r rs h f d m = ⊎_elim (λ e. rw e h) (f d) (Memᴰ.cases_cons m)

  gaps_units : (n p z : ℕ) (ls : List Loan) (rest : List Region) → Units s p → Units s z → All LoanUnits ls → All RegionUnits rest → All RegionUnits (gaps n p z ls rest)
  gaps_units n p z [] rest a b f g = ⊎_elim (λ e. rw e (with_first (region n p z) rest (a, b) g)) (λ e. rw e g) (told (ltb p z))
  gaps_units n p z (l ∷ ls) rest a b f g =
      let w = f l (Memᴰ.head refl) in
      let ih = gaps_units n (l.offset + l.size) z ls rest (multiple_plus (s.store.atom + 1) l.offset l.size w.0 w.1) b (λ d m. f d (Memᴰ.tail m)) g in
      ⊎_elim (λ e. rw e (with_first (region n p l.offset) _ (a, w.0) ih)) (λ e. rw e ih) (told (ltb p l.offset))

  pub gaps_of_units : (cs : List Chunk) (ls : List Loan) → All (λ (c : Chunk). Units s c.size) cs → All LoanUnits ls → All RegionUnits (gaps_of cs ls)
  gaps_of_units [] ls f g = λ r m. absurd (Memᴰ.not-nil m)
  gaps_of_units (c ∷ cs) ls f g =
      gaps_units c.number 0 c.size (front c.number ls) (gaps_of cs (behind c.number ls)) (zero-mod (s.store.atom + 1)) (f c (Memᴰ.head refl))
      (λ d m. g d (front_in c.number ls d m))
      (gaps_of_units cs (behind c.number ls) (λ d m. f d (Memᴰ.tail m)) (λ d m. g d (behind_in c.number ls d m)))
