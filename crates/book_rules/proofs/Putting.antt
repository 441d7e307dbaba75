-- Chains with a loan put first in its own: they are right again.
use mathlib.Core.Path.{◌≡◌, sym, ap, ◌∙◌}
use mathlib.Core.Bool.{Bool, true, false}
use mathlib.Core.Logic.{inl, inr, ⊎_elim}
use mathlib.Core.List.{◌∷◌}
use Prim.Native.Nat.{ℕ, ◌+◌, ◌-◌, ◌%◌, ◌≤◌, ◌<◌}
use native.Mathlib.Omega.{arith}
use Rattle.lists.specs.Members.{Mem}
use Rattle.lists.proofs.Bools.{same?, true_false}
use Rattle.slabs.specs.Slab.{Chain}
use Rattle.slabs.proofs.Places.{chain_same}
use Rattle.book_rules.specs.Chains.{Falling, InChain, Chained}
use Rattle.book_rules.proofs.Falling.{falling_same}

module _ (free free' : ℕ → Bool) (first first' next next' serial serial' : ℕ → ℕ) where
  -- the loan at p gets the next serial: its place was vacant or new, and nothing else changes
  module _ (n places places' given p : ℕ)
      (vacant : p < places → free p ≡ true)
      (below : p < places')
      (kept : places ≤ places')
      (grown : (x : ℕ) → x < places' → (x ≡ p → ⊥) → x < places)
      (free_here : free' p ≡ false)
      (free_other : (x : ℕ) → (x ≡ p → ⊥) → free' x ≡ free x)
      (serial_here : serial' p ≡ given + 1)
      (serial_other : (x : ℕ) → (x ≡ p → ⊥) → serial' x ≡ serial x)
      (next_here : next' p ≡ first ((given + 1) % n))
      (next_other : (x : ℕ) → (x ≡ p → ⊥) → next' x ≡ next x)
      (first_here : first' ((given + 1) % n) ≡ p)
      (first_other : (i : ℕ) → i < n → (i ≡ (given + 1) % n → ⊥) → first' i ≡ first i) where
    module _ (i : ℕ) (C : InChain free first next serial n places given i) where
      other : (x : ℕ) → Mem x C.members → x ≡ p → ⊥
      other x m e =
          let r = C.right x m in
          let h : x < places = r.0 in
          true_false (free p) (vacant (omega arith)) (ap free (sym e) ∙ r.1)

      chain_on : Chain next' (first i) C.members
      chain_on = chain_same next next' (first i) C.members (λ x m. next_other x (other x m)) C.chain

      right_on : (x : ℕ) → Mem x C.members → (x < places') × (free' x ≡ false) × (serial' x % n ≡ i)
      right_on x m =
          let r = C.right x m in
          let h : x < places = r.0 in
          (omega arith, free_other x (other x m) ∙ r.1, ap (λ (s : ℕ). s % n) (serial_other x (other x m)) ∙ r.2)

      all_on : (x : ℕ) → (x ≡ p → ⊥) → x < places' → free' x ≡ false → serial' x % n ≡ i → Mem x C.members
      all_on x o h f s = C.all x (grown x h o) (sym (free_other x o) ∙ f) (ap (λ (t : ℕ). t % n) (sym (serial_other x o)) ∙ s)

      falling_on : (most : ℕ) → given ≤ most → Falling free' first' next' serial' most C.members
      falling_on most h = falling_same free first next serial serial' given most C.members h (λ x m. serial_other x (other x m)) C.falling

      -- another chain stays
      put_other : i < n → (i ≡ (given + 1) % n → ⊥) → InChain free' first' next' serial' n places' (given + 1) i
      put_other h o = record {
        members = C.members;
        chain = rw (first_other i h o) chain_on;
        falling = falling_on (given + 1) (omega arith);
        right = right_on;
        all = λ x h f s. ⊎_elim (λ e. absurd (o (sym s ∙ ap (λ (t : ℕ). t % n) (ap serial' e ∙ serial_here)))) (λ e. all_on x e h f s) (same? x p);
      }

      -- its own has it first
      put_own : i ≡ (given + 1) % n → InChain free' first' next' serial' n places' (given + 1) i
      put_own e =
          let here : serial' p ≡ given + 1 = serial_here in
          let s : serial' p - 1 ≡ given = omega arith in
          let c : Chain next' (next' p) C.members = rw (next_here, ← e) chain_on in
          record {
            members = p ∷ C.members;
            chain = (ap first' e ∙ first_here, c);
            falling = (omega arith, omega arith, falling_on (serial' p - 1) (omega arith));
            right = λ x m. ⊎_elim (λ q. rw q (below, free_here, ap (λ (t : ℕ). t % n) serial_here ∙ sym e)) (right_on x) m;
            all = λ x h f t. ⊎_elim (λ q. inl q) (λ q. inr (all_on x q h f t)) (same? x p);
          }

    pub put_chained : Chained free first next serial n places given → Chained free' first' next' serial' n places' (given + 1)
    put_chained C i h = ⊎_elim (put_own i (C i h)) (put_other i (C i h) h) (same? i ((given + 1) % n))
