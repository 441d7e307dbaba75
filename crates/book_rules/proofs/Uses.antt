-- A word that a serial was looked for and found by leads to a place in use that has the serial.
use mathlib.Core.Path.{◌≡◌, refl, sym, ap, subst, ◌∙◌}
use mathlib.Core.Bool.{false}
use mathlib.Core.Logic.{◌⊎◌, inl, inr, ⊎_elim}
use mathlib.Core.List.{List, [], ◌∷◌}
use Prim.Native.Nat.{ℕ, ◌-◌, ◌%◌, ◌≤◌, ◌<◌}
use native.Mathlib.Nat.{mod-lt}
use Rattle.lists.specs.Members.{Mem}
use Rattle.lists.proofs.Bools.{same?, lt_or_le}
use Rattle.slabs.specs.Slab.{nowhere, Chain}
use Rattle.book_rules.specs.Book.{first_of, next_of, led_to, serial_of, next_in, seek_in, word_to}
use Rattle.book_rules.proofs.Keeps.{free_in, BookChained}
use Rattle.book_rules.proofs.Seeking.{seek_past, seek_here, seek_on, seek_none, word_is}

module _ (loans index : List ℕ) (places serial : ℕ) where
  -- v leads to a member with the serial
  abbrev Leads : ℕ → List ℕ → Type 0
  Leads v l = Mem (led_to index v) l × (serial_of loans (led_to index v) ≡ serial)

  -- along a chain, with k places to go
  pub seek_leads : (w k : ℕ) (l : List ℕ) → places ≤ nowhere → Chain (next_in index) (led_to index w) l → ((x : ℕ) → Mem x l → x < places)
      → (seek_in loans index places serial w k ≡ nowhere → ⊥) → Leads (seek_in loans index places serial w k) l
  seek_leads w k [] u c h f =
      absurd (f (⊎_elim (λ o. seek_past loans index places serial w k nowhere (sym c) o u) (λ o. seek_none loans index places serial w k o) (lt_or_le 0 k)))
  seek_leads w k (x ∷ l) u c h f =
      by (lt_or_le 0 k) (same? (serial_of loans x) serial) (seek_leads (next_of x) (k - 1) l u c.1 (λ y m. h y (inr m)))
    where
      below : x < places
      below = h x (inl refl)

      by : (0 < k) ⊎ (k ≤ 0) → (serial_of loans x ≡ serial) ⊎ (serial_of loans x ≡ serial → ⊥)
          → ((seek_in loans index places serial (next_of x) (k - 1) ≡ nowhere → ⊥) → Leads (seek_in loans index places serial (next_of x) (k - 1)) l)
          → Leads (seek_in loans index places serial w k) (x ∷ l)
      by (inr o) q later = absurd (f (seek_none loans index places serial w k o))
      by (inl o) (inl e) later =
          subst (λ (v : ℕ). Leads v (x ∷ l)) (sym (seek_here loans index places serial w k x (sym c.0) o below e))
          (inl c.0, ap (serial_of loans) c.0 ∙ e)
      by (inl o) (inr e) later =
          let g = seek_on loans index places serial w k x (sym c.0) o below e in
          let r = later (λ z. f (g ∙ z)) in
          subst (λ (v : ℕ). Leads v (x ∷ l)) (sym g) (inr r.0, r.1)

pub leads_used : (loans index : List ℕ) (n places given serial : ℕ) → 0 < n → places ≤ nowhere → BookChained loans index n places given
    → (word_to loans index n places serial ≡ nowhere → ⊥)
    → (led_to index (word_to loans index n places serial) < places)
    × (free_in loans (led_to index (word_to loans index n places serial)) ≡ false)
    × (serial_of loans (led_to index (word_to loans index n places serial)) ≡ serial)
leads_used loans index n places given serial some low C f =
    let e = word_is loans index n places serial in
    let c = C (serial % n) (mod-lt serial some) in
    let w = seek_leads loans index places serial (first_of (serial % n)) places c.members low c.chain (λ x m. (c.right x m).0) (λ z. f (e ∙ z)) in
    let r = c.right (led_to index (seek_in loans index places serial (first_of (serial % n)) places)) w.0 in
    rw e (r.0, r.1, w.1)
