-- The way along a chain, word by word: a loan of it is found, one that is not there is missed, and a chain that goes past
-- one of its places is whole.
use mathlib.Core.Path.{◌≡◌, refl, sym, ◌∙◌}
use mathlib.Core.Logic.{◌⊎◌, inl, inr, ⊎_elim}
use mathlib.Core.List.{List, [], ◌∷◌, ◌++◌}
use Prim.Native.Nat.{ℕ, ◌-◌, ◌%◌, ◌<◌}
use native.Mathlib.Omega.{arith}
use lib.ListN.{length}
use Rattle.lists.specs.Members.{Mem, Distinct}
use Rattle.lists.proofs.Members.{not_mem, mem_left}
use Rattle.slabs.specs.Slab.{Chain}
use Rattle.slabs.proofs.Places.{chain_same}
use Rattle.book_rules.specs.Book.{next_of, led_to, serial_of, next_in, seek_in}
use Rattle.book_rules.proofs.Seeking.{seek_here, seek_on}

-- the word that leads on when the places of a have been passed, from w on
abbrev pub word_past : ℕ → List ℕ → ℕ
word_past w [] = w
word_past w (x ∷ a) = word_past (next_of x) a

-- it is w itself or the one after a place of a
pub record After (v : ℕ) (a : List ℕ) : Type 0 where
  pub place : ℕ
  pub member : Mem place a
  pub is : v ≡ next_of place

pub word_past_lem : (w : ℕ) (a : List ℕ) → (word_past w a ≡ w) ⊎ After (word_past w a) a
word_past_lem w [] = inl refl
word_past_lem w (x ∷ a) =
    ⊎_elim (λ e. inr (record { place = x; member = inl refl; is = e })) (λ r. inr (record { place = r.place; member = inr r.member; is = r.is })) (word_past_lem (next_of x) a)

module _ (index : List ℕ) where
  -- it leads to the next place
  pub word_leads : (w p : ℕ) (a b : List ℕ) → Chain (next_in index) (led_to index w) (a ++ (p ∷ b)) → led_to index (word_past w a) ≡ p
  word_leads w p [] b c = c.0
  word_leads w p (x ∷ a) b c = word_leads (next_of x) p a b c.1

  module _ (loans : List ℕ) (places serial : ℕ) where
    -- the first place with the serial is found
    pub seek_found : (w k p : ℕ) (a b : List ℕ) → Chain (next_in index) (led_to index w) (a ++ (p ∷ b)) → ((x : ℕ) → Mem x (a ++ (p ∷ b)) → x < places)
        → ((x : ℕ) → Mem x a → serial_of loans x ≡ serial → ⊥) → serial_of loans p ≡ serial → length a < k → seek_in loans index places serial w k ≡ word_past w a
    seek_found w k p [] b c h f e o = seek_here loans index places serial w k p (sym c.0) o (h p (inl refl)) e
    seek_found w k p (x ∷ a) b c h f e o =
        seek_on loans index places serial w k x (sym c.0) (omega arith) (h x (inl refl)) (f x (inl refl))
        ∙ seek_found (next_of x) (k - 1) p a b c.1 (λ y m. h y (inr m)) (λ y m. f y (inr m)) e (omega arith)

-- the word at `at` leads past p from now on; of the other words that lead on in chains, each stays
module _ (index index' : List ℕ) (at p : ℕ) (stays : (v : ℕ) → (v % 3 ≡ 2 → ⊥) → (v ≡ at → ⊥) → led_to index' v ≡ led_to index v)
    (past : led_to index' at ≡ next_in index p) where
  -- the chain of p goes past it
  pub chain_cut : (w : ℕ) (a b : List ℕ) → at ≡ word_past w a → (w % 3 ≡ 2 → ⊥) → ((x : ℕ) → Mem x (a ++ (p ∷ b)) → w ≡ next_of x → ⊥) → Distinct (a ++ (p ∷ b))
      → Chain (next_in index) (led_to index w) (a ++ (p ∷ b)) → Chain (next_in index') (led_to index' w) (a ++ b)
  chain_cut w [] b e o f d c =
      rw (← e, past)
      (chain_same (next_in index) (next_in index') (next_in index p) b (λ x m. stays (next_of x) (λ z. omega arith) (λ z. f x (inr m) (sym (z ∙ e)))) c.1)
  chain_cut w (x ∷ a) b e o f d c =
      (stays w o here ∙ c.0, chain_cut (next_of x) a b e (λ z. omega arith) (λ y m z. not_mem x (a ++ (p ∷ b)) d.0 (rw (once y z) m)) d.1 c.1)
    where
      once : (y : ℕ) → next_of x ≡ next_of y → x ≡ y
      once y z = omega arith

      here : w ≡ at → ⊥
      here z =
          ⊎_elim (λ r. f x (inl refl) (z ∙ e ∙ r)) (λ r. f r.place (inr (mem_left r.place a (p ∷ b) r.member)) (z ∙ e ∙ r.is)) (word_past_lem (next_of x) a)
