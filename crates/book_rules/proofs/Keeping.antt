-- What the test of a book comes to.
use mathlib.Core.Path.{◌≡◌, refl, sym, ◌∙◌}
use mathlib.Core.Bool.{Bool, true, false}
use mathlib.Core.List.{List}
use Prim.Native.Nat.{ℕ, ◌≤◌, ◌<◌}
use lib.Dec.{leb}
use borrow.Author.Tests.{leb-true}
use Rattle.lists.proofs.Bools.{and_left}
use Rattle.slabs.specs.Slab.{vacant_at, link_at}
use Rattle.slabs.specs.Test.{parted_ok}
use Rattle.slabs.proofs.Steps.{parted_over}
use Rattle.store_rules.specs.Loans.{loan_words, size_at}
use Rattle.book_rules.specs.Book.{entry_words, vacated_at, vacant_after_at, led_to, serial_of, slab_of, first_in, next_in}
use Rattle.book_rules.specs.Chains.{chains_ok}
use Rattle.book_rules.specs.Kept.{kept_ok}

module _ (loans index : List ℕ) (n places given : ℕ) where
  pub kept_most : kept_ok loans index n places given ≡ true → places ≤ n
  unfolding kept_ok parted_ok
  kept_most e = leb-true _ _ (and_left (leb places n) _ (and_left _ _ e))

  pub kept_over : n < places → false ≡ kept_ok loans index n places given
  unfolding kept_ok
  kept_over h = rw (parted_over (vacant_at loans size_at loan_words) (link_at index vacant_after_at entry_words) (slab_of places index) n h) refl

  -- p is what the test of the places said
  module _ (v : ℕ) (p : Bool) (vs : v ≡ led_to index vacated_at)
      (told : p ≡ parted_ok (vacant_at loans size_at loan_words) (link_at index vacant_after_at entry_words) (record { places = places; vacant = v }) n) where
    parted : p ≡ parted_ok (vacant_at loans size_at loan_words) (link_at index vacant_after_at entry_words) (record { places = places; vacant = led_to index vacated_at }) n
    parted = told ∙ (λ j. parted_ok (vacant_at loans size_at loan_words) (link_at index vacant_after_at entry_words) (record { places = places; vacant = vs j }) n)

    pub kept_torn : p ≡ false → false ≡ kept_ok loans index n places given
    unfolding kept_ok
    kept_torn e = rw (sym parted ∙ e) refl

    pub kept_told : p ≡ true → (q : Bool)
        → q ≡ chains_ok (vacant_at loans size_at loan_words) (first_in index) (next_in index) (serial_of loans) n places given
        → q ≡ kept_ok loans index n places given
    unfolding kept_ok
    kept_told e q f = f ∙ rw (sym parted ∙ e) refl
