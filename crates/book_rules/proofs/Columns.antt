-- An index may have columns behind its book's entries: what is written in one of the two leaves what the other says.
use mathlib.Core.Path.{◌≡◌, refl, sym, ap, ◌∙◌, subst}
use mathlib.Core.List.{List}
use Prim.Native.Nat.{ℕ, ◌%◌, ◌≤◌, ◌<◌}
use native.Mathlib.Nat.{mod-lt}
use native.Mathlib.Omega.{arith}
use lib.ListN.{get_or, set}
use lib.Seq.{get_or-set_other}
use Rattle.words.specs.Words.{cell_of}
use Rattle.slabs.specs.Slab.{place_of, record_of, Parted}
use Rattle.slabs.specs.declared.Slab.{Slab}
use Rattle.slabs.proofs.Places.{parted_same, chain_same}
use Rattle.book_rules.specs.Book.{entry_words, vacated_at, vacant_after_at, index_words, first_of, next_of, led_to, first_in, next_in, slab_of, taken_of, entered_index, struck_index}
use Rattle.book_rules.proofs.Keeps.{BookChained, BookParted, free_in, vacant_in}

-- ---- the entries stay, and so does the book

module _ (n places : ℕ) (loans index index' : List ℕ) (limit : places ≤ n) (front : (k : ℕ) → k < index_words n → get_or index' k 0 ≡ get_or index k 0) where
  pub parted_front : BookParted loans index n places → BookParted loans index' n places
  parted_front P =
      subst (λ (d : Slab). Parted (free_in loans) (vacant_in index') d n) same
      (parted_same (free_in loans) (free_in loans) (vacant_in index) (vacant_in index') (slab_of places index) n (λ x h. refl) (λ x h. ap place_of (front (cell_of vacant_after_at entry_words x) (omega arith))) P)
    where
      same : slab_of places index ≡ slab_of places index'
      same = ap (λ (w : ℕ). record { places = places; vacant = place_of w }) (sym (front vacated_at (omega arith)))

  pub chained_front : (given : ℕ) → BookChained loans index n places given → BookChained loans index' n places given
  chained_front given C i h =
      let c = C i h in
      let first : first_in index' i ≡ first_in index i = ap place_of (front (first_of i) (omega arith)) in
      record {
        members = c.members;
        chain =
            rw first
            (chain_same (next_in index) (next_in index') (first_in index i) c.members (λ x m. let g : x < places = (c.right x m).0 in ap place_of (front (next_of x) (omega arith))) c.chain);
        falling = c.falling;
        right = c.right;
        all = c.all;
      }

-- ---- a loan is entered, or struck out, and the columns stay

module _ (n : ℕ) (index : List ℕ) (k : ℕ) (past : index_words n ≤ k) where
  pub entered_behind : (places serial : ℕ) → 0 < n → (taken_of places index).place < n → get_or (entered_index n places serial index) k 0 ≡ get_or index k 0
  unfolding entered_index
  entered_behind places serial some room =
      let own : serial % n < n = mod-lt serial some in
      let p : ℕ = (taken_of places index).place in
      let one : List ℕ = set index vacated_at (record_of (taken_of places index).slab.vacant) in
      let two : List ℕ = set one (next_of p) (get_or index (first_of (serial % n)) 0) in
      get_or-set_other two (first_of (serial % n)) k (record_of p) 0 (λ e. omega arith)
      ∙ get_or-set_other one (next_of p) k (get_or index (first_of (serial % n)) 0) 0 (λ e. omega arith)
      ∙ get_or-set_other index vacated_at k (record_of (taken_of places index).slab.vacant) 0 (λ e. omega arith)

  pub struck_behind : (at : ℕ) → at < index_words n → led_to index at < n → get_or (struck_index at index) k 0 ≡ get_or index k 0
  unfolding struck_index
  struck_behind at inside room =
      let p : ℕ = led_to index at in
      let one : List ℕ = set index at (get_or index (next_of p) 0) in
      let two : List ℕ = set one (cell_of vacant_after_at entry_words p) (get_or index vacated_at 0) in
      get_or-set_other two vacated_at k (get_or index at 0) 0 (λ e. omega arith)
      ∙ get_or-set_other one (cell_of vacant_after_at entry_words p) k (get_or index vacated_at 0) 0 (λ e. omega arith)
      ∙ get_or-set_other index at k (get_or index (next_of p) 0) 0 (λ e. omega arith)
