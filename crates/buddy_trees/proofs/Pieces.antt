-- The loans of a chunk as pieces: which they are, each once, and what they hold.
use mathlib.Core.Path.{◌≡◌, refl, sym, ◌∙◌, ap}
use mathlib.Core.Bool.{Bool, true, false, cond}
use mathlib.Core.Logic.{◌⊎◌, inl, inr, ⊎_elim, ◌↔◌}
use mathlib.Core.List.Memᴰ
use mathlib.Core.List.{List, [], ◌∷◌, Memᴰ}
use Prim.Native.Nat.{ℕ, ◌+◌}
use native.Mathlib.Omega.{arith}
use lib.Dec.{eqb}
use borrow.Author.Tests.{eqb-true, eqb-false}
use Rattle.lists.proofs.Bools.{told}
use Rattle.rounding_rules.specs.Raising.{level_of}
use Rattle.store_rules.specs.Views.{on, total, loaned, Differ}
use Rattle.store_rules.specs.declared.Loan.{Loan}
use Rattle.store_rules.proofs.Bytes.{on_out}
use Rattle.buddy_trees.specs.Trees.{Piece, bytes}
use Rattle.buddy_trees.specs.Chunks.{piece_of, pieces_in}
use Rattle.buddy_trees.proofs.Onces.{Once}

module _ (u : ℕ) where
  -- how often pieces of chunk n hold byte x
  abbrev pub on_pieces : ℕ → ℕ → List Piece → ℕ
  on_pieces n x ys = total (λ (y : Piece). on n x n y.at (y.at + bytes u y.lev)) ys

  -- loan l of chunk c is the piece y
  abbrev pub IsPiece : ℕ → List Loan → Piece → Type 0
  IsPiece c ls y = (l : Loan) × Memᴰ l ls × (l.chunk ≡ c) × (y ≡ piece_of u l)

  pieces_yes : (c : ℕ) (l : Loan) (ls : List Loan) → eqb l.chunk c ≡ true → pieces_in u c (l ∷ ls) ≡ piece_of u l ∷ pieces_in u c ls
  unfolding pieces_in
  pieces_yes c l ls e = rw e

  pieces_no : (c : ℕ) (l : Loan) (ls : List Loan) → eqb l.chunk c ≡ false → pieces_in u c (l ∷ ls) ≡ pieces_in u c ls
  unfolding pieces_in
  pieces_no c l ls e = rw e

  piece_where : (c : ℕ) (ls : List Loan) (y : Piece) → Memᴰ y (pieces_in u c ls) → IsPiece c ls y
  unfolding pieces_in
  piece_where c [] y m = absurd (Memᴰ.not-nil m)
  piece_where c (l ∷ ls) y m = go (eqb l.chunk c) refl m (piece_where c ls y)
    where
      later : IsPiece c ls y → IsPiece c (l ∷ ls) y
      later w = (w.0, Memᴰ.tail w.1, w.2, w.3)

      go : (b : Bool) → eqb l.chunk c ≡ b → Memᴰ y (cond b (piece_of u l ∷ pieces_in u c ls) (pieces_in u c ls)) → (Memᴰ y (pieces_in u c ls) → IsPiece c ls y) → IsPiece c (l ∷ ls) y
      go true e k ih = ⊎_elim (λ q. (l, Memᴰ.head refl, eqb-true _ _ e, q)) (λ q. later (ih q)) (Memᴰ.cases_cons k)
      go false e k ih = later (ih k)

  where_piece : (c : ℕ) (ls : List Loan) (l : Loan) → Memᴰ l ls → l.chunk ≡ c → Memᴰ (piece_of u l) (pieces_in u c ls)
  where_piece c [] l m e = absurd (Memᴰ.not-nil m)
  where_piece c (k ∷ ls) l m e = go (told (eqb k.chunk c)) (Memᴰ.cases_cons m) (λ i. where_piece c ls l i e)
    where
      go : (eqb k.chunk c ≡ true) ⊎ (eqb k.chunk c ≡ false) → (l ≡ k) ⊎ Memᴰ l ls → (Memᴰ l ls → Memᴰ (piece_of u l) (pieces_in u c ls)) → Memᴰ (piece_of u l) (pieces_in u c (k ∷ ls))
      go (inl t) (inl q) ih = rw (pieces_yes c k ls t) (Memᴰ.head (ap (piece_of u) q))
      go (inl t) (inr i) ih = rw (pieces_yes c k ls t) (Memᴰ.tail (ih i))
      go (inr t) (inl q) ih = absurd (eqb-false _ _ t (ap (λ (d : Loan). d.chunk) (sym q) ∙ e))
      go (inr t) (inr i) ih = rw (pieces_no c k ls t) (ih i)

  -- the pieces of chunk c are its loans
  pub piece_mem : (c : ℕ) (ls : List Loan) (y : Piece) → Memᴰ y (pieces_in u c ls) ↔ ((l : Loan) × Memᴰ l ls × (l.chunk ≡ c) × (y ≡ piece_of u l))
  piece_mem c ls y = (piece_where c ls y, λ w. Memᴰ.cast w.3 (where_piece c ls w.0 w.1 w.2))

  -- each once, where no loan stands twice and serials differ
  pub pieces_once : (c : ℕ) (ls : List Loan) → Once ls → Differ (λ (l : Loan). l.serial) ls → Once (pieces_in u c ls)
  unfolding pieces_in
  pieces_once c [] o f = tt
  pieces_once c (l ∷ ls) o f = go (eqb l.chunk c) (pieces_once c ls o.1 (λ a b i j. f a b (Memᴰ.tail i) (Memᴰ.tail j)))
    where
      new : Memᴰ (piece_of u l) (pieces_in u c ls) → ⊥
      new m =
          let w = piece_where c ls (piece_of u l) m in
          let e : l.serial ≡ w.0.serial = omega (arith, ap (λ (y : Piece). y.who) w.3) in
          o.0 (Memᴰ.cast (f l w.0 (Memᴰ.head refl) (Memᴰ.tail w.1) e) w.1)

      go : (b : Bool) → Once (pieces_in u c ls) → Once (cond b (piece_of u l ∷ pieces_in u c ls) (pieces_in u c ls))
      go true ih = (new, ih)
      go false ih = ih

  -- they hold what the chunk's loans do
  pub loaned_pieces : (n x : ℕ) (ls : List Loan) → ((l : Loan) → Memᴰ l ls → l.size ≡ bytes u (level_of l.size u)) → loaned n x ls ≡ on_pieces n x (pieces_in u n ls)
  unfolding pieces_in
  loaned_pieces n x [] h = refl
  loaned_pieces n x (l ∷ ls) h = go (eqb l.chunk n) refl (loaned_pieces n x ls (λ k m. h k (Memᴰ.tail m)))
    where
      go : (b : Bool) → eqb l.chunk n ≡ b → loaned n x ls ≡ on_pieces n x (pieces_in u n ls) → on n x l.chunk l.offset (l.offset + l.size) + loaned n x ls ≡ on_pieces n x (cond b (piece_of u l ∷ pieces_in u n ls) (pieces_in u n ls))
      go true e ih =
          let a : on n x l.chunk l.offset (l.offset + l.size) ≡ on n x n l.offset (l.offset + l.size) = ap (λ (c : ℕ). on n x c l.offset (l.offset + l.size)) (eqb-true _ _ e) in
          let b : on n x n l.offset (l.offset + l.size) ≡ on n x n l.offset (l.offset + bytes u (level_of l.size u)) = ap (λ (z : ℕ). on n x n l.offset (l.offset + z)) (h l (Memᴰ.head refl)) in
          omega (arith, a, b, ih)
      go false e ih = omega (arith, ih, on_out n x l.chunk l.offset (l.offset + l.size) (λ q i j. eqb-false _ _ e q))
