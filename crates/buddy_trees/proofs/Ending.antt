-- What returns leave, in closed form: which loans, which chunks, one block after the other or all at once.
use mathlib.Core.Path.{◌≡◌, refl, sym, ◌∙◌, ap, ap₂, subst}
use mathlib.Core.Bool.{Bool, true, false, cond, ◌&&◌, ◌||◌}
use mathlib.Core.Logic.{◌↔◌}
use mathlib.Core.List.{List, [], ◌∷◌, Memᴰ, Permᴰ}
use Prim.Native.Nat.{ℕ, ◌<◌}
use native.Mathlib.Omega.{arith}
use lib.Dec.{eqb}
use borrow.Author.Tests.{eqb-true, eq-eqb}
use Rattle.lists.proofs.Bools.{and_left, and_right, and_both, same_test}
use Rattle.counter.specs.declared.answers.Block.{Block}
use Rattle.store_rules.specs.Views.{View, among, loans_less, Differ}
use Rattle.store_rules.specs.declared.Chunk.{Chunk}
use Rattle.store_rules.specs.declared.Loan.{Loan}
use Rattle.store_rules.proofs.Lessening.{those, some_of, those_mem, those_yes, mem_those, those_same, those_twice, those_all, some_where, some_yes, less_none, less_next, less_mem, less_same}
use Rattle.buddy_trees.specs.Trees.{Tree, free, loan, split, Piece, Wf, Taken, Has, prune, Kept}
use Rattle.buddy_trees.proofs.Prunes.{prune_wf, prune_has}
use Rattle.buddy_trees.specs.Chunks.{piece_of, pieces_in, high_of, tree_in, view_from, Standing, lies, stay, at_once}
use Rattle.buddy_trees.proofs.Canonical.{tree_is}
use Rattle.buddy_trees.proofs.Pieces.{piece_mem}

-- ---- a chunk in which a loan lies

lies_some : (ls : List Loan) (c : Chunk) → lies ls c ≡ some_of (λ (l : Loan). eqb l.chunk c.number) ls
lies_some [] c = refl
lies_some (l ∷ ls) c = ap (λ (z : Bool). eqb l.chunk c.number || z) (lies_some ls c)

-- the test says what it stands for
pub lies_mem : (ls : List Loan) (c : Chunk) → (lies ls c ≡ true) ↔ ((l : Loan) × Memᴰ l ls × (l.chunk ≡ c.number))
lies_mem ls c = (there, λ w. lies_some ls c ∙ some_yes (λ (l : Loan). eqb l.chunk c.number) ls w.0 w.1 (eq-eqb _ _ w.2))
  where
    there : lies ls c ≡ true → (l : Loan) × Memᴰ l ls × (l.chunk ≡ c.number)
    there e = let w = some_where (λ (l : Loan). eqb l.chunk c.number) ls (sym (lies_some ls c) ∙ e) in (w.0, w.1, eqb-true _ _ w.2)

-- where a loan of some lies, one of more does
lies_more : (ks ls : List Loan) (c : Chunk) → ((l : Loan) → Memᴰ l ks → Memᴰ l ls) → lies ks c ≡ true → lies ls c ≡ true
lies_more ks ls c f e = let w = (lies_mem ks c).0 e in (lies_mem ls c).1 (w.0, f w.0 w.1, w.2)

-- ---- the chunks that stay

stay_those : (ls : List Loan) (cs : List Chunk) → stay ls cs ≡ those (lies ls) cs
unfolding stay
stay_those ls [] = refl
stay_those ls (c ∷ cs) = go (lies ls c) (stay_those ls cs)
  where
    go : (b : Bool) → stay ls cs ≡ those (lies ls) cs → cond b (c ∷ stay ls cs) (stay ls cs) ≡ cond b (c ∷ those (lies ls) cs) (those (lies ls) cs)
    go true ih = ap (λ (ds : List Chunk). c ∷ ds) ih
    go false ih = ih

-- those in which a loan lies
pub stay_mem : (ls : List Loan) (cs : List Chunk) (c : Chunk) → Memᴰ c (stay ls cs) ↔ (Memᴰ c cs × (lies ls c ≡ true))
stay_mem ls cs c = (there, λ w. subst (Memᴰ c) (sym (stay_those ls cs)) (mem_those (lies ls) c cs w.0 w.1))
  where
    there : Memᴰ c (stay ls cs) → Memᴰ c cs × (lies ls c ≡ true)
    there m = let k = subst (Memᴰ c) (stay_those ls cs) m in (those_mem (lies ls) c cs k, those_yes (lies ls) c cs k)

-- all of them, where each has a loan
pub stay_all : (ls : List Loan) (cs : List Chunk) → ((c : Chunk) → Memᴰ c cs → lies ls c ≡ true) → stay ls cs ≡ cs
stay_all ls cs h = stay_those ls cs ∙ those_all (lies ls) cs h

-- fewer loans after more keep what the fewer do
pub stay_stay : (ks ls : List Loan) (cs : List Chunk) → ((l : Loan) → Memᴰ l ks → Memᴰ l ls) → stay ks (stay ls cs) ≡ stay ks cs
stay_stay ks ls cs f =
    stay_those ks (stay ls cs)
    ∙ ap (those (lies ks)) (stay_those ls cs)
    ∙ those_twice (lies ks) (lies ls) cs
    ∙ those_same _ _ cs (λ c m. same_test (lies ls c && lies ks c) (lies ks c) (and_right (lies ls c) (lies ks c)) (λ e. and_both _ _ (lies_more ks ls c f e) e))
    ∙ sym (stay_those ks cs)

-- ---- all at once

-- nothing comes back, and nothing changes
pub at_once_none : (u : ℕ) (v : View) → ((c : Chunk) → Memᴰ c v.chunks → lies v.loans c ≡ true) → v ≡ view_from u v.loans v.chunks → at_once u [] v ≡ v
unfolding at_once
at_once_none u v h e =
    let f = less_none v.loans in
    let g : stay (loans_less [] v.loans) v.chunks ≡ v.chunks = ap (λ (ls : List Loan). stay ls v.chunks) f ∙ stay_all v.loans v.chunks h in
    ap₂ (view_from u) f g ∙ sym e

-- one comes back before the others
pub at_once_next : (u : ℕ) (b : Block) (bs : List Block) (v : View) → at_once u bs (at_once u (b ∷ []) v) ≡ at_once u (b ∷ bs) v
unfolding at_once
at_once_next u b bs v =
    let ls = loans_less (b ∷ []) v.loans in
    let f = less_next b bs v.loans in
    let g : stay (loans_less bs ls) (stay ls v.chunks) ≡ stay (loans_less (b ∷ bs) v.loans) v.chunks =
    stay_stay (loans_less bs ls) ls v.chunks (λ l m. ((less_mem bs ls l).0 m).0) ∙ ap (λ (ks : List Loan). stay ks v.chunks) f in
    ap₂ (view_from u) f g

-- in any order
pub at_once_same : (u : ℕ) {bs cs : List Block} (v : View) → Permᴰ bs cs → at_once u bs v ≡ at_once u cs v
unfolding at_once
at_once_same u v p = ap (λ (ls : List Loan). view_from u ls (stay ls v.chunks)) (less_same v.loans p)

-- ---- what is left stands

-- whether the loan with this serial came back
pub gone : List Block → List Loan → ℕ → Bool
gone bs ls k = some_of (λ (l : Loan). eqb l.serial k && among bs l) ls

gone_is : (bs : List Block) (ls : List Loan) → Differ (λ (l : Loan). l.serial) ls → (l : Loan) → Memᴰ l ls → gone bs ls l.serial ≡ among bs l
unfolding gone
gone_is bs ls f l m =
    same_test _ _ there (λ e. some_yes (λ (k : Loan). eqb k.serial l.serial && among bs k) ls l m (and_both _ _ (eq-eqb l.serial l.serial refl) e))
  where
    there : some_of (λ (k : Loan). eqb k.serial l.serial && among bs k) ls ≡ true → among bs l ≡ true
    there e =
        let w = some_where (λ (k : Loan). eqb k.serial l.serial && among bs k) ls e in
        let s : w.0.serial ≡ l.serial = eqb-true _ _ (and_left (eqb w.0.serial l.serial) (among bs w.0) w.2) in
        ap (among bs) (sym (f w.0 l w.1 m s)) ∙ and_right (eqb w.0.serial l.serial) (among bs w.0) w.2

has_taken : (u l o : ℕ) (t : Tree) (y : Piece) → Has u l o t y → Taken t
has_taken u l o free y h = absurd h
has_taken u l o (loan k) y h = tt
has_taken u l o (split a b) y h = tt

module _ (u : ℕ) (p : 0 < u) (ls : List Loan) (cs : List Chunk) (S : Standing u ls cs) (bs : List Block) where
  -- the pieces left are those that are not marked
  left_pieces : (c : ℕ) (y : Piece) → Memᴰ y (pieces_in u c (loans_less bs ls)) ↔ (Memᴰ y (pieces_in u c ls) × Kept (gone bs ls) y)
  left_pieces c y = (there, back)
    where
      there : Memᴰ y (pieces_in u c (loans_less bs ls)) → Memᴰ y (pieces_in u c ls) × Kept (gone bs ls) y
      there m =
          let w = (piece_mem u c (loans_less bs ls) y).0 m in
          let l = w.0 in
          let v = (less_mem bs ls l).0 w.1 in (
            (piece_mem u c ls y).1 (l, v.0, w.2, w.3),
            λ k e.
                let s : k ≡ l.serial = omega (arith, e, ap (λ (z : Piece). z.who) w.3) in
                ap (gone bs ls) s ∙ gone_is bs ls S.serials l v.0 ∙ v.1,
          )

      back : Memᴰ y (pieces_in u c ls) × Kept (gone bs ls) y → Memᴰ y (pieces_in u c (loans_less bs ls))
      back h =
          let w = (piece_mem u c ls y).0 h.0 in
          let l = w.0 in
          let a : among bs l ≡ false = sym (gone_is bs ls S.serials l w.1) ∙ h.1 l.serial (ap (λ (z : Piece). z.who) w.3) in
          (piece_mem u c (loans_less bs ls) y).1 (l, (less_mem bs ls l).1 (w.1, a), w.2, w.3)

  -- they are those of the chunk's tree with the marked ones given back
  left_holds : (c : Chunk) → Memᴰ c cs → (y : Piece) → Memᴰ y (pieces_in u c.number (loans_less bs ls)) ↔ Has u (high_of u c) 0 (prune (gone bs ls) (tree_in u ls c)) y
  left_holds c m y =
      let a = left_pieces c.number y in
      let b = S.has c m y in
      let d = prune_has u (gone bs ls) (high_of u c) 0 (tree_in u ls c) y (S.wf c m) in
      ((λ k. let w = a.0 k in d.1 (b.0 w.0, w.1)), (λ k. let w = d.0 k in a.1 (b.1 w.0, w.1)))

  -- so that is the tree that they make
  pub left_tree : (c : Chunk) → Memᴰ c cs → tree_in u (loans_less bs ls) c ≡ prune (gone bs ls) (tree_in u ls c)
  left_tree c m = tree_is u p (high_of u c) 0 (prune (gone bs ls) (tree_in u ls c)) (pieces_in u c.number (loans_less bs ls)) (prune_wf (gone bs ls) (high_of u c) (tree_in u ls c) (S.wf c m)) (left_holds c m)

  left_has : (c : Chunk) → Memᴰ c cs → (y : Piece) → Memᴰ y (pieces_in u c.number (loans_less bs ls)) ↔ Has u (high_of u c) 0 (tree_in u (loans_less bs ls) c) y
  left_has c m y =
      let e = left_tree c m in (
        (λ k. subst (λ (t : Tree). Has u (high_of u c) 0 t y) (sym e) ((left_holds c m y).0 k)),
        (λ k. (left_holds c m y).1 (subst (λ (t : Tree). Has u (high_of u c) 0 t y) e k)),
      )

  left_taken : (c : Chunk) → Memᴰ c cs → lies (loans_less bs ls) c ≡ true → Taken (tree_in u (loans_less bs ls) c)
  left_taken c m e =
      let w = (lies_mem (loans_less bs ls) c).0 e in
      has_taken u (high_of u c) 0 (tree_in u (loans_less bs ls) c) (piece_of u w.0) ((left_has c m (piece_of u w.0)).0 ((piece_mem u c.number (loans_less bs ls) (piece_of u w.0)).1 (w.0, w.1, w.2, refl)))

  was : (c : Chunk) → Memᴰ c (stay (loans_less bs ls) cs) → Memᴰ c cs
  was c m = ((stay_mem (loans_less bs ls) cs c).0 m).0

  lent : (l : Loan) → Memᴰ l (loans_less bs ls) → Memᴰ l ls
  lent l m = ((less_mem bs ls l).0 m).0

  left_held : (l : Loan) → Memᴰ l (loans_less bs ls) → (c : Chunk) × Memᴰ c (stay (loans_less bs ls) cs) × (c.number ≡ l.chunk)
  left_held l m =
      let w = S.held l (lent l m) in
      (w.0, (stay_mem (loans_less bs ls) cs w.0).1 (w.1, (lies_mem (loans_less bs ls) w.0).1 (l, m, sym w.2)), w.2)

  -- what returns leave of a store that stands stands
  pub left_standing : Standing u (loans_less bs ls) (stay (loans_less bs ls) cs)
  left_standing = record {
    sized = λ c m. S.sized c (was c m);
    loans_sized = λ l m. S.loans_sized l (lent l m);
    held = left_held;
    wf = λ c m. subst (Wf (high_of u c)) (sym (left_tree c (was c m))) (prune_wf (gone bs ls) (high_of u c) (tree_in u ls c) (S.wf c (was c m)));
    taken = λ c m. left_taken c (was c m) ((stay_mem (loans_less bs ls) cs c).0 m).1;
    has = λ c m. left_has c (was c m);
    numbers = λ c d i j. S.numbers c d (was c i) (was d j);
    serials = λ k l i j. S.serials k l (lent k i) (lent l j);
  }
