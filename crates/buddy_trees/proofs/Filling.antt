-- Loans and free pieces fill a chunk: at every byte they are as many as the chunks that have it.
use mathlib.Core.Path.{◌≡◌, refl, sym, ◌∙◌, ap, subst}
use mathlib.Core.Bool.{true, false}
use mathlib.Core.Logic.{◌⊎◌, inl, inr, ⊎_elim, ◌↔◌}
use mathlib.Core.List.Memᴰ
use mathlib.Core.List.{List, [], ◌∷◌, Memᴰ}
use Prim.Native.Nat.{ℕ, zero, suc, ◌+◌, ◌≤◌, ◌<◌}
use native.Mathlib.Omega.{arith}
use lib.Dec.{eqb, ltb}
use borrow.Author.Tests.{eqb-true, eq-eqb}
use Rattle.lists.proofs.Bools.{told, true_false}
use Rattle.store_rules.specs.Views.{on, total, loaned, held, Differ, Filled}
use Rattle.store_rules.specs.Views as Views
use Rattle.store_rules.specs.declared.Chunk.{Chunk}
use Rattle.store_rules.specs.declared.Loan.{Loan}
use Rattle.store_rules.specs.declared.Region.{Region}
use Rattle.store_rules.proofs.Bytes.{on_out, on_join, total_none, total_append}
use Rattle.store_rules.proofs.Lessening.{some_of, some_where, some_yes}
use Rattle.buddy_trees.specs.Trees.{Tree, free, loan, split, Piece, bytes, Wf, Has}
use Rattle.buddy_trees.proofs.Bytes.{bytes_suc}
use Rattle.buddy_trees.proofs.Fills.{has_apart}
use Rattle.buddy_trees.specs.Chunks.{before, from, free_of, piece_of, pieces_in, high_of, tree_in, free_in, view_from, Standing}
use Rattle.buddy_trees.proofs.Canonical.{before_those, from_those, holds_left, holds_right}
use Rattle.buddy_trees.proofs.Onces.{Once, once_those, total_parts}
use Rattle.buddy_trees.proofs.Pieces.{on_pieces, piece_mem, pieces_once, loaned_pieces}

-- ---- a node

once_before : (x : ℕ) (ys : List Piece) → Once ys → Once (before x ys)
once_before x ys o = subst Once (sym (before_those x ys)) (once_those _ ys o)

once_from : (x : ℕ) (ys : List Piece) → Once ys → Once (from x ys)
once_from x ys o = subst Once (sym (from_those x ys)) (once_those _ ys o)

parted : (f : Piece → ℕ) (x : ℕ) (ys : List Piece) → total f (before x ys) + total f (from x ys) ≡ total f ys
parted f x ys = rw (before_those x ys, from_those x ys) (total_parts f (λ (y : Piece). ltb y.at x) ys)

-- pieces that are as one are one
alike : (y z : Piece) → y.at ≡ z.at → y.lev ≡ z.lev → y.who ≡ z.who → y ≡ z
alike y z a b c = λ i. record { at = a i; lev = b i; who = c i }

module _ (u : ℕ) where
  -- a piece of one loan only is it, once
  only : (l o k : ℕ) (ys : List Piece) → ((y : Piece) → Memᴰ y ys ↔ Has u l o (loan k) y) → Once ys → (n x : ℕ) → on_pieces u n x ys ≡ on n x n o (o + bytes u l)
  only l o k [] f c n x = absurd (Memᴰ.not-nil ((f (record { at = o; lev = l; who = k + 1 })).1 (refl, refl, refl)))
  only l o k (y ∷ []) f c n x =
      let h = (f y).0 (Memᴰ.head refl) in
      let e : on n x n y.at (y.at + bytes u y.lev) ≡ on n x n o (o + bytes u l) = rw (h.0, h.1) in
      omega (arith, e)
  only l o k (y ∷ (z ∷ ys)) f c n x =
      let h = (f y).0 (Memᴰ.head refl) in
      let i = (f z).0 (Memᴰ.tail (Memᴰ.head refl)) in
      absurd (c.0 (Memᴰ.head (alike y z (h.0 ∙ sym i.0) (h.1 ∙ sym i.1) (h.2 ∙ sym i.2))))

-- at every byte of a node one loan of it or one free piece of it lies, and none elsewhere
pub tree_filled : (u : ℕ) → 0 < u → (n l o : ℕ) (t : Tree) (ys : List Piece) → Wf l t → ((y : Piece) → Memᴰ y ys ↔ Has u l o t y) → Once ys → (x : ℕ)
    → total (λ (y : Piece). on n x n y.at (y.at + bytes u y.lev)) ys + Views.free n x (free_of u n l o t) ≡ on n x n o (o + bytes u l)
unfolding free_of
tree_filled u p n l o free ys w f c x =
    let e : on_pieces u n x ys ≡ 0 = total_none _ ys (λ y m. absurd ((f y).0 m)) in
    omega (arith, e)
tree_filled u p n l o (loan k) ys w f c x = omega (arith, only u l o k ys f c n x)
tree_filled u p n zero o (split a b) ys w f c x = absurd w
tree_filled u p n (suc l) o (split a b) ys w f c x =
    let m = o + bytes u l in
    let i = tree_filled u p n l o a (before m ys) w.1 (holds_left u l o a b ys p f) (once_before m ys c) x in
    let j = tree_filled u p n l m b (from m ys) w.2 (holds_right u l o a b ys p f) (once_from m ys c) x in
    let e : m + bytes u l ≡ o + bytes u (suc l) = omega (arith, bytes_suc u l) in
    let g : on n x n m (m + bytes u l) ≡ on n x n m (o + bytes u (suc l)) = ap (on n x n m) e in
    omega (
      arith,
      i,
      j,
      g,
      parted (λ (y : Piece). on n x n y.at (y.at + bytes u y.lev)) m ys,
      total_append (λ (r : Region). on n x r.chunk r.start r.end) (free_of u n l o a) (free_of u n l m b),
      on_join n x n n o m (o + bytes u (suc l)) refl (omega arith) (omega arith),
    )

-- ---- a store

module _ (u : ℕ) where
  -- free pieces of one chunk hold no byte of another
  free_other : (n x c l o : ℕ) (t : Tree) → (c ≡ n → ⊥) → Views.free n x (free_of u c l o t) ≡ 0
  unfolding free_of
  free_other n x c l o free ne = omega (arith, on_out n x c o (o + bytes u l) (λ e a b. ne e))
  free_other n x c l o (loan k) ne = refl
  free_other n x c zero o (split a b) ne = refl
  free_other n x c (suc l) o (split a b) ne =
      omega (
        arith,
        free_other n x c l o a ne,
        free_other n x c l (o + bytes u l) b ne,
        total_append (λ (r : Region). on n x r.chunk r.start r.end) (free_of u c l o a) (free_of u c l (o + bytes u l) b),
      )

  -- the free pieces of a chunk
  abbrev pub free_for : List Loan → Chunk → List Region
  free_for ls c = free_of u c.number (high_of u c) 0 (tree_in u ls c)

  free_cons : (n x : ℕ) (ls : List Loan) (d : Chunk) (ds : List Chunk) → Views.free n x (free_in u ls (d ∷ ds)) ≡ Views.free n x (free_for ls d) + Views.free n x (free_in u ls ds)
  unfolding free_in
  free_cons n x ls d ds = total_append (λ (r : Region). on n x r.chunk r.start r.end) (free_for ls d) (free_in u ls ds)

  -- where no chunk has the number, nothing of it is held or free
  none_held : (n x : ℕ) (ls : List Loan) (ds : List Chunk) → ((d : Chunk) → Memᴰ d ds → d.number ≡ n → ⊥) → (Views.free n x (free_in u ls ds) ≡ 0) × (held n x ds ≡ 0)
  unfolding free_in
  none_held n x ls [] h = (refl, refl)
  none_held n x ls (d ∷ ds) h =
      let ne = h d (Memᴰ.head refl) in
      let r = none_held n x ls ds (λ k m. h k (Memᴰ.tail m)) in (
        omega (arith, free_cons n x ls d ds, free_other n x d.number (high_of u d) 0 (tree_in u ls d) ne, r.0),
        omega (arith, on_out n x d.number 0 d.size (λ e a b. ne e), r.1),
      )

  -- where one has it, that one alone counts
  one_held : (x : ℕ) (ls : List Loan) (ds : List Chunk) (c : Chunk) → Memᴰ c ds → Once ds → Differ (λ (d : Chunk). d.number) ds
      → (Views.free c.number x (free_in u ls ds) ≡ Views.free c.number x (free_for ls c)) × (held c.number x ds ≡ on c.number x c.number 0 c.size)
  one_held x ls [] c m o f = absurd (Memᴰ.not-nil m)
  one_held x ls (d ∷ ds) c m o f = go (λ k. one_held x ls ds c k o.1 (λ a b i j. f a b (Memᴰ.tail i) (Memᴰ.tail j))) (Memᴰ.cases_cons m)
    where
      go : (Memᴰ c ds → (Views.free c.number x (free_in u ls ds) ≡ Views.free c.number x (free_for ls c)) × (held c.number x ds ≡ on c.number x c.number 0 c.size)) → (c ≡ d) ⊎ Memᴰ c ds
          → (Views.free c.number x (free_in u ls (d ∷ ds)) ≡ Views.free c.number x (free_for ls c)) × (held c.number x (d ∷ ds) ≡ on c.number x c.number 0 c.size)
      go ih (inl e) =
          let r = none_held c.number x ls ds (λ k i q. o.0 (Memᴰ.cast (sym (f k d (Memᴰ.tail i) (Memᴰ.head refl) (q ∙ ap (λ (b : Chunk). b.number) e))) i)) in (
            omega (arith, free_cons c.number x ls d ds, r.0, ap (λ (b : Chunk). Views.free c.number x (free_for ls b)) e),
            omega (arith, r.1, ap (λ (b : Chunk). on c.number x b.number 0 b.size) e),
          )
      go ih (inr i) =
          let ne : d.number ≡ c.number → ⊥ = λ q. o.0 (Memᴰ.cast (f d c (Memᴰ.head refl) (Memᴰ.tail i) q) i) in
          let r = ih i in (
            omega (arith, free_cons c.number x ls d ds, r.0, free_other c.number x d.number (high_of u d) 0 (tree_in u ls d) ne),
            omega (arith, r.1, on_out c.number x d.number 0 d.size (λ e a b. ne e)),
          )

  filled_at : 0 < u → (ls : List Loan) (cs : List Chunk) → Standing u ls cs → Once ls → Once cs → (c : Chunk) → Memᴰ c cs → (x : ℕ) → loaned c.number x ls + Views.free c.number x (free_in u ls cs) ≡ held c.number x cs
  filled_at p ls cs S a b c m x =
      let n = c.number in
      let r = one_held x ls cs c m b S.numbers in
      let t = tree_filled u p n (high_of u c) 0 (tree_in u ls c) (pieces_in u n ls) (S.wf c m) (S.has c m) (pieces_once u n ls a S.serials) x in
      let e : 0 + bytes u (high_of u c) ≡ c.size = omega (arith, (S.sized c m).0) in
      let g : on n x n 0 (0 + bytes u (high_of u c)) ≡ on n x n 0 c.size = ap (on n x n 0) e in
      omega (arith, r.0, r.1, t, g, loaned_pieces u n x ls S.loans_sized)

-- the blocks on loan and the free pieces of the canonical trees fill each held chunk
pub filled : (u : ℕ) → 0 < u → (ls : List Loan) (cs : List Chunk) → Standing u ls cs → Once ls → Once cs → Filled (view_from u ls cs)
filled u p ls cs S a b n x = go (told (some_of (λ (c : Chunk). eqb c.number n) cs))
  where
    go : (some_of (λ (c : Chunk). eqb c.number n) cs ≡ true) ⊎ (some_of (λ (c : Chunk). eqb c.number n) cs ≡ false) → loaned n x ls + Views.free n x (free_in u ls cs) ≡ held n x cs
    go (inl e) =
        let w = some_where (λ (c : Chunk). eqb c.number n) cs e in
        subst (λ (k : ℕ). loaned k x ls + Views.free k x (free_in u ls cs) ≡ held k x cs) (eqb-true _ _ w.2) (filled_at u p ls cs S a b w.0 w.1 x)
    go (inr e) =
        let no : (c : Chunk) → Memᴰ c cs → c.number ≡ n → ⊥ = λ c m q. true_false _ (some_yes (λ (d : Chunk). eqb d.number n) cs c m (eq-eqb _ _ q)) e in
        let r = none_held u n x ls cs no in
        let z : loaned n x ls ≡ 0 = total_none _ ls (λ l m. on_out n x l.chunk l.offset (l.offset + l.size) (λ q i j. let h = S.held l m in no h.0 h.1 (h.2 ∙ q))) in
        omega (arith, r.0, r.1, z)

-- two loans of a chunk don't meet
pub apart_loans : (u : ℕ) (ls : List Loan) (cs : List Chunk) → Standing u ls cs → (k l : Loan) → Memᴰ k ls → Memᴰ l ls → k.chunk ≡ l.chunk → (k ≡ l → ⊥) → (k.offset + k.size ≤ l.offset) ⊎ (l.offset + l.size ≤ k.offset)
apart_loans u ls cs S k l i j e ne =
    let h = S.held k i in
    let c = h.0 in
    let hk = (S.has c h.1 (piece_of u k)).0 ((piece_mem u c.number ls (piece_of u k)).1 (k, i, sym h.2, refl)) in
    let hl = (S.has c h.1 (piece_of u l)).0 ((piece_mem u c.number ls (piece_of u l)).1 (l, j, sym (h.2 ∙ e), refl)) in
    let other : piece_of u k ≡ piece_of u l → ⊥ = λ q. ne (S.serials k l i j (omega (arith, ap (λ (y : Piece). y.who) q))) in
    ⊎_elim (λ g. inl (omega (arith, g, S.loans_sized k i))) (λ g. inr (omega (arith, g, S.loans_sized l j)))
    (has_apart u (high_of u c) 0 (tree_in u ls c) (piece_of u k) (piece_of u l) hk hl other)
