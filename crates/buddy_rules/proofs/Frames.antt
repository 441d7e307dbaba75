-- The words of a node: what they say of its tree, and which changes of entries keep them.
use mathlib.Core.Path.{◌≡◌, refl, sym, ap, ◌∙◌}
use mathlib.Core.Bool.{Bool, true, false}
use mathlib.Core.Logic.{◌⊎◌, inl, inr, ⊎_elim}
use Prim.Native.Nat.{ℕ, zero, suc, ◌+◌, ◌≤◌, ◌<◌}
use native.Mathlib.Omega.{arith}
use lib.Dec.{eqb}
use borrow.Author.Tests.{ne_eqb}
use Rattle.lists.proofs.Bools.{true_false, lt_or_le}
use Rattle.buddy_trees.specs.Trees.{Tree, free, loan, split, Wf, bytes, Piece, Has, remove}
use Rattle.buddy_trees.proofs.Bytes.{bytes_suc, bytes_pos}
use Rattle.buddy_trees.proofs.Fills.{has_in}
use Rattle.buddy_trees.proofs.Canon.{canon}
use Rattle.buddy_trees.proofs.Prunes.{prune_wf, prune_has}
use Rattle.buddy_rules.specs.Nodes.{Ent, Loan, Side, L, R, other, node_of, pair_said, is_free, tag_of, base, Inside, None, Rep, Keep, Loc, Local}

pub tag_pos : (a b : Bool) → 0 < tag_of a b
tag_pos true b = omega arith
tag_pos false true = omega arith
tag_pos false false = omega arith

module _ (u : ℕ) where
  -- ---- stretches

  -- a half's stretch is in the whole's
  pub inside_left : (e : Ent) (c o l : ℕ) → Inside u e c o l → Inside u e c o (suc l)
  inside_left e c o l h = (h.0, h.1, omega (arith, bytes_suc u l, h.2))

  pub inside_right : (e : Ent) (c o l : ℕ) → Inside u e c (o + bytes u l) l → Inside u e c o (suc l)
  inside_right e c o l h = (h.0, omega (arith, h.1), omega (arith, bytes_suc u l, h.2))

  pub inside_same : (d e : Ent) (c o l : ℕ) → d ≡ e → Inside u d c o l → Inside u e c o l
  inside_same d e c o l q h = rw q at h

  pub inside_half : (s : Side) (e : Ent) (c o l : ℕ) → Inside u e c (base u s o l) l → Inside u e c o (suc l)
  inside_half L e c o l h = inside_left e c o l h
  inside_half R e c o l h = inside_right e c o l h

  -- a node's own entry is in its stretch
  pub inside_own : (e : Ent) (c o l : ℕ) → 0 < u → e.chunk ≡ c → e.off ≡ o → Inside u e c o l
  inside_own e c o l h i j = (i, omega arith, omega (arith, bytes_pos u l h))

  -- the two halves do not meet
  pub halves : (s : Side) (c o l : ℕ) (e : Ent) → Inside u e c (base u s o l) l → Inside u e c (base u (other s) o l) l → ⊥
  halves L c o l e h k = omega (arith, h.2, k.1)
  halves R c o l e h k = omega (arith, h.1, k.2)

  -- and the stretch is its two halves
  pub inside_cases : (s : Side) (e : Ent) (c o l : ℕ) → Inside u e c o (suc l) → Inside u e c (base u s o l) l ⊎ Inside u e c (base u (other s) o l) l
  inside_cases s e c o l h = go s (lt_or_le e.off (o + bytes u l))
    where
      go : (s : Side) → (e.off < o + bytes u l) ⊎ (o + bytes u l ≤ e.off) → Inside u e c (base u s o l) l ⊎ Inside u e c (base u (other s) o l) l
      go L (inl f) = inl (h.0, h.1, f)
      go L (inr f) = inr (h.0, f, omega (arith, bytes_suc u l, h.2))
      go R (inl f) = inr (h.0, h.1, f)
      go R (inr f) = inl (h.0, f, omega (arith, bytes_suc u l, h.2))

  -- ---- what keeps the entries of a stretch keeps what its node stands for

  pub frame_none : (E E' : ℕ → ℕ → Ent) (c l o : ℕ) → Keep u E E' c o l → None u E c l o → None u E' c l o
  frame_none E E' c l o k n i p h t s = let e : E' i p ≡ E i p = (k i p h).1 t s in n i p h (rw e at t) (inside_same (E' i p) (E i p) c o l e s)

  keep_half : (s : Side) (E E' : ℕ → ℕ → Ent) (c o l : ℕ) → Keep u E E' c o (suc l) → Keep u E E' c (base u s o l) l
  keep_half s E E' c o l k i p h = (
    (λ x y. (k i p (omega arith)).0 x (inside_half s (E i p) c o l y)),
    (λ x y. (k i p (omega arith)).1 x (inside_half s (E' i p) c o l y)),
  )

  pub frame : (E E' : ℕ → ℕ → Ent) (K : ℕ → Loan) (c l o n w : ℕ) (t : Tree) → 0 < u → Keep u E E' c o l → Rep u E K c l o n w t → Rep u E' K c l o n w t
  frame E E' K c l o n w free pu k r = (r.0, frame_none E E' c l o k r.1)
  frame E E' K c l o n w (loan j) pu k r = (r.0, r.1, frame_none E E' c l o k r.2)
  frame E E' K c zero o n w (split a b) pu k r = absurd r
  frame E E' K c (suc l) o n w (split a b) pu k r =
      let q = pair_said w in
      let t : 0 < (E l q).tag = rw r.tag (tag_pos (is_free a) (is_free b)) in
      let e : E' l q ≡ E l q = (k l q (omega arith)).0 t (inside_own (E l q) c o (suc l) pu r.chunk r.off) in
      record {
        is = r.is;
        tag = ap (λ d. d.tag) e ∙ r.tag;
        chunk = ap (λ d. d.chunk) e ∙ r.chunk;
        off = ap (λ d. d.off) e ∙ r.off;
        up = ap (λ d. d.up) e ∙ r.up;
        only = λ p h s. let f : E' l p ≡ E l p = (k l p (omega arith)).1 h s in r.only p (rw f at h) (inside_same (E' l p) (E l p) c o (suc l) f s);
        this = rw e (frame E E' K c l o (node_of q L) (E l q).left a pu (keep_half L E E' c o l k) r.this);
        twin = rw e (frame E E' K c l (o + bytes u l) (node_of q R) (E l q).right b pu (keep_half R E E' c o l k) r.twin);
      }

  -- ---- changes within one stretch

  -- they keep the entries of another
  pub local_keep : (E E' : ℕ → ℕ → Ent) (c o l c' o' l' : ℕ) → ((e : Ent) → Inside u e c o l → Inside u e c' o' l' → ⊥) → Local u E E' c o l → Keep u E E' c' o' l'
  local_keep E E' c o l c' o' l' d f i p h = (
    (λ t s. ⊎_elim (λ e. e) (λ g. absurd (⊎_elim (λ z. omega arith) (λ z. d (E i p) z.1 s) g.0)) (f i p)),
    (λ t s. ⊎_elim (λ e. e) (λ g. absurd (⊎_elim (λ z. omega arith) (λ z. d (E' i p) z.1 s) g.1)) (f i p)),
  )

  pub local_up : (s : Side) (E E' : ℕ → ℕ → Ent) (c o l : ℕ) → Local u E E' c (base u s o l) l → Local u E E' c o (suc l)
  local_up s E E' c o l f i p = ⊎_elim (λ e. inl e) (λ g. inr (rise E g.0, rise E' g.1)) (f i p)
    where
      rise : (F : ℕ → ℕ → Ent) → Loc u F i p c (base u s o l) l → Loc u F i p c o (suc l)
      rise F (inl z) = inl z
      rise F (inr z) = inr (omega arith, inside_half s (F i p) c o l z.1)

  loc_same : (E E' : ℕ → ℕ → Ent) (i p c o l : ℕ) → E' i p ≡ E i p → Loc u E i p c o l → Loc u E' i p c o l
  loc_same E E' i p c o l e (inl z) = inl (rw e z)
  loc_same E E' i p c o l e (inr z) = inr (z.0, rw e z.1)

  pub local_trans : (A B C : ℕ → ℕ → Ent) (c o l : ℕ) → Local u A B c o l → Local u B C c o l → Local u A C c o l
  local_trans A B C c o l f g i p =
      ⊎_elim
      (λ e. ⊎_elim (λ d. inl (d ∙ e)) (λ d. inr (loc_same B A i p c o l (sym e) d.0, d.1)) (g i p))
      (λ e. ⊎_elim (λ d. inr (e.0, loc_same B C i p c o l d e.1)) (λ d. inr (e.0, d.1)) (g i p))
      (f i p)

  -- a pair in use at the node's level or above stays, and none is new there
  pub local_here : (E E' : ℕ → ℕ → Ent) (c o l p : ℕ) → Local u E E' c o l → 0 < (E l p).tag → E' l p ≡ E l p
  local_here E E' c o l p f t = ⊎_elim (λ e. e) (λ g. absurd (⊎_elim (λ z. omega arith) (λ z. omega (arith, z.0)) g.0)) (f l p)

  pub local_there : (E E' : ℕ → ℕ → Ent) (c o l p : ℕ) → Local u E E' c o l → 0 < (E' l p).tag → E' l p ≡ E l p
  local_there E E' c o l p f t = ⊎_elim (λ e. e) (λ g. absurd (⊎_elim (λ z. omega arith) (λ z. omega (arith, z.0)) g.1)) (f l p)

  -- ---- what a node's word and a loan's record say

  -- the word is 0 exactly at a free node
  pub rep_zero : (E : ℕ → ℕ → Ent) (K : ℕ → Loan) (c l o n : ℕ) (t : Tree) → Rep u E K c l o n 0 t → t ≡ free
  rep_zero E K c l o n free r = refl
  rep_zero E K c l o n (loan k) r = absurd (omega (arith, r.0))
  rep_zero E K c zero o n (split a b) r = absurd r
  rep_zero E K c (suc l) o n (split a b) r = absurd (omega (arith, r.is))

  pub rep_free : (E : ℕ → ℕ → Ent) (K : ℕ → Loan) (c l o n w : ℕ) (t : Tree) → Rep u E K c l o n w t → is_free t ≡ true → (t ≡ free) × (w ≡ 0)
  rep_free E K c l o n w free r e = (refl, r.0)
  rep_free E K c l o n w (loan k) r e = absurd (true_false _ e refl)
  rep_free E K c l o n w (split a b) r e = absurd (true_false _ e refl)

  pub rep_taken : (E : ℕ → ℕ → Ent) (K : ℕ → Loan) (c l o n w : ℕ) (t : Tree) → Rep u E K c l o n w t → is_free t ≡ false → w ≡ 0 → ⊥
  rep_taken E K c l o n w free r e z = true_false _ refl e
  rep_taken E K c l o n w (loan k) r e z = omega (arith, r.0)
  rep_taken E K c zero o n w (split a b) r e z = absurd r
  rep_taken E K c (suc l) o n w (split a b) r e z = omega (arith, r.is)

  -- a loan's own record says where it is, so no other node has it; where it is the whole node, it is this node
  pub rep_loan : (E : ℕ → ℕ → Ent) (K : ℕ → Loan) (c l o n w : ℕ) (t : Tree) (y : Piece) (k : ℕ) → Rep u E K c l o n w t → Has u l o t y → y.who ≡ k + 1
      → ((K k).chunk ≡ c) × ((K k).at ≡ y.at) × ((K k).lev ≡ y.lev) × (y.lev ≡ l → (K k).node ≡ n)
  rep_loan E K c l o n w free y k r h e = absurd h
  rep_loan E K c l o n w (loan j) y k r h e =
      let i : k ≡ j = omega (arith, h.2) in
      let f : K k ≡ record { chunk = c; at = o; lev = l; node = n } = ap K i ∙ r.1 in
      (ap (λ d. d.chunk) f, ap (λ d. d.at) f ∙ sym h.0, ap (λ d. d.lev) f ∙ sym h.1, (λ z. ap (λ d. d.node) f))
  rep_loan E K c zero o n w (split a b) y k r h e = absurd h
  rep_loan E K c (suc l) o n w (split a b) y k r (inl h) e =
      let i = rep_loan E K c l o (node_of (pair_said w) L) (E l (pair_said w)).left a y k r.this h e in
      (i.0, i.1, i.2, (λ z. absurd (omega (arith, (has_in u l o a y h).2))))
  rep_loan E K c (suc l) o n w (split a b) y k r (inr h) e =
      let i = rep_loan E K c l (o + bytes u l) (node_of (pair_said w) R) (E l (pair_said w)).right b y k r.twin h e in
      (i.0, i.1, i.2, (λ z. absurd (omega (arith, (has_in u l (o + bytes u l) b y h).2))))

  -- a loan that is not there is removed by doing nothing
  pub remove_absent : (k l o : ℕ) (t : Tree) → 0 < u → Wf l t → ((y : Piece) → Has u l o t y → y.who ≡ k + 1 → ⊥) → remove k t ≡ t
  remove_absent k l o t pu w n =
      canon u l o (remove k t) t pu (prune_wf (eqb k) l t w) w
      (λ y h. ((prune_has u (eqb k) l o t y w).0 h).0)
      (λ y h. (prune_has u (eqb k) l o t y w).1 (h, λ j e. ne_eqb k j (λ f. n y h (omega arith))))
