-- Climbing from a loan's node by parents is the recursion from its chunk's top.
use mathlib.Core.Path.{◌≡◌, refl, ap, ◌∙◌}
use mathlib.Core.Bool.{Bool, true, false, cond}
use mathlib.Core.Logic.{◌⊎◌, inl, inr}
use Prim.Native.Nat.{ℕ, zero, suc, ◌+◌, ◌*◌, ◌-◌, ◌/◌, ◌%◌, ◌≤◌, ◌<◌}
use native.Mathlib.Omega.{arith}
use lib.Dec.{eqb, ltb}
use borrow.Author.Tests.{eq-eqb, ne_eqb, lt-ltb, le-ltb}
use Rattle.lists.proofs.Bools.{told}
use Rattle.slabs.specs.Slab.{nowhere}
use Rattle.buddy_trees.specs.Trees.{Tree, free, loan, split, Wf, bytes, Has}
use Rattle.buddy_trees.proofs.Bytes.{bytes_pos}
use Rattle.buddy_trees.proofs.Fills.{has_in}
use Rattle.buddy_rules.specs.Nodes.{Loan, Side, L, R, other, node_of, word, pair_said, base, Rep}
use Rattle.buddy_rules.specs.Levels.{Ops, side_by}
use Rattle.buddy_rules.specs.Returns.{entries, put, Out, out, settle, settled, climb, give}
use Rattle.buddy_rules.proofs.Sides.{tag_any, NodeBy, to_side}
use Rattle.buddy_rules.proofs.Gave.{gave, mid_entry}

-- a node's number tells its pair and its side
pub node_pair : (q : ℕ) (s : Side) → node_of q s / 2 ≡ q
node_pair q L = omega arith
node_pair q R = omega arith

pub node_side : (q : ℕ) (s : Side) → side_by (eqb (node_of q s % 2) 0) ≡ s
node_side q L = ap side_by (eq-eqb (2 * q % 2) 0 (omega arith))
node_side q R = ap side_by (ne_eqb ((2 * q + 1) % 2) 0 (λ e. omega arith))

-- and is no chain's end where both nodes of its pair have numbers
pub node_some : (q : ℕ) (s : Side) → 2 * q + 1 < nowhere → node_of q s ≡ nowhere → ⊥
node_some q L h e = omega arith
node_some q R h e = omega arith

module _ (O : Ops) where
  -- a return that came as far as node n of level l goes on from there, if the node is free now
  abbrev next : Out O → ℕ → ℕ → ℕ → Out O
  next r f l n = cond r.freed (climb O r.levels f l n) r

  -- above the top the climb ends
  climb_top : (W : ℕ → O.Lv) (f l : ℕ) → climb O W f l nowhere ≡ out O true W
  unfolding climb
  climb_top W zero l = refl
  climb_top W (suc f) l = refl

  climb_one : (W : ℕ → O.Lv) (f l n : ℕ) → (n ≡ nowhere → ⊥)
      → climb O W (suc f) l n
      ≡ cond (eqb (word (other (side_by (eqb (n % 2) 0))) (O.ent (W l) (n / 2))) 0)
      (climb O (put O W l (O.drop (W l) (n / 2))) f (suc l) (O.ent (W l) (n / 2)).up)
      (out O false (put O W l (O.back (W l) (n / 2) (side_by (eqb (n % 2) 0)))))
  unfolding climb
  climb_one W f l n h = rw (ne_eqb n nowhere h)

  -- side s of pair q was given back: one step of the climb settles it
  climb_side : (W : ℕ → O.Lv) (f l q n : ℕ) (s : Side) → (node_of q s ≡ nowhere → ⊥) → (O.ent (W l) q).up ≡ n → climb O W (suc f) l (node_of q s) ≡ next (settle O l q s true W) f (suc l) n
  climb_side W f l q n s h e = climb_one W f l (node_of q s) h ∙ rw (node_side q s, node_pair q s) (go (eqb (word (other s) (O.ent (W l) q)) 0))
    where
      go : (b : Bool)
          → cond b (climb O (put O W l (O.drop (W l) q)) f (suc l) (O.ent (W l) q).up) (out O false (put O W l (O.back (W l) q s)))
          ≡ next (cond b (out O true (put O W l (O.drop (W l) q))) (out O false (put O W l (O.back (W l) q s)))) f (suc l) n
      go true = ap (climb O (put O W l (O.drop (W l) q)) f (suc l)) e
      go false = refl

  -- what the recursion does with a half, the climb does from the half's node
  climb_next : (r : Out O) (f l q n : ℕ) (s : Side) → (node_of q s ≡ nowhere → ⊥) → (O.ent (r.levels l) q).up ≡ n → next r (suc f) l (node_of q s) ≡ next (settled O l q s r) f (suc l) n
  climb_next r f l q n s h e = go (told r.freed)
    where
      go : (r.freed ≡ true) ⊎ (r.freed ≡ false) → next r (suc f) l (node_of q s) ≡ next (settled O l q s r) f (suc l) n
      go (inl z) = rw z (climb_side r.levels f l q n s h e)
      go (inr z) = rw z

  next_top : (r : Out O) (f l : ℕ) → next r f l nowhere ≡ r
  next_top r f l = go (told r.freed)
    where
      go : (r.freed ≡ true) ⊎ (r.freed ≡ false) → next r f l nowhere ≡ r
      go (inl z) = rw z (climb_top r.levels f l)
      go (inr z) = rw z

module _ (u : ℕ) (O : Ops) (K : ℕ → Loan) where
  -- one level up, seen from the half that the loan is in
  reached_side : 0 < u → (W : ℕ → O.Lv) (c l n w o x lev k F f : ℕ) (s : Side) (a b : Tree) → ((i : ℕ) → i < suc l → O.Good (W i)) → ((i p : ℕ) → i < suc l → 0 < (entries O W i p).tag → 2 * p + 1 < nowhere)
      → Wf l a → NodeBy u (entries O W) K c l o n w s a b → Has u l (base u s o l) a (record { at = x; lev = lev; who = k + 1 })
      → climb O W F lev (K k).node ≡ next O (give u O W l (word s (O.ent (W l) (pair_said w))) (base u s o l) x) (suc f) l (node_of (pair_said w) s)
      → climb O W F lev (K k).node ≡ next O (settled O l (pair_said w) s (give u O W l (word s (O.ent (W l) (pair_said w))) (base u s o l) x)) f (suc l) n
  reached_side pu W c l n w o x lev k F f s a b g y v r h e =
      let G = give u O W l (word s (O.ent (W l) (pair_said w))) (base u s o l) x in
      let d = gave u O K pu W c l (node_of (pair_said w) s) (word s (O.ent (W l) (pair_said w))) (base u s o l) x lev k a (λ i z. g i (omega arith)) v r.this h in
      let m = mid_entry u O K pu W c l o n w s a b G.levels r d.local in
      e ∙ climb_next O G f l (pair_said w) n s (node_some (pair_said w) s (y l (pair_said w) (omega arith) (rw r.tag (tag_any s a b)))) (ap (λ z. z.up) m ∙ r.up)

  -- the climb from the loan's node has come to node n of level l, with f levels left
  reached : 0 < u → (W : ℕ → O.Lv) (c l n w o x lev k F f : ℕ) (t : Tree) → ((i : ℕ) → i < l → O.Good (W i)) → ((i p : ℕ) → i < l → 0 < (entries O W i p).tag → 2 * p + 1 < nowhere)
      → Wf l t → Rep u (entries O W) K c l o n w t → Has u l o t (record { at = x; lev = lev; who = k + 1 }) → lev + F ≡ l + f
      → climb O W F lev (K k).node ≡ next O (give u O W l w o x) f l n
  unfolding give
  reached pu W c l n w o x lev k F f free g y v r h e = absurd h
  reached pu W c zero n w o x lev k F f (loan j) g y v r h e =
      let i : k ≡ j = omega (arith, h.2) in
      let q : F ≡ f = omega (arith, h.1) in
      rw (h.1, q, ap (λ z. z.node) (ap K i ∙ r.1))
  reached pu W c (suc l) n w o x lev k F f (loan j) g y v r h e =
      let i : k ≡ j = omega (arith, h.2) in
      let q : F ≡ f = omega (arith, h.1) in
      let m : w % 2 ≡ 1 = omega (arith, r.0) in
      rw (m, h.1, q, ap (λ z. z.node) (ap K i ∙ r.1))
  reached pu W c zero n w o x lev k F f (split a b) g y v r h e = absurd h
  reached pu W c (suc l) n w o x lev k F f (split a b) g y v r (inl h) e =
      let i = has_in u l o a (record { at = x; lev = lev; who = k + 1 }) h in
      let m : w % 2 ≡ 0 = omega (arith, r.is) in
      let z : ltb x (o + bytes u l) ≡ true = lt-ltb x (o + bytes u l) (omega (arith, bytes_pos u lev pu)) in
      rw (m, z) (reached_side pu W c l n w o x lev k F f L a b g y v.1 r h
      (reached pu W c l (node_of (pair_said w) L) (O.ent (W l) (pair_said w)).left o x lev k F (suc f) a (λ i j. g i (omega arith)) (λ i p j. y i p (omega arith)) v.1 r.this h (omega arith)))
  reached pu W c (suc l) n w o x lev k F f (split a b) g y v r (inr h) e =
      let i = has_in u l (o + bytes u l) b (record { at = x; lev = lev; who = k + 1 }) h in
      let m : w % 2 ≡ 0 = omega (arith, r.is) in
      let z : ltb x (o + bytes u l) ≡ false = le-ltb x (o + bytes u l) (omega arith) in
      rw (m, z) (reached_side pu W c l n w o x lev k F f R b a g y v.2 (to_side u (entries O W) K c l o n w R b a r) h
      (reached pu W c l (node_of (pair_said w) R) (O.ent (W l) (pair_said w)).right (o + bytes u l) x lev k F (suc f) b (λ i j. g i (omega arith)) (λ i p j. y i p (omega arith)) v.2 r.twin h (omega arith)))

  -- the two returns are the same
  pub climb_give : 0 < u → (W : ℕ → O.Lv) (c l w x lev k f : ℕ) (t : Tree) → ((i : ℕ) → i < l → O.Good (W i)) → ((i p : ℕ) → i < l → 0 < (entries O W i p).tag → 2 * p + 1 < nowhere) → Wf l t → Rep u (entries O W) K c l 0 nowhere w t
      → Has u l 0 t (record { at = x; lev = lev; who = k + 1 }) → l ≤ lev + f → climb O W f lev (K k).node ≡ give u O W l w 0 x
  climb_give pu W c l w x lev k f t g y v r h e =
      reached pu W c l nowhere w 0 x lev k f (lev + f - l) t g y v r h (omega arith) ∙ next_top O (give u O W l w 0 x) (lev + f - l) l
