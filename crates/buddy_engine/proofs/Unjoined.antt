-- Of a buddy's free pieces no two are the halves of one pair.
use mathlib.Core.Path.{◌≡◌, sym, ap, subst, ◌∙◌}
use mathlib.Core.Logic.{inl, inr}
use mathlib.Core.List.{List, Memᴰ}
use Prim.Native.Nat.{ℕ, suc, ◌+◌, ◌*◌, ◌≤◌, ◌<◌}
use native.Mathlib.Nat.{mul-add, zero-mul}
use native.Mathlib.Omega.{arith}
use Rattle.store_rules.specs.declared.Chunk.{Chunk}
use Rattle.store_rules.specs.declared.Loan.{Loan}
use Rattle.store_rules.specs.declared.Region.{Region}
use Rattle.buddy_trees.specs.Trees.{bytes, Free}
use Rattle.buddy_trees.specs.Chunks.{high_of, tree_in, free_in, Standing}
use Rattle.buddy_trees.proofs.Bytes.{bytes_suc, bytes_lower}
use Rattle.buddy_trees.proofs.Serving.{region_free, free_where}
use Rattle.buddy_rules.proofs.Frees.{region_chunk_lem}
use Rattle.buddy_outcomes.proofs.Pieces.{twins_taken}
use Rattle.buddy_engine.specs.Shape.{Halves, Twins}

module _ (u : ℕ) (pos : 0 < u) where
  -- a multiple of a pair's size
  doubled : (k m : ℕ) → k * bytes u (suc m) ≡ 2 * (k * bytes u m)
  doubled k m = omega (arith, ap (λ (n : ℕ). k * n) (bytes_suc u m), mul-add k (bytes u m) (bytes u m))

  module _ (ls : List Loan) (cs : List Chunk) (S : Standing u ls cs) where
    -- a free piece is a free node of a held chunk, of the level that its length tells
    node : (r : Region) (m : ℕ) → Memᴰ r (free_in u ls cs) → r.end ≡ r.start + bytes u m
        → (c : Chunk) × Memᴰ c cs × (r.chunk ≡ c.number) × Free u (high_of u c) 0 (tree_in u ls c) r.start m
    node r m i e =
        let w = free_where u ls cs r i in
        let c = w.0 in
        let v = region_free u c.number (high_of u c) 0 (tree_in u ls c) r w.2 in
        let a : v.0 ≤ m = bytes_lower u v.0 m pos (omega (arith, e, v.2)) in
        let b : m ≤ v.0 = bytes_lower u m v.0 pos (omega (arith, e, v.2)) in
        let z : v.0 ≡ m = omega (arith, a, b) in
        (c, w.1, region_chunk_lem u c.number (high_of u c) 0 (tree_in u ls c) r w.2, subst (Free u (high_of u c) 0 (tree_in u ls c) r.start) z v.1)

    no_halves : (p q : Region) → Memᴰ p (free_in u ls cs) → Memᴰ q (free_in u ls cs) → Halves u p q → ⊥
    no_halves p q i j h =
        let v = node p h.level i h.left in
        let w = node q h.level j h.right in
        let c = v.0 in
        let same : w.0 ≡ c = S.numbers w.0 c w.1 v.1 (sym w.2 ∙ sym h.chunk ∙ v.2) in
        let g : Free u (high_of u c) 0 (tree_in u ls c) q.start h.level = subst (λ (d : Chunk). Free u (high_of u d) 0 (tree_in u ls d) q.start h.level) same w.3 in
        twins_taken u pos (high_of u c) 0 0 (tree_in u ls c) (S.wf c v.1) (sym (zero-mul (bytes u (high_of u c)))) p.start h.level h.place (h.begins ∙ doubled h.place h.level) v.3
        (subst (λ (x : ℕ). Free u (high_of u c) 0 (tree_in u ls c) x h.level) (h.meets ∙ h.left) g)

    pub unjoined : (p q : Region) → Memᴰ p (free_in u ls cs) → Memᴰ q (free_in u ls cs) → Twins u p q → ⊥
    unjoined p q i j (inl h) = no_halves p q i j h
    unjoined p q i j (inr h) = no_halves q p j i h
