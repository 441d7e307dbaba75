-- The place that a block is taken from: the first level upward that has a pair with one free side, and there the head pair's
-- ready side, whose left end is lent. 01, "buddy.rs".
use mathlib.Core.Path.{◌≡◌, sym, ap, ◌∙◌}
use Prim.Native.Nat.{ℕ, ◌≤◌, ◌<◌}
use native.Mathlib.Omega.{arith}
use Rattle.counter.specs.InTable.{BuddyIn}
use Rattle.counter.specs.Paper as Paper
use Rattle.counter.specs.declared.account.Account.{Account}
use Rattle.counter.specs.declared.settings.BuddySettings.{BuddySettings}
use Rattle.slabs.specs.Slab.{nowhere}
use Rattle.buddy_rules.specs.Levels.{base_of}
use Rattle.buddy_rules.specs.Nodes.{Ent}
use Rattle.buddy_rules.specs.Level.{ent_of, ring_head}
use Rattle.buddy_rules.proofs.Cells.{pair_used}
use Rattle.buddy_rules.proofs.Rings.{ready_mem, head_mem, mem_head}
use Rattle.buddy_rules.specs.Tables.{Tables, levels_in, level_from, pairs_in}
use Rattle.buddy_rules.specs.Sound.{Sound}
use Rattle.buddy_outcomes.specs.Ask.{level_for, head_ent, ask_of}
use Rattle.buddy_outcomes.proofs.Changed.{few_pairs}
use Rattle.buddy_outcomes.proofs.Lendings.{ask_served}
use Rattle.buddy_outcomes.proofs.Taken as Taken

module _ (s : BuddySettings) (t : Tables) (fit : BuddyIn s) (sound : Sound s t) (j : ℕ) (below : j < levels_in t) where
  -- where the ring has no head no pair has a free side
  none_ready : ring_head (level_from s j) t.room ≡ nowhere → (p : ℕ) → 1 < (pairs_in s t j p).tag → ⊥
  none_ready e p h =
      let G = sound.good j below in
      mem_head (level_from s j) s.pairs t.room G (few_pairs s fit) p (ready_mem (level_from s j) s.pairs t.room G p h) e

  -- the head is a pair in use, with one ready side
  head_pair : (ring_head (level_from s j) t.room ≡ nowhere → ⊥)
      → (head_ent s t j ≡ pairs_in s t j (ring_head (level_from s j) t.room)) × (1 < (pairs_in s t j (ring_head (level_from s j) t.room)).tag)
  head_pair some =
      let G = sound.good j below in
      let p = ring_head (level_from s j) t.room in
      let m = head_mem (level_from s j) s.pairs t.room G some in
      let e : pairs_in s t j p ≡ ent_of (level_from s j) t.room p = pair_used (level_from s j) t.room p (G.below p m) in
      let f : (pairs_in s t j p).tag ≡ (ent_of (level_from s j) t.room p).tag = ap (λ (x : Ent). x.tag) e in
      (sym e, omega (arith, f, G.ready p m))

-- "Search upward; the first level with a ready side ends the search": no level from the ask's own on, below the one that serves,
-- has a pair with a free side; "Acquire takes the head pair's ready side"; "always keeping the left": the block begins where it does
pub taken_first : (s : BuddySettings) (a : Account) (size mask : ℕ) (t : Tables) (serial chunk offset len : ℕ) → (ask_of s a size mask t).said ≡ Paper.block serial chunk offset len
    → (i : ℕ) × (level_for s size mask ≤ i) × (i < levels_in t)
    × ((j : ℕ) → level_for s size mask ≤ j → j < i → (p : ℕ) → 1 < (pairs_in s t j p).tag → ⊥)
    × (1 < (pairs_in s t i (ring_head (level_from s i) t.room)).tag)
    × (chunk ≡ (pairs_in s t i (ring_head (level_from s i) t.room)).chunk)
    × (offset ≡ base_of s.minimal (pairs_in s t i (ring_head (level_from s i) t.room)) i)
taken_first s a size mask t serial chunk offset len q =
    let v = ask_served s a size mask t serial chunk offset len q in
    let i = v.level in
    let w = v.taken in
    let fit = v.passed.lent.settings in
    let sound = v.passed.sound in
    let f = Taken.first s t fit v.passed.lent.lengths sound size mask i w.found w.aligned w.sized w.room in
    let h = head_pair s t fit sound i f.1 f.2 in (
      i,
      f.0,
      f.1,
      (λ j g k. none_ready s t fit sound j (omega (arith, f.1)) (f.3 j g k)),
      h.1,
      v.chunk_is ∙ ap (λ (e : Ent). e.chunk) h.0,
      v.offset_is ∙ ap (λ (e : Ent). base_of s.minimal e i) h.0,
    )
