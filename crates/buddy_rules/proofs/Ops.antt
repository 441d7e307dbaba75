-- A level of words is a level as the theory of trees has it: all of its laws hold.
use mathlib.Core.Path.{◌≡◌, ◌∙◌}
use mathlib.Core.List.{List}
use mathlib.Core.Logic.{⊎_elim}
use Prim.Native.Nat.{ℕ, ◌^◌, ◌≤◌, ◌<◌}
use native.Mathlib.Omega.{arith}
use lib.ListN.{length}
use Rattle.lists.proofs.Bools.{same?}
use Rattle.slabs.specs.Slab.{nowhere}
use Rattle.buddy_rules.specs.Levels.{Ops}
use Rattle.buddy_rules.specs.Level.{level_words, pair_in, ring_head, pair_taken, dropped, backed, acquired, added, Good}
use Rattle.buddy_rules.proofs.Rings.{ready_mem, mem_head}
use Rattle.buddy_rules.proofs.TakenPairs.{taken_vacant}
use Rattle.buddy_rules.proofs.Dropped.{dropped_length, dropped_good, dropped_here, dropped_other}
use Rattle.buddy_rules.proofs.Backed.{backed_length, backed_good, backed_here, backed_other}
use Rattle.buddy_rules.proofs.Acquired.{head_ready, acquired_length, acquired_good, acquired_here, acquired_other}
use Rattle.buddy_rules.proofs.Added.{added_length, added_good, added_here, added_other}

-- a ring that is not other than empty is empty
pub empty : (h : ℕ) → ((h ≡ nowhere → ⊥) → ⊥) → h ≡ nowhere
empty h none = ⊎_elim (λ e. e) (λ ne. absurd (none ne)) (same? h nowhere)

abbrev pub level_ops : (pairs : ℕ) → pairs ≤ 2 ^ 32 → Ops
level_ops pairs few = record {
  Lv = List ℕ;
  ent = pair_in 0;
  Good = λ v. (length v ≡ level_words pairs) × Good 0 pairs v;
  drop = λ v p. dropped 0 p v;
  drop_good = λ v p G r. (dropped_length 0 p v ∙ G.0, dropped_good 0 pairs v few (omega (arith, G.0)) G.1 p r);
  drop_here = λ v p G r. dropped_here 0 pairs v few (omega (arith, G.0)) G.1 p r;
  drop_other = λ v p x G r ne. dropped_other 0 pairs v few (omega (arith, G.0)) G.1 p r x ne;
  back = λ v p s. backed 0 p s v;
  back_good = λ v p s G e. (backed_length 0 p s v ∙ G.0, backed_good 0 p s v pairs (omega (arith, G.0)) G.1 e few);
  back_here = λ v p s G e. backed_here 0 p s v pairs (omega (arith, G.0)) G.1 e;
  back_other = λ v p s x G e ne. backed_other 0 p s v pairs (omega (arith, G.0)) G.1 e x ne;
  Some = λ v. ring_head 0 v ≡ nowhere → ⊥;
  head = ring_head 0;
  head_ready = λ v G some. head_ready 0 0 v pairs (omega (arith, G.0)) G.1 some;
  ready_some = λ v p G r. mem_head 0 pairs v G.1 few p (ready_mem 0 pairs v G.1 p r);
  take = λ v w. acquired 0 w v;
  take_good = λ v w G some. (acquired_length 0 w v ∙ G.0, acquired_good 0 w v pairs (omega (arith, G.0)) G.1 some few);
  take_here = λ v w G some. acquired_here 0 w v pairs (omega (arith, G.0)) G.1 some;
  take_other = λ v w x G some ne. acquired_other 0 w v pairs (omega (arith, G.0)) G.1 some x ne;
  Room = λ v. (pair_taken 0 v).place < pairs;
  new_place = λ v. (pair_taken 0 v).place;
  new_place_vacant = λ v G room. taken_vacant 0 pairs v few G.1;
  add = λ v c o n w. added 0 c o n w v;
  add_good = λ v c o n w G room none. (
    added_length 0 c o n w v ∙ G.0,
    added_good 0 c o n w v pairs few (omega (arith, G.0)) G.1 room (empty (ring_head 0 v) none),
  );
  add_here = λ v c o n w G room none. added_here 0 c o n w v pairs few (omega (arith, G.0)) G.1 room;
  add_other = λ v c o n w x G room none ne. added_other 0 c o n w v pairs few (omega (arith, G.0)) G.1 room x ne;
}
