-- In a good level every pair that was ever used is there, and so are those of its ring.
use Rattle.std.proofs.Common.{◌≡◌, ℕ, ◌+◌, ◌<◌, ◌≤◌, List, length, get_or, ap, subst, arith}
use Rattle.lists.specs.Members.{Mem}
use Rattle.slabs.specs.declared.Taken.{Taken}
use Rattle.slabs.proofs.Places.{insert_first}
use Rattle.ring_rules.specs.Ring.{next, prev}
use Rattle.ring_rules.proofs.Rings.{ring_near}
use Rattle.buddy_rules.specs.Level.{ring_at, used_at, pair_words, off_at, next_at, prev_at, level_words, field_at, ring_head, slab_in, pair_taken, Good}
use Rattle.buddy_rules.proofs.Rings.{used_below, head_mem}
use Rattle.buddy_levels.specs.Stands.{Stands, pair_after, pair_before, Leaves, Joins, Takes}

-- where the place that is taken is there, so is what tells it
pub taken_takes : (b : ℕ) (t : List ℕ) → Stands b (pair_taken b t).place t → Takes b t
taken_takes b t h =
    record {
      header = omega (arith, h);
      link = λ l. let e : (pair_taken b t).place ≡ (slab_in b t).vacant = ap (λ (u : Taken). u.place) (insert_first (slab_in b t) t (field_at b off_at) pair_words l) in subst (λ (x : ℕ). Stands b x t) e h;
    }

module _ (b pairs : ℕ) (t : List ℕ) (G : Good b pairs t) (long : b + level_words pairs ≤ length t) where
  pub used_stands : (p : ℕ) → p < get_or t (b + used_at) 0 → Stands b p t
  used_stands p h = omega (arith, used_below b pairs t G p h)

  member_stands : (p : ℕ) → Mem p G.ring → Stands b p t
  member_stands p m = used_stands p (G.below p m)

  near : (p : ℕ) → Mem p G.ring → Mem (pair_after b t p) G.ring × Mem (pair_before b t p) G.ring
  near p m = ring_near (next (b + ring_at) (field_at b next_at) (field_at b prev_at) pair_words t) (prev (b + ring_at) (field_at b next_at) (field_at b prev_at) pair_words t) p G.ring G.rings.ring m

  -- a pair of the ring can leave it
  pub member_leaves : (p : ℕ) → Mem p G.ring → Leaves b p t
  member_leaves p m = record { own = member_stands p m; after = member_stands _ (near p m).0; before = member_stands _ (near p m).1 }

  -- and any that was used can join
  pub used_joins : (p : ℕ) → p < get_or t (b + used_at) 0 → Joins b p t
  used_joins p h =
      record {
        own = used_stands p h;
        first = λ o. member_stands (ring_head b t) (head_mem b pairs t G o);
        last = λ o. member_stands _ (near (ring_head b t) (head_mem b pairs t G o)).1;
      }

  -- and it can be told where the next one goes
  pub good_takes : Takes b t
  good_takes = record { header = omega arith; link = λ l. used_stands (slab_in b t).vacant l }
