-- Where the walks of all chunks pass they meet no more than is in use; where they meet as much, the trees are the store's, and their
-- leaves are the loans and the ready pairs.
use mathlib.Core.Path.{◌≡◌, refl, sym, ap, ap₂, ◌∙◌, subst}
use mathlib.Core.Bool.{Bool, true, false, cond, not}
use mathlib.Core.Logic.{◌⊎◌, inl, inr, ⊎_elim}
use mathlib.Core.List.{List, [], ◌++◌}
use Prim.Native.Nat.{ℕ, zero, suc, ◌+◌, ◌*◌, ◌/◌, ◌%◌, ◌≤◌, ◌<◌}
use native.Mathlib.Omega.{arith}
use lib.Dec.{ltb}
use lib.ListN.{length, length-append}
use borrow.Author.Tests.{ne_eqb, ltb-true, lt-ltb}
use Rattle.lists.specs.Members.{Mem, Distinct}
use Rattle.lists.proofs.Bools.{same?, and_left, true_false}
use Rattle.lists.proofs.Members.{mem_left, mem_right, mem_cases, distinct_append, no_more, fills}
use Rattle.counter.specs.Limits.{levels_most}
use Rattle.counter.specs.InTable.{BuddyIn}
use Rattle.counter.specs.declared.settings.BuddySettings.{BuddySettings}
use Rattle.slabs.specs.Slab.{nowhere}
use Rattle.slabs.specs.Test.{vacancies}
use Rattle.store_rules.specs.Loans.{size_at}
use Rattle.buddy_trees.specs.Trees.{Has, bytes}
use Rattle.buddy_trees.proofs.Bytes.{bytes_pos}
use Rattle.buddy_rules.specs.Nodes.{is_free}
use Rattle.buddy_rules.specs.Stores.{piece}
use Rattle.buddy_rules.specs.Tables.{Tables, levels_in, chunk_places_in, pairs_in, loan_cell, loan_in, live_in, held_in, high_in, top_in, vacant_chunk}
use Rattle.buddy_rules.specs.Sound.{Trees}
use Rattle.buddy_rules.specs.Test.{every, live_count, held_count}
use Rattle.buddy_rules.proofs.Looks.{chunk_ok}
use Rattle.buddy_rules.proofs.Frames.{rep_taken}
use Rattle.buddy_rules.proofs.Sides.{taken_not, not_taken}
use Rattle.buddy_rules.proofs.Shapes.{meets_in, shape_wf, shape_loan}
use Rattle.buddy_rules.proofs.Stands.{Met, shape_rep, rep_met, rep_shape}
use Rattle.buddy_rules.proofs.Walks.{tree_word, shape_tree, Sees, minimal_pos, walk_yes, walk_all}
use Rattle.buddy_rules.proofs.Tests.{every_yes, every_all, ChunkIs, chunk_yes, chunk_all}
use Rattle.buddy_rules.proofs.CountDown.{met, chunk_tree, mets_in}
use Rattle.buddy_rules.proofs.Items.{item, items, chunk_said, loan_says, pair_says, item_lies, items_once, items_long, items_used, item_met, met_item, item_had, had_item}
use Rattle.buddy_rules.proofs.InUse.{PairItem, in_use_items, pair_listed, loan_listed, listed_only, listed_once, listed_long, listed_weigh, item_is, pairs_used, readies_in}
use Rattle.buddy_rules.proofs.Leaves.{one, leafs, tree_leafs}
use Rattle.buddy_rules.proofs.Totals.{total, weight, weight_append, weighs_less}

module _ (s : BuddySettings) (t : Tables) where
  -- ---- what the walks of all chunks meet

  abbrev items_of : ℕ → List ℕ
  items_of c = items (pairs_in s t) (high_in s t c) (top_in s t c) (chunk_tree s t c)

  -- of the chunks at the first n places
  unfoldable items_in : ℕ → List ℕ
  items_in zero = []
  items_in (suc n) = items_in n ++ cond (held_in t n) (items_of n) []

  record In (n x : ℕ) : Type 0 where
    pub c : ℕ
    pub low : c < n
    pub holds : held_in t c ≡ true
    pub has : Mem x (items_of c)

  in_only : (n x : ℕ) → Mem x (items_in n) → In n x
  unfolding items_in
  in_only zero x m = absurd m
  in_only (suc n) x m =
      ⊎_elim
      (λ z. let r = in_only n x z in record { c = r.c; low = omega (arith, r.low); holds = r.holds; has = r.has })
      (λ z. go (held_in t n) refl z)
      (mem_cases x (items_in n) (cond (held_in t n) (items_of n) []) m)
    where
      go : (b : Bool) → held_in t n ≡ b → Mem x (cond b (items_of n) []) → In (suc n) x
      go true e z = record { c = n; low = omega arith; holds = e; has = z }
      go false e z = absurd z

  in_all : (n c x : ℕ) → c < n → held_in t c ≡ true → Mem x (items_of c) → Mem x (items_in n)
  unfolding items_in
  in_all zero c x h e m = absurd (omega arith)
  in_all (suc n) c x h e m = go (same? c n) (λ k. in_all n c x k e m)
    where
      last : (b : Bool) → b ≡ true → Mem x (items_of n) → Mem x (cond b (items_of n) [])
      last true e m = m
      last false e m = absurd (true_false false e refl)

      go : (c ≡ n) ⊎ (c ≡ n → ⊥) → (c < n → Mem x (items_in n)) → Mem x (items_in n ++ cond (held_in t n) (items_of n) [])
      go (inl z) f = mem_right x (items_in n) (cond (held_in t n) (items_of n) []) (last (held_in t n) (rw z at e) (rw z at m))
      go (inr z) f = mem_left x (items_in n) (cond (held_in t n) (items_of n) []) (f (omega arith))

module _ (s : BuddySettings) (t : Tables) (fit : BuddyIn s) (levels : levels_in t ≤ levels_most) where
  -- a held chunk's place is one of those ever used
  held_low : (c : ℕ) → held_in t c ≡ true → c < chunk_places_in t
  held_low c h = ltb-true c (chunk_places_in t) (and_left (ltb c (chunk_places_in t)) _ h)

  -- how many chunks of the first n places are held
  abbrev helds_in : ℕ → ℕ
  helds_in n = total (λ (c : ℕ). one (held_in t c)) n

  helds_long : (n : ℕ) → n ≤ chunk_places_in t → helds_in n + vacancies (vacant_chunk t) n ≡ n
  unfolding total vacancies
  helds_long zero h = refl
  helds_long (suc n) h = rw (lt-ltb n (chunk_places_in t) (omega arith)) (go (vacant_chunk t n) (helds_long n (omega arith)))
    where
      go : (b : Bool) → helds_in n + vacancies (vacant_chunk t) n ≡ n → helds_in n + one (not b) + cond b (vacancies (vacant_chunk t) n + 1) (vacancies (vacant_chunk t) n) ≡ suc n
      go true e = omega arith
      go false e = omega arith

  helds_are : helds_in (chunk_places_in t) ≡ held_count t
  unfolding held_count
  helds_are = omega (arith, helds_long (chunk_places_in t) (omega arith))

  -- ---- where every walk passes

  module _ (chunks : (c : ℕ) → held_in t c ≡ true → ChunkIs s t c) where
    sees : (c : ℕ) → held_in t c ≡ true → Sees s t c (high_in s t c) 0 nowhere (top_in s t c) (chunk_tree s t c)
    sees c h = walk_yes s t (high_in s t c) c 0 nowhere (top_in s t c) fit (omega (arith, (chunks c h).most)) (chunks c h).walked

    low : (c : ℕ) → held_in t c ≡ true → high_in s t c < 64
    low c h = omega (arith, (chunks c h).most)

    -- an item says the chunk that has it
    says : (c x : ℕ) → held_in t c ≡ true → Mem x (items_of s t c) → chunk_said (pairs_in s t) (loan_in s t) x ≡ c
    says c x h m =
        (item_lies (pairs_in s t) (loan_in s t) s.minimal (minimal_pos s fit) (live_in t) (loan_cell t size_at) c (high_in s t c) 0 nowhere (top_in s t c) (chunk_tree s t c) x
        (low c h) (sees c h) m).1

    in_once : (n : ℕ) → Distinct (items_in s t n)
    unfolding items_in
    in_once zero = tt
    in_once (suc n) = go (held_in t n) refl (in_once n)
      where
        go : (b : Bool) → held_in t n ≡ b → Distinct (items_in s t n) → Distinct (items_in s t n ++ cond b (items_of s t n) [])
        go true e d =
            distinct_append (items_in s t n) (items_of s t n) d
            (items_once (pairs_in s t) (loan_in s t) s.minimal (minimal_pos s fit) (live_in t) (loan_cell t size_at) n (high_in s t n) 0 nowhere (top_in s t n) (chunk_tree s t n) (low n e) (sees n e))
            (λ x i j. let r = in_only s t n x i in omega (arith, r.low, says r.c x r.holds r.has, says n x e j))
        go false e d = distinct_append (items_in s t n) [] d tt (λ x i j. j)

    in_long : (n : ℕ) → length (items_in s t n) ≡ mets_in s t n
    unfolding items_in mets_in
    in_long zero = refl
    in_long (suc n) = length-append (items_in s t n) (cond (held_in t n) (items_of s t n) []) ∙ ap₂ ◌+◌ (in_long n) (go (held_in t n) refl)
      where
        go : (b : Bool) → held_in t n ≡ b → length (cond b (items_of s t n) []) ≡ cond b (met (chunk_tree s t n)) 0
        go true e =
            items_long (pairs_in s t) (loan_in s t) s.minimal (minimal_pos s fit) (live_in t) (loan_cell t size_at) n (high_in s t n) 0 nowhere (top_in s t n) (chunk_tree s t n) (sees n e)
        go false e = refl

    -- all of it is in use
    in_used : (n x : ℕ) → Mem x (items_in s t n) → Mem x (in_use_items s t)
    in_used n x m =
        let r = in_only s t n x m in
        let c = r.c in
        items_used (pairs_in s t) (loan_in s t) s.minimal (minimal_pos s fit) (live_in t) (loan_cell t size_at) (in_use_items s t) (levels_in t) (pair_listed s t) (loan_listed s t)
        c (high_in s t c) 0 nowhere (top_in s t c) (chunk_tree s t c) x (chunks c r.holds).most (sees c r.holds) r.has

    -- what they meet weighs the leaves of their trees, which no free chunk has one of
    in_weigh : (n : ℕ) → weight (leafs (pairs_in s t)) (items_in s t n) ≡ mets_in s t n + helds_in n
    unfolding items_in mets_in total
    in_weigh zero = refl
    in_weigh (suc n) =
        let a = weight_append (leafs (pairs_in s t)) (items_in s t n) (cond (held_in t n) (items_of s t n) []) in
        omega (arith, a, in_weigh n, go (held_in t n) refl)
      where
        go : (b : Bool) → held_in t n ≡ b → weight (leafs (pairs_in s t)) (cond b (items_of s t n) []) ≡ cond b (met (chunk_tree s t n)) 0 + one b
        go true e =
            let k : one (is_free (chunk_tree s t n)) ≡ 0 = ap one (tree_word (pairs_in s t) (high_in s t n) (top_in s t n) ∙ ne_eqb (top_in s t n) 0 (chunks n e).taken) in
            omega (arith, k, tree_leafs (pairs_in s t) (loan_in s t) s.minimal (live_in t) (loan_cell t size_at) n (high_in s t n) 0 nowhere (top_in s t n) (chunk_tree s t n) (low n e) (sees n e))
        go false e = refl

    -- ---- where all that is in use is met, the trees are the store's

    module _ (all : (x : ℕ) → Mem x (in_use_items s t) → Mem x (items_in s t (chunk_places_in t))) where
      pair_met : (l p : ℕ) → l < levels_in t → 0 < (pairs_in s t l p).tag
          → (held_in t (pairs_in s t l p).chunk ≡ true)
          × Met s.minimal (pairs_in s t) (high_in s t (pairs_in s t l p).chunk) 0 nowhere (top_in s t (pairs_in s t l p).chunk) (chunk_tree s t (pairs_in s t l p).chunk) l p
      pair_met l p h g =
          let x = item (suc l) p in
          let r = in_only s t (chunk_places_in t) x (all x (pair_listed s t l p h g)) in
          let c = r.c in
          let e : (pairs_in s t l p).chunk ≡ c = sym (pair_says (pairs_in s t) (loan_in s t) l p (omega arith)).0 ∙ says c x r.holds r.has in
          rw e (
            r.holds,
            item_met (pairs_in s t) (loan_in s t) s.minimal (minimal_pos s fit) (live_in t) (loan_cell t size_at) c (high_in s t c) 0 nowhere (top_in s t c) (chunk_tree s t c) l p
                (low c r.holds) (omega arith) (sees c r.holds) r.has,
          )

      loan_had : (k : ℕ) → live_in t k ≡ true
          → (held_in t (loan_in s t k).chunk ≡ true)
          × Has s.minimal (high_in s t (loan_in s t k).chunk) 0 (chunk_tree s t (loan_in s t k).chunk) (piece (loan_in s t k) k)
          × (loan_cell t size_at k ≡ bytes s.minimal (loan_in s t k).lev)
      loan_had k g =
          let x = item 0 k in
          let r = in_only s t (chunk_places_in t) x (all x (loan_listed s t k g)) in
          let c = r.c in
          let e : (loan_in s t k).chunk ≡ c = sym (loan_says (pairs_in s t) (loan_in s t) k).0 ∙ says c x r.holds r.has in
          let i =
          item_had (pairs_in s t) (loan_in s t) s.minimal (minimal_pos s fit) (live_in t) (loan_cell t size_at) c (high_in s t c) 0 nowhere (top_in s t c) (chunk_tree s t c) k
          (low c r.holds) (sees c r.holds) r.has
          in
          rw e (r.holds, i.0, i.1)

      stand : Trees s t
      stand =
          let u = s.minimal in
          let E = pairs_in s t in
          let K = loan_in s t in
          let size = loan_cell t size_at in
          let pu = minimal_pos s fit in
          record {
            sized = λ c h. let k = chunks c h in (k.sized, k.some, k.least, k.most);
            trees = chunk_tree s t;
            taken = λ c h. not_taken (chunk_tree s t c) (tree_word E (high_in s t c) (top_in s t c) ∙ ne_eqb (top_in s t c) 0 (chunks c h).taken);
            wf = λ c h. shape_wf u E K (live_in t) size c (high_in s t c) 0 nowhere (top_in s t c) (chunk_tree s t c) (sees c h);
            rep = λ c h.
                shape_rep u E K (live_in t) size pu c (high_in s t c) 0 nowhere (top_in s t c) (chunk_tree s t c) (sees c h)
                (λ i p g z j. let r = pair_met i p (omega (arith, (chunks c h).most)) z in rw j.0 at r.1);
            owned = λ l p h g.
                let r = pair_met l p h g in
                let c = (E l p).chunk in
                let i = meets_in u E (high_in s t c) 0 nowhere (top_in s t c) (chunk_tree s t c) (suc l) (E l p).off (E l p).up (2 * p + 2) r.1 in
                (r.0, omega (arith, i.2), omega (arith, i.1, bytes_pos u (suc l) pu, (chunks c r.0).sized));
            loans_sized = λ k h. (loan_had k h).2;
            has = λ k h. let i = loan_had k h in (i.0, i.1);
            is_live = λ c k y h. shape_loan u E K (live_in t) size c (high_in s t c) 0 nowhere (top_in s t c) (chunk_tree s t c) y k (sees c h);
          }

  -- ---- where the store has trees, the walks see them and meet all that is in use

  module _ (r : Trees s t) where
    words : (c : ℕ) → held_in t c ≡ true → Sees s t c (high_in s t c) 0 nowhere (top_in s t c) (r.trees c)
    words c h =
        rep_shape s.minimal (pairs_in s t) (loan_in s t) (live_in t) (loan_cell t size_at) c (high_in s t c) 0 nowhere (top_in s t c) (r.trees c) (r.wf c h) (r.rep c h)
        (λ y k g e. let i = r.is_live c k y h g e in (i, r.loans_sized k i))

    tree_is : (c : ℕ) → held_in t c ≡ true → chunk_tree s t c ≡ r.trees c
    tree_is c h = shape_tree s.minimal (pairs_in s t) (loan_in s t) (live_in t) (loan_cell t size_at) c (high_in s t c) 0 nowhere (top_in s t c) (r.trees c) (words c h)

    chunks_seen : (c : ℕ) → held_in t c ≡ true → ChunkIs s t c
    chunks_seen c h =
        let z = r.sized c h in
        record {
          sized = z.0;
          some = z.1;
          least = z.2;
          most = z.3;
          taken = rep_taken s.minimal (pairs_in s t) (loan_in s t) c (high_in s t c) 0 nowhere (top_in s t c) (r.trees c) (r.rep c h) (taken_not (r.trees c) (r.taken c h));
          walked = walk_all s t (high_in s t c) c 0 nowhere (top_in s t c) (r.trees c) (words c h);
        }

    pair_in_lem : (l p : ℕ) → l < levels_in t → 0 < (pairs_in s t l p).tag → Mem (item (suc l) p) (items_in s t (chunk_places_in t))
    pair_in_lem l p h g =
        let u = s.minimal in
        let E = pairs_in s t in
        let K = loan_in s t in
        let c = (E l p).chunk in
        let z = r.owned l p h g in
        let m = rep_met u E K c (high_in s t c) 0 nowhere (top_in s t c) (r.trees c) (r.rep c z.0) l p z.1 g (refl, omega arith, omega (arith, z.2, (r.sized c z.0).0)) in
        in_all s t (chunk_places_in t) c (item (suc l) p) (held_low c z.0) z.0
        (rw (tree_is c z.0)
        (met_item E K u (minimal_pos s fit) (live_in t) (loan_cell t size_at) c (high_in s t c) 0 nowhere (top_in s t c) (r.trees c) l p (words c z.0) m))

    loan_in_lem : (k : ℕ) → live_in t k ≡ true → Mem (item 0 k) (items_in s t (chunk_places_in t))
    loan_in_lem k g =
        let c = (loan_in s t k).chunk in
        let z = r.has k g in
        in_all s t (chunk_places_in t) c (item 0 k) (held_low c z.0) z.0
        (rw (tree_is c z.0) (had_item (pairs_in s t) (loan_in s t) s.minimal (high_in s t c) 0 (top_in s t c) (r.trees c) (piece (loan_in s t k) k) k z.1 refl))

    all_met : (x : ℕ) → Mem x (in_use_items s t) → Mem x (items_in s t (chunk_places_in t))
    all_met x m = go (listed_only s t x (omega arith) m)
      where
        go : PairItem s t (levels_in t) x ⊎ ((x % 64 ≡ 0) × (live_in t (x / 64) ≡ true)) → Mem x (items_in s t (chunk_places_in t))
        go (inl z) = subst (λ (y : ℕ). Mem y (items_in s t (chunk_places_in t))) (sym (item_is x (suc z.l) z.kind)) (pair_in_lem z.l (x / 64) z.low z.used)
        go (inr z) = subst (λ (y : ℕ). Mem y (items_in s t (chunk_places_in t))) (sym (item_is x 0 z.0)) (loan_in_lem (x / 64) z.1)

    as_many : mets_in s t (chunk_places_in t) ≡ pairs_used s t (levels_in t) + live_count t
    as_many =
        let R = items_in s t (chunk_places_in t) in
        let U = in_use_items s t in
        let a : length U ≤ length R = no_more U R (listed_once s t (omega arith)) all_met in
        let b : length R ≤ length U = no_more R U (in_once chunks_seen (chunk_places_in t)) (in_used chunks_seen (chunk_places_in t)) in
        omega (arith, in_long chunks_seen (chunk_places_in t), listed_long s t)

  -- ---- so what the walks meet tells

  abbrev Passes : Type 0
  Passes = every (chunk_ok s t) (chunk_places_in t) ≡ true

  abbrev MeetAll : Type 0
  MeetAll = mets_in s t (chunk_places_in t) ≡ pairs_used s t (levels_in t) + live_count t

  chunks_are : Passes → (c : ℕ) → held_in t c ≡ true → ChunkIs s t c
  chunks_are ok c h = chunk_yes s t c h (every_yes (chunk_ok s t) (chunk_places_in t) c ok (held_low c h))

  pub met_most : Passes → mets_in s t (chunk_places_in t) ≤ pairs_used s t (levels_in t) + live_count t
  met_most ok =
      let chunks = chunks_are ok in
      let R = items_in s t (chunk_places_in t) in
      omega (arith, no_more R (in_use_items s t) (in_once chunks (chunk_places_in t)) (in_used chunks (chunk_places_in t)), in_long chunks (chunk_places_in t), listed_long s t)

  every_met : Passes → MeetAll → (x : ℕ) → Mem x (in_use_items s t) → Mem x (items_in s t (chunk_places_in t))
  every_met ok n =
      let chunks = chunks_are ok in
      let R = items_in s t (chunk_places_in t) in
      let U = in_use_items s t in
      let k : length U ≤ length R = omega (arith, n, in_long chunks (chunk_places_in t), listed_long s t) in
      fills R U (in_once chunks (chunk_places_in t)) (in_used chunks (chunk_places_in t)) k

  pub met_stand : Passes → MeetAll → Trees s t
  met_stand ok n = stand (chunks_are ok) (every_met ok n)

  -- a tree has one leaf more than pairs
  pub met_leaves : Passes → MeetAll → readies_in s t (levels_in t) + live_count t ≡ pairs_used s t (levels_in t) + held_count t
  met_leaves ok n =
      let chunks = chunks_are ok in
      let R = items_in s t (chunk_places_in t) in
      let U = in_use_items s t in
      let f = leafs (pairs_in s t) in
      let a : weight f R ≤ weight f U = weighs_less f R U (in_once chunks (chunk_places_in t)) (in_used chunks (chunk_places_in t)) in
      let b : weight f U ≤ weight f R = weighs_less f U R (listed_once s t (omega arith)) (every_met ok n) in
      omega (arith, n, in_weigh chunks (chunk_places_in t), listed_weigh s t (omega arith), helds_are)

  pub trees_met : Trees s t → Passes × MeetAll
  trees_met r = (every_all (chunk_ok s t) (chunk_places_in t) (λ c h. chunk_all s t c (chunks_seen r c)), as_many r)
