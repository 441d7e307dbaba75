-- When an ask gives an order: exactly when no held chunk has a fitting free place, whatever the search looked at.
use mathlib.Core.Path.{◌≡◌, refl, sym, ap, ap₂, subst, ◌∙◌}
use mathlib.Core.Bool.{true, false, cond}
use mathlib.Core.Logic.{◌⊎◌, inl, inr, ⊎_elim, ◌↔◌}
use mathlib.Core.List.{List, [], Memᴰ}
use Prim.Native.Nat.{ℕ, zero, suc, ◌+◌, ◌-◌, ◌*◌, ◌^◌, ◌/◌, ◌%◌, ◌≤◌, ◌<◌}
use native.Mathlib.Nat.{mul-mod_left, mul-le-mul_right}
use native.Mathlib.Omega.{arith}
use lib.Pow.{pow_pos}
use Rattle.lists.proofs.Bools.{told, true_false, lt_or_le}
use Rattle.rounding_rules.proofs.Raising.{whole}
use Rattle.words.proofs.Records.{cell_row}
use Rattle.counter.specs.Account.{heap_at}
use Rattle.counter.specs.Gate.{Verdict, pass, refuse, gated}
use Rattle.counter.specs.InTable.{BuddyIn}
use Rattle.counter.specs.Paper as Paper
use Rattle.counter.specs.Table.{alignment_ok}
use Rattle.counter.specs.declared.account.Account.{Account}
use Rattle.counter.specs.declared.settings.BuddySettings.{BuddySettings}
use Rattle.slabs.specs.Slab.{nowhere}
pub use Rattle.store_rules.proofs.Said.{order_block, refusal_block, same_block_lem}
use Rattle.store_rules.specs.Loans as Loans
use Rattle.store_rules.specs.Orders.{Plan, deny, take, buy, order_from}
use Rattle.store_rules.specs.Loans.{loan_words, size_at, offset_at}
use Rattle.store_rules.specs.declared.Chunk.{Chunk}
use Rattle.store_rules.specs.declared.Loan.{Loan}
use Rattle.buddy_trees.specs.Trees.{Tree, free, loan, split, Piece, Has, Quiet, bytes, up}
use Rattle.buddy_trees.specs.Chunks.{Fitting}
use Rattle.buddy_trees.proofs.Bytes.{bytes_suc, bytes_pos, bytes_up, bytes_end}
use Rattle.buddy_rules.specs.Levels.{base_of}
use Rattle.buddy_rules.specs.Nodes.{Ent}
use Rattle.buddy_rules.specs.Returns.{entries}
use Rattle.buddy_rules.specs.Stores.{cut_loan}
use Rattle.buddy_rules.specs.Stores as Stores
use Rattle.buddy_rules.proofs.Frames.{rep_loan}
use Rattle.buddy_rules.proofs.Fitting.{up_add, fits_some, lent_held, lent_inside, lent_aligned, lent_apart}
use Rattle.buddy_rules.specs.Level.{ring_head}
use Rattle.buddy_rules.proofs.Ops.{level_ops}
use Rattle.buddy_rules.specs.Tables.{Tables, Lengths, levels_in, level_from, chunk_size_in, loan_cell, live_in, loan_in, held_in, high_in, top_in}
use Rattle.buddy_rules.specs.Sound.{Sound}
use Rattle.buddy_rules.specs.Views.{loans_in, view_of}
use Rattle.buddy_rules.proofs.Abstract.{store_of, sound_store}
use Rattle.buddy_rules.proofs.Splitting.{head_is}
use Rattle.buddy_rules.proofs.Viewed.{loan_at, live_loan, loan_live, chunk_at, held_seen, seen_held}
use Rattle.buddy_rules.proofs.Walks.{minimal_pos}
use Rattle.buddy_outcomes.specs.Ask as Ask
use Rattle.buddy_outcomes.specs.Ask.{Found, at, size_for, level_for, found_from, size_ok, decide_ask, head_ent, loan_from, carry_ask, plan_ask, ask_of}
use Rattle.buddy_outcomes.specs.Gate.{gate_of}
use Rattle.buddy_outcomes.specs.Refusals.{Needed}
use Rattle.buddy_outcomes.proofs.Changed.{few_pairs}
use Rattle.buddy_outcomes.proofs.Rounds.{size_level}
use Rattle.buddy_outcomes.proofs.Searches.{search_none, search_at}
use Rattle.buddy_outcomes.proofs.Passing.{gate_passed}
use Rattle.buddy_outcomes.proofs.Plans.{takes, buys}
use Rattle.buddy_outcomes.proofs.Taken.{level_some, level_empty}

module _ (u : ℕ) where
  -- a tree's loans have numbers
  has_who : (l o : ℕ) (t : Tree) (y : Piece) → Has u l o t y → (k : ℕ) × (y.who ≡ k + 1)
  has_who l o free y h = absurd h
  has_who l o (loan k) y h = (k, h.2)
  has_who zero o (split a b) y h = absurd h
  has_who (suc l) o (split a b) y (inl h) = has_who l o a y h
  has_who (suc l) o (split a b) y (inr h) = has_who l (o + bytes u l) b y h

  -- a node that another has room for is no higher
  no_higher : (l m : ℕ) → 0 < u → bytes u l ≤ bytes u m → l ≤ m
  no_higher l m pu h =
      ⊎_elim
      (λ i.
      let d = l - suc m in
      let e : up d (suc m) ≡ l = omega (arith, up_add d (suc m)) in
      absurd (omega (arith, ap (bytes u) e, bytes_end u d (suc m) 0 (pow_pos d), bytes_suc u m, bytes_pos u m pu)))
      (λ i. i)
      (lt_or_le m l)

  -- the q-th node of level lev lies within one d levels above only where it is one of its first 2^d
  within : (d lev q : ℕ) → 0 < u → q * bytes u lev + bytes u lev ≤ bytes u (up d lev) → q < 2 ^ d
  within d lev q pu h =
      ⊎_elim (λ i. i)
      (λ i. absurd (omega (arith, bytes_pos u lev pu, bytes_up u d lev, mul-le-mul_right (bytes u lev) i)))
      (lt_or_le q (2 ^ d))

-- ---- a fitting free place, as the tables show it

-- z bytes at start, of the chunk at a place
pub record Stretch (z : ℕ) (t : Tables) (chunk start : ℕ) : Type 0 where
  pub held : held_in t chunk ≡ true
  pub aligned : start % z ≡ 0
  pub inside : start + z ≤ chunk_size_in t chunk
  pub quiet : (k : ℕ) → live_in t k ≡ true → loan_cell t Loans.chunk_at k ≡ chunk → (loan_cell t offset_at k + loan_cell t size_at k ≤ start) ⊎ (start + z ≤ loan_cell t offset_at k)

module _ (s : BuddySettings) (t : Tables) (z : ℕ) where
  -- no loan meets it
  pub stretch_apart : (chunk start : ℕ) → Stretch z t chunk start → (l : Loan) → Memᴰ l (loans_in t) → l.chunk ≡ chunk → (l.offset + l.size ≤ start) ⊎ (start + z ≤ l.offset)
  stretch_apart chunk start f l m e =
      let w = loan_live t l m in
      let c : loan_cell t Loans.chunk_at w.0 ≡ l.chunk = cell_row t.loans Loans.chunk_at loan_words w.0 ∙ ap (λ (d : Loan). d.chunk) w.2 in
      let o : loan_cell t offset_at w.0 ≡ l.offset = cell_row t.loans offset_at loan_words w.0 ∙ ap (λ (d : Loan). d.offset) w.2 in
      let n : loan_cell t size_at w.0 ≡ l.size = cell_row t.loans size_at loan_words w.0 ∙ ap (λ (d : Loan). d.size) w.2 in
      ⊎_elim (λ q. inl (omega (arith, o, n, q))) (λ q. inr (omega (arith, o, q))) (f.quiet w.0 w.1 (c ∙ e))

  stretch_fits : (chunk start : ℕ) → Stretch z t chunk start → Fitting z (view_of s t)
  stretch_fits chunk start f =
      record {
        chunk = chunk_at t chunk;
        held = held_seen t chunk f.held;
        start = start;
        aligned = f.aligned;
        inside = f.inside;
        quiet = stretch_apart chunk start f;
      }

  fits_stretch : (f : Fitting z (view_of s t)) → Stretch z t f.chunk.number f.start
  fits_stretch f =
      let h = seen_held t f.chunk f.held in
      let n : f.chunk.size ≡ chunk_size_in t f.chunk.number = ap (λ (d : Chunk). d.size) h.1 in
      record {
        held = h.0;
        aligned = f.aligned;
        inside = omega (arith, f.inside, n);
        quiet = λ k l e.
            let o : loan_cell t offset_at k ≡ (loan_at t k).offset = cell_row t.loans offset_at loan_words k in
            let y : loan_cell t size_at k ≡ (loan_at t k).size = cell_row t.loans size_at loan_words k in
            ⊎_elim (λ q. inl (omega (arith, o, y, q))) (λ q. inr (omega (arith, o, q))) (f.quiet (loan_at t k) (live_loan t k l) (sym (cell_row t.loans Loans.chunk_at loan_words k) ∙ e));
      }

module _ (s : BuddySettings) (t : Tables) (fit : BuddyIn s) (lengths : Lengths s t) (sound : Sound s t) where
  abbrev T : ℕ → Tree
  T c = cond (held_in t c) (sound.standing.trees c) free

  before : Stores.Sound s.minimal (level_ops s.pairs (few_pairs s fit)) (store_of s (few_pairs s fit) t) T
  before = sound_store s (few_pairs s fit) t fit lengths sound

  -- a chunk with a level is held
  high_held : (c l : ℕ) → l < high_in s t c → held_in t c ≡ true
  high_held c l h = go (told (held_in t c))
    where
      go : (held_in t c ≡ true) ⊎ (held_in t c ≡ false) → held_in t c ≡ true
      go (inl e) = e
      go (inr e) = let k : l < 0 = rw e at h in absurd (omega arith)

  -- a level with a ready side has a fitting place for every level up to it
  pub found_fits : (z lev d : ℕ) → z ≡ bytes s.minimal lev → up d lev < levels_in t → (ring_head (level_from s (up d lev)) t.room ≡ nowhere → ⊥)
      → Stretch z t (head_ent s t (up d lev)).chunk (base_of s.minimal (head_ent s t (up d lev)) (up d lev))
  found_fits z lev d is below some =
      let u = s.minimal in
      let O = level_ops s.pairs (few_pairs s fit) in
      let S = store_of s (few_pairs s fit) t in
      let pu = minimal_pos s fit in
      let sm = level_some s t fit sound (up d lev) some in
      let c = (cut_loan u O S lev d).chunk in
      let x = (cut_loan u O S lev d).at in
      let h = high_held c (up d lev) (lent_held u O pu S T before lev d below sm) in
      let r = lent_aligned u O pu S T before lev d below sm in
      subst (λ (e : Ent). Stretch z t e.chunk (base_of u e (up d lev))) (sym (head_is s (few_pairs s fit) t sound (up d lev) below sm))
      (record {
        held = h;
        aligned = ap (λ (y : ℕ). y % z) (r.1 ∙ ap (λ (y : ℕ). r.0 * y) (sym is)) ∙ mul-mod_left r.0 z;
        inside = omega (arith, lent_inside u O pu S T before lev d below sm, (sound.standing.sized c h).0);
        quiet = λ k l e.
            let y = sound.standing.loans_sized k l in
            ⊎_elim (λ i. inl (omega arith)) (λ i. inr (omega arith)) (lent_apart u O pu S T before lev d below sm k l e);
      })

  -- what no loan of the tables meets no loan of the chunk's tree meets
  quiet_in : (z lev q c x : ℕ) → Stretch z t c x → z ≡ bytes s.minimal lev → q * bytes s.minimal lev ≡ x
      → Quiet s.minimal (high_in s t c) 0 (T c) (q * bytes s.minimal lev) lev
  quiet_in z lev q c x f is e y h =
      let u = s.minimal in
      let w = has_who u (high_in s t c) 0 (T c) y h in
      let live = before.is_live c w.0 y h w.1 in
      let i = rep_loan u (entries (level_ops s.pairs (few_pairs s fit)) (store_of s (few_pairs s fit) t).levels) (loan_in s t) c (high_in s t c) 0 nowhere (top_in s t c) (T c) y w.0 (before.rep c) h w.1 in
      let n = sound.standing.loans_sized w.0 live ∙ ap (bytes u) i.2 in
      let p = i.1 in
      ⊎_elim (λ g. inl (omega arith)) (λ g. inr (omega arith)) (f.quiet w.0 live i.0)

  -- a fitting place shows at a level
  fits_found : (z lev c x : ℕ) → z ≡ bytes s.minimal lev → Stretch z t c x → (i : ℕ) × (lev ≤ i) × (i < levels_in t) × (ring_head (level_from s i) t.room ≡ nowhere → ⊥)
  fits_found z lev c x is f =
      let u = s.minimal in
      let pu = minimal_pos s fit in
      let high = high_in s t c in
      let size = sound.standing.sized c f.held in
      let low : lev ≤ high = no_higher u lev high pu (omega (arith, f.inside, size.0)) in
      let d = high - lev in
      let e : high ≡ up d lev = omega (arith, up_add d lev) in
      let q = x / z in
      let a : q * bytes u lev ≡ x = ap (λ (y : ℕ). q * y) (sym is) ∙ whole x z f.aligned in
      let few = within u d lev q pu (omega (arith, f.inside, size.0, ap (bytes u) e)) in
      let r = fits_some u (level_ops s.pairs (few_pairs s fit)) pu (store_of s (few_pairs s fit) t) T before c lev d q e size.1 few (quiet_in z lev q c x f is a) in
      (r.0, r.1, omega (arith, r.2, size.3), λ g. level_empty s t fit sound r.0 g r.3)

-- the search finds no level exactly when no held chunk has a fitting free place
pub needs_when : (s : BuddySettings) (t : Tables) → BuddyIn s → Lengths s t → Sound s t → (size mask : ℕ) → alignment_ok mask ≡ true → size_ok s size mask ≡ true → (found_from s (level_for s size mask) t ≡ Ask.nowhere) ↔ Needed s size mask t
unfolding found_from
needs_when s t fit lengths sound size mask aligned sized = (none, some (found_from s (level_for s size mask) t) refl)
  where
    lev : ℕ
    lev = level_for s size mask

    none : found_from s (level_for s size mask) t ≡ Ask.nowhere → Needed s size mask t
    none e f =
        let r = fits_found s t fit lengths sound (size_for s size mask) lev f.chunk.number f.start (size_level s fit size mask sized) (fits_stretch s t (size_for s size mask) f) in
        r.3 (search_none s t.room lev (levels_in t - lev) e r.0 r.1 (omega (arith, r.1, r.2)))

    some : (g : Found) → found_from s (level_for s size mask) t ≡ g → Needed s size mask t → found_from s (level_for s size mask) t ≡ Ask.nowhere
    some Ask.nowhere e n = e
    some (at i) e n =
        let r = search_at s t.room lev (levels_in t - lev) i e in
        let h : up (i - lev) lev ≡ i = omega (arith, up_add (i - lev) lev, r.0) in
        absurd (n (stretch_fits s t (size_for s size mask) _ _ (found_fits s t fit lengths sound (size_for s size mask) lev (i - lev) (size_level s fit size mask sized) (omega (arith, h, r.0, r.1)) (rw h r.2))))

-- ---- what an ask says

not_both : {A : Type 0} (i : ℕ) → at i ≡ Ask.nowhere → A
not_both i e = absurd (true_false true refl (sym (ap Ask.needs e)))

module _ (s : BuddySettings) (a : Account) (size mask : ℕ) (t : Tables) where
  abbrev decided : Plan ℕ
  decided = decide_ask s (heap_at a s.store.heap) a.objects size mask t

  -- it is what the gate and then the plan says
  said_by : (v : Verdict) (p : Plan ℕ) → gate_of s a t true ≡ v → decided ≡ p → (ask_of s a size mask t).said ≡ (carry_ask s a size mask t (gated deny v p)).said
  unfolding ask_of plan_ask
  said_by v p e g = ap₂ (λ (x : Verdict) (y : Plan ℕ). (carry_ask s a size mask t (gated deny x y)).said) e g

  -- on an ask that is not refused an order is given exactly when no held chunk has a fitting free place
  pub orders_when : ((n : ℕ) (back : List ℕ) → (ask_of s a size mask t).said ≡ Paper.refusal n back → ⊥)
      → ((z : ℕ) × ((ask_of s a size mask t).said ≡ Paper.order_of (order_from s.store z))) ↔ Needed s size mask t
  unfolding carry_ask
  orders_when f = by (gate_of s a t true) decided refl refl
    where
      when : gate_of s a t true ≡ pass → alignment_ok mask ≡ true → size_ok s size mask ≡ true → (found_from s (level_for s size mask) t ≡ Ask.nowhere) ↔ Needed s size mask t
      when e = let p = gate_passed s a t true (sym e) in needs_when s t p.lent.settings p.lent.lengths p.sound size mask

      by : (v : Verdict) (p : Plan ℕ) → gate_of s a t true ≡ v → decided ≡ p → ((z : ℕ) × ((ask_of s a size mask t).said ≡ Paper.order_of (order_from s.store z))) ↔ Needed s size mask t
      by (refuse n) p e g = absurd (f n [] (said_by (refuse n) p e g))
      by pass (deny n) e g = absurd (f n [] (said_by pass (deny n) e g))
      by pass (take i) e g =
          let w = takes s (heap_at a s.store.heap) a.objects size mask t i g in
          let l : Loan = loan_from s (size_for s size mask) t i in (
            (λ q. order_block (order_from s.store q.0) l.serial l.chunk l.offset l.size (sym q.1 ∙ said_by pass (take i) e g)),
            (λ n. not_both i (sym w.found ∙ (when e w.aligned w.sized).1 n)),
          )
      by pass (buy z) e g =
          let w = buys s (heap_at a s.store.heap) a.objects size mask t z g in
          ((λ q. (when e w.aligned w.sized).0 w.found), (λ n. (z, said_by pass (buy z) e g)))
