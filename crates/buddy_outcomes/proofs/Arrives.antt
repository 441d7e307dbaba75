-- A delivery answered by a block: which order it was for, which block it is, and that it is good.
use mathlib.Core.Path.{◌≡◌, refl, sym, ap, subst, ◌∙◌}
use mathlib.Core.Bool.{true, false}
use mathlib.Core.Logic.{⊎_elim}
use mathlib.Core.List.{List, [], Memᴰ}
use Prim.Native.Nat.{ℕ, ◌+◌, ◌-◌, ◌≤◌, ◌<◌}
use native.Mathlib.Nat.{zero-mod}
use native.Mathlib.Omega.{arith}
use lib.Pow.{pow_pos}
use Rattle.lists.proofs.Bools.{told, true_false}
use Rattle.words.proofs.Records.{cell_row}
use Rattle.counter.specs.Gate.{Verdict, pass, refuse, gated}
use Rattle.counter.specs.InTable.{BuddyIn}
use Rattle.counter.specs.Paper as Paper
use Rattle.counter.specs.declared.account.Account.{Account}
use Rattle.counter.specs.declared.account.KeptOrder.{KeptOrder}
use Rattle.counter.specs.Open.{OpenOrder}
use Rattle.std.specs.Prelude.{None, Some}
use Rattle.counter.specs.declared.answers.Outcome.{Outcome}
use Rattle.counter.specs.declared.settings.BuddySettings.{BuddySettings}
use Rattle.store_rules.specs.Loans as Loans
use Rattle.store_rules.specs.Delivery.{Fate, kept, lost, buddy, fate_of, delivery_ok}
use Rattle.store_rules.specs.Loans.{loan_words}
use Rattle.store_rules.specs.Outcomes.{Out, out, charged_account}
use Rattle.store_rules.specs.Views.{GoodBlock}
use Rattle.store_rules.specs.declared.Chunk.{Chunk}
use Rattle.store_rules.specs.declared.Loan.{Loan}
use Rattle.buddy_trees.specs.Trees.{bytes, up}
use Rattle.buddy_trees.proofs.Bytes.{bytes_end}
use Rattle.buddy_rules.proofs.Fitting.{up_add}
use Rattle.buddy_rules.specs.Tables.{Tables, Lengths, given_in, levels_in, chunk_places_in, chunk_size_in, loan_in, held_in, memories}
use Rattle.buddy_rules.specs.Sound.{Sound}
use Rattle.buddy_rules.specs.Views.{loans_in, chunks_in}
use Rattle.buddy_rules.proofs.Viewed.{loan_live, chunk_at, held_seen}
use Rattle.buddy_outcomes.specs.Ask.{size_for, level_for, grown_to, chunk_taken, grown_tables}
use Rattle.buddy_outcomes.specs.Deliver as Deliver
use Rattle.buddy_outcomes.specs.Deliver.{chunk_tables, loan_in as lent_in, served_tables, as_ordered, carry_fate, decide_deliver, deliver_gate_of, plan_deliver, carry_deliver, deliver_of}
use Rattle.buddy_outcomes.proofs.Changed.{grown_lengths, grown_held}
use Rattle.buddy_outcomes.proofs.Chunked.{chunked, size_here, held_here, taken_dead}
use Rattle.buddy_outcomes.proofs.Delivered.{more, most, grown_sound, count, chunk_room, gate_sound, opened}
use Rattle.buddy_outcomes.proofs.Fitted.{refusal_block, same_block_lem}
use Rattle.buddy_outcomes.proofs.Heads.{grown_given}
use Rattle.buddy_outcomes.proofs.Passing.{Lent}
use Rattle.buddy_outcomes.proofs.Plans.{Buys}
use Rattle.buddy_outcomes.proofs.Rounds.{size_level, size_enough}
use Rattle.buddy_outcomes.proofs.Lendings.{booked_chunks, seen_given}

-- a delivery answered by a block: the order that was kept, and which block it is
pub record Came (s : BuddySettings) (a : Account) (o : Outcome) (t : Tables) (serial chunk offset len : ℕ) : Type 0 where
  pub order : KeptOrder
  pub memory : ℕ
  pub ordered : a.order ≡ Some order
  pub kept_is : fate_of buddy o ≡ kept memory
  pub lent : Lent s a t
  pub sound : Sound s t
  pub bought : Buys s order.ask.size order.ask.mask t order.order.size
  pub serial_is : serial ≡ given_in (as_ordered s order t) + 1
  pub chunk_is : chunk ≡ (chunk_taken s (as_ordered s order t)).place
  pub offset_is : offset ≡ 0
  pub len_is : len ≡ size_for s order.ask.size order.ask.mask
  pub left : (deliver_of s a o t).tables ≡ served_tables s (size_for s order.ask.size order.ask.mask) (level_for s order.ask.size order.ask.mask) memory order.order.size (as_ordered s order t)
  pub charged : (deliver_of s a o t).account ≡ charged_account s.store a order.order.size

module _ (s : BuddySettings) (a : Account) (o : Outcome) (t : Tables) (serial chunk offset len : ℕ) (q : (deliver_of s a o t).said ≡ Paper.block serial chunk offset len) where
  tells : (r : Out Tables) → deliver_of s a o t ≡ r → r.said ≡ Paper.block serial chunk offset len
  tells r e = sym (ap (λ (x : Out Tables). x.said) e) ∙ q

  fate_came : (k : KeptOrder) → a.order ≡ Some k → deliver_gate_of s a t ≡ pass → (f : Fate) → fate_of buddy o ≡ f → deliver_of s a o t ≡ carry_fate s a k t f → Came s a o t serial chunk offset len
  unfolding carry_fate
  fate_came k e g (lost n charged back) w r = refusal_block n back serial chunk offset len (tells _ r)
  fate_came k e g (kept m) w r =
      let sound = gate_sound s a t g in
      let p = opened s a o t sound k e g in
      let l : Loan = lent_in s k.ask.size k.ask.mask (as_ordered s k t) in
      let b = same_block_lem l.serial l.chunk l.offset l.size serial chunk offset len (tells _ r) in
      record {
        order = k;
        memory = m;
        ordered = e;
        kept_is = w;
        lent = p.lent;
        sound = sound;
        bought = p.buys_it;
        serial_is = sym b.0;
        chunk_is = sym b.1;
        offset_is = sym b.2;
        len_is = sym b.3;
        left = ap (λ (x : Out Tables). x.tables) r;
        charged = ap (λ (x : Out Tables). x.account) r;
      }

  came_by : (v : Verdict) → deliver_gate_of s a t ≡ v → (ord : OpenOrder) → a.order ≡ ord
      → deliver_of s a o t ≡ carry_deliver s a t (gated Deliver.deny v (decide_deliver o (memories t (chunk_places_in t)) ord)) → Came s a o t serial chunk offset len
  unfolding carry_deliver
  came_by (refuse n) g ord e r = refusal_block n [] serial chunk offset len (tells _ r)
  came_by pass g None e r = refusal_block 2 [] serial chunk offset len (tells _ r)
  came_by pass g (Some k) e r =
      ⊎_elim
      (λ d. fate_came k e g (fate_of buddy o) refl (rw d at r))
      (λ d. refusal_block 13 [] serial chunk offset len (tells (out (Paper.refusal 13 []) a t) (rw d at r)))
      (told (delivery_ok k.order.map (memories t (chunk_places_in t)) o))

  -- a delivery that says so comes to this
  pub deliver_came : Came s a o t serial chunk offset len
  unfolding deliver_of plan_deliver
  deliver_came = came_by (deliver_gate_of s a t) refl a.order refl refl

-- the chunk that arrives, and what is lent of it
module _ (s : BuddySettings) (t : Tables) (fit : BuddyIn s) (lengths : Lengths s t) (sound : Sound s t) (size mask z memory : ℕ) (b : Buys s size mask t z) where
  abbrev n : ℕ
  n = grown_to (level_for s size mask) t

  abbrev g : Tables
  g = grown_tables s n t

  abbrev c : ℕ
  c = (chunk_taken s g).place

  many : levels_in g ≡ n
  many = count s t fit lengths sound size mask z b

  tall : 0 < levels_in g
  tall = omega (arith, many)

  is_chunk : z ≡ bytes s.minimal (levels_in g)
  is_chunk = sym b.order ∙ ap (bytes s.minimal) (sym many)

  g_lengths : Lengths s g
  g_lengths = grown_lengths s t fit lengths sound n

  g_sound : Sound s g
  g_sound = grown_sound s t fit lengths sound size mask z b

  room : (chunk_taken s g).place < s.store.chunks
  room = chunk_room s t fit lengths sound size mask z b

  -- it was not there
  not_held : held_in t c ≡ false
  not_held =
      sym (grown_held s t fit lengths sound n (more s t fit lengths sound size mask z b) (most s t fit lengths sound size mask z b) c)
      ∙ taken_dead s g fit g_lengths memory z room g_sound tall is_chunk

  -- no loan lies in it
  no_loan_lem : (l : Loan) → Memᴰ l (loans_in t) → l.chunk ≡ c → ⊥
  no_loan_lem l m e =
      let w = loan_live t l m in
      let i : (loan_in s t w.0).chunk ≡ c = cell_row t.loans Loans.chunk_at loan_words w.0 ∙ ap (λ (d : Loan). d.chunk) w.2 ∙ e in
      true_false (held_in t c) (sym (ap (held_in t) i) ∙ (sound.standing.has w.0 w.1).0) not_held

  -- the block is no longer than it
  fits_in_lem : size_for s size mask ≤ z
  fits_in_lem =
      let lev = level_for s size mask in
      let d = n - lev in
      let h : up d lev ≡ n = omega (arith, up_add d lev) in
      let e : bytes s.minimal (up d lev) ≡ z = ap (bytes s.minimal) h ∙ b.order in
      omega (arith, e, size_level s fit size mask b.sized, bytes_end s.minimal d lev 0 (pow_pos d))

  -- it is seen
  chunk_seen : (d : Chunk) × Memᴰ d (chunks_in (served_tables s (size_for s size mask) (level_for s size mask) memory z g)) × (d.number ≡ c) × (0 + size_for s size mask ≤ d.size)
  unfolding served_tables chunk_tables
  chunk_seen =
      let u : Tables = chunked s g fit g_lengths memory z in
      let h : held_in u c ≡ true = held_here s g fit g_lengths memory z room g_sound tall is_chunk in
      let e : chunk_size_in u c ≡ z = size_here s g fit g_lengths memory z room in
      (chunk_at u c, subst (λ (cs : List Chunk). Memᴰ (chunk_at u c) cs) (sym (booked_chunks s _ _ _ _ u)) (held_seen u c h), refl, omega (arith, e, fits_in_lem))

  -- a block lent of it is good
  pub came_good : GoodBlock s.store.atom size mask (given_in t) (loans_in t) (chunks_in (served_tables s (size_for s size mask) (level_for s size mask) memory z g)) (given_in g + 1) c 0 (size_for s size mask)
  came_good =
      let e : given_in g ≡ given_in t = grown_given s n t in
      record {
        next = ap (λ (x : ℕ). x + 1) e;
        held = chunk_seen;
        aligned = zero-mod (mask + 1);
        atoms = zero-mod (s.store.atom + 1);
        enough = size_enough s fit size mask b.sized;
        apart = λ l m i. absurd (no_loan_lem l m i);
        new = λ l m. omega (arith, e, seen_given s t fit sound l m);
      }
