-- An ask answered by a block: which level served it, which block it is, and that the stretch is fit for it.
use mathlib.Core.Path.{◌≡◌, refl, sym, ap, ap₂, subst, ◌∙◌}
use mathlib.Core.Bool.{true, cond, ◌&&◌, not}
use mathlib.Core.List.{List, [], ◌∷◌, ◌++◌, Memᴰ}
use Prim.Native.Nat.{ℕ, zero, suc, ◌+◌, ◌-◌, ◌/◌, ◌%◌, ◌≤◌}
use native.Mathlib.Omega.{arith}
use lib.Dec.{eqb, ltb}
use lib.ListN.{get_or}
use Rattle.words.specs.Words.{cell_of}
use Rattle.words.proofs.Records.{cell_row}
use Rattle.rounding_rules.proofs.Raising.{whole}
use Rattle.counter.specs.Account.{heap_at}
use Rattle.counter.specs.Gate.{Verdict, pass, refuse, gated}
use Rattle.counter.specs.InTable.{BuddyIn}
use Rattle.counter.specs.Paper as Paper
use Rattle.counter.specs.Table.{alignment_ok}
use Rattle.counter.specs.declared.account.Account.{Account}
use Rattle.counter.specs.declared.settings.BuddySettings.{BuddySettings}
use Rattle.store_rules.specs.Loans.{loan_words, serial_at}
use Rattle.store_rules.specs.Orders.{Plan, deny, take, buy, order_from}
use Rattle.store_rules.specs.Outcomes.{Out, out, block_said}
use Rattle.store_rules.specs.Views.{chunk, GoodBlock}
use Rattle.store_rules.specs.declared.Chunk.{Chunk}
use Rattle.store_rules.specs.declared.Loan.{Loan}
use Rattle.book_rules.specs.Book.{serial_of}
use Rattle.buddy_rules.specs.Levels.{base_of}
use Rattle.buddy_rules.specs.Tables.{Tables, Lengths, chunk_places_at, memory_at, chunk_size_at, chunk_words, given_in, chunk_places_in}
use Rattle.buddy_rules.specs.Moves.{Cut}
use Rattle.buddy_rules.specs.Sound.{Sound}
use Rattle.buddy_rules.specs.Views.{loans_in, chunks_of, chunks_in, view_of}
use Rattle.buddy_trees.specs.Chunks.{view_from}
use Rattle.buddy_rules.proofs.Viewed.{loan_live, chunk_at, held_seen}
use Rattle.buddy_outcomes.specs.Ask as Ask
use Rattle.buddy_outcomes.specs.Ask.{size_for, level_for, size_ok, grown_tables, booked_tables, head_ent, loan_from, taken_tables, decide_ask, carry_ask, plan_ask, ask_of}
use Rattle.buddy_outcomes.specs.Gate.{gate_of}
use Rattle.buddy_outcomes.proofs.Fitted.{Stretch, stretch_apart, found_fits, order_block, refusal_block, same_block_lem}
use Rattle.buddy_outcomes.proofs.Loaned.{live_given}
use Rattle.buddy_outcomes.proofs.Passing.{Passed, gate_passed}
use Rattle.buddy_outcomes.proofs.Plans.{Takes, takes}
use Rattle.buddy_outcomes.proofs.Rounds.{size_level, size_enough, size_units, size_aligned}
use Rattle.buddy_outcomes.proofs.Taken as Taken

-- ---- the chunks that the tables show

chunks_of_lem : (t u : Tables) → u.chunks ≡ t.chunks → (n : ℕ) → chunks_of u n ≡ chunks_of t n
unfolding chunks_of
chunks_of_lem t u q zero = refl
chunks_of_lem t u q (suc n) = ap₂ (λ (x y : List Chunk). x ++ y) (chunks_of_lem t u q n) (ap here q)
  where
    here : List ℕ → List Chunk
    here cs = cond (ltb n (get_or cs chunk_places_at 0) && not (eqb (get_or cs (cell_of chunk_size_at chunk_words n) 0) 0)) (chunk n (get_or cs (cell_of memory_at chunk_words n) 0) (get_or cs (cell_of chunk_size_at chunk_words n) 0) ∷ []) []

-- levels that grow change nothing that a user sees
pub grown_view : (s : BuddySettings) (n : ℕ) (t : Tables) → view_of s (grown_tables s n t) ≡ view_of s t
unfolding grown_tables
grown_view s n t = ap (view_from s.minimal (loans_in t)) (chunks_of_lem t (grown_tables s n t) refl (chunk_places_in t))

-- a loan entered changes no chunk
pub booked_chunks : (s : BuddySettings) (c o size : ℕ) (cut : Cut) (t : Tables) → chunks_in (booked_tables s c o size cut t) ≡ chunks_in t
unfolding booked_tables
booked_chunks s c o size cut t = chunks_of_lem t (booked_tables s c o size cut t) refl (chunk_places_in t)

-- an ask that lends changes none
pub taken_chunks : (s : BuddySettings) (size mask : ℕ) (t : Tables) (i : ℕ) → chunks_in (taken_tables s (size_for s size mask) (level_for s size mask) t i) ≡ chunks_in t
unfolding taken_tables
taken_chunks s size mask t i = booked_chunks s _ _ _ _ t

-- ---- what a good block is made of

-- a multiple of whole units is one
pub multiple : (x z m : ℕ) → x % z ≡ 0 → z % m ≡ 0 → x % m ≡ 0
multiple x z m e f = ap (λ (y : ℕ). y % m) (sym (whole x z e)) ∙ Taken.units_times (x / z) z m f

-- every loan that is seen has a serial that was given
pub seen_given : (s : BuddySettings) (t : Tables) → BuddyIn s → Sound s t → (l : Loan) → Memᴰ l (loans_in t) → l.serial ≤ given_in t
seen_given s t fit sound l m =
    let w = loan_live t l m in
    let e : serial_of t.loans w.0 ≡ l.serial = cell_row t.loans serial_at loan_words w.0 ∙ ap (λ (d : Loan). d.serial) w.2 in
    omega (arith, e, live_given s t fit sound w.0 w.1)

-- a good block by its own numbers
pub good_as : {atom size mask given : ℕ} {ls : List Loan} {cs : List Chunk} (a b c d p q x y : ℕ) → p ≡ a → q ≡ b → x ≡ c → y ≡ d
    → GoodBlock atom size mask given ls cs a b c d → GoodBlock atom size mask given ls cs p q x y
good_as a b c d p q x y e f g h k = rw (e, f, g, h) k

-- ---- an ask

-- an ask answered by a block: the level that served it, and which block it is
pub record Served (s : BuddySettings) (a : Account) (size mask : ℕ) (t : Tables) (serial chunk offset len : ℕ) : Type 0 where
  pub level : ℕ
  pub passed : Passed s a t true
  pub taken : Takes s size mask t level
  pub serial_is : serial ≡ given_in t + 1
  pub chunk_is : chunk ≡ (head_ent s t level).chunk
  pub offset_is : offset ≡ base_of s.minimal (head_ent s t level) level
  pub len_is : len ≡ size_for s size mask
  pub left : ask_of s a size mask t ≡ out (block_said (loan_from s (size_for s size mask) t level)) a (taken_tables s (size_for s size mask) (level_for s size mask) t level)

module _ (s : BuddySettings) (a : Account) (size mask : ℕ) (t : Tables) where
  abbrev decided : Plan ℕ
  decided = decide_ask s (heap_at a s.store.heap) a.objects size mask t

  ask_comes : (v : Verdict) (p : Plan ℕ) → gate_of s a t true ≡ v → decided ≡ p → ask_of s a size mask t ≡ carry_ask s a size mask t (gated Ask.deny v p)
  unfolding ask_of plan_ask
  ask_comes v p e g = ap₂ (λ (x : Verdict) (y : Plan ℕ). carry_ask s a size mask t (gated Ask.deny x y)) e g

  module _ (serial chunk offset len : ℕ) (q : (ask_of s a size mask t).said ≡ Paper.block serial chunk offset len) where
    says : (r : Out Tables) → ask_of s a size mask t ≡ r → r.said ≡ Paper.block serial chunk offset len
    says r e = sym (ap (λ (x : Out Tables). x.said) e) ∙ q

    -- an ask that says so comes to this
    pub ask_served : Served s a size mask t serial chunk offset len
    unfolding carry_ask
    ask_served = by (gate_of s a t true) decided refl refl
      where
        by : (v : Verdict) (p : Plan ℕ) → gate_of s a t true ≡ v → decided ≡ p → Served s a size mask t serial chunk offset len
        by (refuse n) p e g = refusal_block n [] serial chunk offset len (says _ (ask_comes (refuse n) p e g))
        by pass (deny n) e g = refusal_block n [] serial chunk offset len (says _ (ask_comes pass (deny n) e g))
        by pass (buy z) e g = order_block (order_from s.store z) serial chunk offset len (says _ (ask_comes pass (buy z) e g))
        by pass (take i) e g =
            let l : Loan = loan_from s (size_for s size mask) t i in
            let b = same_block_lem l.serial l.chunk l.offset l.size serial chunk offset len (says _ (ask_comes pass (take i) e g)) in
            record {
              level = i;
              passed = gate_passed s a t true (sym e);
              taken = takes s (heap_at a s.store.heap) a.objects size mask t i g;
              serial_is = sym b.0;
              chunk_is = sym b.1;
              offset_is = sym b.2;
              len_is = sym b.3;
              left = ask_comes pass (take i) e g;
            }

-- the stretch that the level found has to give
pub served_stretch : (s : BuddySettings) (t : Tables) → BuddyIn s → Lengths s t → Sound s t → (size mask i : ℕ) → Takes s size mask t i
    → Stretch (size_for s size mask) t (head_ent s t i).chunk (base_of s.minimal (head_ent s t i) i)
served_stretch s t fit lengths sound size mask i w =
    let lev = level_for s size mask in
    let f = Taken.first s t fit lengths sound size mask i w.found w.aligned w.sized w.room in
    let h = Taken.height s t fit lengths sound size mask i w.found w.aligned w.sized w.room in
    subst (λ (x : ℕ). Stretch (size_for s size mask) t (head_ent s t x).chunk (base_of s.minimal (head_ent s t x) x)) h
    (found_fits s t fit lengths sound (size_for s size mask) lev (i - lev) (size_level s fit size mask w.sized) (omega (arith, h, f.1)) (rw h f.2))

-- a block lent there is good
pub stretch_good : (s : BuddySettings) (t : Tables) → BuddyIn s → Sound s t → (size mask : ℕ) → alignment_ok mask ≡ true → size_ok s size mask ≡ true
    → (c x : ℕ) → Stretch (size_for s size mask) t c x → GoodBlock s.store.atom size mask (given_in t) (loans_in t) (chunks_in t) (given_in t + 1) c x (size_for s size mask)
stretch_good s t fit sound size mask aligned sized c x f = record {
  next = refl;
  held = (chunk_at t c, held_seen t c f.held, refl, f.inside);
  aligned = multiple x (size_for s size mask) (mask + 1) f.aligned (size_aligned s fit size mask sized aligned);
  atoms = multiple x (size_for s size mask) (s.store.atom + 1) f.aligned (size_units s fit size mask sized);
  enough = size_enough s fit size mask sized;
  apart = stretch_apart s t (size_for s size mask) c x f;
  new = λ l m. omega (arith, seen_given s t fit sound l m);
}
