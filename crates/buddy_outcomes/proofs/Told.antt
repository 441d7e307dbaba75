-- What a buddy store says where its gate passes: the block, the order, or the number of the first test that fails; and of a
-- return that is taken, how many chunks went and which.
use mathlib.Core.Path.{◌≡◌, refl, sym, ap, subst, ◌∙◌}
use mathlib.Core.Bool.{Bool, true, false, ◌&&◌, not, and-false}
use mathlib.Core.Logic.{⊎_elim}
use mathlib.Core.List.{List, [], ◌∷◌}
use Prim.Native.Nat.{ℕ, ◌+◌, ◌≤◌, ◌<◌}
use native.Mathlib.Omega.{arith}
use lib.Dec.{eqb, ltb}
use lib.ListN.{length, get_or, set}
use lib.Seq.{length-sets, get_or-set_same, get_or-set_other}
use borrow.Author.Tests.{leb-true}
use Rattle.lists.proofs.Bools.{told}
use Rattle.words.specs.Words.{cell_of}
use Rattle.counter.specs.Account.{heap_at}
use Rattle.counter.specs.Gate.{Verdict, pass, refuse, first, gated}
use Rattle.counter.specs.Paper as Paper
use Rattle.counter.specs.Table.{alignment_ok}
use Rattle.counter.specs.declared.account.Account.{Account}
use Rattle.std.specs.Prelude.{Some}
use Rattle.counter.specs.declared.answers.Block.{Block}
use Rattle.counter.specs.declared.settings.BuddySettings.{BuddySettings}
use Rattle.store_rules.specs.Orders.{order_from, kept_from}
use Rattle.store_rules.specs.Outcomes.{Listed, out, list_ok, with_order, block_said, released_account}
use Rattle.buddy_rules.specs.Tables.{Tables, chunk_words, chunk_size_at, memory_in, held_in, chunk_places_at}
use Rattle.buddy_outcomes.specs.Gate.{gate_of}
use Rattle.buddy_outcomes.specs.Ask as Ask
use Rattle.buddy_outcomes.specs.Ask.{Found, nowhere, at, found_from, grown_to, order_bytes, size_ok, room_ok, count_ok, objects_ok, ask_row, planned, decide_ask, loan_from, taken_tables, grown_tables, denied_tables, carry_ask, plan_ask, ask_of, size_for, level_for}
use Rattle.buddy_outcomes.specs.Return.{word_for, on_loan_ok, climb_for, given_tables, released_by, return_of}
use Rattle.buddy_outcomes.proofs.Passing.{gate_passed}
use Rattle.buddy_outcomes.proofs.Loaned.{on_loan_is}
use Rattle.buddy_outcomes.proofs.Given.{held, place}
use Rattle.buddy_outcomes.proofs.Heads.{left_chunk_places}
use Rattle.buddy_outcomes.proofs.Returned.{held_taken}

-- ---- an ask that passes the gate and the tests of mask and size

module _ (s : BuddySettings) (a : Account) (size mask : ℕ) (t : Tables) (gate : gate_of s a t true ≡ pass) (five : alignment_ok mask ≡ true) (six : size_ok s size mask ≡ true) where
  abbrev found : Found
  found = found_from s (level_for s size mask) t

  answer : (v : Verdict) → first (ask_row s (heap_at a s.store.heap) a.objects size mask t found) ≡ v → ask_of s a size mask t ≡ carry_ask s a size mask t (planned s (level_for s size mask) t found v)
  unfolding ask_of plan_ask decide_ask
  answer v e =
      ap (λ (g : Verdict). carry_ask s a size mask t (gated Ask.deny g (decide_ask s (heap_at a s.store.heap) a.objects size mask t))) gate
      ∙ ap (λ (w : Verdict). carry_ask s a size mask t (planned s (level_for s size mask) t found w)) e

  -- an ask with no loan place, chunk place or pair place is refused as 8 and leaves everything, whatever else fails after it
  pub full_first : room_ok s (level_for s size mask) t found ≡ false → ask_of s a size mask t ≡ out (Paper.refusal 8 []) a t
  unfolding carry_ask denied_tables
  full_first eight = answer (refuse 8) (rw (five, six, eight) refl)

  module _ (eight : room_ok s (level_for s size mask) t found ≡ true) (ten : count_ok s (heap_at a s.store.heap) (level_for s size mask) t found ≡ true) where
    module _ (nine : objects_ok a.objects found ≡ true) where
      passing : first (ask_row s (heap_at a s.store.heap) a.objects size mask t found) ≡ pass
      passing = rw (five, six, eight, ten, nine) refl

      -- an ask whose tests all hold is served with a block where the search found a level with a ready side
      pub ask_served : (i : ℕ) → found ≡ at i → ask_of s a size mask t ≡ out (block_said (loan_from s (size_for s size mask) t i)) a (taken_tables s (size_for s size mask) (level_for s size mask) t i)
      unfolding carry_ask
      ask_served i e = answer pass passing ∙ ap (λ (f : Found). carry_ask s a size mask t (planned s (level_for s size mask) t f pass)) e

      -- and with an order where it found none: the order is open in the account, and the levels have grown as it needs
      pub ask_ordered : found ≡ nowhere
          → ask_of s a size mask t
          ≡ out (Paper.order_of (order_from s.store (order_bytes s (level_for s size mask) t)))
          (with_order a (Some (kept_from s.store size mask (order_bytes s (level_for s size mask) t))))
          (grown_tables s (grown_to (level_for s size mask) t) t)
      unfolding carry_ask
      ask_ordered e = answer pass passing ∙ ap (λ (f : Found). carry_ask s a size mask t (planned s (level_for s size mask) t f pass)) e

-- ---- a return that is taken

-- it says `released n`, n none or one; so many objects are given back; the list's first n words are the memory number of the
-- block's chunk, and every other word is as it was. That chunk was held, and is still held exactly where none is released; of
-- every other chunk place nothing changes
pub record Releases (a : Account) (c : ℕ) (t : Tables) (list : List ℕ) (r : Listed Tables) : Type 0 where
  pub gone : ℕ
  pub few : gone ≤ 1
  pub said : r.said ≡ Paper.released gone
  pub objects : r.account.objects ≡ a.objects + gone
  pub held : held_in t c ≡ true
  pub stays : held_in r.tables c ≡ eqb gone 0
  pub elsewhere : (x : ℕ) → (x ≡ c → ⊥) → held_in r.tables x ≡ held_in t x
  pub number : (i : ℕ) → i < gone → get_or r.list i 0 ≡ memory_in t c
  pub others : (i : ℕ) → gone ≤ i → get_or r.list i 0 ≡ get_or list i 0
  pub long : length r.list ≡ length list

module _ (s : BuddySettings) (a : Account) (b : Block) (t : Tables) (list : List ℕ) where
  -- the chunks with the size of the block's struck out: whether the place x holds one still
  abbrev less : List ℕ
  less = set t.chunks (cell_of chunk_size_at chunk_words b.chunk) 0

  abbrev still : ℕ → ℕ → Bool
  still x z = ltb x (get_or less chunk_places_at 0) && not (eqb z 0)

  still_other : (x : ℕ) → (x ≡ b.chunk → ⊥) → still x (get_or less (cell_of chunk_size_at chunk_words x) 0) ≡ held_in t x
  still_other x n =
      let z = get_or-set_other t.chunks (cell_of chunk_size_at chunk_words b.chunk) (cell_of chunk_size_at chunk_words x) 0 0 (λ e. n (omega arith)) in
      let p = left_chunk_places b.chunk t.chunks true in
      (λ j. ltb x (p j) && not (eqb (z j) 0))

  releases : held_in t b.chunk ≡ true → cell_of chunk_size_at chunk_words b.chunk < length t.chunks → 0 < length list → (w : ℕ) → Releases a b.chunk t list (released_by s a b w t list)
  unfolding released_by released_account given_tables
  releases h cell room w =
      ⊎_elim
      (λ e. rw e
      (record {
        gone = 1;
        few = omega arith;
        said = refl;
        objects = refl;
        held = h;
        stays = ap (still b.chunk) (get_or-set_same t.chunks (cell_of chunk_size_at chunk_words b.chunk) 0 0 cell) ∙ and-false (ltb b.chunk (get_or less chunk_places_at 0));
        elsewhere = still_other;
        number = λ i k. let z : i ≡ 0 = omega arith in rw z (get_or-set_same list 0 (memory_in t b.chunk) 0 room);
        others = λ i k. get_or-set_other list 0 i (memory_in t b.chunk) 0 (λ z. omega arith);
        long = length-sets list 0 (memory_in t b.chunk ∷ []);
      }))
      (λ e. rw e
      (record {
        gone = 0;
        few = omega arith;
        said = refl;
        objects = refl;
        held = h;
        stays = h;
        elsewhere = λ x n. refl;
        number = λ i k. absurd (omega arith);
        others = λ i k. refl;
        long = refl;
      }))
      (told (climb_for s b w t).freed)

  -- a block on loan that is returned: its chunk goes or stays, and the answer, the objects and the list tell which
  pub return_objects : gate_of s a t (list_ok s.store list) ≡ pass → on_loan_ok s b t ≡ true → Releases a b.chunk t list (return_of s a b t list)
  return_objects gate on =
      let p = gate_passed s a t (list_ok s.store list) (sym gate) in
      let fit = p.lent.settings in
      let o = on_loan_is s t fit p.lent.lengths p.sound b on in
      subst (λ (r : Listed Tables). Releases a b.chunk t list r)
      (sym (held_taken s a b t list gate _ o.0 o.1))
      (releases (held s t fit p.lent.lengths p.sound b on)
      (omega (arith, p.lent.lengths.chunks, (place s t fit p.lent.lengths p.sound b on).0, p.sound.chunks_parted.limit))
      (omega (arith, fit.store.chunks_some, leb-true s.store.chunks (length list) p.listed))
      (word_for s b t))
