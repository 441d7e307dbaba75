-- A block that is on loan can be taken back; and where its chunk goes, one more device object is still within the limit.
use mathlib.Core.Path.{◌≡◌, refl, sym, ap, ◌∙◌}
use mathlib.Core.Bool.{Bool, true, ◌&&◌}
use mathlib.Core.Logic.{⊎_elim}
use mathlib.Core.List.{List}
use Prim.Native.Nat.{ℕ, zero, suc, ◌+◌, ◌-◌, ◌≤◌, ◌<◌}
use native.Mathlib.Omega.{arith}
use lib.Dec.{leb}
use borrow.Author.Tests.{leb-true}
use Rattle.lists.proofs.Bools.{and_right, same?}
use Rattle.rounding_rules.specs.Raising.{level_of}
use Rattle.counter.specs.Account.{heap_at}
use Rattle.counter.specs.InTable.{BuddyIn}
use Rattle.counter.specs.Limits.{objects_most}
use Rattle.counter.specs.declared.account.Account.{Account}
use Rattle.counter.specs.declared.account.Heap.{Heap}
use Rattle.counter.specs.declared.answers.Block.{Block}
use Rattle.counter.specs.declared.settings.BuddySettings.{BuddySettings}
use Rattle.heap.specs.Heap.{agrees_ok}
use Rattle.store_rules.specs.Tests.{covers_ok}
use Rattle.book_rules.specs.Book.{led_to}
use Rattle.buddy_trees.proofs.Fills.{has_in}
use Rattle.buddy_rules.specs.Stores.{piece}
use Rattle.buddy_rules.specs.Tables.{Tables, tables, Lengths, levels_in, chunk_places_in, loan_in, held_in, high_in}
use Rattle.buddy_rules.specs.Sound.{Sound}
use Rattle.buddy_outcomes.specs.Gate.{held_count, held_bytes, account_ok}
use Rattle.buddy_outcomes.specs.Return.{word_for, on_loan_ok, climb_for}
use Rattle.buddy_outcomes.proofs.Given.{live, room, word_in, says, held, place}
use Rattle.buddy_outcomes.proofs.Passing.{Passed}
use Rattle.buddy_outcomes.proofs.Changed.{few_pairs}
use Rattle.buddy_rules.proofs.Climbing.{loan_path}
use Rattle.buddy_moves.specs.Footing.{Footing}
use Rattle.buddy_moves.specs.Ready.{Backs}
use Rattle.buddy_moves.proofs.Footings.{footing}
use Rattle.buddy_moves.proofs.Lending.{node_in}

module _ (s : BuddySettings) (b : Block) (t : Tables) (fit : BuddyIn s) (lengths : Lengths s t) (sound : Sound s t) (on : on_loan_ok s b t ≡ true) where
  abbrev k : ℕ
  k = led_to t.index (word_for s b t)

  -- a loan lies in its chunk, which is no higher than the levels are
  level_in_lem : (loan_in s t k).lev ≤ levels_in t
  level_in_lem =
      let h = sound.standing.has k (live s t fit lengths sound b on) in
      let c = (loan_in s t k).chunk in
      omega (arith, (has_in s.minimal (high_in s t c) 0 (sound.standing.trees c) (piece (loan_in s t k) k) h.1).2, (sound.standing.sized c h.0).3)

  -- the way up from the loan's node
  rising : Footing s.pairs (levels_in t - (loan_in s t k).lev) (loan_in s t k).lev (loan_in s t k).node t.room
  rising =
      let on = live s t fit lengths sound b on in
      let r = loan_path s (few_pairs s fit) t fit lengths sound k on in
      footing s (few_pairs s fit) t.room (levels_in t - (loan_in s t k).lev) (loan_in s t k).lev (loan_in s t k).node t.room (omega (arith, r.0, sound.levels_most_lem)) (omega (arith, lengths.room))
      (λ i j h. refl) (λ i j h. sound.good i (omega (arith, r.0))) r.1

  pub backs_ready : Backs s b (word_for s b t) t
  backs_ready =
      let e : (loan_in s t k).lev ≡ level_of b.size s.minimal = ap (λ (z : ℕ). level_of z s.minimal) (says s t fit lengths sound b on).size in
      record {
        fit = fit;
        below = omega (arith, e, level_in_lem);
        low = sound.levels_most_lem;
        head = omega (arith, lengths.head);
        node = node_in s t lengths k (room s t fit lengths sound b on);
        footing = rw (sym e) rising;
        place = omega (arith, room s t fit lengths sound b on, fit.store.loans_most_lem);
        strikes =
            record {
              leads = refl;
              word = omega (arith, word_in s t fit lengths sound b on, lengths.index);
              size = omega (arith, room s t fit lengths sound b on, lengths.loans);
              after = omega (arith, room s t fit lengths sound b on, lengths.index);
            };
      }

-- what is asked looks at no chunk
pub backs_rest : (s : BuddySettings) (b : Block) (w : ℕ) (t : Tables) (chunks : List ℕ) → Backs s b w t → Backs s b w (tables t.head t.loans chunks t.index t.room)
backs_rest s b w t chunks r =
    record { fit = r.fit; below = r.below; low = r.low; head = r.head; place = r.place; node = r.node; footing = r.footing; strikes = r.strikes }

-- ---- the device objects

-- a chunk that is held is counted
count_some : (t : Tables) (n c : ℕ) → held_in t c ≡ true → c < n → 1 ≤ held_count t n
unfolding held_count
count_some t zero c e h = absurd (omega arith)
count_some t (suc n) c e h = ⊎_elim
    (λ q. let f : held_in t n ≡ true = ap (held_in t) (sym q) ∙ e in rw f (omega arith))
    (λ q. omega (arith, count_some t n c e (omega arith)))
    (same? c n)

few_objects : (h : Heap) (objects chunks bytes : ℕ) → covers_ok h objects chunks bytes ≡ true → objects + chunks ≤ objects_most
unfolding covers_ok
few_objects h objects chunks bytes e =
    leb-true (objects + chunks) objects_most
    (and_right (agrees_ok h) (leb (objects + chunks) objects_most) (and_right (leb bytes h.used) (agrees_ok h && leb (objects + chunks) objects_most) e))

pub gives_object : (s : BuddySettings) (a : Account) (b : Block) (t : Tables) (list : Bool) → Passed s a t list → on_loan_ok s b t ≡ true → (climb_for s b (word_for s b t) t).freed ≡ true
    → a.objects + 1 ≤ objects_most
unfolding account_ok
gives_object s a b t list p on freed =
    let fit = p.lent.settings in
    let lengths = p.lent.lengths in
    let n = chunk_places_in t in
    let few = few_objects (heap_at a s.store.heap) a.objects (held_count t n) (held_bytes t n) p.covered in
    omega (arith, few, count_some t n b.chunk (held s t fit lengths p.sound b on) (place s t fit lengths p.sound b on).0)
