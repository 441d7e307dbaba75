-- A block on loan is handed back at a store that passes tests 1 to 4: what the return says, leaves and tells.
use mathlib.Core.Path.{◌≡◌, refl, sym, ap, subst, ◌∙◌}
use mathlib.Core.Bool.{Bool, true}
use mathlib.Core.Logic.{inl, inr, ⊎_elim}
use mathlib.Core.List.{List, []}
use Prim.Native.Nat.{ℕ, ◌-◌, ◌≤◌}
use native.Mathlib.Omega.{arith}
use lib.ListN.{length, take, drop}
use lib.Seq.{sets, take-append_seam}
use borrow.Author.Tests.{le-leb}
use Rattle.lists.proofs.Bools.{told, true_false}
use Rattle.counter.specs.Gate.{pass}
use Rattle.counter.specs.InTable.{FreeListIn}
use Rattle.counter.specs.Paper as Paper
use Rattle.counter.specs.declared.account.Account.{Account}
use Rattle.counter.specs.declared.answers.Block.{Block}
use Rattle.counter.specs.declared.settings.FreeListSettings.{FreeListSettings}
use Rattle.store_rules.specs.Outcomes.{Listed, to_free, released_account}
use Rattle.store_rules.specs.Views.{OnLoan, sizes, Go}
use Rattle.freelist_rules.specs.Records.{Store}
use Rattle.freelist_rules.specs.Release.{leaving, is_covered, memories_of, bytes_of}
use Rattle.freelist_rules.specs.Sound.{Sound}
use Rattle.freelist_rules.specs.Steps.{released, returned}
use Rattle.freelist_rules.specs.Tables.{Tables, store_of}
use Rattle.freelist_rules.proofs.Fits.{lengths_are, chunks_length}
use Rattle.freelist_rules.proofs.GivesBack.{gone_bytes, gone_count, gone_memories}
use Rattle.freelist_rules.proofs.Releases.{remaining_in, in_remaining}
use Rattle.freelist_outcomes.specs.Gate.{gate_of}
use Rattle.freelist_outcomes.specs.Return.{word_for, on_loan_ok, given_tables, gone_from, released_tables, release_of, decide_return, plan_return, carry_return, return_of}
use Rattle.freelist_outcomes.proofs.Changed.{released_store}
use Rattle.freelist_outcomes.proofs.Given.{is_on_loan, given_lengths, given_store, given_sound}
use Rattle.freelist_outcomes.proofs.Passing.{Passed, gate_passed}
use Rattle.freelist_rules.proofs.Listed.{sets_front, memories_length}
use Rattle.freelist_engine.proofs.Stepping.{back_store}

-- ---- a release

release_goes : (s : FreeListSettings) (t : Store) → FreeListIn s → Sound s t → (spare : Bool) → Go t.chunks (released spare t).chunks (memories_of t.chunks (leaving t.chunks spare [] t.regions))
release_goes s t fit sound spare =
    let gone = leaving t.chunks spare [] t.regions in
    record {
      among = λ c m. (remaining_in gone c t.chunks m).0;
      either = λ c m.
          ⊎_elim (λ e. inr (λ k. true_false (is_covered gone c) e (remaining_in gone c t.chunks k).1)) (λ e. inl (in_remaining gone c t.chunks m e))
          (told (is_covered gone c));
      count = omega (arith, gone_count s t fit sound spare, memories_length t.chunks gone);
      bytes = omega (arith, gone_bytes s t fit sound spare);
      tells = gone_memories s t fit sound spare;
    }

-- the first words of a list are those written there
written : (list ms : List ℕ) (n : ℕ) → length ms ≡ n → n ≤ length list → take n (sets list 0 ms) ≡ ms
written list ms n e h =
    ap (λ (k : ℕ). take k (sets list 0 ms)) (sym e) ∙ ap (take (length ms)) (sets_front list ms (omega arith)) ∙ take-append_seam ms (drop (length ms) list)

-- ---- a return

-- what it comes to: chunks released, and nothing else of the account changed
pub record Handed (s : FreeListSettings) (a : Account) (b : Block) (t : Tables) (r : Listed Tables) : Type 0 where
  pub said : (n : ℕ) × (r.said ≡ Paper.released n)
  pub store : store_of s r.tables ≡ returned b (store_of s t)
  pub account : r.account ≡ released_account s.store a (length (store_of s t).chunks - length (store_of s r.tables).chunks) (sizes (store_of s t).chunks - sizes (store_of s r.tables).chunks)
  pub goes : Go (store_of s t).chunks (store_of s r.tables).chunks (take (to_free r.said) r.list)

module _ (s : FreeListSettings) (a : Account) (b : Block) (t : Tables) (list : List ℕ) (passes : gate_of s a t true ≡ pass)
    (lent : OnLoan b (store_of s t).loans) (long : s.store.chunks ≤ length list) where
  p : Passed s a t true
  p = gate_passed s a t true (sym passes)

  on : on_loan_ok s b t ≡ true
  on = is_on_loan s t p.settings p.sound b lent

  abbrev u : Tables
  u = given_tables s b (word_for s b t) t

  return_is : return_of s a b t list ≡ release_of s a true u list
  unfolding return_of plan_return carry_return decide_return
  return_is = rw (le-leb s.store.chunks (length list) long, passes, on)

  -- its chunks are those from before, and some go
  same_chunks : (store_of s u).chunks ≡ (store_of s t).chunks
  same_chunks = ap (λ (v : Store). v.chunks) (given_store s t p.settings (lengths_are s t p.lengths) p.sound b on)

  left_chunks_lem : (store_of s (released_tables s true u)).chunks ≡ (released true (store_of s u)).chunks
  left_chunks_lem =
      let lengths = lengths_are s t p.lengths in
      ap (λ (v : Store). v.chunks) (released_store s u p.settings (given_lengths s t p.settings lengths p.sound b on) (given_sound s t p.settings lengths p.sound b on) true)

  sound : Sound s (store_of s u)
  sound = (given_sound s t p.settings (lengths_are s t p.lengths) p.sound b on).store

  -- the return of a block on loan comes to that
  pub return_handed : Handed s a b t (return_of s a b t list)
  unfolding release_of
  return_handed = subst (Handed s a b t) (sym return_is) taken
    where
      n : ℕ
      n = length (gone_from s true u)

      count : length (store_of s t).chunks - length (store_of s (released_tables s true u)).chunks ≡ n
      count = omega (arith, gone_count s (store_of s u) p.settings sound true, ap length same_chunks, ap length left_chunks_lem)

      bytes : sizes (store_of s t).chunks - sizes (store_of s (released_tables s true u)).chunks ≡ bytes_of (gone_from s true u)
      bytes = omega (arith, gone_bytes s (store_of s u) p.settings sound true, ap sizes same_chunks, ap sizes left_chunks_lem)

      few : n ≤ length list
      few = omega (arith, gone_count s (store_of s u) p.settings sound true, ap length same_chunks, chunks_length s t, p.sound.chunks_fit)

      told_are : take n (sets list 0 (memories_of (store_of s u).chunks (gone_from s true u))) ≡ memories_of (store_of s u).chunks (gone_from s true u)
      told_are = written list (memories_of (store_of s u).chunks (gone_from s true u)) n (memories_length (store_of s u).chunks (gone_from s true u)) few

      goes : Go (store_of s t).chunks (store_of s (released_tables s true u)).chunks (take n (sets list 0 (memories_of (store_of s u).chunks (gone_from s true u))))
      goes = rw (told_are, ← same_chunks, left_chunks_lem) (release_goes s (store_of s u) p.settings sound true)

      taken : Handed s a b t (release_of s a true u list)
      taken =
          record {
            said = (n, refl);
            store = back_store s a b t true p on;
            account = λ j. released_account s.store a (sym count j) (sym bytes j);
            goes = goes;
          }
