-- The released list and the count say the same: a return or a clean-up writes the memory number of each chunk that it
-- releases, and nothing past them.
use mathlib.Core.Path.{◌≡◌, refl, sym, ap, subst, ◌∙◌}
use mathlib.Core.Bool.{Bool, true, false}
use mathlib.Core.Logic.{◌↔◌}
use mathlib.Core.List.{List, [], Memᴰ}
use Prim.Native.Nat.{ℕ, ◌+◌, ◌≤◌}
use native.Mathlib.Omega.{arith}
use lib.ListN.{length, take, drop}
use lib.Seq.{sets, length-sets, take_at, drop_at}
use borrow.Author.Tests.{leb-true}
use Rattle.counter.specs.InTable.{FreeListIn}
use Rattle.counter.specs.Paper as Paper
use Rattle.counter.specs.declared.account.Account.{Account}
use Rattle.counter.specs.declared.answers.Block.{Block}
use Rattle.counter.specs.declared.settings.FreeListSettings.{FreeListSettings}
use Rattle.counter.proofs.Papers.{kind_of}
use Rattle.store_rules.specs.Outcomes.{Listed, list_ok}
use Rattle.freelist_rules.specs.Records.{Store}
use Rattle.freelist_rules.specs.Release.{memories_of}
use Rattle.freelist_rules.specs.Steps.{released}
use Rattle.freelist_rules.specs.Tables.{Tables, Lengths, store_of, SoundTables}
use Rattle.store_rules.specs.declared.Chunk.{Chunk}
use Rattle.store_rules.specs.declared.Region.{Region}
use Rattle.freelist_rules.proofs.Fits.{lengths_are, chunks_length}
use Rattle.freelist_rules.proofs.Listed.{sets_front, memories_length}
use Rattle.freelist_rules.proofs.GivesBack.{gone_count, gone_memories}
use Rattle.freelist_outcomes.specs.Return.{word_for, on_loan_ok, given_tables, gone_from, released_tables, release_of, return_of, clean_up_of}
use Rattle.freelist_outcomes.proofs.Changed.{released_store}
use Rattle.freelist_outcomes.proofs.Comes.{ReturnComes, takes, return_comes, CleanUpComes, cleans, clean_up_comes}
use Rattle.freelist_outcomes.proofs.Given.{given_store, given_lengths, given_sound}
use Rattle.freelist_outcomes.proofs.Passing.{Passed}
use Rattle.freelist_outcomes.specs.Told.{to_free, Told}

-- no refusal is a release
refused_not : (k n : ℕ) (back : List ℕ) → Paper.refusal k back ≡ Paper.released n → ⊥
refused_not k n back e = let z : ◌≡◌ {A = ℕ} 5 3 = ap kind_of e in omega arith

-- a chunk with the memory number m that is of the one list and not of the other
abbrev Went : ℕ → List Chunk → List Chunk → Type 0
Went m before after = (c : Chunk) × Memᴰ c before × (c.memory ≡ m) × (Memᴰ c after → ⊥)

-- ---- a release, of tables u that hold the chunks of t

module _ (s : FreeListSettings) (t u : Tables) (fit : FreeListIn s) (lengths : Lengths s u) (sound : SoundTables s u) (same : (store_of s u).chunks ≡ (store_of s t).chunks) (spare : Bool) (list : List ℕ) (room : s.store.chunks ≤ length list) where
  abbrev gone : List Region
  gone = gone_from s spare u

  abbrev numbers : List ℕ
  numbers = memories_of (store_of s u).chunks gone

  abbrev left : Tables
  left = released_tables s spare u

  chunks_left : (store_of s left).chunks ≡ (released spare (store_of s u)).chunks
  chunks_left = ap (λ (v : Store). v.chunks) (released_store s u fit lengths sound spare)

  told_count : length (store_of s left).chunks + length gone ≡ length (store_of s t).chunks
  told_count = omega (arith, ap length chunks_left, gone_count s (store_of s u) fit sound.store spare, ap length same)

  -- no more go than were held, and the list holds the chunk limit
  fits : length numbers ≤ length list
  fits = omega (arith, memories_length (store_of s u).chunks gone, told_count, ap length same, chunks_length s u, sound.chunks_fit, room)

  told_numbers : (m : ℕ) → Memᴰ m numbers ↔ Went m (store_of s t).chunks (store_of s left).chunks
  told_numbers m =
      subst (λ (cs : List Chunk). Memᴰ m numbers ↔ Went m cs (store_of s left).chunks) same
      (subst (λ (cs : List Chunk). Memᴰ m numbers ↔ Went m (store_of s u).chunks cs) (sym chunks_left) (gone_memories s (store_of s u) fit sound.store spare m))

  told_of : (n : ℕ) → length gone ≡ n → Told s t left list (sets list 0 numbers) n
  told_of n e =
      let long : length numbers ≡ n = memories_length (store_of s u).chunks gone ∙ e in
      let tail = drop (length numbers) list in
      let written : take n (sets list 0 numbers) ≡ numbers = ap (take n) (sets_front list numbers fits) ∙ take_at numbers tail n long in
      record {
        count = omega (arith, told_count, e);
        numbers = λ m. subst (λ (ms : List ℕ). Memᴰ m ms ↔ Went m (store_of s t).chunks (store_of s left).chunks) (sym written) (told_numbers m);
        rest = ap (drop n) (sets_front list numbers fits) ∙ drop_at numbers tail n long ∙ ap (λ (k : ℕ). drop k list) long;
        long = length-sets list 0 numbers;
      }

-- ---- the calls

-- a return tells as many memory numbers as chunks went, and which
pub return_told : (s : FreeListSettings) (a : Account) (b : Block) (t : Tables) (list : List ℕ) (n : ℕ) → (return_of s a b t list).said ≡ Paper.released n
    → Told s t (return_of s a b t list).tables list (return_of s a b t list).list n
unfolding release_of
return_told s a b t list n = go (return_of s a b t list) (return_comes s a b t list)
  where
    back : Passed s a t (list_ok s.store list) → on_loan_ok s b t ≡ true → length (gone_from s true (given_tables s b (word_for s b t) t)) ≡ n
        → Told s t (released_tables s true (given_tables s b (word_for s b t) t)) list (release_of s a true (given_tables s b (word_for s b t) t) list).list n
    back p on e =
        let lengths = lengths_are s t p.lengths in
        told_of s t (given_tables s b (word_for s b t) t) p.settings (given_lengths s t p.settings lengths p.sound b on) (given_sound s t p.settings lengths p.sound b on)
        (ap (λ (v : Store). v.chunks) (given_store s t p.settings lengths p.sound b on))
        true list (leb-true s.store.chunks (length list) p.listed) n e

    go : (r : Listed Tables) → ReturnComes s a b t list r → r.said ≡ Paper.released n → Told s t r.tables list r.list n
    go _ (ReturnComes.denied k) e = absurd (refused_not k n [] e)
    go _ (takes p on) e = back p on (ap to_free e)

-- and so does a clean-up
pub clean_up_told : (s : FreeListSettings) (a : Account) (t : Tables) (list : List ℕ) (n : ℕ) → (clean_up_of s a t list).said ≡ Paper.released n
    → Told s t (clean_up_of s a t list).tables list (clean_up_of s a t list).list n
unfolding release_of
clean_up_told s a t list n = go (clean_up_of s a t list) (clean_up_comes s a t list)
  where
    go : (r : Listed Tables) → CleanUpComes s a t list r → r.said ≡ Paper.released n → Told s t r.tables list r.list n
    go _ (CleanUpComes.denied k) e = absurd (refused_not k n [] e)
    go _ (cleans p) e =
        told_of s t t p.settings (lengths_are s t p.lengths) p.sound refl false list (leb-true s.store.chunks (length list) p.listed) n (ap to_free e)
