-- The groups of tests come to the whole row: the first that fails decides it, and where none does the walk is left.
use mathlib.Core.Path.{◌≡◌, refl, sym, ap, ◌∙◌}
use mathlib.Core.Bool.{Bool, true, false, ◌&&◌, and_assoc}
use mathlib.Core.List.{List, [], ◌∷◌}
use Prim.Native.Nat.{ℕ, ◌-◌}
use lib.Dec.{eqb, leb}
use lib.ListN.{length, get_or}
use Rattle.lists.specs.Tests.{all}
use Rattle.words.specs.Rows.{rows}
use Rattle.counter.specs.declared.settings.FreeListSettings.{FreeListSettings}
use Rattle.store_rules.specs.Loans.{given_at, places_at, loans_of}
use Rattle.slabs.specs.Test.{vacancies}
use Rattle.book_rules.specs.Kept.{kept_ok}
use Rattle.freelist_rules.specs.Records.{chunk_row, gap_row}
use Rattle.freelist_rules.specs.Threads.{after_in, before_in, free_of, wholes, leads_ok, fronts_ok}
use Rattle.freelist_walk.specs.Walked.{walk_ok}
use Rattle.freelist_rules.specs.Tables.{Tables, tables, made_at, chunk_size_at, chunks_at, region_count_at, regions_most, store_of, parted_in, chained_in, sound_ok, marks, signed_ok, places_in, vacant_in, records_in, along_in, gaps_in, whole_at, whole_in}
use Rattle.freelist_rules.specs.Walk.{all_ok, sized_ok, numbers_rise, chunk_ok, loan_ok, fills_ok, apart, memories}
use Rattle.freelist_test.specs.Parts.{counted, head_ok, lent_ok, live_count, each_ok, chunks_ok, walked_ok}

-- fourteen tests from the left, as groups of three, three, four and four: the tenth goes before the sixth
regroup : (a b c d e f g h i j k l m n o : Bool) → all (a ∷ b ∷ c ∷ d ∷ e ∷ f ∷ g ∷ h ∷ i ∷ j ∷ (k && l) ∷ m ∷ n ∷ o ∷ [])
    ≡ (((a && b) && c) && ((d && e) && ((f && ((g && h) && i)) && (j && (k && (l && (m && (n && o))))))))
regroup a b c d e f g h i j k l m n o = simp and_assoc

sooner : (a b c d : Bool) → (a && (b && (c && d))) ≡ ((a && c) && (b && d))
sooner true true c d = refl
sooner true false true d = refl
sooner true false false d = refl
sooner false b c d = refl

module _ (s : FreeListSettings) (head loans chunks index regions : List ℕ) where
  abbrev whole : Bool
  whole = sound_ok s (tables head loans chunks index regions)

  abbrev t : Tables
  t = tables head loans chunks index regions

  -- the groups, by the numbers that the code reads
  abbrev chunks_part : ℕ → ℕ → ℕ → Bool
  chunks_part made size k = chunks_ok s made size (rows chunk_row k chunks)

  abbrev fills_part : ℕ → ℕ → Bool
  fills_part k n = walked_ok s chunks k loans index regions n

  -- the row is its groups
  parts : whole ≡ (head_ok s (tables head loans chunks index regions) (get_or regions region_count_at 0) && (lent_ok s loans index && (chunks_part (get_or chunks made_at 0) (get_or head chunk_size_at 0) (get_or chunks chunks_at 0)
      && fills_part (get_or chunks chunks_at 0) (get_or regions region_count_at 0))))
  unfolding sound_ok store_of head_ok lent_ok kept_ok chunks_ok each_ok chunk_ok loan_ok walked_ok walk_ok
  parts =
      regroup
      (signed_ok marks (tables head loans chunks index regions))
      (leb (get_or chunks chunks_at 0) s.store.chunks)
      (leb (get_or regions region_count_at 0) (regions_most s))
      (parted_in s (tables [] loans [] index []))
      (chained_in s (tables [] loans [] index []))
      (sized_ok s (get_or head chunk_size_at 0))
      (numbers_rise 1 (rows chunk_row (get_or chunks chunks_at 0) chunks))
      (all_ok (chunk_ok s (counted 0 (get_or chunks made_at 0) (get_or head chunk_size_at 0))) (rows chunk_row (get_or chunks chunks_at 0) chunks))
      (apart (memories (rows chunk_row (get_or chunks chunks_at 0) chunks)))
      (all_ok (loan_ok s (counted (get_or loans given_at 0) 0 0)) (loans_of (get_or loans places_at 0) loans))
      (leads_ok (after_in s.store.loans index) (before_in s.store.loans index) (vacant_in t) (places_in t) 0 (records_in s t))
      (eqb (length (records_in s t)) (places_in t - vacancies (vacant_in t) (places_in t)))
      (fills_ok (rows chunk_row (get_or chunks chunks_at 0) chunks) (along_in s t) (free_of (gaps_in t)))
      (fronts_ok loans (records_in s t) (gaps_in t))
      (eqb (whole_in t) (wholes (rows chunk_row (get_or chunks chunks_at 0) chunks) (free_of (gaps_in t))))
      ∙ ap (λ (b : Bool). head_ok s t (get_or regions region_count_at 0) && b)
      (sooner (parted_in s t && chained_in s t) (chunks_part (get_or chunks made_at 0) (get_or head chunk_size_at 0) (get_or chunks chunks_at 0)) (all_ok (loan_ok s (counted (get_or loans given_at 0) 0 0)) (loans_of (get_or loans places_at 0) loans))
      (fills_part (get_or chunks chunks_at 0) (get_or regions region_count_at 0)))

  -- one group after the other, with what the code has read and was told
  module _ (n : ℕ) (hd : Bool) (ns : n ≡ get_or regions region_count_at 0) (hs : hd ≡ head_ok s (tables head loans chunks index regions) n) where
    head_is : head_ok s (tables head loans chunks index regions) (get_or regions region_count_at 0) ≡ hd
    head_is = sym (hs ∙ ap (head_ok s (tables head loans chunks index regions)) ns)

    pub head_fails : hd ≡ false → false ≡ whole
    head_fails f = sym (parts ∙ rw (head_is ∙ f) refl)

    module _ (ht : hd ≡ true) (ln : Bool) (ls : ln ≡ lent_ok s loans index) where
      pub loans_fail : ln ≡ false → false ≡ whole
      loans_fail f = sym (parts ∙ rw (head_is ∙ ht, sym ls ∙ f) refl)

      module _ (lt : ln ≡ true) (k size made : ℕ) (ch : Bool) (ks : k ≡ get_or chunks chunks_at 0) (zs : size ≡ get_or head chunk_size_at 0) (ms : made ≡ get_or chunks made_at 0)
          (cs : ch ≡ chunks_part made size k) where
        chunks_is : chunks_part (get_or chunks made_at 0) (get_or head chunk_size_at 0) (get_or chunks chunks_at 0) ≡ ch
        chunks_is = sym (cs ∙ (λ j. chunks_part (ms j) (zs j) (ks j)))

        pub chunks_fail : ch ≡ false → false ≡ whole
        chunks_fail f = sym (parts ∙ rw (head_is ∙ ht, sym ls ∙ lt, chunks_is ∙ f) refl)

        -- the walk is left
        pub walk_left : ch ≡ true → (p live : ℕ) (r : Bool) → p ≡ get_or loans places_at 0 → live ≡ live_count loans
            → r ≡ walk_ok s.store.loans (rows chunk_row k chunks) loans p index (rows gap_row n regions) live (get_or regions whole_at 0) → r ≡ whole
        unfolding walked_ok
        walk_left ct p live r ps vs e =
            e ∙ (λ j. walk_ok s.store.loans (rows chunk_row (ks j) chunks) loans (ps j) index (rows gap_row (ns j) regions) (vs j) (get_or regions whole_at 0))
            ∙ sym (parts ∙ rw (head_is ∙ ht, sym ls ∙ lt, chunks_is ∙ ct) refl)
