-- Levels made one by one are the levels made.
use mathlib.Core.Path.{◌≡◌, refl, ◌∙◌}
use mathlib.Core.List.{List, [], ◌∷◌}
use Prim.Native.Nat.{ℕ, zero, suc, ◌+◌, ◌-◌, ◌*◌, ◌<◌}
use native.Mathlib.Omega.{arith}
use lib.ListN.{length, get_or, set}
use Rattle.counter.specs.declared.settings.BuddySettings.{BuddySettings}
use Rattle.store_rules.specs.Loans.{loan_words}
use Rattle.buddy_rules.specs.Level.{fresh_level}
use Rattle.buddy_rules.specs.Tables.{tables, levels_at, head_words, chunk_words, book_words, tree_words, level_from, marks}
use Rattle.buddy_outcomes.specs.Ask.{fresh_levels, grown_tables}
use Rattle.buddy_outcomes.specs.SetUp.{fresh_head, fresh_tables}
use Rattle.words.specs.Words.{mark_at, blank}

module _ (s : BuddySettings) where
  pub fresh_none : (l n : ℕ) (t : List ℕ) → n ≡ 0 → fresh_levels s l n t ≡ t
  unfolding fresh_levels
  fresh_none l zero t e = refl
  fresh_none l (suc n) t e = absurd (omega arith)

  pub fresh_on : (l n : ℕ) (t t' : List ℕ) (b : ℕ) → 0 < n → b ≡ level_from s l → t' ≡ fresh_level b t → fresh_levels s l n t ≡ fresh_levels s (l + 1) (n - 1) t'
  unfolding fresh_levels
  fresh_on l zero t t' b o e f = absurd (omega arith)
  fresh_on l (suc n) t t' b o e f =
      let p : suc n - 1 ≡ n = omega arith in
      let q : l + 1 ≡ suc l = omega arith in
      rw (p, q, f, e) refl

  pub grown_done : (n levels : ℕ) (head tree h' t' : List ℕ) → levels ≡ get_or head levels_at 0 → t' ≡ fresh_levels s levels (n - levels) tree → h' ≡ set head levels_at n
      → tables h' [] [] [] t' ≡ grown_tables s n (tables head [] [] [] tree)
  unfolding grown_tables
  grown_done n levels head tree h' t' e f g =
      (λ j. tables (g j) [] [] [] (f j)) ∙ (λ j. tables (set head levels_at n) [] [] [] (fresh_levels s (e j) (n - e j) tree))

-- ---- at set-up

pub head_fresh : (t : List ℕ) (n : ℕ) → length t ≡ head_words → set (set t mark_at marks.head) levels_at n ≡ marks.head ∷ n ∷ []
head_fresh [] n l = absurd (omega arith)
head_fresh (a ∷ []) n l = absurd (omega arith)
head_fresh (a ∷ b ∷ []) n l = refl
head_fresh (a ∷ b ∷ c ∷ t) n l = absurd (omega arith)

pub fresh_done : (s : BuddySettings) (h l c i r : List ℕ) → h ≡ fresh_head s → l ≡ blank (loan_words + loan_words * s.store.loans) marks.loans 0 → c ≡ blank (chunk_words + chunk_words * s.store.chunks) marks.chunks 0
    → i ≡ blank (book_words s) marks.index 0 → r ≡ blank (tree_words s) marks.room 0
    → tables h l c i r ≡ fresh_tables s
unfolding fresh_tables
fresh_done s h l c i r eh el ec ei er = λ j. tables (eh j) (el j) (ec j) (ei j) (er j)
