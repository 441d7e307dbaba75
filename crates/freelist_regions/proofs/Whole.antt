-- Records read and written word by word are read and written whole.
use Rattle.std.proofs.Common.{◌≡◌, ℕ, suc, ◌+◌, ◌*◌, List, [], ◌∷◌, get_or, drop, set, sym, refl, ap, ◌∙◌, arith, get_or-set_other}
use lib.Seq.{sets, set-get_or}
use Rattle.words.specs.Words.{cell_of}
use Rattle.words.specs.Rows.{row, written}
use Rattle.words.proofs.Records.{cell_row}
use Rattle.freelist_rules.specs.declared.Gap.{Gap}
use Rattle.freelist_rules.specs.Records.{region, region_words, region_chunk_at, region_start_at, region_end_at, region_front_at, gap_row}
use Rattle.freelist_rules.specs.Threads.{gap, region_in}

module _ (t : List ℕ) (w i : ℕ) where
  word : (k a : ℕ) → a ≡ get_or t (cell_of k w i) 0 → a ≡ get_or (drop (w * i) t) k 0
  word k a e = e ∙ cell_row t k w i

  pub three_read : {R : Type 0} (f : ℕ → ℕ → ℕ → R) (a b c : ℕ) → a ≡ get_or t (cell_of w w i) 0 → b ≡ get_or t (cell_of (w + 1) w i) 0 → c ≡ get_or t (cell_of (w + 2) w i) 0
      → f a b c ≡ f (get_or (drop (w * i) t) w 0) (get_or (drop (w * i) t) (w + 1) 0) (get_or (drop (w * i) t) (w + 2) 0)
  three_read f a b c p q r = let x = word w a p in let y = word (w + 1) b q in let z = word (w + 2) c r in (λ j. f (x j) (y j) (z j))

module _ (t : List ℕ) (w i : ℕ) where
  here : cell_of w w i ≡ w + w * i
  here = refl

  next : cell_of (w + 1) w i ≡ suc (w + w * i)
  next = omega arith

  third : cell_of (w + 2) w i ≡ suc (suc (w + w * i))
  third = omega arith

  pub three_written : (a b c : ℕ) (x y z : List ℕ) → x ≡ set t (cell_of w w i) a → y ≡ set x (cell_of (w + 1) w i) b → z ≡ set y (cell_of (w + 2) w i) c → z ≡ sets t (w + w * i) (a ∷ b ∷ c ∷ [])
  three_written a b c x y z p q r = r ∙ rw (q, p, here, next, third)

-- ---- a gap

module _ (t : List ℕ) (i : ℕ) where
  pub gap_read : (a b c d : ℕ) → a ≡ get_or t (cell_of region_chunk_at region_words i) 0 → b ≡ get_or t (cell_of region_start_at region_words i) 0 → c ≡ get_or t (cell_of region_end_at region_words i) 0 → d ≡ get_or t (cell_of region_front_at region_words i) 0
      → gap (region a b c) d ≡ row gap_row i t
  gap_read a b c d p q r s =
      let x = word t region_words i region_chunk_at a p in
      let y = word t region_words i region_start_at b q in
      let z = word t region_words i region_end_at c r in
      let w = word t region_words i region_front_at d s in
      (λ j. gap (region (x j) (y j) (z j)) (w j))

  first : cell_of region_chunk_at region_words i ≡ region_words + region_words * i
  first = omega arith

  second : cell_of region_start_at region_words i ≡ suc (region_words + region_words * i)
  second = omega arith

  end_word : cell_of region_end_at region_words i ≡ suc (suc (region_words + region_words * i))
  end_word = omega arith

  front_word : cell_of region_front_at region_words i ≡ suc (suc (suc (region_words + region_words * i)))
  front_word = omega arith

  pub gap_written : (g : Gap) (x y z w : List ℕ) → x ≡ set t (cell_of region_chunk_at region_words i) g.chunk → y ≡ set x (cell_of region_start_at region_words i) g.start → z ≡ set y (cell_of region_end_at region_words i) g.end → w ≡ set z (cell_of region_front_at region_words i) g.front
      → w ≡ written gap_row i g t
  gap_written g x y z w p q r s = s ∙ rw (r, q, p, first, second, end_word, front_word)

  -- a word as it is, written again
  same_word : (at : ℕ) → set t (cell_of at region_words i) (get_or (drop (region_words * i) t) at 0) ≡ t
  same_word at = ap (set t (cell_of at region_words i)) (sym (cell_row t at region_words i)) ∙ set-get_or t (cell_of at region_words i) 0

-- one word of it alone: the others are as they were
module _ (t : List ℕ) (i x : ℕ) where
  abbrev here' : ℕ → ℕ
  here' at = cell_of at region_words i

  abbrev was : ℕ → ℕ
  was at = get_or (drop (region_words * i) t) at 0

  two_same : set (set t (here' region_chunk_at) (was region_chunk_at)) (here' region_start_at) (was region_start_at) ≡ t
  two_same = ap (λ (u : List ℕ). set u (here' region_start_at) (was region_start_at)) (same_word t i region_chunk_at) ∙ same_word t i region_start_at

  pub end_written : (u : List ℕ) → u ≡ set t (cell_of region_end_at region_words i) x → u ≡ written gap_row i (gap (region (row gap_row i t).chunk (row gap_row i t).start x) (row gap_row i t).front) t
  end_written u e =
      e
      ∙ sym (set-get_or (set t (here' region_end_at) x) (here' region_front_at) 0)
      ∙ ap (set (set t (here' region_end_at) x) (here' region_front_at)) (get_or-set_other t (here' region_end_at) (here' region_front_at) x 0 (λ q. omega (arith, q)) ∙ cell_row t region_front_at region_words i)
      ∙ ap (λ (v : List ℕ). set (set v (here' region_end_at) x) (here' region_front_at) (was region_front_at)) (sym two_same)
      ∙ gap_written t i (gap (region (was region_chunk_at) (was region_start_at) x) (was region_front_at)) _ _ _ _ refl refl refl refl

  pub front_written : (u : List ℕ) → u ≡ set t (cell_of region_front_at region_words i) x → u ≡ written gap_row i (gap (region_in (row gap_row i t)) x) t
  front_written u e =
      e
      ∙ ap (λ (v : List ℕ). set v (here' region_front_at) x) (sym (ap (λ (v : List ℕ). set v (here' region_end_at) (was region_end_at)) two_same ∙ same_word t i region_end_at))
      ∙ gap_written t i (gap (region (was region_chunk_at) (was region_start_at) (was region_end_at)) x) _ _ _ _ refl refl refl refl
