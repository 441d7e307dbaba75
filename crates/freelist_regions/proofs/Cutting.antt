-- A region cut short, in words.
use Rattle.std.proofs.Common.{◌≡◌, ℕ, suc, ◌+◌, ◌-◌, ◌*◌, ◌<◌, ◌≤◌, List, length, get_or, set, sym, ap, ◌∙◌, add-one, arith, length-set, le-ltb, lt-ltb}
use Rattle.words.specs.Words.{closed}
use Rattle.words.specs.Rows.{rows, row, laid, written, remove_at}
use Rattle.words.proofs.Records.{length_rows, get_d_rows, updated_at, removed_at, length_remove_at}
use Rattle.freelist_rules.specs.declared.Gap.{Gap}
use Rattle.freelist_rules.specs.Records.{gap_row, region_words}
use Rattle.freelist_rules.specs.Threads.{no_gap, renamed_from, cut_gaps}
use Rattle.freelist_rules.proofs.GapLists.{renamed_from_length}
use Rattle.freelist_regions.specs.Ended.{ended_at, ended_gap}
use Rattle.freelist_regions.proofs.Renaming.{rest, rest_laid}

-- ---- in records

module _ (x i r : ℕ) (gs : List Gap) where
  pub cut_part : (get_or gs i no_gap).start < x → cut_gaps x i r gs ≡ renamed_from (suc i) (get_or gs i no_gap).front r (set gs i (ended_gap x (get_or gs i no_gap)))
  unfolding cut_gaps
  cut_part h = rw (lt-ltb (get_or gs i no_gap).start x h)

  pub cut_whole : x ≤ (get_or gs i no_gap).start → cut_gaps x i r gs ≡ renamed_from i (get_or gs i no_gap).front r (remove_at i gs)
  unfolding cut_gaps
  cut_whole h = rw (le-ltb (get_or gs i no_gap).start x h)

-- ---- in words

module _ (t : List ℕ) (n i x r : ℕ) (h : i < n) (room : region_words + region_words * n ≤ length t) (g : Gap) (e : g ≡ row gap_row i t) where
  abbrev gs : List Gap
  gs = rows gap_row n t

  long : length gs ≡ n
  long = length_rows gap_row n t

  is : g ≡ get_or gs i no_gap
  is = e ∙ sym (get_d_rows gap_row n i t no_gap h)

  -- so many gaps are left, laid in v
  abbrev Left : ℕ → List ℕ → Type 0
  Left m v = (m ≡ length (cut_gaps x i r gs)) × (v ≡ laid gap_row (cut_gaps x i r gs) t)

  -- qs with those from j on named anew
  left : (m j : ℕ) (qs : List Gap) (u v : List ℕ) → m ≤ n → length qs ≡ m → cut_gaps x i r gs ≡ renamed_from j (get_or gs i no_gap).front r qs → u ≡ laid gap_row qs t → v ≡ rest m j g.front r u → Left m v
  left m j qs u v k l c w z =
      let room' : region_words + region_words * m ≤ length t = omega (arith, room, k) in (
        sym (ap length c ∙ renamed_from_length (get_or gs i no_gap).front r j qs ∙ l),
        z ∙ rest_laid m j g.front r t u qs room' l w ∙ ap (λ (d : Gap). laid gap_row (renamed_from j d.front r qs) t) is ∙ ap (λ (xs : List Gap). laid gap_row xs t) (sym c),
      )

  pub cut_short : (u v : List ℕ) → g.start < x → u ≡ ended_at i x t → v ≡ rest n (i + 1) g.front r u → Left n v
  unfolding ended_at
  cut_short u v s w z =
      let d : Gap = ended_gap x (get_or gs i no_gap) in
      let under : (get_or gs i no_gap).start < x = omega (arith, s, ap (λ (q : Gap). q.start) is) in
      let y : u ≡ laid gap_row (set gs i d) t = w ∙ ap (λ (q : Gap). written gap_row i (ended_gap x q) t) (sym e ∙ is) ∙ updated_at gap_row n i d t h room in
      left n (suc i) (set gs i d) u v (omega arith) (length-set gs i d ∙ long) (cut_part x i r gs under) y (z ∙ ap (λ (j : ℕ). rest n j g.front r u) (add-one i))

  pub cut_out : (u v : List ℕ) → x ≤ g.start → u ≡ closed region_words n i t → v ≡ rest (n - 1) i g.front r u → Left (n - 1) v
  cut_out u v s w z =
      let past : x ≤ (get_or gs i no_gap).start = omega (arith, s, ap (λ (q : Gap). q.start) is) in
      let l : length (remove_at i gs) ≡ n - 1 = length_remove_at i gs (omega (arith, long, h)) ∙ ap (λ (k : ℕ). k - 1) long in
      left (n - 1) i (remove_at i gs) u v (omega arith) l (cut_whole x i r gs past) (w ∙ removed_at gap_row n i t h room) z
