-- The gaps from a place on named anew, one after the other, in records and in words.
use Rattle.std.proofs.Common.{◌≡◌, ℕ, suc, ◌+◌, ◌*◌, ◌<◌, ◌≤◌, List, [], ◌∷◌, ◌++◌, length, get_or, take, drop, set, sym, refl, ap, ◌∙◌, add-one, arith, length-set, take-append-drop, drop_of_length-le, take_all, drop-cons, take-suc-set, drop-set-lt, eq-eqb, ne_eqb}
use lib.Seq.{append_snoc}
use Rattle.words.specs.Words.{cell_of}
use Rattle.words.specs.Rows.{rows, laid, written}
use Rattle.words.proofs.Records.{length_rows, get_d_rows, updated_at, laid_rows, laid_laid, rows_after, cell_row}
use Rattle.freelist_rules.specs.declared.Gap.{Gap}
use Rattle.freelist_rules.specs.Records.{gap_row, region_words, region_front_at}
use Rattle.freelist_rules.specs.Threads.{gap, region_in, no_gap, renamed, renamed_from}
use Rattle.freelist_rules.proofs.GapLists.{renamed_from_length}
use Rattle.freelist_regions.proofs.Whole.{front_written}

-- ---- in records

module _ (a b i : ℕ) (gs : List Gap) where
  abbrev here : Gap
  here = get_or gs i no_gap

  -- past the last there is none
  pub renamed_end : length gs ≤ i → renamed_from i a b gs ≡ gs
  renamed_end h = rw (take_all i gs h, drop_of_length-le gs h) (append-nil gs)
    where
      append-nil : (xs : List Gap) → xs ++ renamed a b [] ≡ xs
      append-nil [] = refl
      append-nil (x ∷ xs) = ap (λ (ys : List Gap). x ∷ ys) (append-nil xs)

  module _ (h : i < length gs) where
    from_here : renamed_from i a b gs ≡ take i gs ++ renamed a b (here ∷ drop (suc i) gs)
    from_here = ap (λ (xs : List Gap). take i gs ++ renamed a b xs) (drop-cons gs i no_gap h)

    -- one that names another ends it
    pub renamed_stop : (here.front ≡ a → ⊥) → renamed_from i a b gs ≡ gs
    renamed_stop n =
        from_here ∙ rw (ne_eqb here.front a n) (ap (λ (xs : List Gap). take i gs ++ xs) (sym (drop-cons gs i no_gap h)) ∙ take-append-drop i gs)

    -- one that names a names b, and then those behind it
    pub renamed_next : here.front ≡ a → renamed_from (suc i) a b (set gs i (gap (region_in here) b)) ≡ renamed_from i a b gs
    renamed_next e =
        let d : Gap = gap (region_in here) b in
        let x : renamed a b (here ∷ drop (suc i) gs) ≡ d ∷ renamed a b (drop (suc i) gs) = rw (eq-eqb here.front a e) in
        let y : renamed_from (suc i) a b (set gs i d) ≡ take i gs ++ (d ∷ renamed a b (drop (suc i) gs)) =
        rw (take-suc-set gs i d h, drop-set-lt (suc i) gs i d (omega arith)) (append_snoc (take i gs) d (renamed a b (drop (suc i) gs))) in
        y ∙ sym (from_here ∙ ap (λ (xs : List Gap). take i gs ++ xs) x)

-- ---- in words

-- what naming those from i on anew leaves
abbrev pub rest : ℕ → ℕ → ℕ → ℕ → List ℕ → List ℕ
rest n i a b t = laid gap_row (renamed_from i a b (rows gap_row n t)) t

-- others having been laid before
pub rest_laid : (m i a b : ℕ) (t u : List ℕ) (qs : List Gap) → region_words + region_words * m ≤ length t → length qs ≡ m → u ≡ laid gap_row qs t → rest m i a b u ≡ laid gap_row (renamed_from i a b qs) t
rest_laid m i a b t u qs room ql e =
    ap (rest m i a b) e
    ∙ ap (λ (xs : List Gap). laid gap_row (renamed_from i a b xs) (laid gap_row qs t)) (rows_after gap_row m qs t room ql)
    ∙ laid_laid gap_row (renamed_from i a b qs) qs t (omega arith) (omega (arith, renamed_from_length a b i qs))

module _ (n i a b : ℕ) (t : List ℕ) (room : region_words + region_words * n ≤ length t) where
  abbrev gs : List Gap
  gs = rows gap_row n t

  long : length gs ≡ n
  long = length_rows gap_row n t

  pub rest_end : n ≤ i → rest n i a b t ≡ t
  rest_end h = ap (λ (xs : List Gap). laid gap_row xs t) (renamed_end a b i gs (omega (arith, long))) ∙ laid_rows gap_row n t room

  module _ (h : i < n) (f : ℕ) (read : f ≡ get_or t (cell_of region_front_at region_words i) 0) where
    names : (get_or gs i no_gap).front ≡ f
    names = sym (read ∙ cell_row t region_front_at region_words i ∙ sym (ap (λ (g : Gap). g.front) (get_d_rows gap_row n i t no_gap h)))

    pub rest_stop : (f ≡ a → ⊥) → rest n i a b t ≡ t
    rest_stop o = ap (λ (xs : List Gap). laid gap_row xs t) (renamed_stop a b i gs (omega (arith, long)) (λ e. o (sym names ∙ e))) ∙ laid_rows gap_row n t room

    pub rest_next : f ≡ a → (u : List ℕ) → u ≡ set t (cell_of region_front_at region_words i) b → rest n (i + 1) a b u ≡ rest n i a b t
    rest_next e u w =
        let d : Gap = gap (region_in (get_or gs i no_gap)) b in
        let qs : List Gap = set gs i d in
        let ql : length qs ≡ n = length-set gs i d ∙ long in
        let z : u ≡ laid gap_row qs t =
        front_written t i b u w ∙ ap (λ (g : Gap). written gap_row i (gap (region_in g) b) t) (sym (get_d_rows gap_row n i t no_gap h)) ∙ updated_at gap_row n i d t h room in
        let y : renamed_from (i + 1) a b qs ≡ renamed_from i a b gs = ap (λ (j : ℕ). renamed_from j a b qs) (add-one i) ∙ renamed_next a b i gs (omega (arith, long)) (names ∙ e) in
        rest_laid n (i + 1) a b t u qs room ql z ∙ ap (λ (xs : List Gap). laid gap_row xs t) y
