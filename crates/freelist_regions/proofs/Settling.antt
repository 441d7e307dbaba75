-- A gap put in place of the neighbours that it takes in, or between them, in words.
use Rattle.std.proofs.Common.{◌≡◌, ℕ, ◌+◌, ◌-◌, ◌*◌, ◌≤◌, Bool, true, false, List, length, set, sym, ap, ◌∙◌, arith, length-set}
use Rattle.words.specs.Words.{opened, closed}
use Rattle.words.specs.Rows.{rows, laid, written, insert_at, remove_at}
use Rattle.words.proofs.Records.{length_rows, updated_at, removed_at, inserted_at, rows_after, laid_laid, length_laid, length_remove_at, length_insert_at}
use Rattle.freelist_rules.specs.declared.Gap.{Gap}
use Rattle.freelist_rules.specs.Records.{gap_row, region_words}
use Rattle.freelist_regions.specs.Settled.{settled, behind, CanSettle}

module _ (before next : Bool) (n k : ℕ) (t : List ℕ) (can : CanSettle before next n k t) (g : Gap) where
  abbrev gs : List Gap
  gs = rows gap_row n t

  long : length gs ≡ n
  long = length_rows gap_row n t

  -- in words, how many and which
  abbrev Settles : ℕ → List ℕ → Type 0
  Settles m v = (m ≡ length (settled before next k g gs)) × (v ≡ laid gap_row (settled before next k g gs) t)

  settles : (m : ℕ) (v : List ℕ) (qs : List Gap) → settled before next k g gs ≡ qs → length qs ≡ m → v ≡ laid gap_row qs t → Settles m v
  settles m v qs e l w = rw e (sym l, w)

  pub settles_both : before ≡ true → next ≡ true → (u v : List ℕ) → u ≡ closed region_words n k t → v ≡ written gap_row (k - 1) g u → Settles (n - 1) v
  unfolding settled
  settles_both b q u v x y =
      let s = can.some b in
      let h = can.under q in
      let room = can.room in
      let qs : List Gap = remove_at k gs in
      let ql : length qs ≡ n - 1 = length_remove_at k gs (omega (arith, long, h)) ∙ ap (λ (m : ℕ). m - 1) long in
      let rs : List Gap = set qs (k - 1) g in
      let rl : length rs ≡ n - 1 = length-set qs (k - 1) g ∙ ql in
      let fit : region_words + region_words * length qs ≤ length t = rw ql (omega (arith, room, h)) in
      let z : u ≡ laid gap_row qs t = x ∙ removed_at gap_row n k t h room in
      let lu : length (laid gap_row qs t) ≡ length t = length_laid gap_row qs t fit in
      let w : v ≡ laid gap_row rs t =
      y
      ∙ ap (written gap_row (k - 1) g) z
      ∙ updated_at gap_row (n - 1) (k - 1) g (laid gap_row qs t) (omega (arith, s, h)) (omega (arith, lu, room, h))
      ∙ ap (λ (ps : List Gap). laid gap_row (set ps (k - 1) g) (laid gap_row qs t)) (rows_after gap_row (n - 1) qs t (omega (arith, room, h)) ql)
      ∙ laid_laid gap_row rs qs t (omega (arith, room)) (omega (arith, rl, ql)) in
      settles (n - 1) v rs (rw (b, q)) rl w

  pub settles_before : before ≡ true → next ≡ false → (v : List ℕ) → v ≡ written gap_row (k - 1) g t → Settles n v
  unfolding settled
  settles_before b q v y =
      let s = can.some b in
      settles n v (set gs (k - 1) g) (rw (b, q)) (length-set gs (k - 1) g ∙ long) (y ∙ updated_at gap_row n (k - 1) g t (omega (arith, s, can.most)) can.room)

  pub settles_next : before ≡ false → next ≡ true → (v : List ℕ) → v ≡ written gap_row k g t → Settles n v
  unfolding settled
  settles_next b q v y = settles n v (set gs k g) (rw (b, q)) (length-set gs k g ∙ long) (y ∙ updated_at gap_row n k g t (can.under q) can.room)

  pub settles_between : before ≡ false → next ≡ false → (u v : List ℕ) → u ≡ opened region_words n k t → v ≡ written gap_row k g u → Settles (n + 1) v
  unfolding settled
  settles_between b q u v x y =
      settles (n + 1) v (insert_at k g gs) (rw (b, q)) (length_insert_at k g gs (omega (arith, long, can.most)) ∙ ap (λ (m : ℕ). m + 1) long)
      (y ∙ ap (written gap_row k g) x ∙ inserted_at gap_row n k g t can.most (omega (arith, can.more b q)))

pub behind_yes : (before : Bool) (k : ℕ) → before ≡ true → k ≡ behind before k
unfolding behind
behind_yes before k e = rw e

pub behind_not : (before : Bool) (k : ℕ) → before ≡ false → k + 1 ≡ behind before k
unfolding behind
behind_not before k e = rw e
