-- What soundness means byte by byte: each byte of a held chunk lies in one piece, free pieces do not touch, and a chunk
-- without loans is one free region.
use mathlib.Core.Path.{◌≡◌, refl, ◌∙◌, ap}
use mathlib.Core.Logic.{◌↔◌, ◌⊎◌, inl, inr, ⊎_elim}
use mathlib.Core.List.{List, [], ◌∷◌, Memᴰ}
use Prim.Native.Nat.{ℕ, suc, ◌+◌, ◌≤◌, ◌<◌}
use native.Mathlib.Omega.{arith}
use lib.Dec.{ltb, eqb}
use lib.ListN.{length}
use Rattle.counter.specs.InTable.{FreeListIn}
use Rattle.counter.specs.Limits.{chunk_size_most}
use Rattle.counter.specs.declared.settings.FreeListSettings.{FreeListSettings}
use Rattle.lists.proofs.Bools.{told, lt_or_le}
use Rattle.store_rules.specs.declared.Loan.{Loan}
use Rattle.freelist_rules.specs.Records.{Store}
use Rattle.freelist_rules.specs.Pieces.{on, piece, free, loaned, held, line, lo, hi}
use Rattle.freelist_rules.specs.Sound.{Sound}
use Rattle.freelist_rules.specs.Walk.{front, behind, gaps, gaps_of}
use Rattle.store_rules.specs.declared.Chunk.{Chunk}
use Rattle.store_rules.specs.declared.Region.{Region}
use Rattle.freelist_rules.proofs.Base.{on_in, on_where, total_mem, total_where, rising_low, rising_apart}
use Rattle.freelist_rules.proofs.Facts.{has, sized_some, held_once, region_home, loan_home, loan_some, once}
use Rattle.freelist_rules.proofs.Decides.{regions_are}

-- the order on the line is the order by chunk, then byte
pub line_order : (a b x y : ℕ) → x ≤ chunk_size_most → y ≤ chunk_size_most → (line a x < line b y) ↔ ((a < b) ⊎ ((a ≡ b) × (x < y)))
line_order a b x y p q = (there, back)
  where
    there : line a x < line b y → (a < b) ⊎ ((a ≡ b) × (x < y))
    there h = ⊎_elim (λ g. inl g) (λ g. let e : a ≡ b = omega arith in inr (e, omega arith)) (lt_or_le a b)

    back : (a < b) ⊎ ((a ≡ b) × (x < y)) → line a x < line b y
    back (inl h) = omega arith
    back (inr h) = omega (arith, h.0, h.1)

-- ---- pieces that have a byte

abbrev pub LoanAt : ℕ → ℕ → List Loan → Type 0
LoanAt n x ls = (l : Loan) × Memᴰ l ls × (l.chunk ≡ n) × (l.offset ≤ x) × (x < l.offset + l.size)

abbrev pub RegionAt : ℕ → ℕ → List Region → Type 0
RegionAt n x rs = (r : Region) × Memᴰ r rs × (r.chunk ≡ n) × (r.start ≤ x) × (x < r.end)

pub loan_at_lem : (n x : ℕ) (ls : List Loan) → 0 < loaned n x ls → LoanAt n x ls
loan_at_lem n x ls h =
    let w = total_where (λ (l : Loan). has n x (piece l)) ls h in
    let v = on_where n x w.0.chunk w.0.offset (w.0.offset + w.0.size) w.2 in
    (w.0, w.1, v.0, v.1, v.2)

pub region_at_lem : (n x : ℕ) (rs : List Region) → 0 < free n x rs → RegionAt n x rs
region_at_lem n x rs h =
    let w = total_where (has n x) rs h in
    let v = on_where n x w.0.chunk w.0.start w.0.end w.2 in
    (w.0, w.1, v.0, v.1, v.2)

pub at_loan : (n x : ℕ) (ls : List Loan) → LoanAt n x ls → 0 < loaned n x ls
at_loan n x ls w =
    omega (arith, total_mem (λ (l : Loan). has n x (piece l)) w.0 ls w.1, on_in n x w.0.chunk w.0.offset (w.0.offset + w.0.size) w.2 w.3 w.4)

pub at_region : (n x : ℕ) (rs : List Region) → RegionAt n x rs → 0 < free n x rs
at_region n x rs w = omega (arith, total_mem (has n x) w.0 rs w.1, on_in n x w.0.chunk w.0.start w.0.end w.2 w.3 w.4)

-- the chunk is one free region
abbrev pub Whole : List Region → Chunk → Type 0
Whole rs c = (r : Region) × Memᴰ r rs × (r.chunk ≡ c.number) × (r.start ≡ 0) × (r.end ≡ c.size)

-- no loan has a byte of it
abbrev pub Idle : List Loan → Chunk → Type 0
Idle ls c = (x : ℕ) → x < c.size → loaned c.number x ls ≡ 0

module _ (s : FreeListSettings) (t : Store) (fit : FreeListIn s) (sound : Sound s t) where
  -- a chunk is known by its number
  pub chunk_one : (c d : Chunk) → Memᴰ c t.chunks → Memᴰ d t.chunks → c.number ≡ d.number → c ≡ d
  chunk_one c d m k e =
      ⊎_elim (λ h. h) (λ h. ⊎_elim (λ g. absurd (omega arith)) (λ g. absurd (omega arith)) h)
      (rising_apart (λ (c : Chunk). c.number) (λ (c : Chunk). suc c.number) 0 1 t.chunks sound.chunks_rise c d m k)

  pub chunk_some : (c : Chunk) → Memᴰ c t.chunks → 0 < c.size
  chunk_some c m = sized_some s fit c.size (sound.chunks_sized c m).0

  chunk_byte : (c : Chunk) → Memᴰ c t.chunks → (x : ℕ) → x < c.size → held c.number x t.chunks ≡ 1
  chunk_byte c m x h =
      omega (
        arith,
        held_once 1 c.number x t.chunks sound.chunks_rise,
        total_mem (λ (d : Chunk). on c.number x d.number 0 d.size) c t.chunks m,
        on_in c.number x c.number 0 c.size refl (omega arith) h,
      )

  -- every byte of a held chunk lies in exactly one piece
  pub one_piece : (c : Chunk) → Memᴰ c t.chunks → (x : ℕ) → x < c.size → loaned c.number x t.loans + free c.number x t.regions ≡ 1
  one_piece c m x h = sound.fills c.number x ∙ chunk_byte c m x h

  -- which is a loan or a free region
  pub some_piece : (c : Chunk) → Memᴰ c t.chunks → (x : ℕ) → x < c.size → LoanAt c.number x t.loans ⊎ RegionAt c.number x t.regions
  some_piece c m x h = go (one_piece c m x h) (lt_or_le 0 (loaned c.number x t.loans))
    where
      go : loaned c.number x t.loans + free c.number x t.regions ≡ 1 → (0 < loaned c.number x t.loans) ⊎ (loaned c.number x t.loans ≤ 0) → LoanAt c.number x t.loans ⊎ RegionAt c.number x t.regions
      go e (inl g) = inl (loan_at_lem c.number x t.loans g)
      go e (inr g) = inr (region_at_lem c.number x t.regions (omega arith))

  -- and never both
  pub not_both : (n x : ℕ) → LoanAt n x t.loans → RegionAt n x t.regions → ⊥
  not_both n x a b = omega (arith, once s t fit sound n x, at_loan n x t.loans a, at_region n x t.regions b)

  -- no free region ends where another starts
  pub no_join : (r d : Region) → Memᴰ r t.regions → Memᴰ d t.regions → r.chunk ≡ d.chunk → r.end ≡ d.start → ⊥
  no_join r d m k e f =
      ⊎_elim
      (λ h. omega (arith, (rising_low lo hi 1 0 t.regions sound.regions_rise r m).1, ap (λ (z : Region). z.start) h))
      (λ h. ⊎_elim (λ g. omega arith) (λ g. omega (arith, (rising_low lo hi 1 0 t.regions sound.regions_rise r m).1, (rising_low lo hi 1 0 t.regions sound.regions_rise d k).1)) h)
      (rising_apart lo hi 1 0 t.regions sound.regions_rise r d m k)

  -- a stretch of free bytes lies in one region
  pub one_region : (n x k : ℕ) → 0 < k → ((y : ℕ) → x ≤ y → y < x + k → 0 < free n y t.regions) → (r : Region) × Memᴰ r t.regions × (r.chunk ≡ n) × (r.start ≤ x) × (x + k ≤ r.end)
  one_region n x k h f =
      let w = region_at_lem n x t.regions (f x (omega arith) (omega arith)) in
      ⊎_elim (λ g. absurd (next w g)) (λ g. (w.0, w.1, w.2, w.3, g)) (lt_or_le w.0.end (x + k))
    where
      next : (w : RegionAt n x t.regions) → w.0.end < x + k → ⊥
      next w g =
          let v = region_at_lem n w.0.end t.regions (f w.0.end (omega (arith, w.4)) g) in
          ⊎_elim (λ e. omega (arith, ap (λ (z : Region). z.end) e, v.4)) (λ e. ⊎_elim (λ q. omega (arith, q, w.2, v.2, v.3)) (λ q. omega (arith, q, w.2, v.2, w.3, w.4, v.4)) e)
          (rising_apart lo hi 1 0 t.regions sound.regions_rise w.0 v.0 w.1 v.1)

  -- ---- wholly free chunks

  pub wholly_free : (c : Chunk) → Memᴰ c t.chunks → Idle t.loans c ↔ Whole t.regions c
  wholly_free c m = (there, back)
    where
      there : Idle t.loans c → Whole t.regions c
      there f =
          let w = one_region c.number 0 c.size (chunk_some c m) (λ y p q. omega (arith, one_piece c m y (omega arith), f y (omega arith))) in
          let h = region_home s t fit sound w.0 w.1 in
          let z = ap (λ (d : Chunk). d.size) (chunk_one h.0 c h.1 m (h.2 ∙ w.2)) in
          (w.0, w.1, w.2, omega (arith, w.3), omega (arith, w.4, z, h.3))

      back : Whole t.regions c → Idle t.loans c
      back w x h = omega (arith, once s t fit sound c.number x, at_region c.number x t.regions (w.0, w.1, w.2, omega (arith, w.3), omega (arith, w.4)))

  -- a chunk that no loan names is wholly free, and no other is
  pub idle_unnamed : (c : Chunk) → Memᴰ c t.chunks → Idle t.loans c → (l : Loan) → Memᴰ l t.loans → l.chunk ≡ c.number → ⊥
  idle_unnamed c m f l k e =
      let h = loan_home s t fit sound l k in
      let g = loan_some s t fit sound l k in
      let z = ap (λ (d : Chunk). d.size) (chunk_one h.0 c h.1 m (h.2 ∙ e)) in
      omega (arith, f l.offset (omega (arith, z, h.3)), at_loan c.number l.offset t.loans (l, k, e, omega arith, omega arith))

  pub unnamed_idle : (c : Chunk) → ((l : Loan) → Memᴰ l t.loans → l.chunk ≡ c.number → ⊥) → Idle t.loans c
  unnamed_idle c f x h = go (lt_or_le 0 (loaned c.number x t.loans))
    where
      go : (0 < loaned c.number x t.loans) ⊎ (loaned c.number x t.loans ≤ 0) → loaned c.number x t.loans ≡ 0
      go (inl g) = let w = loan_at_lem c.number x t.loans g in absurd (f w.0 w.1 w.2)
      go (inr g) = omega arith

-- ---- room for the regions

front_length : (n : ℕ) (ls : List Loan) → length (front n ls) + length (behind n ls) ≡ length ls
front_length n [] = refl
front_length n (l ∷ ls) = ⊎_elim (λ e. rw e (omega (arith, front_length n ls))) (λ e. rw e (omega arith)) (told (eqb l.chunk n))

gaps_length : (n p z : ℕ) (ls : List Loan) (rest : List Region) → length (gaps n p z ls rest) ≤ length ls + 1 + length rest
gaps_length n p z [] rest = ⊎_elim (λ e. rw e (omega arith)) (λ e. rw e (omega arith)) (told (ltb p z))
gaps_length n p z (l ∷ ls) rest =
    ⊎_elim (λ e. rw e (omega (arith, gaps_length n (l.offset + l.size) z ls rest))) (λ e. rw e (omega (arith, gaps_length n (l.offset + l.size) z ls rest))) (told (ltb p l.offset))

gaps_of_length : (cs : List Chunk) (ls : List Loan) → length (gaps_of cs ls) ≤ length ls + length cs
gaps_of_length [] ls = omega arith
gaps_of_length (c ∷ cs) ls =
    omega (arith, gaps_length c.number 0 c.size (front c.number ls) (gaps_of cs (behind c.number ls)), gaps_of_length cs (behind c.number ls), front_length c.number ls)

-- there are never more free regions than loans and chunks
pub room_enough : (s : FreeListSettings) (t : Store) → FreeListIn s → Sound s t → length t.regions ≤ length t.loans + length t.chunks
room_enough s t fit sound = rw (regions_are s t fit sound) (gaps_of_length t.chunks t.loans)
