-- What soundness says of single pieces, and that the free regions follow from what is free.
use mathlib.Core.Path.{◌≡◌, refl, sym, ap}
use mathlib.Core.Logic.{◌⊎◌, inl, inr}
use mathlib.Core.List.{List, [], ◌∷◌, Memᴰ}
use Prim.Native.Nat.{ℕ, suc, ◌+◌, ◌-◌, ◌^◌, ◌≤◌, ◌<◌}
use native.Mathlib.Omega.{arith}
use native.Mathlib.Nat.{one-le-pow, le-mul_of_pos_right}
use Rattle.counter.specs.InTable.{FreeListIn}
use Rattle.counter.specs.Limits.{chunk_size_most}
use Rattle.counter.specs.declared.settings.FreeListSettings.{FreeListSettings}
use Rattle.lists.proofs.Bools.{lt_or_le}
use Rattle.store_rules.specs.declared.Loan.{Loan}
use Rattle.freelist_rules.specs.Records.{Store}
use Rattle.freelist_rules.specs.Pieces.{on, piece, free, loaned, held, line, lo, hi, Rising, All}
use Rattle.freelist_rules.specs.Sound.{Sized, Sound}
use Rattle.store_rules.specs.declared.Chunk.{Chunk}
use Rattle.store_rules.specs.declared.Region.{Region}
use Rattle.freelist_rules.proofs.Base.{on_in, on_out, on_where, on_one, total_mem, total_where, total_none, rising_low}

-- 1 where the region has byte x of chunk n, else 0
abbrev pub has : ℕ → ℕ → Region → ℕ
has n x r = on n x r.chunk r.start r.end

-- no region reaches past the greatest chunk, and no chunk is greater
abbrev pub Low : List Region → Type 0
Low rs = All (λ (r : Region). r.end ≤ chunk_size_most) rs

abbrev pub Small : List Chunk → Type 0
Small cs = All (λ (c : Chunk). c.size ≤ chunk_size_most) cs

-- the chunks stand by their numbers, from q on
abbrev pub ChunksRise : ℕ → List Chunk → Type 0
ChunksRise q cs = Rising (λ (c : Chunk). c.number) (λ (c : Chunk). suc c.number) 0 q cs

-- ---- pieces that share no byte lie apart

pub apart_pieces : (b r : Region) → b.end ≤ chunk_size_most → r.end ≤ chunk_size_most → b.start < b.end → r.start < r.end → ((n x : ℕ) → 0 < has n x b → 0 < has n x r → ⊥) → (hi r ≤ lo b) ⊎ (hi b ≤ lo r)
apart_pieces b r p q k m f = go (lt_or_le (lo b) (hi r)) (lt_or_le (lo r) (hi b)) (lt_or_le b.start r.start)
  where
    go : (lo b < hi r) ⊎ (hi r ≤ lo b) → (lo r < hi b) ⊎ (hi b ≤ lo r) → (b.start < r.start) ⊎ (r.start ≤ b.start) → (hi r ≤ lo b) ⊎ (hi b ≤ lo r)
    go (inr h) g w = inl h
    go (inl h) (inr g) w = inr g
    go (inl h) (inl g) (inl w) =
        let c : b.chunk ≡ r.chunk = omega arith in
        absurd (f r.chunk r.start (omega (arith, on_in r.chunk r.start b.chunk b.start b.end c (omega arith) (omega arith))) (omega (arith, on_in r.chunk r.start r.chunk r.start r.end refl (omega arith) m)))
    go (inl h) (inl g) (inr w) =
        let c : b.chunk ≡ r.chunk = omega arith in
        absurd (f r.chunk b.start (omega (arith, on_in r.chunk b.start b.chunk b.start b.end c (omega arith) k)) (omega (arith, on_in r.chunk b.start r.chunk r.start r.end refl w (omega arith))))

-- ---- sizes

pub sized_low : (s : FreeListSettings) (z : ℕ) → Sized s z → z ≤ s.last
sized_low s z h = omega (arith, h.1)

pub sized_some : (s : FreeListSettings) → FreeListIn s → (z : ℕ) → Sized s z → 0 < z
sized_some s fit z w = omega (arith, w.1, le-mul_of_pos_right {m = 2 ^ w.0} s.start (one-le-pow w.0 2 (omega arith)), fit.start_some, fit.start_most)

-- ---- chunks

pub held_where : (n x : ℕ) (cs : List Chunk) → 0 < held n x cs → (c : Chunk) × Memᴰ c cs × (c.number ≡ n) × (x < c.size)
held_where n x cs h =
    let w = total_where (λ (c : Chunk). on n x c.number 0 c.size) cs h in
    let v = on_where n x w.0.number 0 w.0.size w.2 in
    (w.0, w.1, v.0, v.2)

-- a byte is in one chunk at most
pub held_once : (p n x : ℕ) (cs : List Chunk) → ChunksRise p cs → held n x cs ≤ 1
held_once p n x [] r = omega arith
held_once p n x (c ∷ cs) r = go (lt_or_le 0 (on n x c.number 0 c.size)) (held_once (0 + suc c.number) n x cs r.2)
  where
    rest : c.number ≡ n → held n x cs ≡ 0
    rest e = total_none (λ (d : Chunk). on n x d.number 0 d.size) cs (λ d m. on_out n x d.number 0 d.size (λ f g h. omega (arith, (rising_low _ _ 0 _ cs r.2 d m).0)))

    go : (0 < on n x c.number 0 c.size) ⊎ (on n x c.number 0 c.size ≤ 0) → held n x cs ≤ 1 → held n x (c ∷ cs) ≤ 1
    go (inl h) ih = omega (arith, on_one n x c.number 0 c.size, rest (on_where n x c.number 0 c.size h).0)
    go (inr h) ih = omega arith

-- ---- the free regions follow from what is free

free_before : (q n x : ℕ) (rs : List Region) → Rising lo hi 1 q rs → line n x < q → free n x rs ≡ 0
free_before q n x rs r h = total_none (has n x) rs (λ d m. on_out n x d.chunk d.start d.end (λ e f g. omega (arith, (rising_low lo hi 1 q rs r d m).0)))

module _ (r s : Region) (rs ss : List Region) (p q : ℕ) (hr : Rising lo hi 1 p (r ∷ rs)) (hs : Rising lo hi 1 q (s ∷ ss)) (same : (n x : ℕ) → free n x (r ∷ rs) ≡ free n x (s ∷ ss)) where
  not_less : lo r < lo s → ⊥
  not_less h =
      omega (
        arith,
        same r.chunk r.start,
        on_in r.chunk r.start r.chunk r.start r.end refl (omega arith) (omega (arith, hr.1)),
        free_before (lo s) r.chunk r.start (s ∷ ss) (omega arith, hs.1, hs.2) h,
      )

  not_short : r.chunk ≡ s.chunk → r.start ≡ s.start → r.end < s.end → ⊥
  not_short c e h =
      omega (
        arith,
        same r.chunk r.end,
        on_out r.chunk r.end r.chunk r.start r.end (λ f g k. omega arith),
        free_before (1 + hi r) r.chunk r.end rs hr.2 (omega arith),
        on_in r.chunk r.end s.chunk s.start s.end (sym c) (omega (arith, hr.1)) h,
      )

pub same_regions : (p q : ℕ) (rs ss : List Region) → Low rs → Low ss → Rising lo hi 1 p rs → Rising lo hi 1 q ss → ((n x : ℕ) → free n x rs ≡ free n x ss) → rs ≡ ss
same_regions p q [] [] l m hr hs f = refl
same_regions p q [] (s ∷ ss) l m hr hs f = absurd (omega (arith, f s.chunk s.start, on_in s.chunk s.start s.chunk s.start s.end refl (omega arith) (omega (arith, hs.1))))
same_regions p q (r ∷ rs) [] l m hr hs f = absurd (omega (arith, f r.chunk r.start, on_in r.chunk r.start r.chunk r.start r.end refl (omega arith) (omega (arith, hr.1))))
same_regions p q (r ∷ rs) (s ∷ ss) l m hr hs f =
    let a = not_less r s rs ss p q hr hs f in
    let b = not_less s r ss rs q p hs hr (λ n x. sym (f n x)) in
    let lr = l r (Memᴰ.head refl) in
    let ls = m s (Memᴰ.head refl) in
    let e : lo r ≡ lo s = omega arith in
    let k1 = hr.1 in
    let k2 = hs.1 in
    let c : r.chunk ≡ s.chunk = omega arith in
    let d : r.start ≡ s.start = omega arith in
    let u = not_short r s rs ss p q hr hs f c d in
    let v = not_short s r ss rs q p hs hr (λ n x. sym (f n x)) (sym c) (sym d) in
    let w : r.end ≡ s.end = omega arith in
    let z : r ≡ s = (λ i. record { chunk = c i; start = d i; end = w i }) in
    step z (same_regions (1 + hi r) (1 + hi s) rs ss (λ t k. l t (Memᴰ.tail k)) (λ t k. m t (Memᴰ.tail k)) hr.2 hs.2 (λ n x. omega (arith, f n x, ap (has n x) z)))
  where
    step : r ≡ s → rs ≡ ss → r ∷ rs ≡ s ∷ ss
    step z t = cc

-- ---- pieces of a sound store

module _ (s : FreeListSettings) (t : Store) (fit : FreeListIn s) (sound : Sound s t) where
  pub chunks_small : Small t.chunks
  chunks_small c m = omega (arith, sized_low s c.size (sound.chunks_sized c m).0, fit.last_most)

  -- a free region lies in a held chunk
  pub region_home : (r : Region) → Memᴰ r t.regions → (c : Chunk) × Memᴰ c t.chunks × (c.number ≡ r.chunk) × (r.end ≤ c.size)
  region_home r m =
      let k = rising_low lo hi 1 0 t.regions sound.regions_rise r m in
      let a = total_mem (has r.chunk (r.end - 1)) r t.regions m in
      let b = on_in r.chunk (r.end - 1) r.chunk r.start r.end refl (omega arith) (omega arith) in
      let w = held_where r.chunk (r.end - 1) t.chunks (omega (arith, sound.fills r.chunk (r.end - 1))) in
      (w.0, w.1, w.2, omega (arith, w.3))

  pub region_some : (r : Region) → Memᴰ r t.regions → r.start < r.end
  region_some r m = omega (arith, (rising_low lo hi 1 0 t.regions sound.regions_rise r m).1)

  pub region_low : Low t.regions
  region_low r m = let w = region_home r m in omega (arith, chunks_small w.0 w.1, w.3)

  pub loan_some : (l : Loan) → Memᴰ l t.loans → 0 < l.size
  loan_some l m = omega (arith, (rising_low _ _ 0 0 t.loans sound.loans_rise l m).1)

  -- a loan lies in a held chunk
  pub loan_home : (l : Loan) → Memᴰ l t.loans → (c : Chunk) × Memᴰ c t.chunks × (c.number ≡ l.chunk) × (l.offset + l.size ≤ c.size)
  loan_home l m =
      let k = loan_some l m in
      let x : ℕ = l.offset + l.size - 1 in
      let a = total_mem (λ (d : Loan). has l.chunk x (piece d)) l t.loans m in
      let b = on_in l.chunk x l.chunk l.offset (l.offset + l.size) refl (omega arith) (omega arith) in
      let w = held_where l.chunk x t.chunks (omega (arith, sound.fills l.chunk x)) in
      (w.0, w.1, w.2, omega (arith, w.3))

  pub loan_low : (l : Loan) → Memᴰ l t.loans → l.offset + l.size ≤ chunk_size_most
  loan_low l m = let w = loan_home l m in omega (arith, chunks_small w.0 w.1, w.3)

  -- no byte is both on loan and free
  pub once : (n x : ℕ) → loaned n x t.loans + free n x t.regions ≤ 1
  once n x = omega (arith, sound.fills n x, held_once 1 n x t.chunks sound.chunks_rise)

  -- so that a loan and a free region lie apart
  pub apart_from_lem : (l : Loan) → Memᴰ l t.loans → (r : Region) → Memᴰ r t.regions → (hi r ≤ lo (piece l)) ⊎ (hi (piece l) ≤ lo r)
  apart_from_lem l m r k =
      apart_pieces (piece l) r (loan_low l m) (region_low r k) (omega (arith, loan_some l m)) (region_some r k)
      (λ n x p q. omega (arith, once n x, total_mem (λ (d : Loan). has n x (piece d)) l t.loans m, total_mem (has n x) r t.regions k))
