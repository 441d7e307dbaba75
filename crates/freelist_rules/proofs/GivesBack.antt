-- What a release gives back: the chunks that go, with their bytes, their count and their memory numbers.
use mathlib.Core.Path.{◌≡◌, refl, sym, ◌∙◌, ap}
use mathlib.Core.Bool.{Bool, true, false, cond}
use mathlib.Core.Logic.{◌↔◌, ◌⊎◌, inl, inr, ⊎_elim}
use mathlib.Core.List.Memᴰ
use mathlib.Core.List.{List, [], ◌∷◌, ◌++◌, Memᴰ}
use Prim.Native.Nat.{ℕ, suc, ◌+◌, ◌≤◌, ◌<◌}
use native.Mathlib.Omega.{arith}
use lib.Dec.{eqb}
use lib.ListN.{length}
use borrow.Author.Tests.{eqb-true, eq-eqb}
use Rattle.counter.specs.InTable.{FreeListIn}
use Rattle.counter.specs.declared.settings.FreeListSettings.{FreeListSettings}
use Rattle.lists.proofs.Bools.{told, true_false}
pub use Rattle.store_rules.proofs.Bytes.{total_append}
use Rattle.freelist_rules.specs.Records.{Store}
use Rattle.freelist_rules.specs.Pieces.{total, lo, hi, Rising, All}
use Rattle.freelist_rules.specs.Sound.{Sound}
use Rattle.freelist_rules.specs.Release.{covers, goes, rotated, leaving, is_covered, memory_of, memories_of, bytes_of}
use Rattle.freelist_rules.specs.Steps.{released}
use Rattle.store_rules.specs.declared.Chunk.{Chunk}
use Rattle.store_rules.specs.declared.Region.{Region}
use Rattle.freelist_rules.proofs.Base.{rising_mono, rising_low}
use Rattle.freelist_rules.proofs.Facts.{ChunksRise}
use Rattle.freelist_rules.proofs.Releases.{covers_yes, wholly_where, left_where, where_left, going, going_in, gone_in, in_leaving, removed, remaining_in, in_remaining, removed_in, in_removed, remaining_total}

-- ---- sums over lists in another order

module _ {A : Type 0} where
  total_rotated : (f : A → ℕ) (xs : List A) → total f (rotated xs) ≡ total f xs
  total_rotated f [] = refl
  total_rotated f (x ∷ xs) = omega (arith, total_append f xs (x ∷ []))

  length_total : (xs : List A) → length xs ≡ total (λ (a : A). 1) xs
  length_total [] = refl
  length_total (x ∷ xs) = omega (arith, length_total xs)

  taken_rise : (lo hi : A → ℕ) (g p : ℕ) (b : Bool) (x : A) (xs : List A) → p ≤ lo x → lo x < hi x → Rising lo hi g (g + hi x) xs → Rising lo hi g p (cond b (x ∷ xs) xs)
  taken_rise lo hi g p true x xs h k r = (h, k, r)
  taken_rise lo hi g p false x xs h k r = rising_mono lo hi g p (g + hi x) xs (omega arith) r

bytes_total : (rs : List Region) → bytes_of rs ≡ total (λ (r : Region). r.end) rs
bytes_total [] = refl
bytes_total (r ∷ rs) = omega (arith, bytes_total rs)

-- the walk's order changes no sum
pub leaving_total : (cs : List Chunk) (spare : Bool) (f : Region → ℕ) (marked rs : List Region) → total f (leaving cs spare marked rs) ≡ total f marked + total f (going cs spare rs)
unfolding leaving going
leaving_total cs spare f marked [] = omega arith
leaving_total cs spare f marked (r ∷ rs) = go (goes cs spare r rs) (leaving_total cs spare f (marked ++ (r ∷ [])) rs) (leaving_total cs spare f (rotated marked) rs)
  where
    go : (b : Bool) → total f (leaving cs spare (marked ++ (r ∷ [])) rs) ≡ total f (marked ++ (r ∷ [])) + total f (going cs spare rs)
        → total f (leaving cs spare (rotated marked) rs) ≡ total f (rotated marked) + total f (going cs spare rs)
        → total f (cond b (leaving cs spare (marked ++ (r ∷ [])) rs) (leaving cs spare (rotated marked) rs)) ≡ total f marked + total f (cond b (r ∷ going cs spare rs) (going cs spare rs))
    go true p q = omega (arith, p, total_append f marked (r ∷ []))
    go false p q = omega (arith, q, total_rotated f marked)

going_rise : (cs : List Chunk) (spare : Bool) (p : ℕ) (rs : List Region) → Rising lo hi 1 p rs → Rising lo hi 1 p (going cs spare rs)
unfolding going
going_rise cs spare p [] h = tt
going_rise cs spare p (r ∷ rs) h = taken_rise lo hi 1 p (goes cs spare r rs) r (going cs spare rs) h.0 h.1 (going_rise cs spare (1 + hi r) rs h.2)

removed_rise : (gone : List Region) (p : ℕ) (cs : List Chunk) → ChunksRise p cs → ChunksRise p (removed gone cs)
unfolding removed
removed_rise gone p [] h = tt
removed_rise gone p (c ∷ cs) h =
    taken_rise (λ (d : Chunk). d.number) (λ (d : Chunk). suc d.number) 0 p (is_covered gone c) c (removed gone cs) h.0 h.1 (removed_rise gone (0 + suc c.number) cs h.2)

-- ---- regions and the chunks they cover: both rise, so they pair off in order

abbrev Covering : List Chunk → Region → Type 0
Covering cs r = (c : Chunk) × Memᴰ c cs × (covers r c ≡ true)

abbrev Covered : List Region → Chunk → Type 0
Covered rs c = (r : Region) × Memᴰ r rs × (covers r c ≡ true)

low_chunk : (p : ℕ) (cs : List Chunk) → ChunksRise p cs → (c : Chunk) → Memᴰ c cs → p ≤ c.number
low_chunk p cs h c m = (rising_low (λ (d : Chunk). d.number) (λ (d : Chunk). suc d.number) 0 p cs h c m).0

module _ (r : Region) (rs : List Region) (c : Chunk) (cs : List Chunk) (rise : Rising lo hi 1 (1 + hi r) rs) (up : ChunksRise (0 + suc c.number) cs) where
  firsts_meet : Covering (c ∷ cs) r → Covered (r ∷ rs) c → covers r c ≡ true
  firsts_meet a b = go (Memᴰ.cases_cons a.1) (Memᴰ.cases_cons b.1)
    where
      go : (a.0 ≡ c) ⊎ Memᴰ a.0 cs → (b.0 ≡ r) ⊎ Memᴰ b.0 rs → covers r c ≡ true
      go (inl h) k = sym (ap (covers r) h) ∙ a.2
      go (inr h) (inl k) = sym (ap (λ (z : Region). covers z c) k) ∙ b.2
      go (inr h) (inr k) =
          let u = covers_yes r a.0 a.2 in
          let v = covers_yes b.0 c b.2 in
          absurd (omega (arith, u.0, v.0, v.1, low_chunk (0 + suc c.number) cs up a.0 h, (rising_low lo hi 1 (1 + hi r) rs rise b.0 k).0))

  -- past the first two, the rest pair off among themselves
  rest_covering : covers r c ≡ true → (a : Region) → Memᴰ a rs → Covering (c ∷ cs) a → Covering cs a
  rest_covering e a m w = ⊎_elim (λ h. absurd (same h)) (λ k. (w.0, k, w.2)) (Memᴰ.cases_cons w.1)
    where
      same : w.0 ≡ c → ⊥
      same h =
          let u = covers_yes r c e in
          let v = covers_yes a w.0 w.2 in
          omega (arith, u.0, v.0, v.1, ap (λ (z : Chunk). z.number) h, (rising_low lo hi 1 (1 + hi r) rs rise a m).0)

  rest_covered : covers r c ≡ true → (d : Chunk) → Memᴰ d cs → Covered (r ∷ rs) d → Covered rs d
  rest_covered e d m w = ⊎_elim (λ h. absurd (same h)) (λ k. (w.0, k, w.2)) (Memᴰ.cases_cons w.1)
    where
      same : w.0 ≡ r → ⊥
      same h =
          let u = covers_yes r c e in
          let v = covers_yes w.0 d w.2 in
          omega (arith, u.0, v.0, ap (λ (z : Region). z.chunk) h, low_chunk (0 + suc c.number) cs up d m)

module _ (f : Region → ℕ) (g : Chunk → ℕ) (same : (r : Region) (c : Chunk) → covers r c ≡ true → f r ≡ g c) where
  paired_total : (p q : ℕ) (rs : List Region) (cs : List Chunk) → Rising lo hi 1 p rs → ChunksRise q cs → All (Covering cs) rs → All (Covered rs) cs → total f rs ≡ total g cs
  paired_total p q [] [] rise up a b = refl
  paired_total p q [] (c ∷ cs) rise up a b = absurd (Memᴰ.not-nil (b c (Memᴰ.head refl)).1)
  paired_total p q (r ∷ rs) [] rise up a b = absurd (Memᴰ.not-nil (a r (Memᴰ.head refl)).1)
  paired_total p q (r ∷ rs) (c ∷ cs) rise up a b =
      let e = firsts_meet r rs c cs rise.2 up.2 (a r (Memᴰ.head refl)) (b c (Memᴰ.head refl)) in
      omega (
        arith,
        same r c e,
        paired_total (1 + hi r) (0 + suc c.number) rs cs rise.2 up.2
            (λ d m. rest_covering r rs c cs rise.2 up.2 e d m (a d (Memᴰ.tail m)))
            (λ d m. rest_covered r rs c cs rise.2 up.2 e d m (b d (Memᴰ.tail m))),
      )

-- ---- memory numbers

pub memory_of_lem : (p : ℕ) (cs : List Chunk) → ChunksRise p cs → (r : Region) (c : Chunk) → Memᴰ c cs → r.chunk ≡ c.number → memory_of cs r ≡ c.memory
memory_of_lem p [] up r c m e = absurd (Memᴰ.not-nil m)
memory_of_lem p (d ∷ cs) up r c m e = ⊎_elim first (later (λ k. memory_of_lem (0 + suc d.number) cs up.2 r c k e)) (Memᴰ.cases_cons m)
  where
    first : c ≡ d → cond (eqb r.chunk d.number) d.memory (memory_of cs r) ≡ c.memory
    first h = rw (eq-eqb r.chunk d.number (e ∙ ap (λ (z : Chunk). z.number) h)) (sym (ap (λ (z : Chunk). z.memory) h))

    later : (Memᴰ c cs → memory_of cs r ≡ c.memory) → Memᴰ c cs → cond (eqb r.chunk d.number) d.memory (memory_of cs r) ≡ c.memory
    later ih k =
        ⊎_elim (λ h. absurd (omega (arith, e, eqb-true r.chunk d.number h, low_chunk (0 + suc d.number) cs up.2 c k)))
        (λ h. rw h (ih k))
        (told (eqb r.chunk d.number))

pub memory_in_lem : (cs : List Chunk) (m : ℕ) (rs : List Region) → Memᴰ m (memories_of cs rs) → (r : Region) × Memᴰ r rs × (memory_of cs r ≡ m)
memory_in_lem cs m [] k = absurd (Memᴰ.not-nil k)
memory_in_lem cs m (r ∷ rs) k = go (memory_in_lem cs m rs) (Memᴰ.cases_cons k)
  where
    go : (Memᴰ m (memories_of cs rs) → (d : Region) × Memᴰ d rs × (memory_of cs d ≡ m)) → (m ≡ memory_of cs r) ⊎ Memᴰ m (memories_of cs rs) → (d : Region) × Memᴰ d (r ∷ rs) × (memory_of cs d ≡ m)
    go ih (inl h) = (r, Memᴰ.head refl, sym h)
    go ih (inr h) = let w = ih h in (w.0, Memᴰ.tail w.1, w.2)

pub in_memory : (cs : List Chunk) (m : ℕ) (r : Region) (rs : List Region) → Memᴰ r rs → memory_of cs r ≡ m → Memᴰ m (memories_of cs rs)
in_memory cs m r [] k e = absurd (Memᴰ.not-nil k)
in_memory cs m r (d ∷ rs) k e = ⊎_elim (λ h. Memᴰ.head (sym e ∙ ap (memory_of cs) h)) (λ h. Memᴰ.tail (in_memory cs m r rs h e)) (Memᴰ.cases_cons k)

-- ---- a release

module _ (s : FreeListSettings) (t : Store) (fit : FreeListIn s) (sound : Sound s t) (spare : Bool) where
  abbrev gone : List Region
  gone = leaving t.chunks spare [] t.regions

  in_gone : (r : Region) → Memᴰ r (going t.chunks spare t.regions) → Memᴰ r gone
  in_gone r m = in_leaving t.chunks spare r [] t.regions (inr m)

  covering : (r : Region) → Memᴰ r gone → Covering t.chunks r
  covering r m = wholly_where t.chunks r (going_in t.chunks spare r t.regions (gone_in s t fit sound spare r m)).1

  -- what regions that go and the chunks they cover count alike, those held after and those gone count as before
  gone_total : (f : Region → ℕ) (g : Chunk → ℕ) → ((r : Region) (c : Chunk) → covers r c ≡ true → f r ≡ g c) → total g (released spare t).chunks + total f gone ≡ total g t.chunks
  gone_total f g same =
      omega (
        arith,
        remaining_total gone g t.chunks,
        leaving_total t.chunks spare f [] t.regions,
        paired_total f g same 0 1 (going t.chunks spare t.regions) (removed gone t.chunks) (going_rise t.chunks spare 0 t.regions sound.regions_rise)
            (removed_rise gone 1 t.chunks sound.chunks_rise)
            (λ r m. let w = covering r (in_gone r m) in (w.0, in_removed gone w.0 t.chunks w.1 (where_left gone w.0 r (in_gone r m) w.2), w.2))
            (λ c m. let w = left_where gone c (removed_in gone c t.chunks m) in (w.0, gone_in s t fit sound spare w.0 w.1, w.2)),
      )

  -- whatever is counted of chunks by their number and size: those held after and those gone are those held before
  pub gone_bytes : total (λ (c : Chunk). c.size) (released spare t).chunks + bytes_of gone ≡ total (λ (c : Chunk). c.size) t.chunks
  gone_bytes = omega (arith, bytes_total gone, gone_total (λ (r : Region). r.end) (λ (c : Chunk). c.size) (λ r c e. (covers_yes r c e).2))

  pub gone_count : length (released spare t).chunks + length gone ≡ length t.chunks
  gone_count =
      omega (arith, length_total gone, length_total (released spare t).chunks, length_total t.chunks, gone_total (λ (r : Region). 1) (λ (c : Chunk). 1) (λ r c e. refl))

  -- each listed memory number was held, and is held no more
  pub gone_memories : (m : ℕ) → Memᴰ m (memories_of t.chunks gone) ↔ ((c : Chunk) × Memᴰ c t.chunks × (c.memory ≡ m) × (Memᴰ c (released spare t).chunks → ⊥))
  gone_memories m = (there, back)
    where
      there : Memᴰ m (memories_of t.chunks gone) → (c : Chunk) × Memᴰ c t.chunks × (c.memory ≡ m) × (Memᴰ c (released spare t).chunks → ⊥)
      there k =
          let w = memory_in_lem t.chunks m gone k in
          let v = covering w.0 w.1 in (
            v.0,
            v.1,
            sym (memory_of_lem 1 t.chunks sound.chunks_rise w.0 v.0 v.1 (covers_yes w.0 v.0 v.2).0) ∙ w.2,
            λ q. true_false (is_covered gone v.0) (where_left gone v.0 w.0 w.1 v.2) (remaining_in gone v.0 t.chunks q).1,
          )

      back : (c : Chunk) × Memᴰ c t.chunks × (c.memory ≡ m) × (Memᴰ c (released spare t).chunks → ⊥) → Memᴰ m (memories_of t.chunks gone)
      back w = ⊎_elim found (λ e. absurd (w.3 (in_remaining gone w.0 t.chunks w.1 e))) (told (is_covered gone w.0))
        where
          found : is_covered gone w.0 ≡ true → Memᴰ m (memories_of t.chunks gone)
          found e =
              let v = left_where gone w.0 e in
              in_memory t.chunks m v.0 gone v.1 (memory_of_lem 1 t.chunks sound.chunks_rise v.0 w.0 w.1 (covers_yes v.0 w.0 v.2).0 ∙ w.2)
