-- How many free regions are all of their chunk, when a chunk arrives, when a block comes back, and when chunks are released.
use mathlib.Core.Path.{◌≡◌, refl, sym, ap, ◌∙◌}
use mathlib.Core.Bool.{Bool, true, false, cond}
use mathlib.Core.Logic.{◌⊎◌, inl, inr, ⊎_elim}
use mathlib.Core.List.Memᴰ
use mathlib.Core.List.{List, [], ◌∷◌, ◌++◌, Memᴰ}
use Prim.Native.Nat.{ℕ, ◌+◌, ◌-◌, ◌≤◌, ◌<◌}
use native.Mathlib.Omega.{arith}
use lib.Dec.{ltb}
use lib.ListN.{length}
use Rattle.counter.specs.InTable.{FreeListIn}
use Rattle.counter.specs.declared.settings.FreeListSettings.{FreeListSettings}
use Rattle.lists.proofs.Bools.{told, same_test}
use Rattle.store_rules.specs.declared.Chunk.{Chunk}
use Rattle.store_rules.specs.declared.Region.{Region}
use Rattle.freelist_rules.specs.Records.{Store, region, chunk}
use Rattle.freelist_rules.specs.Pieces.{total, lo}
use Rattle.freelist_rules.specs.Sound.{Sound}
use Rattle.freelist_rules.specs.Join.{meets, join, absorb, insert}
use Rattle.freelist_rules.specs.Release.{covers, wholly, staying, leaving, is_covered, remaining}
use Rattle.freelist_rules.specs.Steps.{delivered, released}
use Rattle.freelist_rules.specs.Threads.{wholes, absorbed, around}
use Rattle.freelist_rules.proofs.Base.{on_in, total_mem}
use Rattle.freelist_rules.proofs.Facts.{has, region_home, region_some, once}
use Rattle.freelist_rules.proofs.GapLists.{count_yes, count_no, count_one}
use Rattle.freelist_rules.proofs.GivesBack.{total_append, leaving_total}
use Rattle.freelist_rules.proofs.Joins.{meets_is}
use Rattle.freelist_rules.proofs.Releases.{covers_yes, yes_covers, wholly_where, where_wholly, left_where, going, going_in, gone_in, staying_in, staying_total, remaining_in, in_remaining}

-- ---- counted as a sum

abbrev one : List Chunk → Region → ℕ
one cs r = cond (wholly cs r) 1 0

wholes_total : (cs : List Chunk) (rs : List Region) → wholes cs rs ≡ total (one cs) rs
wholes_total cs [] = refl
wholes_total cs (r ∷ rs) = omega (arith, count_one cs r rs, wholes_total cs rs)

wholes_append : (cs : List Chunk) (rs ss : List Region) → wholes cs (rs ++ ss) ≡ wholes cs rs + wholes cs ss
wholes_append cs rs ss = omega (arith, wholes_total cs (rs ++ ss), wholes_total cs rs, wholes_total cs ss, total_append (one cs) rs ss)

-- each is
all_wholes : (cs : List Chunk) (rs : List Region) → ((r : Region) → Memᴰ r rs → wholly cs r ≡ true) → total (one cs) rs ≡ length rs
all_wholes cs [] f = refl
all_wholes cs (r ∷ rs) f = omega (arith, ap {B = ℕ} (λ (b : Bool). cond b 1 0) (f r (Memᴰ.head refl)), all_wholes cs rs (λ d m. f d (Memᴰ.tail m)))

-- the same ones are, by one list of chunks and by another
same_wholes : (cs ds : List Chunk) (rs : List Region) → ((r : Region) → Memᴰ r rs → wholly cs r ≡ wholly ds r) → wholes cs rs ≡ wholes ds rs
same_wholes cs ds [] f = refl
same_wholes cs ds (r ∷ rs) f =
    omega (arith, count_one cs r rs, count_one ds r rs, ap {B = ℕ} (λ (b : Bool). cond b 1 0) (f r (Memᴰ.head refl)), same_wholes cs ds rs (λ d m. f d (Memᴰ.tail m)))

-- ---- a block comes back

module _ (cs : List Chunk) where
  -- what begins past the first byte is not all of its chunk
  not_first : (r : Region) → 0 < r.start → wholly cs r ≡ false
  not_first r h = ⊎_elim (λ e. absurd (no (wholly_where cs r e))) (λ e. e) (told (wholly cs r))
    where
      no : (c : Chunk) × Memᴰ c cs × (covers r c ≡ true) → ⊥
      no w = omega (arith, (covers_yes r w.0 w.2).1)

  -- nor is what ends where something more of its chunk begins
  not_last : (r b : Region) → r.chunk ≡ b.chunk → r.end ≡ b.start → b.start < b.end → ((c : Chunk) → Memᴰ c cs → c.number ≡ b.chunk → b.end ≤ c.size) → wholly cs r ≡ false
  not_last r b p q h f = ⊎_elim (λ e. absurd (no (wholly_where cs r e))) (λ e. e) (told (wholly cs r))
    where
      no : (c : Chunk) × Memᴰ c cs × (covers r c ≡ true) → ⊥
      no w = let k = covers_yes r w.0 w.2 in omega (arith, k.2, f w.0 w.1 (sym k.0 ∙ p))

  absorb_wholes : (d : Region) (rs : List Region) → 0 < d.end → wholes cs (absorb d rs) ≡ wholes cs rs + one cs (absorbed d rs)
  absorb_wholes d [] h = omega (arith, count_one cs d [])
  absorb_wholes d (r ∷ rs) h = ⊎_elim yes' no' (told (meets d r))
    where
      yes' : meets d r ≡ true → wholes cs (absorb d (r ∷ rs)) ≡ wholes cs (r ∷ rs) + one cs (absorbed d (r ∷ rs))
      yes' e =
          let k = meets_is d r e in
          rw e (omega (arith, count_one cs (join d r) rs, count_no cs r rs (not_first r (omega (arith, k.1)))))

      no' : meets d r ≡ false → wholes cs (absorb d (r ∷ rs)) ≡ wholes cs (r ∷ rs) + one cs (absorbed d (r ∷ rs))
      no' e = rw e (omega (arith, count_one cs d (r ∷ rs)))

  -- the regions that it joins were not; what it becomes may be
  pub insert_wholes : (b : Region) (rs : List Region) → b.start < b.end → ((c : Chunk) → Memᴰ c cs → c.number ≡ b.chunk → b.end ≤ c.size) → wholes cs (insert b rs) ≡ wholes cs rs + cond (wholly cs (around b rs)) 1 0
  unfolding insert around
  insert_wholes b [] h f = omega (arith, count_one cs b [])
  insert_wholes b (r ∷ rs) h f = go (told (ltb (lo b) (lo r))) (told (meets r b)) (insert_wholes b rs h f)
    where
      go : (ltb (lo b) (lo r) ≡ true) ⊎ (ltb (lo b) (lo r) ≡ false) → (meets r b ≡ true) ⊎ (meets r b ≡ false) → wholes cs (insert b rs) ≡ wholes cs rs + one cs (around b rs)
          → wholes cs (insert b (r ∷ rs)) ≡ wholes cs (r ∷ rs) + one cs (around b (r ∷ rs))
      go (inl e) q ih = rw e (absorb_wholes b (r ∷ rs) (omega arith))
      go (inr e) (inl q) ih =
          let k = meets_is r b q in
          rw (e, q) (omega (arith, absorb_wholes (join r b) rs (omega arith), count_no cs r rs (not_last r b k.0 k.1 h f)))
      go (inr e) (inr q) ih = rw (e, q) (omega (arith, count_one cs r (insert b rs), count_one cs r rs, ih))

-- ---- a chunk arrives

module _ (s : FreeListSettings) (t : Store) (fit : FreeListIn s) (sound : Sound s t) (memory z : ℕ) where
  abbrev last : Chunk
  last = chunk (t.made + 1) memory z

  -- what was free is in an older chunk
  as_before : (r : Region) → Memᴰ r t.regions → wholly (t.chunks ++ (last ∷ [])) r ≡ wholly t.chunks r
  as_before r m = same_test _ _ there back
    where
      old : r.chunk ≤ t.made
      old = let w = region_home s t fit sound r m in omega (arith, sound.chunks_made w.0 w.1, w.2)

      there : wholly (t.chunks ++ (last ∷ [])) r ≡ true → wholly t.chunks r ≡ true
      there e =
          let w = wholly_where (t.chunks ++ (last ∷ [])) r e in
          ⊎_elim (λ k. where_wholly t.chunks r w.0 k w.2)
          (λ k. absurd (omega (arith, (covers_yes r w.0 w.2).0, ap (λ (c : Chunk). c.number) (Memᴰ.eq_of_singleton k), old))) (Memᴰ.append_cases t.chunks w.1)

      back : wholly t.chunks r ≡ true → wholly (t.chunks ++ (last ∷ [])) r ≡ true
      back e = let w = wholly_where t.chunks r e in where_wholly (t.chunks ++ (last ∷ [])) r w.0 (Memᴰ.append_left (last ∷ []) w.1) w.2

  pub delivered_wholes : wholes (delivered s memory z t).chunks (delivered s memory z t).regions ≡ wholes t.chunks t.regions + 1
  delivered_wholes =
      let cs = t.chunks ++ (last ∷ []) in
      let r : Region = region (t.made + 1) 0 z in
      let e : wholly cs r ≡ true = where_wholly cs r last (Memᴰ.append_right t.chunks (Memᴰ.head refl)) (yes_covers r last refl refl refl) in
      omega (arith, wholes_append cs t.regions (r ∷ []), same_wholes cs t.chunks t.regions as_before, count_yes cs r [] e)

-- ---- chunks are released

module _ (s : FreeListSettings) (t : Store) (fit : FreeListIn s) (sound : Sound s t) (spare : Bool) where
  abbrev gone : List Region
  gone = leaving t.chunks spare [] t.regions

  -- no byte is free twice, so what stays and what goes are not all of one chunk
  stays_whole : (r : Region) → Memᴰ r (staying t.chunks spare t.regions) → wholly (remaining gone t.chunks) r ≡ wholly t.chunks r
  stays_whole r m = same_test _ _ there back
    where
      there : wholly (remaining gone t.chunks) r ≡ true → wholly t.chunks r ≡ true
      there e = let w = wholly_where (remaining gone t.chunks) r e in where_wholly t.chunks r w.0 (remaining_in gone w.0 t.chunks w.1).0 w.2

      both : (c : Chunk) → covers r c ≡ true → (d : Region) × Memᴰ d gone × (covers d c ≡ true) → ⊥
      both c e v =
          let d : Region = v.0 in
          let k = covers_yes r c e in
          let l = covers_yes d c v.2 in
          let some = region_some s t fit sound r (staying_in t.chunks spare r t.regions m) in
          omega (
            arith,
            once s t fit sound c.number 0,
            staying_total t.chunks spare (has c.number 0) t.regions,
            total_mem (has c.number 0) r (staying t.chunks spare t.regions) m,
            total_mem (has c.number 0) d (going t.chunks spare t.regions) (gone_in s t fit sound spare d v.1),
            on_in c.number 0 r.chunk r.start r.end k.0 (omega (arith, k.1)) (omega (arith, some)),
            on_in c.number 0 d.chunk d.start d.end l.0 (omega (arith, l.1)) (omega (arith, some, k.2, l.2)),
          )

      back : wholly t.chunks r ≡ true → wholly (remaining gone t.chunks) r ≡ true
      back e =
          let w = wholly_where t.chunks r e in
          where_wholly (remaining gone t.chunks) r w.0
          (in_remaining gone w.0 t.chunks w.1 (⊎_elim (λ q. absurd (both w.0 w.2 (left_where gone w.0 q))) (λ q. q) (told (is_covered gone w.0)))) w.2

  pub released_wholes : wholes (released spare t).chunks (released spare t).regions ≡ wholes t.chunks t.regions - length (leaving t.chunks spare [] t.regions)
  released_wholes =
      let cs = t.chunks in
      let rs = t.regions in
      omega (
        arith,
        same_wholes (remaining gone cs) cs (staying cs spare rs) stays_whole,
        wholes_total cs (staying cs spare rs),
        wholes_total cs rs,
        staying_total cs spare (one cs) rs,
        leaving_total cs spare (one cs) [] rs,
        all_wholes cs gone (λ r m. (going_in cs spare r rs (gone_in s t fit sound spare r m)).1),
      )
