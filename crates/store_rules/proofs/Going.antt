-- Chunks that go, one lot after the other.
use mathlib.Core.Path.{◌≡◌, refl, sym, subst}
use mathlib.Core.Logic.{inl, inr, ⊎_elim}
use mathlib.Core.List.Memᴰ
use mathlib.Core.List.{List, [], ◌∷◌, ◌++◌, map, Memᴰ}
use Prim.Native.Nat.{ℕ, ◌+◌}
use native.Mathlib.Omega.{arith}
use lib.ListN.{length, length-append, length-map}
use Rattle.lists.specs.Members.{Mem, Distinct}
use Rattle.lists.proofs.Members.{not_mem, mem_not, no_more, distinct_if}
use Rattle.store_rules.specs.Views.{Go}
use Rattle.store_rules.specs.declared.Chunk.{Chunk}
use Rattle.store_rules.proofs.Keyed.{stands, mem_key}

-- where none goes
pub none_go : (cs : List Chunk) → Go cs cs []
none_go cs =
    record {
      among = λ c m. m;
      either = λ c m. inl m;
      count = omega arith;
      bytes = omega arith;
      tells = λ m. ((λ k. absurd (Memᴰ.not-nil k)), (λ w. absurd (w.3 w.1)));
    }

-- some go, and then some of those that are left
pub both_go : (cs ds es : List Chunk) (ks ms : List ℕ) → Go cs ds ks → Go ds es ms → Go cs es (ks ++ ms)
both_go cs ds es ks ms g h =
    record {
      among = λ c m. g.among c (h.among c m);
      either = λ c m. ⊎_elim (h.either c) (λ k. inr (λ q. k (h.among c q))) (g.either c m);
      count = omega (arith, length-append ks ms, g.count, h.count);
      bytes = omega (arith, g.bytes, h.bytes);
      tells = λ m. (there m, back m);
    }
  where
    there : (m : ℕ) → Memᴰ m (ks ++ ms) → (c : Chunk) × Memᴰ c cs × (c.memory ≡ m) × (Memᴰ c es → ⊥)
    there m k =
        ⊎_elim (λ q. let w = (g.tells m).0 q in (w.0, w.1, w.2, λ z. w.3 (h.among w.0 z))) (λ q. let w = (h.tells m).0 q in (w.0, g.among w.0 w.1, w.2, w.3))
        (Memᴰ.append_cases ks k)

    back : (m : ℕ) → (c : Chunk) × Memᴰ c cs × (c.memory ≡ m) × (Memᴰ c es → ⊥) → Memᴰ m (ks ++ ms)
    back m w =
        ⊎_elim (λ k. Memᴰ.append_right ks ((h.tells m).1 (w.0, k, w.2, w.3))) (λ k. Memᴰ.append_left ms ((g.tells m).1 (w.0, w.1, w.2, k)))
        (g.either w.0 w.1)

-- ---- each is told once

-- of the chunks xs, all of them among cs, the memory numbers of those that go and of those that stay
record Parted (cs ds : List Chunk) (ms : List ℕ) (xs : List Chunk) : Type 0 where
  gone : List ℕ
  stay : List ℕ
  count : length gone + length stay ≡ length xs
  gone_told : (x : ℕ) → Mem x gone → Mem x ms
  stay_held : (x : ℕ) → Mem x stay → Mem x (map (λ (c : Chunk). c.memory) ds)
  gone_of : (x : ℕ) → Mem x gone → Mem x (map (λ (c : Chunk). c.memory) xs)
  stay_of : (x : ℕ) → Mem x stay → Mem x (map (λ (c : Chunk). c.memory) xs)
  gone_once : Distinct gone
  stay_once : Distinct stay

module _ (cs ds : List Chunk) (ms : List ℕ) (go : Go cs ds ms) where
  abbrev memory : Chunk → ℕ
  memory c = c.memory

  part : (xs : List Chunk) → ((c : Chunk) → Memᴰ c xs → Memᴰ c cs) → Distinct (map memory xs) → Parted cs ds ms xs
  part [] f d =
      record {
        gone = [];
        stay = [];
        count = refl;
        gone_told = λ x m. absurd m;
        stay_held = λ x m. absurd m;
        gone_of = λ x m. m;
        stay_of = λ x m. m;
        gone_once = tt;
        stay_once = tt;
      }
  part (c ∷ xs) f d =
      let p = part xs (λ e m. f e (Memᴰ.tail m)) d.1 in
      let here = f c (Memᴰ.head refl) in
      ⊎_elim (stays p) (goes here p) (go.either c here)
    where
      stays : Parted cs ds ms xs → Memᴰ c ds → Parted cs ds ms (c ∷ xs)
      stays p k =
          record {
            gone = p.gone;
            stay = c.memory ∷ p.stay;
            count = omega (arith, p.count);
            gone_told = p.gone_told;
            stay_held = λ x. ⊎_elim (λ e. subst (λ (y : ℕ). Mem y (map memory ds)) (sym e) (mem_key memory c ds k)) (p.stay_held x);
            gone_of = λ x m. inr (p.gone_of x m);
            stay_of = λ x. ⊎_elim (λ e. inl e) (λ m. inr (p.stay_of x m));
            gone_once = p.gone_once;
            stay_once = (mem_not c.memory p.stay (λ m. not_mem c.memory (map memory xs) d.0 (p.stay_of c.memory m)), p.stay_once);
          }

      goes : Memᴰ c cs → Parted cs ds ms xs → (Memᴰ c ds → ⊥) → Parted cs ds ms (c ∷ xs)
      goes here p k =
          record {
            gone = c.memory ∷ p.gone;
            stay = p.stay;
            count = omega (arith, p.count);
            gone_told = λ x. ⊎_elim (λ e. subst (λ (y : ℕ). Mem y ms) (sym e) (stands c.memory ms ((go.tells c.memory).1 (c, here, refl, k)))) (p.gone_told x);
            stay_held = p.stay_held;
            gone_of = λ x. ⊎_elim (λ e. inl e) (λ m. inr (p.gone_of x m));
            stay_of = λ x m. inr (p.stay_of x m);
            gone_once = (mem_not c.memory p.gone (λ m. not_mem c.memory (map memory xs) d.0 (p.gone_of c.memory m)), p.gone_once);
            stay_once = p.stay_once;
          }

  -- where held memory numbers differ, each that is told is told once
  pub told_once : Distinct (map memory cs) → Distinct ms
  told_once d =
      let p = part cs (λ c m. m) d in
      let few = no_more p.stay (map memory ds) p.stay_once p.stay_held in
      distinct_if p.gone ms p.gone_once p.gone_told (omega (arith, p.count, go.count, few, length-map ds memory))
