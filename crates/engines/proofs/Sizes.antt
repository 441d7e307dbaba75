-- The bytes of chunks that go are the sizes of those whose memory numbers are told.
use mathlib.Core.Path.{◌≡◌, refl, sym, ap, subst, ◌∙◌}
use mathlib.Core.Bool.{cond}
use mathlib.Core.Logic.{inl, inr, ⊎_elim}
use mathlib.Core.List.Memᴰ
use mathlib.Core.List.{List, [], ◌∷◌, ◌++◌, map, Memᴰ}
use Prim.Native.Nat.{ℕ, ◌+◌, ◌-◌, ◌≤◌}
use native.Mathlib.Omega.{arith}
use lib.Dec.{eqb}
use lib.ListN.{length, length-append, length-map}
use borrow.Author.Tests.{eq-eqb, ne_eqb}
use Rattle.lists.specs.Members.{Mem, NotIn, Distinct}
use Rattle.lists.proofs.Members.{not_mem, split, mem_left, mem_right, mem_left_over, distinct_if}
use Rattle.store_rules.specs.Views.{total, sizes, Go}
use Rattle.store_rules.specs.declared.Chunk.{Chunk}
use Rattle.store_rules.proofs.Bytes.{total_append}
use Rattle.store_rules.proofs.Keyed.{stands, mem_key, key_not}
use Rattle.engines.specs.Stock.{size_of, SameChunks, NoMemoryTwice}

-- ---- sums

module _ {A : Type 0} where
  total_same : (f g : A → ℕ) (xs : List A) → ((a : A) → Memᴰ a xs → f a ≡ g a) → total f xs ≡ total g xs
  total_same f g [] h = refl
  total_same f g (a ∷ xs) h = omega (arith, h a (Memᴰ.head refl), total_same f g xs (λ b m. h b (Memᴰ.tail m)))

  total_map : (f : ℕ → ℕ) (key : A → ℕ) (xs : List A) → total f (map key xs) ≡ total (λ (a : A). f (key a)) xs
  total_map f key [] = refl
  total_map f key (a ∷ xs) = omega (arith, total_map f key xs)

-- distinct members of a list, as many as the list is long, sum up as it does
total_fills : (f : ℕ → ℕ) (R l : List ℕ) → Distinct R → ((x : ℕ) → Mem x R → Mem x l) → length l ≤ length R → total f l ≡ total f R
total_fills f [] [] d g h = refl
total_fills f [] (y ∷ l) d g h = absurd (omega arith)
total_fills f (x ∷ R) l d g h =
    let s = split x l (g x (inl refl)) in
    let k : length (s.a ++ s.b) ≤ length R = omega (arith, ap length s.is, length-append s.a (x ∷ s.b), length-append s.a s.b) in
    let ih = total_fills f R (s.a ++ s.b) d.1 (λ y i. mem_left_over x y s.a s.b (λ e. not_mem x R d.0 (rw e at i)) (rw s.is at (g y (inr i)))) k in
    omega (arith, ih, ap (total f) s.is, total_append f s.a (x ∷ s.b), total_append f s.a s.b)

-- ---- sizes by memory number

abbrev memory : Chunk → ℕ
memory c = c.memory

-- where no memory number stands twice, that of a chunk tells its size
size_found : (cs : List Chunk) → NoMemoryTwice cs → (c : Chunk) → Memᴰ c cs → size_of cs c.memory ≡ c.size
size_found [] d c m = absurd (Memᴰ.not-nil m)
size_found (b ∷ cs) d c m = ⊎_elim first (λ k. later k (size_found cs d.1 c k)) (Memᴰ.cases_cons m)
  where
    first : c ≡ b → cond (eqb b.memory c.memory) b.size (size_of cs c.memory) ≡ c.size
    first e = rw (eq-eqb b.memory c.memory (ap memory (sym e))) (ap (λ (x : Chunk). x.size) (sym e))

    later : Memᴰ c cs → size_of cs c.memory ≡ c.size → cond (eqb b.memory c.memory) b.size (size_of cs c.memory) ≡ c.size
    later k ih = rw (ne_eqb b.memory c.memory (key_not memory b.memory cs d.0 c k)) ih

module _ (cs ds : List Chunk) (ms : List ℕ) (go : Go cs ds ms) (once : NoMemoryTwice cs) where
  -- the memory numbers of those that stay and those that are told are all of them
  all_there : (x : ℕ) → Mem x (map memory cs) → Mem x (map memory ds ++ ms)
  all_there x m = by (of_key cs m)
    where
      of_key : (xs : List Chunk) → Mem x (map memory xs) → (c : Chunk) × Memᴰ c xs × (x ≡ c.memory)
      of_key [] k = absurd k
      of_key (c ∷ xs) (inl e) = (c, Memᴰ.head refl, e)
      of_key (c ∷ xs) (inr k) = let w = of_key xs k in (w.0, Memᴰ.tail w.1, w.2)

      by : (c : Chunk) × Memᴰ c cs × (x ≡ c.memory) → Mem x (map memory ds ++ ms)
      by w =
          subst (λ (y : ℕ). Mem y (map memory ds ++ ms)) (sym w.2)
          (⊎_elim (λ k. mem_left w.0.memory (map memory ds) ms (mem_key memory w.0 ds k))
          (λ k. mem_right w.0.memory (map memory ds) ms (stands w.0.memory ms ((go.tells w.0.memory).1 (w.0, w.1, refl, k))))
          (go.either w.0 w.1))

  as_many : length (map memory ds ++ ms) ≤ length (map memory cs)
  as_many = omega (arith, length-append (map memory ds) ms, length-map ds memory, length-map cs memory, go.count)

  -- those that stay have none twice
  pub once_stays : NoMemoryTwice ds
  once_stays = left (map memory ds) (distinct_if (map memory cs) (map memory ds ++ ms) once all_there as_many)
    where
      left : (xs : List ℕ) → Distinct (xs ++ ms) → Distinct xs
      left [] d = tt
      left (x ∷ xs) d = (less xs d.0, left xs d.1)
        where
          less : (ys : List ℕ) → NotIn x (ys ++ ms) → NotIn x ys
          less [] n = tt
          less (y ∷ ys) n = (n.0, less ys n.1)

  -- what they have and what is told of is all that was held
  sizes_part : sizes cs ≡ sizes ds + total (size_of cs) ms
  sizes_part =
      let f = size_of cs in
      let a : total (λ (c : Chunk). c.size) cs ≡ total (λ (c : Chunk). f c.memory) cs = total_same _ _ cs (λ c m. sym (size_found cs once c m)) in
      let b : total (λ (c : Chunk). c.size) ds ≡ total (λ (c : Chunk). f c.memory) ds = total_same _ _ ds (λ c m. sym (size_found cs once c (go.among c m))) in
      omega (arith, a, b, total_map f memory cs, total_map f memory ds, total_fills f (map memory cs) (map memory ds ++ ms) once all_there as_many, total_append f (map memory ds) ms)

  -- by any list of the same chunks
  pub gone_sizes : (st : List Chunk) → SameChunks cs st → NoMemoryTwice st → sizes cs - sizes ds ≡ total (size_of st) ms
  gone_sizes st same d =
      let e : total (size_of cs) ms ≡ total (size_of st) ms =
      total_same (size_of cs) (size_of st) ms
      (λ m k. let w = (go.tells m).0 k in
      ap (size_of cs) (sym w.2) ∙ size_found cs once w.0 w.1 ∙ sym (size_found st d w.0 ((same w.0).0 w.1)) ∙ ap (size_of st) w.2) in
      omega (arith, sizes_part, e)
