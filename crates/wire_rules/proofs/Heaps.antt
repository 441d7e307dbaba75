-- The heaps' words, one heap after the other: read, written, and read again.
use mathlib.Core.Path.{◌≡◌, refl, sym, ap, ◌∙◌}
use mathlib.Core.List.{List, [], ◌∷◌, ◌++◌}
use mathlib.Core.Logic.{⊎_elim}
use Prim.Native.Nat.{ℕ, zero, suc, ◌+◌, ◌*◌, ◌≤◌, ◌<◌}
use native.Mathlib.Nat.{add_comm, zero-add}
use native.Mathlib.Omega.{arith}
use lib.ListN.{length, take, get_or, set, length-set, length-append, get_or-append}
use lib.Seq.{take-suc, get_or-set_same, get_or-set_other, get_or-append_seam, set-get_or}
use Rattle.lists.proofs.Bools.{same?}
use Rattle.counter.specs.Account.{no_heap}
use Rattle.counter.specs.declared.account.Heap.{Heap}
use Rattle.wire_rules.specs.Wire.{heap_at, heap_in, heaps_in, heap_out, heaps_out}

-- ---- as the code reads them

-- a heap's six words, from the first on
pub read_six : (w : List ℕ) (i : ℕ)
    → record { size = get_or w (6 * i) 0; used = get_or w (6 * i + 1) 0; allocated = record { hi = get_or w (6 * i + 2) 0; lo = get_or w (6 * i + 3) 0 }; deallocated = record { hi = get_or w (6 * i + 4) 0; lo = get_or w (6 * i + 5) 0 } } ≡ heap_in w i
unfolding heap_in
read_six w i =
    rw (zero-add (6 * i), add_comm 1 (6 * i), add_comm 2 (6 * i), add_comm 3 (6 * i), add_comm 4 (6 * i), add_comm 5 (6 * i))

-- ---- as the code writes them

-- a heap's six words put in turn, from the first on
pub put_six : (h : Heap) (i : ℕ) (w : List ℕ)
    → set (set (set (set (set (set w (6 * i) h.size) (6 * i + 1) h.used) (6 * i + 2) h.allocated.hi) (6 * i + 3) h.allocated.lo) (6 * i + 4) h.deallocated.hi) (6 * i + 5) h.deallocated.lo ≡ heap_out h i w
unfolding heap_out
put_six h i w =
    rw (zero-add (6 * i), add_comm 1 (6 * i), add_comm 2 (6 * i), add_comm 3 (6 * i), add_comm 4 (6 * i), add_comm 5 (6 * i))

-- writing heaps leaves as many words
pub heap_length : (h : Heap) (i : ℕ) (w : List ℕ) → length (heap_out h i w) ≡ length w
unfolding heap_out
heap_length h i w = simp length-set

pub heaps_length : (hs : List Heap) (n : ℕ) (w : List ℕ) → length (heaps_out hs n w) ≡ length w
unfolding heaps_out
heaps_length hs zero w = refl
heaps_length hs (suc n) w = heap_length (get_or hs n no_heap) n (heaps_out hs n w) ∙ heaps_length hs n w

-- ---- what was written, read again

-- a write elsewhere, and the write itself
pub over : (l : List ℕ) (i j v x : ℕ) → j < i → get_or l j 0 ≡ x → get_or (set l i v) j 0 ≡ x
over l i j v x h e = get_or-set_other l i j v 0 (λ q. omega arith) ∙ e

pub on : (l : List ℕ) (i v n : ℕ) → length l ≡ n → i < n → get_or (set l i v) i 0 ≡ v
on l i v n e h = get_or-set_same l i v 0 (omega arith)

-- a heap by its words
heap_of_lem : (v : List ℕ) (i : ℕ) (h : Heap) → get_or v (heap_at 0 i) 0 ≡ h.size → get_or v (heap_at 1 i) 0 ≡ h.used
    → get_or v (heap_at 2 i) 0 ≡ h.allocated.hi → get_or v (heap_at 3 i) 0 ≡ h.allocated.lo
    → get_or v (heap_at 4 i) 0 ≡ h.deallocated.hi → get_or v (heap_at 5 i) 0 ≡ h.deallocated.lo
    → heap_in v i ≡ h
unfolding heap_in
heap_of_lem v i h e0 e1 e2 e3 e4 e5 = rw (e0, e1, e2, e3, e4, e5)

module _ (h : Heap) (i : ℕ) (w : List ℕ) where
  -- a word that is none of the heap's stays
  pub heap_other : (k : ℕ) → ((f : ℕ) → f < 6 → k ≡ heap_at f i → ⊥) → get_or (heap_out h i w) k 0 ≡ get_or w k 0
  unfolding heap_out
  heap_other k none =
      let n0 : k ≡ heap_at 0 i → ⊥ = none 0 (omega arith) in
      let n1 : k ≡ heap_at 1 i → ⊥ = none 1 (omega arith) in
      let n2 : k ≡ heap_at 2 i → ⊥ = none 2 (omega arith) in
      let n3 : k ≡ heap_at 3 i → ⊥ = none 3 (omega arith) in
      let n4 : k ≡ heap_at 4 i → ⊥ = none 4 (omega arith) in
      let n5 : k ≡ heap_at 5 i → ⊥ = none 5 (omega arith) in
      rw (get_or-set_other, get_or-set_other, get_or-set_other, get_or-set_other, get_or-set_other, get_or-set_other)

  -- and the heap's own are the heap
  pub heap_again : heap_at 5 i < length w → heap_in (heap_out h i w) i ≡ h
  unfolding heap_out
  heap_again l =
      let w0 = set w (heap_at 0 i) h.size in
      let l0 : length w0 ≡ length w = length-set w (heap_at 0 i) h.size in
      let w1 = set w0 (heap_at 1 i) h.used in
      let l1 : length w1 ≡ length w = length-set w0 (heap_at 1 i) h.used ∙ l0 in
      let w2 = set w1 (heap_at 2 i) h.allocated.hi in
      let l2 : length w2 ≡ length w = length-set w1 (heap_at 2 i) h.allocated.hi ∙ l1 in
      let w3 = set w2 (heap_at 3 i) h.allocated.lo in
      let l3 : length w3 ≡ length w = length-set w2 (heap_at 3 i) h.allocated.lo ∙ l2 in
      let w4 = set w3 (heap_at 4 i) h.deallocated.hi in
      let l4 : length w4 ≡ length w = length-set w3 (heap_at 4 i) h.deallocated.hi ∙ l3 in
      let w5 = set w4 (heap_at 5 i) h.deallocated.lo in
      let l5 : length w5 ≡ length w = length-set w4 (heap_at 5 i) h.deallocated.lo ∙ l4 in
      heap_of_lem (heap_out h i w) i h
      (over w4 (heap_at 5 i) (heap_at 0 i) h.deallocated.lo h.size (omega arith) (over w3 (heap_at 4 i) (heap_at 0 i) h.deallocated.hi h.size (omega arith) (over w2 (heap_at 3 i) (heap_at 0 i) h.allocated.lo h.size (omega arith) (over w1 (heap_at 2 i) (heap_at 0 i) h.allocated.hi h.size (omega arith) (over w0 (heap_at 1 i) (heap_at 0 i) h.used h.size (omega arith) (on w (heap_at 0 i) h.size (length w) refl (omega arith)))))))
      (over w4 (heap_at 5 i) (heap_at 1 i) h.deallocated.lo h.used (omega arith) (over w3 (heap_at 4 i) (heap_at 1 i) h.deallocated.hi h.used (omega arith) (over w2 (heap_at 3 i) (heap_at 1 i) h.allocated.lo h.used (omega arith) (over w1 (heap_at 2 i) (heap_at 1 i) h.allocated.hi h.used (omega arith) (on w0 (heap_at 1 i) h.used (length w) l0 (omega arith))))))
      (over w4 (heap_at 5 i) (heap_at 2 i) h.deallocated.lo h.allocated.hi (omega arith) (over w3 (heap_at 4 i) (heap_at 2 i) h.deallocated.hi h.allocated.hi (omega arith) (over w2 (heap_at 3 i) (heap_at 2 i) h.allocated.lo h.allocated.hi (omega arith) (on w1 (heap_at 2 i) h.allocated.hi (length w) l1 (omega arith)))))
      (over w4 (heap_at 5 i) (heap_at 3 i) h.deallocated.lo h.allocated.lo (omega arith) (over w3 (heap_at 4 i) (heap_at 3 i) h.deallocated.hi h.allocated.lo (omega arith) (on w2 (heap_at 3 i) h.allocated.lo (length w) l2 (omega arith))))
      (over w4 (heap_at 5 i) (heap_at 4 i) h.deallocated.lo h.deallocated.hi (omega arith) (on w3 (heap_at 4 i) h.deallocated.hi (length w) l3 (omega arith)))
      (on w4 (heap_at 5 i) h.deallocated.lo (length w) l4 (omega arith))

-- heaps of the same words are the same
pub heap_same : (w v : List ℕ) (i : ℕ) → ((f : ℕ) → f < 6 → get_or w (heap_at f i) 0 ≡ get_or v (heap_at f i) 0) → heap_in w i ≡ heap_in v i
unfolding heap_in
heap_same w v i e =
    rw (e 0 (omega arith), e 1 (omega arith), e 2 (omega arith), e 3 (omega arith), e 4 (omega arith), e 5 (omega arith))

-- each heap that was written is read again
pub heaps_each : (hs : List Heap) (n : ℕ) (w : List ℕ) (i : ℕ) → 6 * n ≤ length w → i < n → heap_in (heaps_out hs n w) i ≡ get_or hs i no_heap
unfolding heaps_out
heaps_each hs zero w i l h = absurd (omega arith)
heaps_each hs (suc n) w i l h =
    let v = heaps_out hs n w in
    let g = get_or hs n no_heap in
    ⊎_elim
    (λ (q : i ≡ n).
    ap (heap_in (heap_out g n v)) q ∙ heap_again g n v (omega (arith, heaps_length hs n w)) ∙ ap (λ (k : ℕ). get_or hs k no_heap) (sym q))
    (λ (ne : i ≡ n → ⊥).
    heap_same (heap_out g n v) v i (λ f lf. heap_other g n v (heap_at f i) (λ k lk e. ne (omega arith)))
    ∙ heaps_each hs n w i (omega arith) (omega (arith, ne)))
    (same? i n)

-- heaps that are each as in a list are the front of the list
pub heaps_front : (w : List ℕ) (hs : List Heap) (n : ℕ) → n ≤ length hs → ((i : ℕ) → i < n → heap_in w i ≡ get_or hs i no_heap) → heaps_in w n ≡ take n hs
unfolding heaps_in
heaps_front w hs zero l e = refl
heaps_front w hs (suc n) l e =
    rw (heaps_front w hs n (omega arith) (λ i h. e i (omega arith)), e n (omega arith), take-suc hs n no_heap (omega arith))

-- a word past the heaps stays
pub heaps_past : (hs : List Heap) (n : ℕ) (w : List ℕ) (k : ℕ) → 6 * n ≤ k → get_or (heaps_out hs n w) k 0 ≡ get_or w k 0
unfolding heaps_out
heaps_past hs zero w k l = refl
heaps_past hs (suc n) w k l =
    heap_other (get_or hs n no_heap) n (heaps_out hs n w) k (λ f lf e. omega arith) ∙ heaps_past hs n w k (omega arith)

-- ---- what was read, written again

pub heaps_many : (w : List ℕ) (n : ℕ) → length (heaps_in w n) ≡ n
unfolding heaps_in
heaps_many w zero = refl
heaps_many w (suc n) = simp length-append (omega (arith, heaps_many w n))

-- each heap by its number
pub heaps_at : (w : List ℕ) (n i : ℕ) → i < n → get_or (heaps_in w n) i no_heap ≡ heap_in w i
unfolding heaps_in
heaps_at w zero i l = absurd (omega arith)
heaps_at w (suc n) i l =
    ⊎_elim
    (λ (q : i ≡ n).
    ap (λ (k : ℕ). get_or (heaps_in w n ++ (heap_in w n ∷ [])) k no_heap) (q ∙ sym (heaps_many w n))
    ∙ get_or-append_seam (heaps_in w n) (heap_in w n) [] no_heap
    ∙ ap (heap_in w) (sym q))
    (λ (ne : i ≡ n → ⊥).
    get_or-append (heaps_in w n) (heap_in w n ∷ []) no_heap i (omega (arith, ne, heaps_many w n))
    ∙ heaps_at w n i (omega (arith, ne)))
    (same? i n)

-- a heap leaves the words as they are
heap_stays : (w : List ℕ) (i : ℕ) → heap_out (heap_in w i) i w ≡ w
unfolding heap_out heap_in
heap_stays w i =
    rw (set-get_or w (heap_at 0 i) 0, set-get_or w (heap_at 1 i) 0, set-get_or w (heap_at 2 i) 0, set-get_or w (heap_at 3 i) 0, set-get_or w (heap_at 4 i) 0, set-get_or w (heap_at 5 i) 0)

-- and so do heaps
pub heaps_stay : (hs : List Heap) (n : ℕ) (w : List ℕ) → ((i : ℕ) → i < n → get_or hs i no_heap ≡ heap_in w i) → heaps_out hs n w ≡ w
unfolding heaps_out
heaps_stay hs zero w e = refl
heaps_stay hs (suc n) w e =
    rw (heaps_stay hs n w (λ i l. e i (omega arith)), e n (omega arith)) (heap_stays w n)

-- where all but one are as they were read, that one alone is written
pub heaps_one : (hs : List Heap) (n : ℕ) (w : List ℕ) (i : ℕ) → i < n → ((j : ℕ) → j < n → (j ≡ i → ⊥) → get_or hs j no_heap ≡ heap_in w j)
    → heaps_out hs n w ≡ heap_out (get_or hs i no_heap) i w
unfolding heaps_out
heaps_one hs zero w i l e = absurd (omega arith)
heaps_one hs (suc n) w i l e =
    ⊎_elim
    (λ (q : i ≡ n).
    ap (heap_out (get_or hs n no_heap) n) (heaps_stay hs n w (λ j m. e j (omega arith) (λ k. omega arith)))
    ∙ ap (λ (k : ℕ). heap_out (get_or hs k no_heap) k w) (sym q))
    (λ (ne : i ≡ n → ⊥).
    let g = get_or hs i no_heap in
    let same : heap_in w n ≡ heap_in (heap_out g i w) n =
    sym (heap_same (heap_out g i w) w n (λ f lf. heap_other g i w (heap_at f n) (λ k lk q. ne (omega arith)))) in
    ap (heap_out (get_or hs n no_heap) n) (heaps_one hs n w i (omega (arith, ne)) (λ j m d. e j (omega arith) d))
    ∙ ap (λ (x : Heap). heap_out x n (heap_out g i w)) (e n (omega arith) (λ q. ne (sym q)) ∙ same)
    ∙ heap_stays (heap_out g i w) n)
    (same? i n)
