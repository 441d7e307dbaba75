-- Blocks in another order: the same blocks, and still no two of one serial.
use mathlib.Core.Path.{◌≡◌, sym, ap, ◌∙◌, subst}
use mathlib.Core.Logic.{⊎_elim}
use mathlib.Core.List.Memᴰ
use mathlib.Core.List.{List, [], ◌∷◌, map, Memᴰ, Permᴰ}
use Prim.Native.Nat.{ℕ}
use Rattle.counter.specs.declared.answers.Block.{Block}
use Rattle.lists.specs.Members.{NotIn, Distinct}

-- a block of the one list is one of the other
pub perm_mem : {xs ys : List Block} (a : Block) → Permᴰ xs ys → Memᴰ a ys → Memᴰ a xs
perm_mem a Permᴰ.nil m = m
perm_mem a (Permᴰ.cons e p) m = ⊎_elim (λ h. Memᴰ.head (h ∙ sym e)) (λ h. Memᴰ.tail (perm_mem a p h)) (Memᴰ.cases_cons m)
perm_mem a (Permᴰ.swap e f) m =
    ⊎_elim (λ h. Memᴰ.tail (Memᴰ.head (h ∙ sym f))) (λ h. ⊎_elim (λ g. Memᴰ.head (g ∙ sym e)) (λ g. Memᴰ.tail (Memᴰ.tail g)) (Memᴰ.cases_cons h)) (Memᴰ.cases_cons m)
perm_mem a (Permᴰ.trans p q) m = perm_mem a p (perm_mem a q m)

-- no two have one serial, and none has k
abbrev pub Apart : List Block → Type 0
Apart bs = Distinct (map (λ (b : Block). b.serial) bs)

abbrev pub Other : ℕ → List Block → Type 0
Other k bs = NotIn k (map (λ (b : Block). b.serial) bs)

perm_other : {xs ys : List Block} (k : ℕ) → Permᴰ xs ys → Other k xs → Other k ys
perm_other k Permᴰ.nil h = h
perm_other k (Permᴰ.cons e p) h = ((λ q. h.0 (q ∙ ap (λ (b : Block). b.serial) (sym e))), perm_other k p h.1)
perm_other k (Permᴰ.swap e f) h = ((λ q. h.1.0 (q ∙ ap (λ (b : Block). b.serial) (sym f))), ((λ q. h.0 (q ∙ ap (λ (b : Block). b.serial) (sym e))), h.1.1))
perm_other k (Permᴰ.trans p q) h = perm_other k q (perm_other k p h)

-- no two have one serial in the other order either
pub perm_apart : {xs ys : List Block} → Permᴰ xs ys → Apart xs → Apart ys
perm_apart Permᴰ.nil h = h
perm_apart (Permᴰ.cons {b = b} {l₂ = l₂} e p) h =
    let z = ap (λ (b : Block). b.serial) e in
    let w : Other b.serial l₂ = rw (← z) (perm_other _ p h.0) in
    (w, perm_apart p h.1)
perm_apart (Permᴰ.swap {a = a} {b = b} {a' = a'} {b' = b'} {l = l} e f) h =
    subst (λ y. Apart (a' ∷ y ∷ l)) e (subst (λ x. Apart (x ∷ a ∷ l)) f (((λ q. h.0.0 (sym q)), h.1.0), (h.0.1, h.1.1)))
perm_apart (Permᴰ.trans p q) h = perm_apart q (perm_apart p h)

-- a block among those that have another serial has another serial
pub other_not : (k : ℕ) (bs : List Block) (b : Block) → Other k bs → Memᴰ b bs → b.serial ≡ k → ⊥
other_not k [] b h m e = Memᴰ.not-nil m
other_not k (c ∷ bs) b h m e = ⊎_elim (λ q. h.0 (sym e ∙ ap (λ (b : Block). b.serial) q)) (λ q. other_not k bs b h.1 q e) (Memᴰ.cases_cons m)
