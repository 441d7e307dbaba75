-- Words put at the front of a list, one more of them, and the first of them sent behind the others.
use mathlib.Core.Path.{◌≡◌, refl, sym, ap, ◌∙◌}
use mathlib.Core.List.{List, [], ◌∷◌, ◌++◌}
use Prim.Native.Nat.{ℕ, zero, suc, ◌-◌, ◌≤◌, ◌<◌}
use native.Mathlib.Nat.{zero-add}
use native.Mathlib.Numerals.{add-one}
use native.Mathlib.Omega.{arith}
use lib.ListN.{length, take, drop, get_or, set, length-append}
use lib.Seq.{sets, drop-cons, set-append_seam, append_snoc, take-append_seam, drop-append_seam, set_at, length-take-le}
use Rattle.words.specs.Words.{moved}
use Rattle.words.proofs.Moved.{moved_in}
use Rattle.freelist_rules.specs.Release.{rotated}
use Rattle.freelist_rules.proofs.Listed.{sets_front}
use Rattle.freelist_marks.specs.Turned.{turned}

pub sets_more : (l ys : List ℕ) (v : ℕ) → length ys < length l → set (sets l 0 ys) (length ys) v ≡ sets l 0 (ys ++ (v ∷ []))
sets_more l ys v h =
    let n : length (ys ++ (v ∷ [])) ≡ suc (length ys) = length-append ys (v ∷ []) ∙ add-one (length ys) in
    ap (λ (z : List ℕ). set z (length ys) v) (sets_front l ys (omega arith) ∙ ap (λ (z : List ℕ). ys ++ z) (drop-cons l (length ys) 0 h))
    ∙ set-append_seam ys (get_or l (length ys) 0) (drop (suc (length ys)) l) v
    ∙ sym (append_snoc ys v (drop (suc (length ys)) l))
    ∙ ap (λ (k : ℕ). (ys ++ (v ∷ [])) ++ drop k l) (sym n)
    ∙ sym (sets_front l (ys ++ (v ∷ [])) (omega (arith, n)))

pub length_rotated : {A : Type 0} (xs : List A) → length (rotated xs) ≡ length xs
length_rotated [] = refl
length_rotated (x ∷ xs) = length-append xs (x ∷ []) ∙ add-one (length xs)

pub sets_turned : (l ys : List ℕ) → length ys ≤ length l → turned (length ys) (sets l 0 ys) ≡ sets l 0 (rotated ys)
unfolding turned
sets_turned l ys h =
    let d : List ℕ = drop (length ys) l in
    let n : length (rotated ys) ≡ length ys = length_rotated ys in
    ap (λ (z : List ℕ). rotated (take (length ys) z) ++ drop (length ys) z) (sets_front l ys h)
    ∙ ap (λ (z : List ℕ). rotated z ++ drop (length ys) (ys ++ d)) (take-append_seam ys d)
    ∙ ap (λ (z : List ℕ). rotated ys ++ z) (drop-append_seam ys d)
    ∙ ap (λ (k : ℕ). rotated ys ++ drop k l) (sym n)
    ∙ sym (sets_front l (rotated ys) (omega (arith, n)))

-- ---- the turn itself, by a move and a store

turned_suc : (p : ℕ) (a : ℕ) (t : List ℕ) → p ≤ length t → set (take p t ++ drop p (a ∷ t)) p a ≡ turned (suc p) (a ∷ t)
unfolding turned
turned_suc p a t h =
    ap (λ (z : List ℕ). set (take p t ++ z) p a) (drop-cons (a ∷ t) p 0 (omega arith))
    ∙ set_at (take p t) (get_or (a ∷ t) p 0) (drop p t) a p (length-take-le p t h)
    ∙ sym (append_snoc (take p t) a (drop p t))

pub turned_some : (m : ℕ) (t u v : List ℕ) (x : ℕ) → 1 < m → m ≤ length t → x ≡ get_or t 0 0 → u ≡ moved 1 0 (m - 1) t → v ≡ set u (m - 1) x → v ≡ turned m t
turned_some m [] u v x g h e p q = absurd (omega arith)
turned_some m (a ∷ t) u v x g h e p q =
    let n : suc (m - 1) ≡ m = omega arith in
    let z : u ≡ take (m - 1) t ++ drop (m - 1) (a ∷ t) = p ∙ moved_in (a ∷ t) 1 0 (m - 1) (omega arith) (omega arith) ∙ ap (λ (k : ℕ). take (m - 1) t ++ drop k (a ∷ t)) (zero-add (m - 1)) in
    q ∙ ap (λ (w : ℕ). set u (m - 1) w) e ∙ ap (λ (w : List ℕ). set w (m - 1) a) z ∙ turned_suc (m - 1) a t (omega arith) ∙ ap (λ (k : ℕ). turned k (a ∷ t)) n

pub turned_none : (m : ℕ) (t : List ℕ) → m ≤ 1 → t ≡ turned m t
unfolding turned
turned_none zero t h = refl
turned_none (suc zero) [] h = refl
turned_none (suc zero) (a ∷ t) h = refl
turned_none (suc (suc m)) t h = absurd (omega arith)
