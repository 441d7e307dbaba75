-- A list with one more amid it: a loan that is entered, a chunk that arrives.
use mathlib.Core.Path.{◌≡◌, sym, subst}
use mathlib.Core.Logic.{◌⊎◌, inl, inr, ⊎_elim, ◌↔◌}
use mathlib.Core.List.Memᴰ
use mathlib.Core.List.{List, [], ◌∷◌, ◌++◌, Memᴰ}

-- those before, and the same with a in some place and nothing else
pub record Amid {A : Type 0} (a : A) (before after : List A) : Type 0 where
  pub earlier : List A
  pub later : List A
  pub were : before ≡ earlier ++ later
  pub are : after ≡ earlier ++ (a ∷ later)

between : {A : Type 0} (a : A) (xs ys : List A) (d : A) → Memᴰ d (xs ++ (a ∷ ys)) ↔ (Memᴰ d (xs ++ ys) ⊎ (d ≡ a))
between a [] ys d = (
  (λ m. ⊎_elim (λ e. inr e) (λ k. inl k) (Memᴰ.cases_cons m)),
  ⊎_elim (λ k. Memᴰ.tail k) (λ e. Memᴰ.head e),
)
between a (x ∷ xs) ys d =
    let w = between a xs ys d in (
      (λ m. ⊎_elim (λ e. inl (Memᴰ.head e)) (λ k. ⊎_elim (λ i. inl (Memᴰ.tail i)) (λ i. inr i) (w.0 k)) (Memᴰ.cases_cons m)),
      ⊎_elim (λ m. ⊎_elim (λ e. Memᴰ.head e) (λ k. Memᴰ.tail (w.1 (inl k))) (Memᴰ.cases_cons m)) (λ e. Memᴰ.tail (w.1 (inr e))),
    )

-- its members are those before and a
pub amid_member : {A : Type 0} (a : A) (before after : List A) → Amid a before after → (d : A) → Memᴰ d after ↔ (Memᴰ d before ⊎ (d ≡ a))
amid_member {A} a before after w d =
    subst (λ (ys : List A). Memᴰ d ys ↔ (Memᴰ d before ⊎ (d ≡ a))) (sym w.are)
    (subst (λ (xs : List A). Memᴰ d (w.earlier ++ (a ∷ w.later)) ↔ (Memᴰ d xs ⊎ (d ≡ a))) (sym w.were) (between a w.earlier w.later d))
