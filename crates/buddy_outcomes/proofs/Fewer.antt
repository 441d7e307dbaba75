-- What is left of loans none of which stands twice when one block comes back, and the chunks that stay.
use mathlib.Core.Path.{◌≡◌, refl, sym, ap, subst, ◌∙◌}
use mathlib.Core.Bool.{Bool, true, false, cond}
use mathlib.Core.Logic.{⊎_elim}
use mathlib.Core.List.Memᴰ
use mathlib.Core.List.{List, [], ◌∷◌, ◌++◌, Memᴰ}
use Rattle.lists.proofs.Bools.{told}
use Rattle.counter.specs.declared.answers.Block.{Block}
use Rattle.store_rules.specs.Views.{Matches, OnLoan, among, loans_less, Differ}
use Rattle.store_rules.specs.declared.Chunk.{Chunk}
use Rattle.store_rules.specs.declared.Loan.{Loan}
use Rattle.store_rules.proofs.Lessening.{among_where, among_yes}
use Rattle.buddy_trees.specs.Chunks.{lies, stay}
use Rattle.buddy_trees.proofs.Onces.{Once}
use Rattle.buddy_outcomes.proofs.Goes.{mid_this}

-- ---- one block fewer

module _ (b : Block) where
  among_not : (l : Loan) → (Matches b l → ⊥) → among (b ∷ []) l ≡ false
  among_not l n = ⊎_elim (λ e. let w = among_where (b ∷ []) l e in absurd (n (subst (λ (d : Block). Matches d l) (this w.0 w.1) w.2))) (λ e. e) (told (among (b ∷ []) l))
    where
      this : (d : Block) → Memᴰ d (b ∷ []) → d ≡ b
      this d m = ⊎_elim (λ e. e) (λ k. absurd (Memᴰ.not-nil k)) (Memᴰ.cases_cons m)

  -- the block is none of them
  less_all : (ls : List Loan) → (OnLoan b ls → ⊥) → loans_less (b ∷ []) ls ≡ ls
  less_all [] n = refl
  less_all (l ∷ ls) n =
      let e : among (b ∷ []) l ≡ false = among_not l (λ z. n (l, Memᴰ.head refl, z)) in
      rw e (ap (λ (xs : List Loan). l ∷ xs) (less_all ls (λ w. n (w.0, Memᴰ.tail w.1, w.2))))

  -- the block's loan is one of them, and the others are left: they have other serials
  pub less_mid : (l : Loan) (xs ys : List Loan) → Matches b l → Once (xs ++ (l ∷ ys)) → Differ (λ (d : Loan). d.serial) (xs ++ (l ∷ ys))
      → loans_less (b ∷ []) (xs ++ (l ∷ ys)) ≡ xs ++ ys
  less_mid l [] ys its o f =
      let e : among (b ∷ []) l ≡ true = among_yes (b ∷ []) l b (Memᴰ.head refl) its in
      let none : OnLoan b ys → ⊥ =
      λ w. o.0 (subst (λ (d : Loan). Memᴰ d ys) (f w.0 l (Memᴰ.tail w.1) (Memᴰ.head refl) (w.2.serial ∙ sym its.serial)) w.1) in
      rw e (less_all ys none)
  less_mid l (x ∷ xs) ys its o f =
      let m = mid_this xs ys l in
      let e : among (b ∷ []) x ≡ false =
      among_not x (λ z. o.0 (subst (λ (d : Loan). Memᴰ d (xs ++ (l ∷ ys))) (sym (f x l (Memᴰ.head refl) (Memᴰ.tail m) (z.serial ∙ sym its.serial))) m)) in
      rw e (ap (λ (ls : List Loan). x ∷ ls) (less_mid l xs ys its o.1 (λ c d p q. f c d (Memᴰ.tail p) (Memᴰ.tail q))))

-- the chunks that stay, one list after the other
pub stay_append : (ls : List Loan) (cs ds : List Chunk) → stay ls (cs ++ ds) ≡ stay ls cs ++ stay ls ds
unfolding stay
stay_append ls [] ds = refl
stay_append ls (c ∷ cs) ds = go (lies ls c) (stay_append ls cs ds)
  where
    go : (b : Bool) → stay ls (cs ++ ds) ≡ stay ls cs ++ stay ls ds → cond b (c ∷ stay ls (cs ++ ds)) (stay ls (cs ++ ds)) ≡ cond b (c ∷ stay ls cs) (stay ls cs) ++ stay ls ds
    go true ih = ap (λ (xs : List Chunk). c ∷ xs) ih
    go false ih = ih
