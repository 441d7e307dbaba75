-- Parts of lists by a test, and the loans that are left when blocks come back.
use mathlib.Core.Path.{◌≡◌, refl, sym, ◌∙◌, ap, subst}
use mathlib.Core.Bool.{Bool, true, false, cond, ◌&&◌, ◌||◌, not}
use mathlib.Core.Logic.{◌⊎◌, inl, inr, ⊎_elim, ◌↔◌}
use mathlib.Core.List.Memᴰ
use mathlib.Core.List.Permᴰ
use mathlib.Core.List.{List, [], ◌∷◌, Memᴰ, Permᴰ}
use Rattle.lists.proofs.Bools.{or_cases, or_left, or_right, told, true_false, same_test, not_yes}
use Rattle.counter.specs.declared.answers.Block.{Block}
use Rattle.store_rules.specs.Views.{Matches, same_loan, among, loans_less}
use Rattle.store_rules.specs.declared.Loan.{Loan}
use Rattle.store_rules.proofs.Loaned.{same_loan_lem, loan_same}
use Rattle.store_rules.proofs.Permuted.{perm_mem}

-- ---- parts of lists by a test

module _ {A : Type 0} where
  -- those that pass
  abbrev pub those : (A → Bool) → List A → List A
  those p [] = []
  those p (a ∷ xs) = cond (p a) (a ∷ those p xs) (those p xs)

  -- some element passes
  abbrev pub some_of : (A → Bool) → List A → Bool
  some_of p [] = false
  some_of p (a ∷ xs) = p a || some_of p xs

  pub those_mem : (p : A → Bool) (a : A) (xs : List A) → Memᴰ a (those p xs) → Memᴰ a xs
  those_mem p a [] m = m
  those_mem p a (b ∷ xs) m = go (told (p b)) (those_mem p a xs)
    where
      go : (p b ≡ true) ⊎ (p b ≡ false) → (Memᴰ a (those p xs) → Memᴰ a xs) → Memᴰ a (b ∷ xs)
      go (inl e) ih = let k : Memᴰ a (b ∷ those p xs) = rw e at m in ⊎_elim (λ q. Memᴰ.head q) (λ q. Memᴰ.tail (ih q)) (Memᴰ.cases_cons k)
      go (inr e) ih = let k : Memᴰ a (those p xs) = rw e at m in Memᴰ.tail (ih k)

  pub those_yes : (p : A → Bool) (a : A) (xs : List A) → Memᴰ a (those p xs) → p a ≡ true
  those_yes p a [] m = absurd (Memᴰ.not-nil m)
  those_yes p a (b ∷ xs) m = go (told (p b)) (those_yes p a xs)
    where
      go : (p b ≡ true) ⊎ (p b ≡ false) → (Memᴰ a (those p xs) → p a ≡ true) → p a ≡ true
      go (inl e) ih = let k : Memᴰ a (b ∷ those p xs) = rw e at m in ⊎_elim (λ q. ap p q ∙ e) ih (Memᴰ.cases_cons k)
      go (inr e) ih = let k : Memᴰ a (those p xs) = rw e at m in ih k

  pub mem_those : (p : A → Bool) (a : A) (xs : List A) → Memᴰ a xs → p a ≡ true → Memᴰ a (those p xs)
  mem_those p a [] m e = m
  mem_those p a (b ∷ xs) m e = go (told (p b)) (Memᴰ.cases_cons m) (mem_those p a xs)
    where
      go : (p b ≡ true) ⊎ (p b ≡ false) → (a ≡ b) ⊎ Memᴰ a xs → (Memᴰ a xs → p a ≡ true → Memᴰ a (those p xs)) → Memᴰ a (those p (b ∷ xs))
      go (inl q) (inl k) ih = rw q (Memᴰ.head k)
      go (inl q) (inr k) ih = rw q (Memᴰ.tail (ih k e))
      go (inr q) (inl k) ih = absurd (true_false (p b) (sym (ap p k) ∙ e) q)
      go (inr q) (inr k) ih = rw q (ih k e)

  pub those_same : (p q : A → Bool) (xs : List A) → ((a : A) → Memᴰ a xs → p a ≡ q a) → those p xs ≡ those q xs
  those_same p q [] h = refl
  those_same p q (a ∷ xs) h = rw (h a (Memᴰ.head refl), those_same p q xs (λ b m. h b (Memᴰ.tail m)))

  pub those_twice : (p q : A → Bool) (xs : List A) → those p (those q xs) ≡ those (λ a. q a && p a) xs
  those_twice p q [] = refl
  those_twice p q (a ∷ xs) = ⊎_elim (λ e. rw e (rw (those_twice p q xs))) (λ e. rw e (those_twice p q xs)) (told (q a))

  pub those_all : (p : A → Bool) (xs : List A) → ((a : A) → Memᴰ a xs → p a ≡ true) → those p xs ≡ xs
  those_all p [] h = refl
  those_all p (a ∷ xs) h = rw (h a (Memᴰ.head refl), those_all p xs (λ b m. h b (Memᴰ.tail m)))

  pub some_where : (p : A → Bool) (xs : List A) → some_of p xs ≡ true → (a : A) × Memᴰ a xs × (p a ≡ true)
  some_where p [] e = absurd (true_false false e refl)
  some_where p (b ∷ xs) e = go (or_cases (p b) (some_of p xs) e) (some_where p xs)
    where
      go : (p b ≡ true) ⊎ (some_of p xs ≡ true) → (some_of p xs ≡ true → (a : A) × Memᴰ a xs × (p a ≡ true)) → (a : A) × Memᴰ a (b ∷ xs) × (p a ≡ true)
      go (inl f) ih = (b, Memᴰ.head refl, f)
      go (inr f) ih = let w = ih f in (w.0, Memᴰ.tail w.1, w.2)

  pub some_yes : (p : A → Bool) (xs : List A) (a : A) → Memᴰ a xs → p a ≡ true → some_of p xs ≡ true
  some_yes p [] a m e = absurd (Memᴰ.not-nil m)
  some_yes p (b ∷ xs) a m e = go (Memᴰ.cases_cons m) (some_yes p xs a)
    where
      go : (a ≡ b) ⊎ Memᴰ a xs → (Memᴰ a xs → p a ≡ true → some_of p xs ≡ true) → (p b || some_of p xs) ≡ true
      go (inl k) ih = or_left (p b) (some_of p xs) (sym (ap p k) ∙ e)
      go (inr k) ih = or_right (p b) (some_of p xs) (ih k e)

-- ---- the loans left

among_some : (bs : List Block) (l : Loan) → among bs l ≡ some_of (λ (b : Block). same_loan b l) bs
among_some [] l = refl
among_some (b ∷ bs) l = ap (λ (z : Bool). same_loan b l || z) (among_some bs l)

-- a loan is one of the blocks exactly when it matches one
pub among_where : (bs : List Block) (l : Loan) → among bs l ≡ true → (b : Block) × Memᴰ b bs × Matches b l
among_where bs l e =
    let w = some_where (λ (b : Block). same_loan b l) bs (sym (among_some bs l) ∙ e) in
    (w.0, w.1, same_loan_lem w.0 l w.2)

pub among_yes : (bs : List Block) (l : Loan) (b : Block) → Memᴰ b bs → Matches b l → among bs l ≡ true
among_yes bs l b m e = among_some bs l ∙ some_yes (λ (c : Block). same_loan c l) bs b m (loan_same b l e)

pub less_those : (bs : List Block) (ls : List Loan) → loans_less bs ls ≡ those (λ (l : Loan). not (among bs l)) ls
less_those bs [] = refl
less_those bs (l ∷ ls) = go (among bs l) (less_those bs ls)
  where
    go : (x : Bool) → loans_less bs ls ≡ those (λ (d : Loan). not (among bs d)) ls → cond x (loans_less bs ls) (l ∷ loans_less bs ls) ≡ cond (not x) (l ∷ those (λ (d : Loan). not (among bs d)) ls) (those (λ (d : Loan). not (among bs d)) ls)
    go true ih = ih
    go false ih = ap (λ (ds : List Loan). l ∷ ds) ih

-- the loans left are those that the test of the blocks does not name
pub less_mem : (bs : List Block) (ls : List Loan) (l : Loan) → Memᴰ l (loans_less bs ls) ↔ (Memᴰ l ls × (among bs l ≡ false))
less_mem bs ls l = (there, λ w. subst (Memᴰ l) (sym (less_those bs ls)) (mem_those _ l ls w.0 (ap not w.1)))
  where
    there : Memᴰ l (loans_less bs ls) → Memᴰ l ls × (among bs l ≡ false)
    there m = let k = subst (Memᴰ l) (less_those bs ls) m in (those_mem _ l ls k, not_yes (among bs l) (those_yes _ l ls k))

-- the loans left are exactly those that match none of the blocks
pub loans_less_in : (bs : List Block) (ls : List Loan) (l : Loan) → Memᴰ l (loans_less bs ls) ↔ (Memᴰ l ls × ((b : Block) → Memᴰ b bs → Matches b l → ⊥))
loans_less_in bs ls l = (there, back)
  where
    there : Memᴰ l (loans_less bs ls) → Memᴰ l ls × ((b : Block) → Memᴰ b bs → Matches b l → ⊥)
    there m = let k = (less_mem bs ls l).0 m in (k.0, λ b q e. true_false (among bs l) (among_yes bs l b q e) k.1)

    back : Memᴰ l ls × ((b : Block) → Memᴰ b bs → Matches b l → ⊥) → Memᴰ l (loans_less bs ls)
    back w = (less_mem bs ls l).1 (w.0, ⊎_elim (λ e. let v = among_where bs l e in absurd (w.1 v.0 v.1 v.2)) (λ e. e) (told (among bs l)))

pub not_or : (a b : Bool) → (not a && not b) ≡ not (a || b)
not_or true b = refl
not_or false b = refl

-- of one block: the others
pub less_one : (b : Block) (ls : List Loan) (l : Loan) → Memᴰ l (loans_less (b ∷ []) ls) ↔ (Memᴰ l ls × (Matches b l → ⊥))
less_one b ls l = (there, back)
  where
    there : Memᴰ l (loans_less (b ∷ []) ls) → Memᴰ l ls × (Matches b l → ⊥)
    there m = let w = (loans_less_in (b ∷ []) ls l).0 m in (w.0, w.1 b (Memᴰ.head refl))

    back : Memᴰ l ls × (Matches b l → ⊥) → Memᴰ l (loans_less (b ∷ []) ls)
    back w = (loans_less_in (b ∷ []) ls l).1 (w.0, λ c m e. ⊎_elim (λ q. w.1 (subst (λ (d : Block). Matches d l) q e)) (λ k. Memᴰ.not-nil k) (Memᴰ.cases_cons m))

-- none came back
pub less_none : (ls : List Loan) → loans_less [] ls ≡ ls
less_none ls = less_those [] ls ∙ those_all _ ls (λ l m. refl)

or_none : (a : Bool) → (a || false) ≡ a
or_none true = refl
or_none false = refl

-- one came back before the others
pub less_next : (b : Block) (bs : List Block) (ls : List Loan) → loans_less bs (loans_less (b ∷ []) ls) ≡ loans_less (b ∷ bs) ls
less_next b bs ls =
    less_those bs (loans_less (b ∷ []) ls)
    ∙ ap (those (λ (l : Loan). not (among bs l))) (less_those (b ∷ []) ls)
    ∙ those_twice _ _ ls
    ∙ those_same _ _ ls (λ l m. ap (λ (z : Bool). not z && not (among bs l)) (or_none (same_loan b l)) ∙ not_or (same_loan b l) (among bs l))
    ∙ sym (less_those (b ∷ bs) ls)

-- the same blocks, in whatever order and however often each is named, leave the same loans
pub less_alike : (bs cs : List Block) (ls : List Loan) → ((b : Block) → Memᴰ b bs ↔ Memᴰ b cs) → loans_less bs ls ≡ loans_less cs ls
less_alike bs cs ls f =
    less_those bs ls
    ∙ those_same _ _ ls
    (λ l m.
    ap not
    (same_test (among bs l) (among cs l)
    (λ e. let w = among_where bs l e in among_yes cs l w.0 ((f w.0).0 w.1) w.2)
    (λ e. let w = among_where cs l e in among_yes bs l w.0 ((f w.0).1 w.1) w.2)))
    ∙ sym (less_those cs ls)

pub less_same : {bs cs : List Block} (ls : List Loan) → Permᴰ bs cs → loans_less bs ls ≡ loans_less cs ls
less_same {bs} {cs} ls p = less_alike bs cs ls (λ b. (perm_mem b (Permᴰ.symm p), perm_mem b p))
