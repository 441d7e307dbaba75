-- Loans with none more, and with one more, which matches a block.
use mathlib.Core.Path.{◌≡◌, refl, sym, subst}
use mathlib.Core.Logic.{inl, inr, ⊎_elim}
use mathlib.Core.List.Memᴰ
use mathlib.Core.List.{List, [], ◌∷◌, Memᴰ}
use Rattle.counter.specs.declared.answers.Block.{Block}
use Rattle.store_rules.specs.Views.{block, Matches}
use Rattle.store_rules.specs.declared.Loan.{Loan}
use Rattle.store_rules.proofs.Amid.{Amid, amid_member}
use Rattle.engines.specs.Tells.{Same, Joined}

-- the block that a loan matches
abbrev pub block_of : Loan → Block
block_of l = block l.serial l.chunk l.offset l.size

pub own_block : (l : Loan) → Matches (block_of l) l
own_block l = record { serial = refl; chunk = refl; offset = refl; size = refl }

pub none_joined : (ks ls : List Loan) → ks ≡ ls → Joined ks ls []
none_joined ks ls e l = ((λ m. subst (Memᴰ l) e m), (λ m. subst (Memᴰ l) (sym e) m))

pub amid_joined : (b : Block) (n : Loan) (before after : List Loan) → Matches b n → Amid n before after → Joined after before (b ∷ [])
amid_joined b n before after its w = (
  n,
  its,
  λ l. let m = amid_member n before after w l in (
    (λ k. ⊎_elim (λ i. Memᴰ.tail i) (λ e. Memᴰ.head e) (m.0 k)),
    (λ k. m.1 (⊎_elim (λ e. inr e) (λ i. inl i) (Memᴰ.cases_cons k))),
  ),
)

-- whatever order they stand in
pub joined_same : (ks ks' ls ls' : List Loan) (bs : List Block) → Same ks ks' → Same ls ls' → Joined ks' ls' bs → Joined ks ls bs
joined_same ks ks' ls ls' [] S T j = λ l. ((λ m. (T l).1 ((j l).0 ((S l).0 m))), (λ m. (S l).1 ((j l).1 ((T l).0 m))))
joined_same ks ks' ls ls' (b ∷ bs) S T j = (j.0, j.1, joined_same ks ks' (j.0 ∷ ls) (j.0 ∷ ls') bs S more j.2)
  where
    more : Same (j.0 ∷ ls) (j.0 ∷ ls')
    more l = (
      (λ m. ⊎_elim (λ e. Memᴰ.head e) (λ k. Memᴰ.tail ((T l).0 k)) (Memᴰ.cases_cons m)),
      (λ m. ⊎_elim (λ e. Memᴰ.head e) (λ k. Memᴰ.tail ((T l).1 k)) (Memᴰ.cases_cons m)),
    )
