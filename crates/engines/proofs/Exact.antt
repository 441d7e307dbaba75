-- Loans that are exactly the blocks of a list: with one more of both, and with one block struck out.
use mathlib.Core.Path.{◌≡◌, refl, sym, ap, subst, ◌∙◌}
use mathlib.Core.Bool.{Bool, true, false, cond, not, ◌&&◌}
use mathlib.Core.Logic.{◌⊎◌, inl, inr, ⊎_elim, ◌↔◌}
use mathlib.Core.List.Memᴰ
use mathlib.Core.List.{List, [], ◌∷◌, Memᴰ}
use Prim.Native.Nat.{◌+◌, ◌≤◌, ◌<◌}
use native.Mathlib.Omega.{arith}
use lib.Dec.{eqb}
use borrow.Author.Tests.{eq-eqb, eqb-true}
use Rattle.lists.proofs.Bools.{and_left, and_right, and_both, told, true_false, not_yes}
use Rattle.counter.specs.declared.answers.Block.{Block}
use Rattle.store_rules.specs.Views.{Matches, OnLoan}
use Rattle.store_rules.specs.declared.Loan.{Loan}
use Rattle.store_rules.proofs.Keyed.{key_not, not_key}
use Rattle.store_rules.proofs.Lessening.{those, those_mem, those_yes, mem_those}
use Rattle.engines.specs.Ledger.{same_block, blocks_less, Exactly, NoSerialTwice, NoByteTwice, Fine}
use Rattle.engines.specs.Tells.{Same}

-- a block is its serial, chunk, offset and size
block_words : (b c : Block) → b.serial ≡ c.serial → b.chunk ≡ c.chunk → b.offset ≡ c.offset → b.size ≡ c.size → b ≡ c
block_words b c p q r s = (λ i. record { serial = p i; chunk = q i; offset = r i; size = s i })

-- a loan matches one block only
pub block_is : (b c : Block) (l : Loan) → Matches b l → Matches c l → b ≡ c
block_is b c l m k =
    block_words b c (sym m.serial ∙ k.serial) (sym m.chunk ∙ k.chunk) (sym m.offset ∙ k.offset) (sym m.size ∙ k.size)

-- ---- a block struck out

same_block_lem : (b c : Block) → same_block b c ≡ true → c ≡ b
same_block_lem b c e =
    let p = eqb c.serial b.serial in
    let q = eqb c.chunk b.chunk in
    let r = eqb c.offset b.offset in
    let s = eqb c.size b.size in
    let u = and_right p (q && (r && s)) e in
    let v = and_right q (r && s) u in
    block_words c b (eqb-true _ _ (and_left p (q && (r && s)) e)) (eqb-true _ _ (and_left q (r && s) u)) (eqb-true _ _ (and_left r s v)) (eqb-true _ _ (and_right r s v))

block_same : (b c : Block) → c ≡ b → same_block b c ≡ true
block_same b c e = ap (same_block b) e ∙ and_both _ _ (eq-eqb b.serial b.serial refl) (and_both _ _ (eq-eqb b.chunk b.chunk refl) (and_both _ _ (eq-eqb b.offset b.offset refl) (eq-eqb b.size b.size refl)))

less_those : (b : Block) (bs : List Block) → blocks_less b bs ≡ those (λ (c : Block). not (same_block b c)) bs
less_those b [] = refl
less_those b (c ∷ bs) = go (same_block b c) (less_those b bs)
  where
    go : (x : Bool) → blocks_less b bs ≡ those (λ (d : Block). not (same_block b d)) bs → cond x (blocks_less b bs) (c ∷ blocks_less b bs) ≡ cond (not x) (c ∷ those (λ (d : Block). not (same_block b d)) bs) (those (λ (d : Block). not (same_block b d)) bs)
    go true ih = ih
    go false ih = ap (λ (ds : List Block). c ∷ ds) ih

-- the blocks left are the others
pub less_blocks : (b : Block) (bs : List Block) (c : Block) → Memᴰ c (blocks_less b bs) ↔ (Memᴰ c bs × (c ≡ b → ⊥))
less_blocks b bs c = (there, back)
  where
    there : Memᴰ c (blocks_less b bs) → Memᴰ c bs × (c ≡ b → ⊥)
    there m =
        let k = subst (Memᴰ c) (less_those b bs) m in
        (those_mem _ c bs k, λ e. true_false (same_block b c) (block_same b c e) (not_yes (same_block b c) (those_yes _ c bs k)))

    back : Memᴰ c bs × (c ≡ b → ⊥) → Memᴰ c (blocks_less b bs)
    back w =
        subst (Memᴰ c) (sym (less_those b bs))
        (mem_those _ c bs w.0 (ap not (⊎_elim (λ e. absurd (w.1 (same_block_lem b c e))) (λ e. e) (told (same_block b c)))))

-- ---- loans that are exactly these blocks

pub none_exactly : (ls : List Loan) → ls ≡ [] → Exactly ls []
none_exactly ls e =
    record {
      each = λ b. ((λ w. absurd (none w.0 w.1)), (λ m. absurd (Memᴰ.not-nil m)));
      every = λ l m. absurd (none l m);
      one = λ b k l p q. absurd (none k p);
    }
  where
    none : (l : Loan) → Memᴰ l ls → ⊥
    none l m = Memᴰ.not-nil (subst (Memᴰ l) e m)

-- the same loans, in whatever order
pub same_exactly : (ks ls : List Loan) (bs : List Block) → Same ks ls → Exactly ls bs → Exactly ks bs
same_exactly ks ls bs S E =
    record {
      each = λ b. ((λ w. (E.each b).0 (w.0, (S w.0).0 w.1, w.2)), (λ m. let w = (E.each b).1 m in (w.0, (S w.0).1 w.1, w.2)));
      every = λ l m. E.every l ((S l).0 m);
      one = λ b k l p q. E.one b k l ((S k).0 p) ((S l).0 q);
    }

-- one more of both, with a higher serial than the loans before it
module _ (b : Block) (n : Loan) (ls : List Loan) (bs : List Block) (its : Matches b n) (new : (l : Loan) → Memᴰ l ls → l.serial < b.serial) (E : Exactly ls bs) where
  more_each : (c : Block) → OnLoan c (n ∷ ls) ↔ Memᴰ c (b ∷ bs)
  more_each c = (there, back)
    where
      there : OnLoan c (n ∷ ls) → Memᴰ c (b ∷ bs)
      there w =
          ⊎_elim (λ q. Memᴰ.head (block_is c b n (subst (Matches c) q w.2) its)) (λ k. Memᴰ.tail ((E.each c).0 (w.0, k, w.2)))
          (Memᴰ.cases_cons w.1)

      back : Memᴰ c (b ∷ bs) → OnLoan c (n ∷ ls)
      back m =
          ⊎_elim (λ e. (n, Memᴰ.head refl, subst (λ (d : Block). Matches d n) (sym e) its)) (λ k. let w = (E.each c).1 k in (w.0, Memᴰ.tail w.1, w.2))
          (Memᴰ.cases_cons m)

  more_every : (l : Loan) → Memᴰ l (n ∷ ls) → (c : Block) × Memᴰ c (b ∷ bs) × Matches c l
  more_every l m =
      ⊎_elim (λ e. (b, Memᴰ.head refl, subst (Matches b) (sym e) its)) (λ k. let w = E.every l k in (w.0, Memᴰ.tail w.1, w.2))
      (Memᴰ.cases_cons m)

  -- a loan from before is not the new one
  not_new : (c : Block) (l : Loan) → Memᴰ l ls → Matches c l → Matches c n → ⊥
  not_new c l m p q = let h = new l m in omega (arith, p.serial, q.serial, its.serial)

  more_one : (c : Block) (k l : Loan) → Memᴰ k (n ∷ ls) → Memᴰ l (n ∷ ls) → Matches c k → Matches c l → k ≡ l
  more_one c k l p q x y = go (Memᴰ.cases_cons p) (Memᴰ.cases_cons q)
    where
      go : (k ≡ n) ⊎ Memᴰ k ls → (l ≡ n) ⊎ Memᴰ l ls → k ≡ l
      go (inl e) (inl f) = e ∙ sym f
      go (inl e) (inr m) = absurd (not_new c l m y (subst (Matches c) e x))
      go (inr m) (inl f) = absurd (not_new c k m x (subst (Matches c) f y))
      go (inr i) (inr j) = E.one c k l i j x y

  pub more_exactly : Exactly (n ∷ ls) (b ∷ bs)
  more_exactly = record { each = more_each; every = more_every; one = more_one }

-- one struck out
pub less_exactly : (b : Block) (ks ls : List Loan) (bs : List Block) → ((l : Loan) → Memᴰ l ks ↔ (Memᴰ l ls × (Matches b l → ⊥))) → Exactly ls bs → Exactly ks (blocks_less b bs)
less_exactly b ks ls bs left E =
    record {
      each = λ c. (
        (λ w. let y = (left w.0).0 w.1 in (less_blocks b bs c).1 ((E.each c).0 (w.0, y.0, w.2), λ e. y.1 (subst (λ (d : Block). Matches d w.0) e w.2))),
        (λ m. let v = (less_blocks b bs c).0 m in let w = (E.each c).1 v.0 in (w.0, (left w.0).1 (w.1, λ x. v.1 (block_is c b w.0 w.2 x)), w.2)),
      );
      every = λ l m.
          let y = (left l).0 m in
          let w = E.every l y.0 in
          (w.0, (less_blocks b bs w.0).1 (w.1, λ e. y.1 (subst (λ (d : Block). Matches d l) e w.2)), w.2);
      one = λ c k l p q. E.one c k l ((left k).0 p).0 ((left l).0 q).0;
    }

-- ---- each serial once, no byte twice

-- two pieces of one chunk share no byte
abbrev Clear : Block → Block → Type 0
Clear b c = (b.offset + b.size ≤ c.offset) ⊎ (c.offset + c.size ≤ b.offset)

-- a new block, whose serial is higher than those of the loans before it, and which shares no byte with them
module _ (b : Block) (ls : List Loan) (bs : List Block) (E : Exactly ls bs) (new : (l : Loan) → Memᴰ l ls → l.serial < b.serial)
    (apart : (l : Loan) → Memᴰ l ls → l.chunk ≡ b.chunk → (l.offset + l.size ≤ b.offset) ⊎ (b.offset + b.size ≤ l.offset)) where
  free : (c : Block) → Memᴰ c bs → c.chunk ≡ b.chunk → Clear c b
  free c m e =
      let w = (E.each c).1 m in
      let its : Matches c w.0 = w.2 in
      ⊎_elim (λ h. inl (omega (arith, its.offset, its.size))) (λ h. inr (omega (arith, its.offset, its.size))) (apart w.0 w.1 (its.chunk ∙ e))

  pub more_fine : Fine bs → Fine (b ∷ bs)
  more_fine F = ((not_key (λ (c : Block). c.serial) b.serial bs other, F.0), bytes)
    where
      other : (c : Block) → Memᴰ c bs → b.serial ≡ c.serial → ⊥
      other c m e = let w = (E.each c).1 m in let h = new w.0 w.1 in omega (arith, w.2.serial)

      bytes : NoByteTwice (b ∷ bs)
      bytes c d p q ne e = go (Memᴰ.cases_cons p) (Memᴰ.cases_cons q)
        where
          go : (c ≡ b) ⊎ Memᴰ c bs → (d ≡ b) ⊎ Memᴰ d bs → Clear c d
          go (inl x) (inl y) = absurd (ne (x ∙ sym y))
          go (inl x) (inr y) =
              subst (λ (z : Block). Clear z d) (sym x)
              (⊎_elim (λ h. inr h) (λ h. inl h) (free d y (sym e ∙ ap (λ (z : Block). z.chunk) x)))
          go (inr x) (inl y) = subst (Clear c) (sym y) (free c x (e ∙ ap (λ (z : Block). z.chunk) y))
          go (inr x) (inr y) = F.1 c d x y ne e

less_once : (b : Block) (bs : List Block) → NoSerialTwice bs → NoSerialTwice (blocks_less b bs)
less_once b [] w = tt
less_once b (c ∷ bs) w = go (same_block b c) (less_once b bs w.1)
  where
    go : (x : Bool) → NoSerialTwice (blocks_less b bs) → NoSerialTwice (cond x (blocks_less b bs) (c ∷ blocks_less b bs))
    go true ih = ih
    go false ih = (not_key (λ (d : Block). d.serial) c.serial (blocks_less b bs) (λ d m. key_not (λ (d : Block). d.serial) c.serial bs w.0 d ((less_blocks b bs d).0 m).0), ih)

pub less_fine : (b : Block) (bs : List Block) → Fine bs → Fine (blocks_less b bs)
less_fine b bs F = (less_once b bs F.0, λ c d p q. F.1 c d ((less_blocks b bs c).0 p).0 ((less_blocks b bs d).0 q).0)
