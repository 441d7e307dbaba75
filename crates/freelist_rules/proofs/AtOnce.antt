-- Blocks returned one after the other end as if they all came back at once.
use mathlib.Core.Path.{◌≡◌, refl, sym, ◌∙◌, ap, subst}
use mathlib.Core.Bool.{Bool, true, ◌&&◌, not}
use mathlib.Core.Logic.{◌⊎◌, inl, inr, ⊎_elim, ◌↔◌}
use mathlib.Core.List.Memᴰ
use mathlib.Core.List.{List, [], ◌∷◌, map, Memᴰ}
use lib.Dec.{eqb}
use borrow.Author.Tests.{eqb-true, eq-eqb}
use Rattle.counter.specs.InTable.{FreeListIn}
use Rattle.counter.specs.declared.answers.Block.{Block}
use Rattle.counter.specs.declared.settings.FreeListSettings.{FreeListSettings}
use Rattle.lists.specs.Members.{Distinct}
use Rattle.lists.proofs.Bools.{or_cases, or_left, or_right, same_test}
use Rattle.store_rules.specs.declared.Loan.{Loan}
use Rattle.store_rules.specs.Views.{Matches, OnLoan}
use Rattle.store_rules.proofs.Loaned.{same_loan_lem, loan_same}
use Rattle.store_rules.proofs.Lessening.{less_those, not_or, less_none, less_alike}
use Rattle.freelist_rules.specs.Records.{Store}
use Rattle.freelist_rules.specs.Sound.{Sound}
use Rattle.freelist_rules.specs.Seek.{same_loan}
use Rattle.freelist_rules.specs.Walk.{gaps_of}
use Rattle.freelist_rules.specs.Steps.{released, returned_all}
use Rattle.freelist_rules.specs.AtOnce.{among, loans_less, without, at_once}
use Rattle.store_rules.specs.declared.Chunk.{Chunk}
use Rattle.freelist_rules.proofs.Decides.{regions_are}
use Rattle.freelist_rules.proofs.Releases.{released_sound}
use Rattle.freelist_rules.proofs.Giving.{those, those_mem, those_yes, mem_those, those_same, those_twice, some_where, some_yes, give, give_sound}
use Rattle.freelist_rules.proofs.Settling.{last_or, busy, stays, released_chunks}
use Rattle.freelist_rules.proofs.Swaps.{release_return}
use Rattle.freelist_rules.proofs.Blocks.{AllOnLoan, returned_is, left_on_loan}

-- ---- the loans left

-- the rest of the store follows from the loans left
less_without : (bs cs : List Block) (t v : Store) → t.given ≡ v.given → t.made ≡ v.made → t.size ≡ v.size → t.chunks ≡ v.chunks → loans_less bs t.loans ≡ loans_less cs v.loans → without bs t ≡ without cs v
less_without bs cs t v a b c d e = λ j. record { given = a j; made = b j; size = c j; loans = e j; chunks = d j; regions = gaps_of (d j) (e j) }

-- ---- one block of several

module _ (s : FreeListSettings) (fit : FreeListIn s) where
  -- a block on loan is known by its serial
  serial_same : (t : Store) → Sound s t → (b : Block) → OnLoan b t.loans → (l : Loan) → Memᴰ l t.loans → eqb l.serial b.serial ≡ same_loan b l
  serial_same t sound b w l k =
      same_test _ _
      (λ e. loan_same b l (subst (Matches b) (sym (sound.serials_differ l w.0 k w.1 (eqb-true _ _ e ∙ sym w.2.serial))) w.2))
      (λ e. eq-eqb l.serial b.serial (same_loan_lem b l e).serial)

  -- none comes back
  without_none : (t : Store) → Sound s t → without [] t ≡ t
  without_none t sound =
      let e : loans_less [] t.loans ≡ t.loans = less_none t.loans in
      let f : gaps_of t.chunks (loans_less [] t.loans) ≡ t.regions = ap (gaps_of t.chunks) e ∙ sym (regions_are s t fit sound) in
      (λ j. record { given = t.given; made = t.made; size = t.size; loans = e j; chunks = t.chunks; regions = f j })

  -- the first comes back before the others
  without_first : (t : Store) → Sound s t → (b : Block) (bs : List Block) (w : OnLoan b t.loans) → without (b ∷ bs) t ≡ without bs (give w.0 t)
  without_first t sound b bs w =
      less_without (b ∷ bs) bs t (give w.0 t) refl refl refl refl
      (less_those (b ∷ bs) t.loans
      ∙ those_same _ _ t.loans
      (λ l k. sym (ap (λ (z : Bool). not z && not (among bs l)) (ap (eqb l.serial) w.2.serial ∙ serial_same t sound b w l k) ∙ not_or (same_loan b l) (among bs l)))
      ∙ sym (those_twice _ _ t.loans)
      ∙ sym (less_those bs (give w.0 t).loans))

  -- one after the other, with no release between
  less_sound : (bs : List Block) (t : Store) → Sound s t → Distinct (map (λ (b : Block). b.serial) bs) → AllOnLoan bs t → Sound s (without bs t)
  less_sound [] t sound a o = rw (without_none t sound) sound
  less_sound (b ∷ bs) t sound a o =
      let m = o b (Memᴰ.head refl) in
      rw (without_first t sound b bs m) (less_sound bs (give m.0 t) (give_sound s t fit sound m.0 m.1) a.1 (left_on_loan b bs t m a o))

  -- a release before the returns makes no difference once they are done
  released_then : (bs : List Block) (t : Store) → Sound s t → Distinct (map (λ (b : Block). b.serial) bs) → AllOnLoan bs t → returned_all bs (released true t) ≡ released true (without bs t)
  released_then [] t sound a o = ap (released true) (sym (without_none t sound))
  released_then (b ∷ bs) t sound a o =
      let m = o b (Memᴰ.head refl) in
      ap (returned_all bs) (returned_is s fit b (released true t) (released_sound s t fit sound true) m ∙ release_return s t fit sound m.0 m.1)
      ∙ released_then bs (give m.0 t) (give_sound s t fit sound m.0 m.1) a.1 (left_on_loan b bs t m a o)
      ∙ ap (released true) (sym (without_first t sound b bs m))

  all_returned : (bs : List Block) (t : Store) → Sound s t → Distinct (map (λ (b : Block). b.serial) bs) → AllOnLoan bs t → returned_all bs t ≡ at_once bs t
  all_returned [] t sound a o = refl
  all_returned (b ∷ bs) t sound a o =
      let m = o b (Memᴰ.head refl) in
      ap (returned_all bs) (returned_is s fit b t sound m)
      ∙ released_then bs (give m.0 t) (give_sound s t fit sound m.0 m.1) a.1 (left_on_loan b bs t m a o)
      ∙ ap (released true) (sym (without_first t sound b bs m))

-- ---- all at once

some_came : (bs : List Block) (t : Store) → (bs ≡ [] → ⊥) → at_once bs t ≡ released true (without bs t)
some_came [] t f = absurd (f refl)
some_came (b ∷ bs) t f = refl

module _ (s : FreeListSettings) (fit : FreeListIn s) (t : Store) (sound : Sound s t) (bs : List Block)
    (apart : Distinct (map (λ (b : Block). b.serial) bs)) (lent : AllOnLoan bs t) where
  -- with the blocks' bytes back, and nothing released yet, the store is sound
  pub without_sound : Sound s (without bs t)
  without_sound = less_sound s fit bs t sound apart lent

  -- the end of any order
  pub returned_at_once : returned_all bs t ≡ at_once bs t
  returned_at_once = all_returned s fit bs t sound apart lent

  -- a chunk is held at the end of some returns exactly when it was held, and a loan lies in it still or the last free region does
  pub at_once_chunks : (c : Chunk) → (bs ≡ [] → ⊥) → Memᴰ c (at_once bs t).chunks ↔ (Memᴰ c t.chunks × (((l : Loan) × Memᴰ l (loans_less bs t.loans) × (l.chunk ≡ c.number)) ⊎ (c.number ≡ last_or 0 (without bs t).regions)))
  at_once_chunks c some = (there, back)
    where
      are : (at_once bs t).chunks ≡ those (λ (d : Chunk). stays (last_or 0 (without bs t).regions) (loans_less bs t.loans) d.number) t.chunks
      are = ap (λ (v : Store). v.chunks) (some_came bs t some) ∙ released_chunks s (without bs t) fit without_sound

      there : Memᴰ c (at_once bs t).chunks → Memᴰ c t.chunks × (((l : Loan) × Memᴰ l (loans_less bs t.loans) × (l.chunk ≡ c.number)) ⊎ (c.number ≡ last_or 0 (without bs t).regions))
      there m =
          let k = subst (Memᴰ c) are m in (
            those_mem _ c t.chunks k,
            ⊎_elim (λ h. let w = some_where (λ (l : Loan). eqb l.chunk c.number) (loans_less bs t.loans) h in inl (w.0, w.1, eqb-true _ _ w.2)) (λ h. inr (eqb-true _ _ h))
                (or_cases (busy (loans_less bs t.loans) c.number) (eqb c.number (last_or 0 (without bs t).regions)) (those_yes _ c t.chunks k)),
          )

      back : Memᴰ c t.chunks × (((l : Loan) × Memᴰ l (loans_less bs t.loans) × (l.chunk ≡ c.number)) ⊎ (c.number ≡ last_or 0 (without bs t).regions)) → Memᴰ c (at_once bs t).chunks
      back w =
          subst (Memᴰ c) (sym are)
          (mem_those _ c t.chunks w.0
          (⊎_elim
          (λ h. or_left (busy (loans_less bs t.loans) c.number) (eqb c.number (last_or 0 (without bs t).regions)) (some_yes (λ (l : Loan). eqb l.chunk c.number) (loans_less bs t.loans) h.0 h.1 (eq-eqb _ _ h.2)))
          (λ h. or_right (busy (loans_less bs t.loans) c.number) (eqb c.number (last_or 0 (without bs t).regions)) (eq-eqb _ _ h))
          w.1))

-- the end depends on which blocks came back, and not on their order or on how often one is named
pub at_once_same : (bs cs : List Block) (t : Store) → ((b : Block) → Memᴰ b bs ↔ Memᴰ b cs) → at_once bs t ≡ at_once cs t
at_once_same [] [] t f = refl
at_once_same [] (c ∷ cs) t f = absurd (Memᴰ.not-nil ((f c).1 (Memᴰ.head refl)))
at_once_same (b ∷ bs) [] t f = absurd (Memᴰ.not-nil ((f b).0 (Memᴰ.head refl)))
at_once_same (b ∷ bs) (c ∷ cs) t f =
    ap (released true)
    (less_without (b ∷ bs) (c ∷ cs) t t refl refl refl refl
    (less_alike (b ∷ bs) (c ∷ cs) t.loans f))
