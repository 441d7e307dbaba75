-- A return said by what it keeps: the loans that have another serial.
use mathlib.Core.Path.{◌≡◌, refl, ◌∙◌, ap}
use mathlib.Core.Bool.{true, false, not}
use mathlib.Core.List.{List, [], ◌∷◌, Memᴰ}
use Prim.Native.Nat.{ℕ, zero, suc, ◌<◌}
use native.Mathlib.Omega.{arith}
use lib.Dec.{eqb}
use lib.ListN.{length, get_or}
use borrow.Author.Tests.{eq-eqb, ne_eqb}
use Rattle.counter.specs.InTable.{FreeListIn}
use Rattle.counter.specs.declared.settings.FreeListSettings.{FreeListSettings}
use Rattle.words.specs.Rows.{remove_at}
use Rattle.store_rules.specs.declared.Loan.{Loan}
pub use Rattle.store_rules.proofs.Lessening.{those, some_of, those_mem, those_yes, mem_those, those_same, those_twice, those_all, some_where, some_yes}
pub use Rattle.store_rules.proofs.Placed.{mem_at}
use Rattle.freelist_rules.specs.Records.{Store}
use Rattle.freelist_rules.specs.Pieces.{piece, loaned, held, lo, Differ}
use Rattle.freelist_rules.specs.Sound.{Sound}
use Rattle.freelist_rules.specs.Join.{insert}
use Rattle.freelist_rules.specs.Steps.{no_loan, given_back}
use Rattle.freelist_rules.proofs.Base.{rising_low, at_in}
use Rattle.freelist_rules.proofs.Facts.{region_low, same_regions}
use Rattle.freelist_rules.proofs.Gaps.{LoansRise}
use Rattle.freelist_rules.proofs.Returns.{given_back_sound}

-- ---- a return

-- the loans that have another serial
abbrev pub without : ℕ → List Loan → List Loan
without k ls = those (λ (l : Loan). not (eqb l.serial k)) ls

abbrev pub give : Loan → Store → Store
give l t = record { given = t.given; made = t.made; size = t.size; loans = without l.serial t.loans; chunks = t.chunks; regions = insert (piece l) t.regions }

-- of loans that rise and have different serials, one taken out by its index is taken out by its serial
pub removed_without : (i b : ℕ) (ls : List Loan) (d : Loan) → i < length ls → LoansRise b ls → Differ (λ (l : Loan). l.serial) ls → remove_at i ls ≡ without (get_or ls i d).serial ls
removed_without i b [] d h r f = absurd (omega arith)
removed_without zero b (l ∷ ls) d h r f =
    let k : eqb l.serial l.serial ≡ true = eq-eqb l.serial l.serial refl in
    let w : without l.serial ls ≡ ls =
    those_all (λ (c : Loan). not (eqb c.serial l.serial)) ls
    (λ c m. ap not (ne_eqb c.serial l.serial (λ e. omega (arith, ap (λ (y : Loan). lo (piece y)) (f c l (Memᴰ.tail m) (Memᴰ.head refl) e), r.1, (rising_low _ _ 0 _ ls r.2 c m).0)))) in
    rw (k, w)
removed_without (suc i) b (l ∷ ls) d h r f =
    let g : i < length ls = omega arith in
    let k : eqb l.serial (get_or ls i d).serial ≡ false =
    ne_eqb l.serial (get_or ls i d).serial
    (λ e. omega (arith, ap (λ (y : Loan). lo (piece y)) (f l (get_or ls i d) (Memᴰ.head refl) (Memᴰ.tail (at_in i ls d g)) e), r.1, (rising_low _ _ 0 _ ls r.2 (get_or ls i d) (at_in i ls d g)).0)) in
    rw k (ap (λ (xs : List Loan). l ∷ xs) (removed_without i _ ls d g r.2 (λ x y p q. f x y (Memᴰ.tail p) (Memᴰ.tail q))))

module _ (s : FreeListSettings) (t : Store) (fit : FreeListIn s) (sound : Sound s t) where
  pub given_back_is : (i : ℕ) → i < length t.loans → given_back i t ≡ give (get_or t.loans i no_loan) t
  given_back_is i h =
      let e = removed_without i 0 t.loans no_loan h sound.loans_rise sound.serials_differ in
      (λ j. record { given = t.given; made = t.made; size = t.size; loans = e j; chunks = t.chunks; regions = insert (piece (get_or t.loans i no_loan)) t.regions })

  pub give_sound : (l : Loan) → Memᴰ l t.loans → Sound s (give l t)
  give_sound l m =
      let w = mem_at l t.loans no_loan m in
      let e : given_back w.0 t ≡ give l t = given_back_is w.0 w.1 ∙ ap (λ (d : Loan). give d t) w.2 in
      rw (← e) (given_back_sound s t fit sound w.0 w.1)

  -- the rest of a sound store decides its free regions
  pub same_store : (v : Store) → Sound s v → t.given ≡ v.given → t.made ≡ v.made → t.size ≡ v.size → t.loans ≡ v.loans → t.chunks ≡ v.chunks → t ≡ v
  same_store v other a b c d e =
      let f : t.regions ≡ v.regions =
      same_regions 0 0 t.regions v.regions (region_low s t fit sound) (region_low s v fit other) sound.regions_rise other.regions_rise
      (λ n x. omega (arith, sound.fills n x, other.fills n x, ap (loaned n x) d, ap (held n x) e)) in
      (λ i. record { given = a i; made = b i; size = c i; loans = d i; chunks = e i; regions = f i })
