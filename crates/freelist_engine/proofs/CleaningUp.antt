-- A clean-up that is not refused leaves the loans, releases exactly the wholly free chunks and tells their memory numbers.
use mathlib.Core.Path.{◌≡◌, refl, sym, ap, subst, ◌∙◌}
use mathlib.Core.Bool.{Bool, true, false, cond}
use mathlib.Core.Logic.{◌⊎◌, inl, inr, ⊎_elim, ◌↔◌}
use mathlib.Core.List.Memᴰ
use mathlib.Core.List.{List, [], ◌∷◌, Memᴰ}
use Prim.Native.Nat.{ℕ, ◌+◌, ◌-◌}
use native.Mathlib.Omega.{arith}
use lib.Dec.{eqb}
use lib.ListN.{length, take}
use lib.Seq.{length-take-le}
use borrow.Author.Tests.{eqb-true, eq-eqb, leb-true}
use Rattle.lists.proofs.Bools.{told, true_false}
use Rattle.counter.specs.InTable.{FreeListIn}
use Rattle.counter.specs.Paper as Paper
use Rattle.counter.specs.declared.account.Account.{Account}
use Rattle.counter.specs.declared.settings.FreeListSettings.{FreeListSettings}
use Rattle.counter.proofs.Papers.{kind_of}
use Rattle.store_rules.specs.Outcomes.{Listed, to_free, list_ok, released_account}
use Rattle.store_rules.specs.Views.{sizes, Go}
use Rattle.store_rules.specs.declared.Chunk.{Chunk}
use Rattle.store_rules.specs.declared.Loan.{Loan}
use Rattle.store_rules.specs.declared.Region.{Region}
use Rattle.store_rules.proofs.Going.{told_once}
use Rattle.store_rules.proofs.Lessening.{some_of, some_where, some_yes}
use Rattle.freelist_rules.specs.Records.{Store}
use Rattle.freelist_rules.specs.Release.{wholly, goes, staying, bytes_of}
use Rattle.freelist_rules.specs.Sound.{Sound}
use Rattle.freelist_rules.specs.Steps.{released}
use Rattle.freelist_rules.specs.Tables.{Tables, store_of}
use Rattle.freelist_rules.proofs.Facts.{region_home}
use Rattle.freelist_rules.proofs.Fits.{lengths_are, chunks_length}
use Rattle.freelist_rules.proofs.GivesBack.{gone_bytes}
use Rattle.freelist_rules.proofs.Meaning.{wholly_free, idle_unnamed, unnamed_idle}
use Rattle.freelist_rules.proofs.Releases.{covers_yes, wholly_where, staying_in, remaining_in, released_sound, released_idle, clean_up_leaves}
use Rattle.freelist_outcomes.specs.Return.{gone_from, released_tables, release_of, clean_up_of}
use Rattle.freelist_outcomes.specs.Told.{Told}
use Rattle.freelist_outcomes.proofs.Changed.{released_store}
use Rattle.freelist_outcomes.proofs.Comes.{CleanUpComes, cleans, clean_up_comes}
use Rattle.freelist_outcomes.proofs.Passing.{Passed}
use Rattle.freelist_outcomes.proofs.Told.{clean_up_told}
use Rattle.freelist_engine.specs.CleanUp.{Used, Cleaned}
use Rattle.freelist_engine.specs.Shape.{cleans_up, counts_of, seen, list_shape}
use Rattle.freelist_engine.proofs.Keeping.{list_keeps}
use Rattle.freelist_engine.proofs.Telling.{list_tells}

-- ---- of a store

-- a region that covers no chunk stays
in_staying : (cs : List Chunk) (p : Region) (rs : List Region) → Memᴰ p rs → wholly cs p ≡ false → Memᴰ p (staying cs false rs)
unfolding staying
in_staying cs p [] m e = m
in_staying cs p (d ∷ rs) m e = go (goes cs false d rs) (goes_is d rs) (Memᴰ.cases_cons m) (λ k. in_staying cs p rs k e)
  where
    goes_is : (d : Region) (rs : List Region) → goes cs false d rs ≡ wholly cs d
    goes_is d [] = refl
    goes_is d (c ∷ rs) = refl

    go : (b : Bool) → b ≡ wholly cs d → (p ≡ d) ⊎ Memᴰ p rs → (Memᴰ p rs → Memᴰ p (staying cs false rs)) → Memᴰ p (cond b (staying cs false rs) (d ∷ staying cs false rs))
    go true f (inl q) ih = absurd (true_false (wholly cs d) (sym f) (sym (ap (wholly cs) q) ∙ e))
    go true f (inr k) ih = ih k
    go false f (inl q) ih = Memᴰ.head q
    go false f (inr k) ih = Memᴰ.tail (ih k)

module _ (s : FreeListSettings) (v : Store) (fit : FreeListIn s) (sound : Sound s v) where
  abbrev in_chunk : ℕ → Loan → Bool
  in_chunk number l = eqb l.chunk number

  -- some loan lies in the chunk or none does
  used_or_not : (number : ℕ) → Used (seen v) number ⊎ (Used (seen v) number → ⊥)
  used_or_not number = go (told (some_of (in_chunk number) v.loans))
    where
      go : (some_of (in_chunk number) v.loans ≡ true) ⊎ (some_of (in_chunk number) v.loans ≡ false) → Used (seen v) number ⊎ (Used (seen v) number → ⊥)
      go (inl e) = let w = some_where (in_chunk number) v.loans e in inl (w.0, w.1, eqb-true _ _ w.2)
      go (inr e) = inr (λ w. true_false _ (some_yes (in_chunk number) v.loans w.0 w.1 (eq-eqb _ _ w.2)) e)

  chunk_stays : (c : Chunk) → Memᴰ c (released false v).chunks ↔ (Memᴰ c v.chunks × Used (seen v) c.number)
  chunk_stays c = (there, back)
    where
      there : Memᴰ c (released false v).chunks → Memᴰ c v.chunks × Used (seen v) c.number
      there m = (
        (remaining_in _ c v.chunks m).0,
        ⊎_elim (λ w. w) (λ no. absurd (clean_up_leaves s v fit sound c m (unnamed_idle s v fit sound c (λ l k e. no (l, k, e))))) (used_or_not c.number),
      )

      back : Memᴰ c v.chunks × Used (seen v) c.number → Memᴰ c (released false v).chunks
      back (m, w) = ⊎_elim (λ k. k) (λ idle. absurd (idle_unnamed s v fit sound c m idle w.0 w.1 w.2)) (released_idle s v fit sound false c m)

  -- a region of a chunk in which a loan lies doesn't cover it
  used_part : (p : Region) → Memᴰ p v.regions → Used (seen v) p.chunk → wholly v.chunks p ≡ false
  used_part p m w = ⊎_elim (λ e. absurd (whole e)) (λ e. e) (told (wholly v.chunks p))
    where
      whole : wholly v.chunks p ≡ true → ⊥
      whole e =
          let c = wholly_where v.chunks p e in
          let k = covers_yes p c.0 c.2 in
          idle_unnamed s v fit sound c.0 c.1 ((wholly_free s v fit sound c.0 c.1).1 (p, m, k.0, k.1, k.2)) w.0 w.1 (w.2 ∙ k.0)

  free_stays : (p : Region) → Memᴰ p (released false v).regions ↔ (Memᴰ p v.regions × Used (seen v) p.chunk)
  free_stays p = (there, back)
    where
      there : Memᴰ p (released false v).regions → Memᴰ p v.regions × Used (seen v) p.chunk
      there m =
          let h = region_home s (released false v) fit (released_sound s v fit sound false) p m in
          (staying_in v.chunks false p v.regions m, subst (Used (seen v)) h.2 ((chunk_stays h.0).0 h.1).1)

      back : Memᴰ p v.regions × Used (seen v) p.chunk → Memᴰ p (released false v).regions
      back (m, w) = in_staying v.chunks p v.regions m (used_part p m w)

-- ---- of the call

-- no refusal is a release
refused_not : (k n : ℕ) (back : List ℕ) → Paper.refusal k back ≡ Paper.released n → ⊥
refused_not k n back e = let z : ◌≡◌ {A = ℕ} 5 3 = ap kind_of e in omega arith

module _ (s : FreeListSettings) (a : Account) (t : Tables) (list : List ℕ) (n : ℕ) where
  -- what follows from the store that it leaves and from what is told of it
  module _ (p : Passed s a t (list_ok s.store list)) (n_is : length (gone_from s false t) ≡ n) (r : Listed Tables) (left : r.tables ≡ released_tables s false t)
      (booked : r.account ≡ released_account s.store a (length (gone_from s false t)) (bytes_of (gone_from s false t))) (tells : Told s t r.tables list r.list n) where
    abbrev v : Store
    v = store_of s t

    abbrev after : Store
    after = store_of s r.tables

    after_is : after ≡ released false v
    after_is = ap (store_of s) left ∙ released_store s t p.settings (lengths_are s t p.lengths) p.sound false

    chunks : (c : Chunk) → Memᴰ c after.chunks ↔ (Memᴰ c v.chunks × Used (seen v) c.number)
    chunks c = subst (λ (x : Store). Memᴰ c x.chunks ↔ (Memᴰ c v.chunks × Used (seen v) c.number)) (sym after_is) (chunk_stays s v p.settings p.sound.store c)

    bytes_gone : sizes after.chunks + bytes_of (gone_from s false t) ≡ sizes v.chunks
    bytes_gone = ap (λ (x : Store). sizes x.chunks + bytes_of (gone_from s false t)) after_is ∙ gone_bytes s v p.settings p.sound.store false

    each : length (take n r.list) ≡ n
    each =
        length-take-le n r.list (omega (arith, tells.count, tells.long, chunks_length s t, p.sound.chunks_fit, leb-true s.store.chunks (length list) p.listed))

    went : Go v.chunks after.chunks (take n r.list)
    went =
        record {
          among = λ c m. ((chunks c).0 m).0;
          either = λ c m. ⊎_elim (λ w. inl ((chunks c).1 (m, w))) (λ no. inr (λ k. no ((chunks c).0 k).1)) (used_or_not s v p.settings p.sound.store c.number);
          count = omega (arith, each, tells.count);
          bytes = omega (arith, bytes_gone);
          tells = tells.numbers;
        }

    told_are : (m : ℕ) → Memᴰ m (take n r.list) ↔ ((c : Chunk) × Memᴰ c v.chunks × (c.memory ≡ m) × (Used (seen v) c.number → ⊥))
    told_are m = (
      (λ k. let w = (tells.numbers m).0 k in (w.0, w.1, w.2, λ u. w.3 ((chunks w.0).1 (w.1, u)))),
      (λ w. (tells.numbers m).1 (w.0, w.1, w.2, λ k. w.3 ((chunks w.0).0 k).1)),
    )

    listed_gone : (length (take n r.list) ≡ n) × Go v.chunks after.chunks (take n r.list)
    listed_gone = (each, went)

    cleaned : Cleaned s a t list n r
    cleaned =
        let lost : bytes_of (gone_from s false t) ≡ sizes v.chunks - sizes after.chunks = omega (arith, bytes_gone) in
        record {
          loans = ap (λ (x : Store). x.loans) after_is;
          chunks = chunks;
          free = λ q. subst (λ (x : Store). Memᴰ q x.regions ↔ (Memᴰ q v.regions × Used (seen v) q.chunk)) (sym after_is) (free_stays s v p.settings p.sound.store q);
          rest = ap counts_of after_is;
          count = omega (arith, tells.count);
          account = booked ∙ (λ j. released_account s.store a (n_is j) (lost j));
          each = each;
          told = told_are;
          once = told_once v.chunks after.chunks (take n r.list) went (list_keeps.apart s t (p.settings, lengths_are s t p.lengths) p.sound).memories;
          past = tells.rest;
          long = tells.long;
        }

  comes : (r : Listed Tables) → CleanUpComes s a t list r → r.said ≡ Paper.released n → Told s t r.tables list r.list n → Cleaned s a t list n r
  unfolding release_of
  comes _ (CleanUpComes.denied k) e tells = absurd (refused_not k n [] e)
  comes _ (cleans p) e tells = cleaned p (ap to_free e) (release_of s a false t list) refl refl tells

  goes_by : (r : Listed Tables) → CleanUpComes s a t list r → r.said ≡ Paper.released n → Told s t r.tables list r.list n
      → (length (take n r.list) ≡ n) × Go (store_of s t).chunks (store_of s r.tables).chunks (take n r.list)
  unfolding release_of
  goes_by _ (CleanUpComes.denied k) e tells = absurd (refused_not k n [] e)
  goes_by _ (cleans p) e tells = listed_gone p (ap to_free e) (release_of s a false t list) refl refl tells

-- chunks go, and their memory numbers are told, as many as it says
pub clean_up_goes : (s : FreeListSettings) (a : Account) (t : Tables) (list : List ℕ) (n : ℕ) → (clean_up_of s a t list).said ≡ Paper.released n
    → (length (take n (clean_up_of s a t list).list) ≡ n) × Go (store_of s t).chunks (store_of s (clean_up_of s a t list).tables).chunks (take n (clean_up_of s a t list).list)
clean_up_goes s a t list n e = goes_by s a t list n (clean_up_of s a t list) (clean_up_comes s a t list) e (clean_up_told s a t list n e)

-- and the account gives back what they had
pub clean_up_account : (s : FreeListSettings) (a : Account) (t : Tables) (list : List ℕ) (n : ℕ) → (clean_up_of s a t list).said ≡ Paper.released n
    → (clean_up_of s a t list).account ≡ released_account s.store a n (sizes (store_of s t).chunks - sizes (store_of s (clean_up_of s a t list).tables).chunks)
clean_up_account s a t list n e = (comes s a t list n (clean_up_of s a t list) (clean_up_comes s a t list) e (clean_up_told s a t list n e)).account

-- a clean-up that is not refused says how many chunks go, and they are the wholly free ones
pub clean_up_lem : (s : FreeListSettings) (a : Account) (t : Tables) (list : List ℕ) → ((k : ℕ) (back : List ℕ) → (list_shape.other s a cleans_up t list).said ≡ Paper.refusal k back → ⊥)
    → (n : ℕ) × ((list_shape.other s a cleans_up t list).said ≡ Paper.released n) × Cleaned s a t list n (list_shape.other s a cleans_up t list)
clean_up_lem s a t list granted =
    ⊎_elim
    (λ w. (w.0, w.1, comes s a t list w.0 (clean_up_of s a t list) (clean_up_comes s a t list) w.1 (clean_up_told s a t list w.0 w.1)))
    (λ w. absurd (granted w.0 w.1 w.2))
    (list_tells.other_says s a cleans_up t list)
