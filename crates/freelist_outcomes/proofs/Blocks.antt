-- A new block is as it has to be.
use mathlib.Core.Path.{◌≡◌, refl, ap, subst}
use mathlib.Core.Bool.{true}
use mathlib.Core.Logic.{◌⊎◌, inl, inr}
use mathlib.Core.List.{[], Memᴰ}
use Prim.Native.Nat.{ℕ, ◌+◌, ◌-◌, ◌≤◌, ◌<◌}
use native.Mathlib.Omega.{arith}
use lib.ListN.{length, get_or}
use Rattle.lists.proofs.Bools.{lt_or_le}
use Rattle.rounding_rules.proofs.Raising.{down_close, up_close}
use Rattle.counter.specs.Account.{heap_at}
use Rattle.counter.specs.InTable.{FreeListIn}
use Rattle.counter.specs.Paper as Paper
use Rattle.counter.specs.Table.{alignment_ok}
use Rattle.counter.specs.declared.account.Account.{Account}
use Rattle.counter.specs.declared.answers.Outcome.{Outcome}
use Rattle.counter.specs.declared.settings.FreeListSettings.{FreeListSettings}
use Rattle.store_rules.specs.Outcomes.{Out}
use Rattle.store_rules.specs.declared.Loan.{Loan}
use Rattle.freelist_rules.specs.Place.{at, size_for, mask_for, find, lent_loan}
use Rattle.freelist_rules.specs.Records.{Store}
use Rattle.freelist_rules.specs.Sound.{Sound}
use Rattle.freelist_rules.specs.Steps.{no_region, served}
use Rattle.freelist_rules.specs.Tables.{Tables, store_of}
use Rattle.store_rules.specs.declared.Region.{Region}
use Rattle.freelist_rules.proofs.Base.{at_in}
use Rattle.freelist_rules.proofs.Facts.{region_home, loan_some}
use Rattle.freelist_rules.proofs.Lends.{fits_is, lent_block}
use Rattle.freelist_rules.proofs.Meaning.{not_both}
use Rattle.freelist_rules.proofs.Search.{find_fits}
use Rattle.freelist_outcomes.specs.Ask.{loan_from, ask_of}
use Rattle.freelist_outcomes.specs.Blocks.{Good, Delivered}
use Rattle.freelist_outcomes.specs.Deliver.{carry_fate, deliver_of}
use Rattle.freelist_outcomes.proofs.Arrives.{arrived, arrived_sound, arrived_store, arrived_serves}
use Rattle.freelist_outcomes.proofs.Comes.{DeliverComes, keeps, loses, deliver_comes}
use Rattle.freelist_outcomes.proofs.Fitted.{refusal_block, same_block_lem, ask_served}
use Rattle.freelist_outcomes.proofs.Plans.{take_is, size_some}

-- a stretch of bytes within a free region has no byte in common with a loan
free_apart : (s : FreeListSettings) → FreeListIn s → (t : Store) → Sound s t → (r : Region) → Memᴰ r t.regions → (x y : ℕ) → r.start ≤ x → x < y → y ≤ r.end
    → (l : Loan) → Memᴰ l t.loans → l.chunk ≡ r.chunk → (l.offset + l.size ≤ x) ⊎ (y ≤ l.offset)
free_apart s fit t sound r k x y p o q l m e = go (lt_or_le x (l.offset + l.size)) (lt_or_le l.offset y) (lt_or_le x l.offset)
  where
    some : 0 < l.size
    some = loan_some s t fit sound l m

    go : (x < l.offset + l.size) ⊎ (l.offset + l.size ≤ x) → (l.offset < y) ⊎ (y ≤ l.offset) → (x < l.offset) ⊎ (l.offset ≤ x) → (l.offset + l.size ≤ x) ⊎ (y ≤ l.offset)
    go (inr a) b c = inl a
    go (inl a) (inr b) c = inr b
    go (inl a) (inl b) (inl c) = absurd (not_both s t fit sound r.chunk l.offset (l, m, e, omega arith, omega (arith, some)) (r, k, refl, omega arith, omega arith))
    go (inl a) (inl b) (inr c) = absurd (not_both s t fit sound r.chunk x (l, m, e, c, a) (r, k, refl, p, omega arith))

-- the loan of what is cut off the region found
pub lent_good : (s : FreeListSettings) → FreeListIn s → (t : Store) → Sound s t → (size mask i : ℕ) → alignment_ok mask ≡ true → 0 < size → find (mask_for s mask) (size_for s size) t.regions ≡ at i
    → let l = lent_loan (t.given + 1) (served (mask_for s mask) (size_for s size) t i) in Good s size mask t l.serial l.chunk l.offset l.size
lent_good s fit t sound size mask i aligned some e =
    let m : ℕ = mask_for s mask in
    let n : ℕ = size_for s size in
    let r : Region = get_or t.regions i no_region in
    let b : Region = served m n t i in
    let w = find_fits m n i t.regions no_region e in
    let f = fits_is m n r w.1 in
    let k = at_in i t.regions no_region w.0 in
    let h = region_home s t fit sound r k in
    let g = lent_block s t fit sound mask size aligned some i e in
    let ends : b.start + (b.end - b.start) ≡ r.end = omega (arith, g.2) in
    record {
      block = record {
        next = refl;
        held = (h.0, h.1, h.2, omega (arith, h.3, ends));
        aligned = g.0;
        atoms = g.1;
        enough = omega (arith, g.2);
        apart = free_apart s fit t sound r k b.start (b.start + (b.end - b.start)) f.1 (omega (arith, g.2)) (omega (arith, ends));
        new = λ l p. omega (arith, (sound.serials_given l p).1);
      };
      close = omega (arith, down_close (r.end - n) m, up_close size s.store.atom, f.0);
    }

good_as : (s : FreeListSettings) (size mask : ℕ) (t : Store) (a b c d p q u v : ℕ) → a ≡ p → b ≡ q → c ≡ u → d ≡ v → Good s size mask t a b c d → Good s size mask t p q u v
good_as s size mask t a b c d p q u v e f g h k = rw (← e, ← f, ← g, ← h) k

-- an ask answered by a block: the block is good, and the account is as it was
pub ask_block : (s : FreeListSettings) (a : Account) (size mask : ℕ) (t : Tables) (serial chunk offset len : ℕ) → (ask_of s a size mask t).said ≡ Paper.block serial chunk offset len
    → Good s size mask (store_of s t) serial chunk offset len × ((ask_of s a size mask t).account ≡ a)
ask_block s a size mask t serial chunk offset len q =
    let v = ask_served s a size mask t serial chunk offset len q in
    let w = take_is s (heap_at a s.store.heap) a.objects size mask t v.region_at v.taken in
    let g = lent_good s v.passed.settings (store_of s t) v.passed.sound.store size mask v.region_at w.1.0 (size_some s size w.1.1.0) w.0 in
    let l : Loan = loan_from s size mask t v.region_at in
    (good_as s size mask (store_of s t) l.serial l.chunk l.offset l.size serial chunk offset len v.serial_is v.chunk_is v.offset_is v.len_is g, v.account_is)

-- a delivery answered by a block
pub deliver_block : (s : FreeListSettings) (a : Account) (o : Outcome) (t : Tables) (serial chunk offset len : ℕ) → (deliver_of s a o t).said ≡ Paper.block serial chunk offset len → Delivered s a o t serial chunk offset len
unfolding carry_fate
deliver_block s a o t serial chunk offset len = by (deliver_of s a o t) refl (deliver_comes s a o t)
  where
    by : (r : Out Tables) → deliver_of s a o t ≡ r → DeliverComes s a o t r → r.said ≡ Paper.block serial chunk offset len → Delivered s a o t serial chunk offset len
    by _ z (DeliverComes.denied n) e = refusal_block n [] serial chunk offset len e
    by _ z (loses k n charged back w f h) e = refusal_block n back serial chunk offset len e
    by _ z (keeps k m f w new) e =
        let v = arrived_serves s a t k w m.number new in
        let l = loan_from s k.ask.size k.ask.mask (arrived s a t k w m.number new) (length (store_of s t).regions) in
        let g = lent_good s w.settings (store_of s (arrived s a t k w m.number new)) (arrived_sound s a t k w m.number new).store k.ask.size k.ask.mask (length (store_of s t).regions) v.aligned v.some v.found in
        let q = same_block_lem l.serial l.chunk l.offset l.size serial chunk offset len e in
        let G : Store → Type 0 = λ x. Good s k.ask.size k.ask.mask x serial chunk offset len in
        record {
          kept = k;
          memory = m;
          ordered = w.is;
          made = f;
          good = subst G (arrived_store s a t k w m.number new) (good_as s k.ask.size k.ask.mask (store_of s (arrived s a t k w m.number new)) l.serial l.chunk l.offset l.size serial chunk offset len q.0 q.1 q.2 q.3 g);
          charged = ap (λ (x : Out Tables). x.account) z;
        }
