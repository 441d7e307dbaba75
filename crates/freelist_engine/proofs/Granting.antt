-- The free list grants: settings and tables for every store that 01's table allows, and the smallest ask.
use mathlib.Core.Path.{◌≡◌, refl, ap}
use mathlib.Core.Logic.{inl, inr}
use Prim.Native.Nat.{ℕ, ◌+◌, ◌%◌, ◌≤◌}
use native.Mathlib.Omega.{arith}
use lib.Pow.{pow_mono}
use Rattle.std.proofs.Math.Nat.{zero-mod}
use Rattle.rounding_rules.proofs.Growth.{grown_most}
use Rattle.rounding_rules.proofs.Masks.{ones_size}
use Rattle.rounding_rules.proofs.Powers.{power_multiple}
use Rattle.counter.specs.InTable.{StoreIn, FreeListIn}
use Rattle.counter.specs.Limits.{spent}
use Rattle.counter.specs.Paper as Paper
use Rattle.counter.specs.declared.settings.FreeListSettings.{FreeListSettings}
use Rattle.counter.specs.declared.settings.StoreSettings.{StoreSettings}
use Rattle.counter.proofs.Papers.{kind_of}
use Rattle.store_rules.specs.declared.Chunk.{Chunk}
use Rattle.engines.specs.Further.{Unlent}
use Rattle.engines.specs.Grants.{Grants}
use Rattle.freelist_rules.specs.Place.{size_for}
use Rattle.freelist_rules.specs.Records.{Store}
use Rattle.freelist_rules.specs.Sound.{Sound}
use Rattle.freelist_rules.specs.Tables.{Tables, store_of}
use Rattle.freelist_rules.proofs.Meaning.{wholly_free, unnamed_idle}
use Rattle.freelist_outcomes.specs.Refusals.{SizeOff, Fitting}
use Rattle.freelist_outcomes.specs.SetUp.{Begun, fresh_tables, set_up_of}
use Rattle.freelist_outcomes.proofs.Changed.{fresh_store}
use Rattle.freelist_outcomes.proofs.Comes.{SetUpComes, readies, set_up_comes}
use Rattle.freelist_engine.specs.Shape.{seen, list_shape}
use Rattle.freelist_engine.proofs.Fitting.{fresh_lengths}

-- chunks of one atom unit
abbrev plain : StoreSettings → FreeListSettings
plain o = record { store = o; start = o.atom + 1; last = o.atom + 1 }

plain_in : (o : StoreSettings) → StoreIn o → FreeListIn (plain o)
plain_in o i =
    record {
      store = i;
      start_some = omega arith;
      start_most = omega arith;
      last_most = omega (arith, ones_size i.atom, pow_mono {i = i.atom.log} {j = 16} i.atom.small);
      start_multiple = unit;
      last_multiple = unit;
    }
  where
    unit : (o.atom + 1) % (o.atom + 1) ≡ 0
    unit = rw (ones_size i.atom) (power_multiple i.atom.log i.atom.log (omega arith))

one_byte : (s : FreeListSettings) → FreeListIn s → SizeOff s 1 → ⊥
one_byte s fit (inl e) = omega (arith, e)
one_byte s fit (inr h) = omega (arith, h, fit.start_some, fit.start_most)

-- a new store has given no chunk number
numbers : (s : FreeListSettings) (t : Tables) (r : Begun) → SetUpComes s t r → r.said ≡ Paper.ready → spent ≤ (store_of s r.tables).made → ⊥
numbers s t _ SetUpComes.denied e h = let z : ◌≡◌ {A = ℕ} 5 0 = ap kind_of e in omega arith
numbers s t _ (readies fit lengths) e h = omega (arith, h, ap (λ (v : Store). v.made) (fresh_store s t fit lengths))

-- a chunk in which no block is on loan is one region
whole_serves : (s : FreeListSettings) (size mask : ℕ) (v : Store) → FreeListIn s → Sound s v → (c : Chunk) → Unlent (seen v) c → size ≤ c.size → Fitting size mask v
whole_serves s size mask v fit sound c x h =
    let w = (wholly_free s v fit sound c x.held).0 (unnamed_idle s v fit sound c x.none) in
    record {
      chunk = c;
      held = x.held;
      region = w.0;
      free = w.1;
      its = w.2;
      start = 0;
      aligned = zero-mod (mask + 1);
      from = omega (arith, w.3);
      to = omega (arith, w.4);
    }

pub list_grants : Grants list_shape
list_grants =
    record {
      allows = λ o i. (plain o, fresh_tables (plain o), refl, (plain_in o i, fresh_lengths (plain o)));
      allowed = λ s t fits. fits.0.store;
      smallest = λ s t fits. ((λ x. x), one_byte s fits.0);
      size_none = λ s mask. inl refl;
      empty_room = λ s size mask t fits sound none x. x;
      new_numbers = λ s t e. numbers s t (set_up_of s t) (set_up_comes s t) e;
      idle_serves = λ s size mask t fits sound c x h needed. needed (whole_serves s size mask (store_of s t) fits.0 sound.store c x h);
      order_most_lem = λ s size mask t fits sound some. omega (arith, grown_most (store_of s t).size (size_for s size) s.last, fits.0.last_most);
    }
