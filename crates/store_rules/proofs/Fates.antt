-- What an outcome leads to, for both engines: when 13, 11 and 12 are given, and what 11 and 12 leave of the account.
use mathlib.Core.Path.{◌≡◌, refl, sym, ap, ◌∙◌}
use mathlib.Core.Bool.{Bool, true, false, cond}
use mathlib.Core.Logic.{◌⊎◌, inl, inr, ⊎_elim, ◌↔◌}
use mathlib.Core.List.{List, [], ◌∷◌, ◌++◌}
use Prim.Native.Nat.{ℕ}
use Rattle.lists.proofs.Bools.{true_false}
use Rattle.counter.specs.Gate.{Verdict, pass, refuse, Row, first, gated}
use Rattle.counter.specs.Paper.{Said}
use Rattle.counter.specs.declared.account.Account.{Account}
use Rattle.counter.specs.declared.account.KeptOrder.{KeptOrder}
use Rattle.counter.specs.Open.{OpenOrder}
use Rattle.std.specs.Prelude.{None, Some}
use Rattle.counter.specs.declared.answers.Mapping.{Mapping}
use Rattle.counter.specs.declared.answers.Mapping.TheVariants as M
use Rattle.counter.specs.declared.answers.Outcome.{Outcome}
use Rattle.counter.specs.declared.answers.Outcome.TheVariants as O
use Rattle.counter.specs.declared.settings.StoreSettings.{StoreSettings}
use Rattle.counter.proofs.Reasoned.{and_then, first_then}
use Rattle.store_rules.specs.Arrivals.{Arrival, deny, go, arrival_of}
use Rattle.store_rules.specs.Delivery.{Fate, kept, lost, Engine, gives_back, back_of, mapped, fate_of, delivery_ok}
use Rattle.store_rules.specs.Outcomes.{with_order, charged_account, back_account, lost_account}
use Rattle.store_rules.specs.Refusals.{Unwelcome, UnwelcomeTo, DeviceOut, HostOut, lost_for}
use Rattle.store_rules.specs.Tests.{open_for}
use Rattle.store_rules.proofs.Accounts.{lost_nothing}
use Rattle.store_rules.proofs.Refused.{unwelcome}
use Rattle.store_rules.proofs.Said.{Tells}

-- ---- a fate

-- a loss has one number, one account and one list of memory to be freed
pub same_fate : (m n : ℕ) (c d : Bool) (x y : List ℕ) → lost m c x ≡ lost n d y → (m ≡ n) × (c ≡ d) × (x ≡ y)
same_fate m n c d x y e = (cc, cc, cc)

-- whether the memory is kept
abbrev pub keeps : Fate → Bool
keeps (kept m) = true
keeps (lost n c back) = false

-- what is kept is not lost
pub no_fate : {A : Type 0} (m n : ℕ) (c : Bool) (back : List ℕ) → kept m ≡ lost n c back → A
no_fate m n c back e = absurd (true_false true refl (ap keeps e))

module _ (e : Engine) (s : StoreSettings) (a : Account) (k : KeptOrder) where
  -- the number of memory lost, and the account that is left
  abbrev Left : ℕ → Bool → List ℕ → Account → Type 0
  Left n c back b = ((n ≡ 11) ⊎ (n ≡ 12)) × (lost_account s a k.order.size c back ≡ b)

  left_by_lem : (b : Account) (m n : ℕ) (c d : Bool) (x y : List ℕ) → Left m c x b → lost m c x ≡ lost n d y → Left n d y b
  left_by_lem b m n c d x y l q =
      let w = same_fate m n c d x y q in (
        ⊎_elim (λ z. inl (sym w.0 ∙ z)) (λ z. inr (sym w.0 ∙ z)) l.0,
        (λ j. lost_account s a k.order.size (sym w.1 j) (sym w.2 j)) ∙ l.1,
      )

  -- memory that was made is given back or not
  made_lost : (b : Bool) (memory : ℕ) → lost_account s a k.order.size true (cond b (memory ∷ []) []) ≡ cond b (back_account s a k.order.size) (charged_account s a k.order.size)
  unfolding lost_account charged_account back_account
  made_lost true memory = refl
  made_lost false memory = refl

  -- an order is lost with 11 or 12, and of the account is left what 01 says
  pub loss_left : (o : Outcome) (n : ℕ) (c : Bool) (back : List ℕ) → fate_of e o ≡ lost n c back → ((n ≡ 11) ⊎ (n ≡ 12)) × (lost_account s a k.order.size c back ≡ lost_for e s a k o)
  loss_left O.OutOfDevice n c back q = left_by_lem (with_order a None) 11 n false c [] back (inl refl, lost_nothing s a k.order.size []) q
  loss_left O.OutOfHost n c back q = left_by_lem (with_order a None) 12 n false c [] back (inr refl, lost_nothing s a k.order.size []) q
  loss_left (O.Made m) n c back q = made m.mapping q
    where
      what : Mapping → Account
      what w = cond (gives_back e w) (back_account s a k.order.size) (charged_account s a k.order.size)

      made : (w : Mapping) → mapped e m.number w ≡ lost n c back → Left n c back (what w)
      made M.Mapped q = no_fate m.number n c back q
      made M.NotWanted q = no_fate m.number n c back q
      made M.Failed q = left_by_lem (what M.Failed) 12 n true c (back_of e M.Failed m.number) back (inr refl, made_lost (gives_back e M.Failed) m.number) q
      made M.OutOfDevice q = left_by_lem (what M.OutOfDevice) 11 n true c (back_of e M.OutOfDevice m.number) back (inl refl, made_lost (gives_back e M.OutOfDevice) m.number) q
      made M.OutOfHost q = left_by_lem (what M.OutOfHost) 12 n true c (back_of e M.OutOfHost m.number) back (inr refl, made_lost (gives_back e M.OutOfHost) m.number) q

-- ---- 11 and 12, as tests of the outcome

abbrev pub map_device : Mapping → Bool
map_device M.Mapped = true
map_device M.NotWanted = true
map_device M.Failed = true
map_device M.OutOfDevice = false
map_device M.OutOfHost = true

abbrev pub device_ok : Outcome → Bool
device_ok (O.Made m) = map_device m.mapping
device_ok O.OutOfDevice = false
device_ok O.OutOfHost = true

abbrev pub map_host : Mapping → Bool
map_host M.Mapped = true
map_host M.NotWanted = true
map_host M.Failed = false
map_host M.OutOfDevice = true
map_host M.OutOfHost = false

abbrev pub host_ok : Outcome → Bool
host_ok (O.Made m) = map_host m.mapping
host_ok O.OutOfDevice = true
host_ok O.OutOfHost = false

-- the test of 11 fails exactly when its words hold
pub device_out : (o : Outcome) → (device_ok o ≡ false) ↔ DeviceOut o
device_out o = (there o, back)
  where
    map : (w : Mapping) → map_device w ≡ false → w ≡ M.OutOfDevice
    map M.Mapped e = absurd (true_false true refl e)
    map M.NotWanted e = absurd (true_false true refl e)
    map M.Failed e = absurd (true_false true refl e)
    map M.OutOfDevice e = refl
    map M.OutOfHost e = absurd (true_false true refl e)

    there : (o : Outcome) → device_ok o ≡ false → DeviceOut o
    there (O.Made m) e = inr (m, refl, map m.mapping e)
    there O.OutOfDevice e = inl refl
    there O.OutOfHost e = absurd (true_false true refl e)

    back : DeviceOut o → device_ok o ≡ false
    back (inl q) = ap device_ok q
    back (inr w) = ap device_ok w.1 ∙ ap map_device w.2

-- and that of 12
pub host_out : (o : Outcome) → (host_ok o ≡ false) ↔ HostOut o
host_out o = (there o, back)
  where
    map : (w : Mapping) → map_host w ≡ false → (w ≡ M.OutOfHost) ⊎ (w ≡ M.Failed)
    map M.Mapped e = absurd (true_false true refl e)
    map M.NotWanted e = absurd (true_false true refl e)
    map M.Failed e = inr refl
    map M.OutOfDevice e = absurd (true_false true refl e)
    map M.OutOfHost e = inl refl

    there : (o : Outcome) → host_ok o ≡ false → HostOut o
    there (O.Made m) e = inr (m, refl, map m.mapping e)
    there O.OutOfDevice e = absurd (true_false true refl e)
    there O.OutOfHost e = inl refl

    back : HostOut o → host_ok o ≡ false
    back (inl q) = ap host_ok q
    back (inr w) = ap host_ok w.1 ∙ ⊎_elim (λ q. ap map_host q) (λ q. ap map_host q) w.2

abbrev pub fate_row : Outcome → Row
fate_row o = (device_ok o, 11) ∷ (host_ok o, 12) ∷ []

abbrev pub fate_verdict : Fate → Verdict
fate_verdict (kept m) = pass
fate_verdict (lost n c back) = refuse n

-- the outcome's fate is what the row of its tests comes to
pub fate_first : (e : Engine) (o : Outcome) → fate_verdict (fate_of e o) ≡ first (fate_row o)
fate_first e O.OutOfDevice = refl
fate_first e O.OutOfHost = refl
fate_first e (O.Made m) = by m.mapping
  where
    by : (w : Mapping) → fate_verdict (mapped e m.number w) ≡ first ((map_device w, 11) ∷ (map_host w, 12) ∷ [])
    by M.Mapped = refl
    by M.NotWanted = refl
    by M.Failed = refl
    by M.OutOfDevice = refl
    by M.OutOfHost = refl

-- ---- 13, of the open order

abbrev pub welcome_ok : List ℕ → Outcome → OpenOrder → Bool
welcome_ok held o None = true
welcome_ok held o (Some k) = delivery_ok k.order.map held o

-- its test fails exactly when its words hold
pub unwelcomed : (a : Account) (held : List ℕ) (o : Outcome) → (welcome_ok held o a.order ≡ false) ↔ UnwelcomeTo a held o
unwelcomed a held o = (there a.order, back)
  where
    there : (ord : OpenOrder) → welcome_ok held o ord ≡ false → (k : KeptOrder) × (ord ≡ Some k) × Unwelcome k.order.map held o
    there None e = absurd (true_false true refl e)
    there (Some k) e = (k, refl, (unwelcome k.order.map held o).0 e)

    back : UnwelcomeTo a held o → welcome_ok held o a.order ≡ false
    back w = ap (welcome_ok held o) w.1 ∙ (unwelcome w.0.order.map held o).1 w.2

-- ---- a delivery

-- one order is kept
pub same_kept : (i j : KeptOrder) → Some i ≡ Some j → i ≡ j
same_kept i j e = cc

module _ (e : Engine) (o : Outcome) (held : List ℕ) (store : ℕ) (say : Arrival → Said) (n : ℕ) (denies : (m : ℕ) → Tells (say (deny m)) (refuse m) n) (fates : (k : KeptOrder) (f : Fate) → Tells (say (go k f)) (fate_verdict f) n) where
  on : (b : Bool) (k : KeptOrder) → Tells (say (cond b (go k (fate_of e o)) (deny 13))) (cond b (first (fate_row o)) (refuse 13)) n
  on false k = denies 13
  on true k = rw (← fate_first e o) (fates k (fate_of e o))

  by : (v : Verdict) (ord : OpenOrder) → (v ≡ pass → open_for store ord ≡ true) → (u : Verdict) → u ≡ and_then v (first ((welcome_ok held o ord, 13) ∷ fate_row o))
      → Tells (say (gated deny v (arrival_of e o held ord))) u n
  by (refuse m) ord f u q = rw q (denies m)
  by pass None f u q = absurd (true_false false (f refl) refl)
  by pass (Some k) f u q = rw q (on (delivery_ok k.order.map held o) k)

  -- where each plan is said by its number, a delivery says what the row of its tests comes to: its gate's, 13, 11, 12
  pub arrival_tells : (gates : Row) (ord : OpenOrder) → (first gates ≡ pass → open_for store ord ≡ true)
      → Tells (say (gated deny (first gates) (arrival_of e o held ord))) (first (gates ++ ((welcome_ok held o ord, 13) ∷ fate_row o))) n
  arrival_tells gates ord stands = by (first gates) ord stands (first (gates ++ ((welcome_ok held o ord, 13) ∷ fate_row o))) (first_then gates ((welcome_ok held o ord, 13) ∷ fate_row o))
