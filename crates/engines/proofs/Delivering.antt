-- An ask gave an order, and it is delivered as ordered: a block is lent.
use mathlib.Core.Path.{◌≡◌, refl, sym, ap, subst, ◌∙◌}
use mathlib.Core.Bool.{Bool, true, false}
use mathlib.Core.Logic.{inl, inr, ⊎_elim}
use mathlib.Core.List.{List, Memᴰ, map}
use Prim.Native.Nat.{ℕ}
use native.Mathlib.Omega.{arith}
use Rattle.counter.specs.Gate.{pass}
use Rattle.counter.specs.Paper as Paper
use Rattle.counter.specs.Properties.{host_visible}
use Rattle.counter.specs.Reasons.{Reasons, none, reason, Given, Clear}
use Rattle.counter.specs.declared.account.Account.{Account}
use Rattle.counter.specs.declared.account.KeptOrder.{KeptOrder}
use Rattle.std.specs.Prelude.{Some}
use Rattle.counter.specs.declared.answers.Mapping.{Mapping}
use Rattle.counter.specs.declared.answers.Mapping.TheVariants as M
use Rattle.counter.specs.declared.answers.Memory.{Memory}
use Rattle.counter.specs.declared.answers.Outcome.TheVariants as O
use Rattle.store_rules.specs.Orders.{kept_from}
use Rattle.store_rules.specs.Refusals.{Unsuited, UnwelcomeTo, DeviceOut, HostOut}
use Rattle.store_rules.specs.declared.Chunk.{Chunk}
use Rattle.store_rules.proofs.Said.{refuses}
use Rattle.engines.specs.Engines.{Engine}
use Rattle.store_rules.specs.Rows.{deliver_rows}
use Rattle.engines.specs.Shapes.{Tables, words_of}
use Rattle.engines.specs.Tells.{Blocked, Ordered}
use Rattle.engines.proofs.Taking.{ask_passed}

-- where no row's words hold no number is given
pub clear_unsaid : (rs : Reasons) (n : ℕ) → Clear rs → Given rs n → ⊥
clear_unsaid none n c g = g
clear_unsaid (reason words number rest) n c (inl w) = c.0 w.0
clear_unsaid (reason words number rest) n c (inr w) = clear_unsaid rest n c.1 w.1

-- ---- memory as it was ordered: made, not held already, and mapped exactly when that was ordered

-- the mapping that an order asks for
abbrev pub as_ordered : Bool → Mapping
as_ordered true = M.Mapped
as_ordered false = M.NotWanted

same_memory : (x y : Memory) → O.Made x ≡ O.Made y → x ≡ y
same_memory x y q = cc

same_kept : (x y : KeptOrder) → Some x ≡ Some y → x ≡ y
same_kept x y q = cc

suited : (wanted : Bool) → Unsuited wanted (as_ordered wanted) → ⊥
suited true (inl w) = let e = w.1 in let z : ◌≡◌ {A = ℕ} 0 1 = cc in omega arith
suited true (inr w) = let e = w.0 in let z : ◌≡◌ {A = ℕ} 0 1 = cc in omega arith
suited false (inl w) = let e = w.0 in let z : ◌≡◌ {A = ℕ} 0 1 = cc in omega arith
suited false (inr w) = w.1 refl

not_device : (wanted : Bool) → as_ordered wanted ≡ M.OutOfDevice → ⊥
not_device true e = let z : ◌≡◌ {A = ℕ} 0 1 = cc in omega arith
not_device false e = let z : ◌≡◌ {A = ℕ} 0 1 = cc in omega arith

not_host : (wanted : Bool) → as_ordered wanted ≡ M.OutOfHost → ⊥
not_host true e = let z : ◌≡◌ {A = ℕ} 0 1 = cc in omega arith
not_host false e = let z : ◌≡◌ {A = ℕ} 0 1 = cc in omega arith

not_failed : (wanted : Bool) → as_ordered wanted ≡ M.Failed → ⊥
not_failed true e = let z : ◌≡◌ {A = ℕ} 0 1 = cc in omega arith
not_failed false e = let z : ◌≡◌ {A = ℕ} 0 1 = cc in omega arith

made_device : (m : Memory) → O.Made m ≡ O.OutOfDevice → ⊥
made_device m e = let z : ◌≡◌ {A = ℕ} 0 1 = cc in omega arith

made_host : (m : Memory) → O.Made m ≡ O.OutOfHost → ⊥
made_host m e = let z : ◌≡◌ {A = ℕ} 0 1 = cc in omega arith

module _ (wanted : Bool) (m : Memory) (fit : m.mapping ≡ as_ordered wanted) where
  device_well : DeviceOut (O.Made m) → ⊥
  device_well (inl e) = made_device m e
  device_well (inr w) = not_device wanted (sym fit ∙ ap (λ (x : Memory). x.mapping) (same_memory m w.0 w.1) ∙ w.2)

  host_well : HostOut (O.Made m) → ⊥
  host_well (inl e) = made_host m e
  host_well (inr w) =
      let q = sym fit ∙ ap (λ (x : Memory). x.mapping) (same_memory m w.0 w.1) in
      ⊎_elim (λ e. not_host wanted (q ∙ e)) (λ e. not_failed wanted (q ∙ e)) w.2

  welcome : (a : Account) (held : List ℕ) (k : KeptOrder) → a.order ≡ Some k → k.order.map ≡ wanted → (Memᴰ m.number held → ⊥) → UnwelcomeTo a held (O.Made m) → ⊥
  welcome a held k is map new w =
      let q : m ≡ w.2.0 = same_memory m w.2.0 w.2.1 in
      let z : w.0.order.map ≡ wanted = ap (λ (x : KeptOrder). x.order.map) (same_kept w.0 k (sym w.1 ∙ is)) ∙ map in
      ⊎_elim (λ x. new (subst (λ (y : Memory). Memᴰ y.number held) (sym q) x))
      (λ x. suited wanted (subst (Unsuited wanted) (ap (λ (y : Memory). y.mapping) (sym q) ∙ fit) (subst (λ (y : Bool). Unsuited y w.2.0.mapping) z x)))
      w.2.2

-- ---- the delivery

module _ (E : Engine) (s : E.shape.Settings) (a : Account) (size mask : ℕ) (t : Tables) (store z memtype : ℕ) (wanted : Bool)
    (told : (E.shape.ask s a size mask t).said ≡ Paper.order store z memtype wanted) where
  its : Ordered (E.shape.ask s a size mask t).said
  its = (store, z, memtype, wanted, told)

  -- an order was told: the delivery's tests 1 to 4 pass on what the ask left
  pub order_delivers : E.shape.deliver_gate s (E.shape.ask s a size mask t).account (E.shape.ask s a size mask t).tables ≡ pass
  order_delivers = E.delivers.deliverable s a size mask t (ask_passed E s a t size mask (ap refuses told)) its

  wants : host_visible (E.shape.store s).properties ≡ wanted
  wants = same_map (sym (E.delivers.ordered s a size mask t its).0 ∙ told)
    where
      same_map : {u v w : ℕ} {x : Bool} {u' v' w' : ℕ} {x' : Bool} → Paper.order u v w x ≡ Paper.order u' v' w' x' → x ≡ x'
      same_map e = cc

  -- and memory made and mapped as ordered, under a number that the store does not hold, gives a block
  pub order_lends : (m : Memory) → m.mapping ≡ as_ordered wanted → (Memᴰ m.number (map (λ (c : Chunk). c.memory) (E.shape.view s t).chunks) → ⊥)
      → Blocked (E.shape.deliver s (E.shape.ask s a size mask t).account (O.Made m) (E.shape.ask s a size mask t).tables).said
  order_lends m fit new =
      let b = (E.shape.ask s a size mask t).account in
      let u = (E.shape.ask s a size mask t).tables in
      let c = (E.refuses.deliver_clear s b u).0 order_delivers in
      let k = kept_from (E.shape.store s) size mask (E.shape.order_size s size mask t) in
      let is : b.order ≡ Some k = ap (λ (x : Account). x.order) (E.delivers.ordered s a size mask t its).1 in
      let new' : Memᴰ m.number (map (λ (c : Chunk). c.memory) (E.shape.view s u).chunks) → ⊥ =
      subst (λ (cs : List Chunk). Memᴰ m.number (map (λ (c : Chunk). c.memory) cs) → ⊥) (sym (E.tells.ask_chunks s a size mask t)) new in
      let all : Clear (deliver_rows (words_of E.shape) s b (O.Made m) u) =
      (c.0, (c.1.0, (c.1.1.0, (c.1.1.1.0, (welcome wanted m fit b _ k is wants new', (device_well wanted m fit, (host_well wanted m fit, tt))))))) in
      ⊎_elim (λ x. x)
      (λ x. absurd (clear_unsaid (deliver_rows (words_of E.shape) s b (O.Made m) u) x.0 all ((E.refuses.deliver_refused s b (O.Made m) u x.0).0 (x.1, x.2))))
      (E.tells.deliver_says s b (O.Made m) u)
