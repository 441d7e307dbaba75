-- An order that a free list gave can be delivered, as an engine's has to.
use mathlib.Core.Path.{ap}
use Prim.Native.Nat.{ℕ}
use Rattle.counter.specs.declared.account.Account.{Account}
use Rattle.counter.specs.declared.settings.FreeListSettings.{FreeListSettings}
use Rattle.store_rules.specs.Outcomes.{Out}
use Rattle.engines.specs.Delivers.{Delivers}
use Rattle.engines.specs.Tells.{Ordered}
use Rattle.freelist_rules.specs.Tables.{Tables}
use Rattle.freelist_outcomes.proofs.Deliverable.{Buying, order_buying, deliverable}
use Rattle.freelist_engine.specs.Shape.{list_shape}

buying : (s : FreeListSettings) (a : Account) (size mask : ℕ) (t : Tables) → Ordered (list_shape.ask s a size mask t).said → Buying s a size mask t
buying s a size mask t w = order_buying s a size mask t w.0 w.1 w.2 w.3 w.4

pub list_delivers : Delivers list_shape
list_delivers =
    record {
      ordered = λ s a size mask t w. let b = buying s a size mask t w in (ap (λ (r : Out Tables). r.said) b.leaves, ap (λ (r : Out Tables). r.account) b.leaves);
      deliverable = λ s a size mask t passes w. deliverable s a size mask t (buying s a size mask t w);
    }
