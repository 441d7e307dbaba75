-- An order that a buddy gave can be delivered, as an engine's has to.
use mathlib.Core.Path.{ap}
use Prim.Native.Nat.{ℕ}
use Rattle.counter.specs.declared.account.Account.{Account}
use Rattle.counter.specs.declared.settings.BuddySettings.{BuddySettings}
use Rattle.store_rules.specs.Outcomes.{Out}
use Rattle.engines.specs.Delivers.{Delivers}
use Rattle.engines.specs.Tells.{Ordered}
use Rattle.buddy_rules.specs.Tables.{Tables}
use Rattle.buddy_outcomes.proofs.Deliverable.{Buying, order_buying, deliverable}
use Rattle.buddy_engine.specs.Shape.{buddy_shape}

buying : (s : BuddySettings) (a : Account) (size mask : ℕ) (t : Tables) → Ordered (buddy_shape.ask s a size mask t).said → Buying s a size mask t
buying s a size mask t w = order_buying s a size mask t w.0 w.1 w.2 w.3 w.4

pub buddy_delivers : Delivers buddy_shape
buddy_delivers =
    record {
      ordered = λ s a size mask t w. let b = buying s a size mask t w in (ap (λ (r : Out Tables). r.said) b.leaves, ap (λ (r : Out Tables). r.account) b.leaves);
      deliverable = λ s a size mask t passes w. deliverable s a size mask t (buying s a size mask t w);
    }
