-- What a new block has to be.
use Rattle.std.specs.Prelude.{◌≡◌, ℕ, ◌+◌, ◌≤◌}
use Rattle.counter.specs.declared.account.Account.{Account}
use Rattle.counter.specs.declared.account.KeptOrder.{KeptOrder}
use Rattle.std.specs.Prelude.{Some}
use Rattle.counter.specs.declared.answers.Memory.{Memory}
use Rattle.counter.specs.declared.answers.Outcome.{Outcome}
use Rattle.counter.specs.declared.answers.Outcome.TheVariants as O
use Rattle.counter.specs.declared.settings.FreeListSettings.{FreeListSettings}
use Rattle.store_rules.specs.Outcomes.{charged_account}
use Rattle.store_rules.specs.Views.{GoodBlock}
use Rattle.freelist_rules.specs.Place.{mask_for}
use Rattle.freelist_rules.specs.Records.{Store}
use Rattle.freelist_rules.specs.Steps.{delivered}
use Rattle.freelist_rules.specs.Tables.{Tables, store_of}
use Rattle.freelist_outcomes.specs.Deliver.{deliver_of}

-- a block as it has to be, in the store t and for this ask
pub record Good (s : FreeListSettings) (size mask : ℕ) (t : Store) (serial chunk offset len : ℕ) : Type 0 where
  -- as every engine's has to be
  pub block : GoodBlock s.store.atom size mask t.given t.loans t.chunks serial chunk offset len
  -- and longer by no more than the atom unit and the alignment take
  pub close : len ≤ size + s.store.atom + mask_for s mask

-- a delivery answered by a block: it is good in the store that has the new chunk, for the ask that was kept, and the
-- account is charged for the chunk
pub record Delivered (s : FreeListSettings) (a : Account) (o : Outcome) (t : Tables) (serial chunk offset len : ℕ) : Type 0 where
  pub kept : KeptOrder
  pub memory : Memory
  pub ordered : a.order ≡ Some kept
  pub made : o ≡ O.Made memory
  pub good : Good s kept.ask.size kept.ask.mask (delivered s memory.number kept.order.size (store_of s t)) serial chunk offset len
  pub charged : (deliver_of s a o t).account ≡ charged_account s.store a kept.order.size
