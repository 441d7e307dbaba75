-- The words of 01's rows that are an engine's own, told of whichever tables it speaks of; Rows says the rest once.
use Rattle.std.specs.Prelude.{ℕ}
use Rattle.counter.specs.declared.settings.StoreSettings.{StoreSettings}
use Rattle.store_rules.specs.Views.{View}

pub record Words : Type 1 where
  pub Settings : Type 0
  pub Tables : Type 0
  pub store : Settings → StoreSettings
  -- what its tables say: serials given; blocks on loan, held chunks and free pieces
  pub given : Tables → ℕ
  pub view : Settings → Tables → View
  -- when they are sound, and when no held chunk has a fitting free place; how long the chunk is that is ordered then
  pub Sound : Settings → Tables → Type 0
  pub Needed : Settings → ℕ → ℕ → Tables → Type 0
  pub order_size : Settings → ℕ → ℕ → Tables → ℕ
  -- 1: settings and tables; 5: a mask of the allowed form that it does not take; 6: the size; 8 and 10: what it may run out of besides
  pub Fits : Settings → Tables → Type 0
  pub MaskHigh : Settings → ℕ → Type 0
  pub SizeOff : Settings → ℕ → ℕ → Type 0
  pub Roomless : Settings → ℕ → ℕ → Tables → Type 0
  pub Numberless : Settings → Tables → Type 0
