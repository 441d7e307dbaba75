-- The code's plan in the definitions' words, and what the numbers are that it carries.
use Rattle.std.specs.Prelude.{◌≡◌, ℕ, Result, Ok, Err}
use Rattle.counter.specs.Paper.{number_of}
use Rattle.counter.specs.declared.refusal.Refusal.{Refusal}
use Rattle.counter.specs.declared.settings.FreeListSettings.{FreeListSettings}
use Rattle.slabs.specs.declared.Taken.{Taken}
use Rattle.store_rules.specs.Orders as Orders
use Rattle.book_rules.specs.Book.{taken_of}
use Rattle.freelist_rules.specs.Place.{size_for, mask_for}
use Rattle.freelist_rules.specs.Tables.{Tables, places_in}
use Rattle.freelist_outcomes.specs.Ask.{block_at}
use Rattle.freelist_decide.specs.declared.deciding.Plan.{Plan}
use Rattle.freelist_decide.specs.declared.deciding.Plan.TheVariants.{Take, Buy}

abbrev pub plan_of : Result Plan Refusal → Orders.Plan ℕ
plan_of (Err r) = Orders.deny (number_of r)
plan_of (Ok (Take k)) = Orders.take k.region
plan_of (Ok (Buy b)) = Orders.buy b.order

-- the numbers are these: where the block of a region starts, the size and the mask that are looked for, the loan's place
abbrev pub Carries : (ℕ → ℕ) → ℕ → ℕ → Taken → Result Plan Refusal → Type 0
Carries from n m loan (Err r) = Unit {0}
Carries from n m loan (Ok (Take k)) = (k.start ≡ from k.region) × (k.loan ≡ loan)
Carries from n m loan (Ok (Buy b)) = (b.size ≡ n) × (b.mask ≡ m) × (b.loan ≡ loan)

-- of an ask: "Size is raised to a multiple of the atom unit", "the highest aligned place that ends within the region", and the
-- place that the book has next
abbrev pub Planned : FreeListSettings → ℕ → ℕ → Tables → Result Plan Refusal → Type 0
Planned s size mask t = Carries (λ i. (block_at s size mask t i).start) (size_for s size) (mask_for s mask) (taken_of (places_in t) t.index)
