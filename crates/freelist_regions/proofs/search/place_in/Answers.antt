use Rattle.std.proofs.Common.{◌≡◌, ℕ, ◌<◌, ◌≤◌, refl, sym, le-leb}
use Rattle.std.specs.Prelude.{Option, Some, None, cond}
use borrow.Author.Tests.{lt-leb}
use Rattle.freelist_rules.specs.Records.{region}
use Rattle.freelist_rules.specs.Place.{cut, fits_in}
use Rattle.freelist_regions.proofs.search.place_in.Goals as goal

module _ (mask size start end chunk : ℕ) where
  abbrev Told : Option ℕ → Type 0
  Told o = o ≡ cond (fits_in mask size (region chunk start end)) (Some (cut mask size (region chunk start end))) None

  short : end < size → Told None
  unfolding fits_in
  short h = rw (lt-leb size end h) refl

  module _ (long : size ≤ end) (x : ℕ) (e : x ≡ cut mask size (region chunk start end)) where
    there : start ≤ x → Told (Some x)
    unfolding fits_in
    there h = rw (sym e, le-leb _ _ long, le-leb _ _ h) refl

    late : x < start → Told None
    unfolding fits_in
    late h = rw (sym e, le-leb _ _ long, lt-leb start x h) refl

pub returns-then-end-size : goal.returns-then-end-size
returns-then-end-size c =
    let a = c.args in
    λ chunk. short a.mask a.size a.start a.end chunk c.if-end-size.true

pub returns-then-start-place : goal.returns-then-start-place
returns-then-start-place c =
    let a = c.args in
    λ chunk. there a.mask a.size a.start a.end chunk c.if-end-size.false _ c.lower_to_unit-place.ensures c.if-start-place.true

pub returns-else-start-place : goal.returns-else-start-place
returns-else-start-place c =
    let a = c.args in
    λ chunk. late a.mask a.size a.start a.end chunk c.if-end-size.false _ c.lower_to_unit-place.ensures c.if-start-place.false
