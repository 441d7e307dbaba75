use mathlib.Core.Path.{◌≡◌, sym, subst}
use mathlib.Core.Bool.{true}
use Prim.Native.Nat.{ℕ}
use Rattle.lists.specs.Members.{Distinct}
use Rattle.counter.specs.Limits.{chunks_most}
use Rattle.distinct.specs.Column.{column}
use Rattle.distinct.proofs.Filling.{new_front, new_fits}
use Rattle.distinct.proofs.is_distinct.Goals as goal

pub slice_bounds-all_differ-end : goal.slice_bounds-all_differ-end
slice_bounds-all_differ-end c =
    sym (new_front c.args.n chunks_most 0 c.requires.2)

pub all_differ-requires : goal.all_differ-requires
all_differ-requires c = new_fits c.args.n chunks_most 0 c.requires.2

pub returns : goal.returns
returns c =
    let a = c.args in
    let r = c.all_differ.result in
    subst
    (λ (m : ℕ). (r ≡ true → Distinct (column a.t.now a.at a.w m)) × (Distinct (column a.t.now a.at a.w m) → r ≡ true))
    (new_front a.n chunks_most 0 c.requires.2)
    c.all_differ.ensures
