use borrow.Author.Rules.{rules}
use mathlib.Core.Path.{refl}
use native.Mathlib.Omega.{arith}
use Rattle.freelist_place.specs.Lent.{taken}
use Rattle.freelist_place.proofs.Serving.{start_within, loan_done, threads, lent_done}
use Rattle.freelist_place.proofs.lending.lend.Goals as goal

pub gap_at-g-requires : goal.gap_at-g-requires
gap_at-g-requires c = let h = c.requires in omega (arith, h.here, h.fit.long, h.fit.count)

pub loan_of-l-requires : goal.loan_of-l-requires
loan_of-l-requires c =
    let a = c.args in
    (omega (arith, c.requires.opens.loans_long), c.requires.serial, start_within a.s a.i a.start (taken a.place a.places a.vacant) a.loans.now a.chunks.now a.index.now a.regions.now c.requires _ c.gap_at-g.ensures)

pub bounds-regions-2 : goal.bounds-regions-2
bounds-regions-2 c =
    let h = c.requires.fit.long in
    search rules

pub thread-requires : goal.thread-requires
thread-requires c =
    let a = c.args in
    threads a.s a.i a.start (taken a.place a.places a.vacant) a.loans.now a.chunks.now a.index.now a.regions.now c.requires _ c.gap_at-g.ensures _ c.loan_of-l.ensures _ c.enter_at.ensures.index_after _ c.record_of-r.ensures

pub returns : goal.returns
returns c = let a = c.args in record { value = loan_done a.s a.i a.start (taken a.place a.places a.vacant) a.loans.now a.chunks.now a.index.now a.regions.now c.requires _ c.gap_at-g.ensures _ c.loan_of-l.ensures; regions_after = lent_done a.s a.i a.start (taken a.place a.places a.vacant) a.loans.now a.chunks.now a.index.now a.regions.now c.requires _ c.gap_at-g.ensures _ c.loan_of-l.ensures _ c.enter_at.ensures.index_after _ _ _ _ _ _ refl c.without-left.ensures c.record_of-r.ensures c.cut.ensures c.enter_at.ensures.loans_after c.thread.ensures }
