use mathlib.Core.Path.{refl}
use native.Mathlib.Omega.{arith}
use Rattle.freelist_place.proofs.Writing.{reads_front, unthreads, given_done}
use Rattle.freelist_place.proofs.backing.take_back.Goals as goal

pub bounds-index-at : goal.bounds-index-at
bounds-index-at c =
    let h = c.requires.backs in
    omega (arith, h.word, h.long)

pub before_of-front-requires : goal.before_of-front-requires
before_of-front-requires c =
    let a = c.args in
    reads_front a.s a.b a.at a.chunks.now a.index.now a.regions.now c.requires.backs _ refl

pub unthread-requires : goal.unthread-requires
unthread-requires c =
    let a = c.args in
    unthreads a.s a.b a.at a.chunks.now a.index.now a.regions.now c.requires.backs _ refl _ c.strike.ensures.index_after

pub returns : goal.returns
returns c =
    let a = c.args in
    given_done a.s a.b a.at a.chunks.now a.index.now a.regions.now c.requires.backs _ refl _ c.strike.ensures.index_after _ a.loans.now _ _ _ c.before_of-front.ensures c.join.ensures c.strike.ensures.loans_after c.unthread.ensures
