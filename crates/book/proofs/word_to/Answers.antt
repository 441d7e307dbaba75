use Rattle.std.proofs.Common.{◌≡◌, ℕ, ◌+◌, ◌-◌, sym, ap, ◌∙◌, mod-lt, arith}
use Rattle.book_rules.specs.Book.{first_of, seek_in}
use Rattle.book_rules.proofs.Seeking.{seek_past, seek_here, seek_on, seek_none, word_is}
use Rattle.book.proofs.word_to.Goals as goal

pub overflow_mul-at : goal.overflow_mul-at
overflow_mul-at c = omega (arith, c.remainder-i.ensures, mod-lt c.args.serial c.requires.some, c.requires.most)

pub overflow_add-at : goal.overflow_add-at
overflow_add-at c = omega (arith, c.remainder-i.ensures, mod-lt c.args.serial c.requires.some, c.requires.most)

pub loop-init : goal.loop-init
loop-init c =
    let a = c.args in
    let is = c.remainder-i.ensures in
    let z : a.places - 0 ≡ a.places = omega arith in (
      omega (arith, is, mod-lt a.serial c.requires.some),
      rw z (word_is a.loans.now a.index.now a.n a.places a.serial ∙ ap (λ (i : ℕ). seek_in a.loans.now a.index.now a.places a.serial (first_of i) a.places) (sym is)),
    )

pub bounds-index-at : goal.bounds-index-at
bounds-index-at c = omega (arith, c.loop.invariant.0, c.requires.index_long)

pub returns-then-places-p : goal.returns-then-places-p
returns-then-places-p c = sym (c.loop.invariant.1 ∙ seek_past _ _ _ _ _ _ _ c.place_of-p.ensures (omega arith) c.if-places-p.true)

pub bounds-loans-p : goal.bounds-loans-p
bounds-loans-p c = omega (arith, c.if-places-p.false, c.requires.loans_long, c.requires.few)

pub returns-then-loans-p : goal.returns-then-loans-p
returns-then-loans-p c = sym (c.loop.invariant.1 ∙ seek_here _ _ _ _ _ _ _ c.place_of-p.ensures (omega arith) c.if-places-p.false c.if-loans-p.true)

pub loop-preserved : goal.loop-preserved
loop-preserved c =
    let z : c.args.places - c.loop.counter - 1 ≡ c.args.places - (c.loop.counter + 1) = omega arith in (
      omega (arith, c.if-places-p.false, c.requires.few),
      rw z at (c.loop.invariant.1 ∙ seek_on _ _ _ _ _ _ _ c.place_of-p.ensures (omega arith) c.if-places-p.false c.if-loans-p.false),
    )

pub returns : goal.returns
returns c = sym (c.loop.invariant.1 ∙ seek_none _ _ _ _ _ _ (omega arith))
