use mathlib.Core.Path.{sym, ◌∙◌}
use Rattle.buddy_rules.specs.Seen.{seen}
use Rattle.buddy_rules.proofs.Decides.{tables_yes}
use Rattle.buddy_gate.proofs.Gates.{places_few, sizes_low, store_torn, store_short, store_go}
use Rattle.buddy_gate.proofs.gating.gate_store.Goals as goal

pub returns-then-not-is_sound : goal.returns-then-not-is_sound
returns-then-not-is_sound c =
    let a = c.args in
    store_torn a.v.now.settings a.h a.objects (seen a.v.now) (sym c.is_sound.ensures ∙ c.if-not-is_sound.true)

pub is_covered-requires : goal.is_covered-requires
is_covered-requires c =
    let a = c.args in
    let t = seen a.v.now in
    let sound = tables_yes a.v.now.settings t a.v.now.in_table (sym c.is_sound.ensures ∙ c.if-not-is_sound.false) in
    (places_few a.v.now.settings t a.v.now.in_table sound, sizes_low a.v.now.settings t a.v.now.in_table sound)

pub returns-then-not-is_covered : goal.returns-then-not-is_covered
returns-then-not-is_covered c =
    let a = c.args in
    store_short a.v.now.settings a.h a.objects (seen a.v.now) (sym c.is_sound.ensures ∙ c.if-not-is_sound.false) (sym c.is_covered.ensures ∙ c.if-not-is_covered.true)

pub returns : goal.returns
returns c =
    let a = c.args in
    store_go a.v.now.settings a.h a.objects (seen a.v.now) (sym c.is_sound.ensures ∙ c.if-not-is_sound.false) (sym c.is_covered.ensures ∙ c.if-not-is_covered.false)
