use Rattle.std.proofs.Common.{sym, ◌∙◌, arith}
use Rattle.freelist_rules.specs.Seen.{seen}
use Rattle.freelist_rules.proofs.Tested.{tables_yes}
use Rattle.freelist_rules.proofs.Summing.{chunks_low}
use Rattle.freelist_gate.proofs.Gates.{store_torn, store_short, store_go}
use Rattle.freelist_gate.proofs.gating.gate_store.Goals as goal

pub returns-then-not-is_sound : goal.returns-then-not-is_sound
returns-then-not-is_sound c =
    let t = c.args.t.now in
    store_torn t.settings c.args.h c.args.objects (seen t) (sym c.is_sound.ensures ∙ c.if-not-is_sound.true)

pub is_covered-requires : goal.is_covered-requires
is_covered-requires c =
    let t = c.args.t.now in
    let sound = tables_yes t.settings (seen t) t.in_table (sym c.is_sound.ensures ∙ c.if-not-is_sound.false) in
    (omega (arith, sound.chunks_fit, t.in_table.store.chunks_most_lem), chunks_low t.settings (seen t) t.in_table sound)

pub returns-then-not-is_covered : goal.returns-then-not-is_covered
returns-then-not-is_covered c =
    let t = c.args.t.now in
    store_short t.settings c.args.h c.args.objects (seen t) (sym c.is_sound.ensures ∙ c.if-not-is_sound.false) (sym c.is_covered.ensures ∙ c.if-not-is_covered.true)

pub returns : goal.returns
returns c =
    let t = c.args.t.now in
    store_go t.settings c.args.h c.args.objects (seen t) (sym c.is_sound.ensures ∙ c.if-not-is_sound.false) (sym c.is_covered.ensures ∙ c.if-not-is_covered.false)
