use mathlib.Core.Path.{sym}
use Rattle.buddy_rules.specs.Seen.{seen}
use Rattle.buddy_rules.proofs.Decides.{tables_yes}
use Rattle.buddy_decide.proofs.Seeing.{sees}
use Rattle.buddy_gate.proofs.Gates.{places_few, sizes_low}
use Rattle.buddy_gate.proofs.Kept.{kept_torn, kept_other, kept_short, kept_go}
use Rattle.buddy_gate.proofs.deliveries.gate_kept.Goals as goal

pub returns-then-not-is_sound : goal.returns-then-not-is_sound
returns-then-not-is_sound c =
    let a = c.args in
    let v = a.v.now in
    record { result_value = kept_torn v.settings a.h a.objects a.k (seen v) (sym c.if-not-is_sound.ensures); passing_buys = tt }

pub is_still-requires : goal.is_still-requires
is_still-requires c =
    let v = c.args.v.now in
    sees v.settings (seen v) v.in_table c.requires (tables_yes v.settings (seen v) v.in_table (sym c.if-not-is_sound.ensures))

pub returns-in_default : goal.returns-in_default
returns-in_default c =
    let a = c.args in
    let v = a.v.now in
    record { result_value = kept_other v.settings a.h a.objects a.k (seen v) (sym c.if-not-is_sound.ensures) (sym c.in_default.ensures.result_value); passing_buys = tt }

pub is_covered-requires : goal.is_covered-requires
is_covered-requires c =
    let v = c.args.v.now in
    let sound = tables_yes v.settings (seen v) v.in_table (sym c.if-not-is_sound.ensures) in
    (places_few v.settings (seen v) v.in_table sound, sizes_low v.settings (seen v) v.in_table sound)

pub returns-then-not-is_covered : goal.returns-then-not-is_covered
returns-then-not-is_covered c =
    let a = c.args in
    let v = a.v.now in
    record { result_value = kept_short v.settings a.h a.objects a.k (seen v) (sym c.if-not-is_sound.ensures) (sym c.in-Some.ensures.result_value) (sym c.if-not-is_covered.ensures); passing_buys = tt }

pub returns : goal.returns
returns c =
    let a = c.args in
    let v = a.v.now in
    record { result_value = kept_go v.settings a.h a.objects a.k (seen v) (sym c.if-not-is_sound.ensures) (sym c.in-Some.ensures.result_value) (sym c.if-not-is_covered.ensures); passing_buys = c.in-Some.ensures.still_buys }
