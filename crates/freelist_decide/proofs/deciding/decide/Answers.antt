use Rattle.std.proofs.Common.{sym, ap, ◌∙◌, arith}
use Rattle.counter.proofs.Tables.{alignment_yes}
use Rattle.freelist_regions.specs.Found.{found_of}
use Rattle.freelist_regions.proofs.Asking.{both_ones}
use Rattle.freelist_outcomes.proofs.Plans.{size_most_lem}
use Rattle.freelist_decide.proofs.Tests.{found_is, start_is, carried_is, decide_mask, decide_size, decide_at, decide_nowhere}
use Rattle.freelist_decide.proofs.deciding.decide.Goals as goal

pub returns-then-not-is_alignment : goal.returns-then-not-is_alignment
returns-then-not-is_alignment c =
    let t = c.args.t.now in
    record { result_value = decide_mask t.settings c.args.h c.args.objects c.args.size c.args.mask t.head.now t.loans.now t.chunks.now t.index.now t.regions.now (sym c.is_alignment.ensures ∙ c.if-not-is_alignment.true); planned = tt }

pub returns-then-not-is_size : goal.returns-then-not-is_size
returns-then-not-is_size c =
    let t = c.args.t.now in
    record { result_value = decide_size t.settings c.args.h c.args.objects c.args.size c.args.mask t.head.now t.loans.now t.chunks.now t.index.now t.regions.now (sym c.is_alignment.ensures ∙ c.if-not-is_alignment.false) (sym c.is_size.ensures ∙ c.if-not-is_size.true); planned = tt }

pub size_for-n-requires : goal.size_for-n-requires
size_for-n-requires c =
    let t = c.args.t.now in
    (t.in_table, size_most_lem t.settings c.args.size (sym c.is_size.ensures ∙ c.if-not-is_size.false))

pub mask_for-m-requires : goal.mask_for-m-requires
mask_for-m-requires c =
    (c.args.t.now.in_table, alignment_yes c.args.mask (sym c.is_alignment.ensures ∙ c.if-not-is_alignment.false))

pub find_fit-requires : goal.find_fit-requires
find_fit-requires c =
    let t = c.args.t.now in
    (both_ones t.settings t.in_table c.args.mask _ (alignment_yes c.args.mask (sym c.is_alignment.ensures ∙ c.if-not-is_alignment.false)) c.mask_for-m.ensures, omega (arith, c.region_count-k.ensures, c.requires.0.long, c.requires.0.count))

pub returns-in-Some : goal.returns-in-Some
returns-in-Some c =
    let t = c.args.t.now in
    let found = found_is t.settings c.args.h c.args.objects c.args.size c.args.mask t.head.now t.loans.now t.chunks.now t.index.now t.regions.now (found_of c.find_fit.result) _ _ _ c.find_fit.ensures.result_value c.mask_for-m.ensures c.size_for-n.ensures c.region_count-k.ensures in
    let starts = start_is t.settings c.args.h c.args.objects c.args.size c.args.mask t.head.now t.loans.now t.chunks.now t.index.now t.regions.now _ _ _ c.in-Some.fit c.find_fit.result c.in-Some.is c.find_fit.ensures.starts c.mask_for-m.ensures c.size_for-n.ensures c.region_count-k.ensures in
    record {
      result_value = decide_at t.settings c.args.h c.args.objects c.args.size c.args.mask t.head.now t.loans.now t.chunks.now t.index.now t.regions.now _ _ (sym c.is_alignment.ensures ∙ c.if-not-is_alignment.false) (sym c.is_size.ensures ∙ c.if-not-is_size.false) (sym (ap found_of c.in-Some.is) ∙ found) c.decide_take.ensures.result_value;
      planned = c.decide_take.ensures.by_index _ _ _ starts;
    }

pub returns-in-None : goal.returns-in-None
returns-in-None c =
    let t = c.args.t.now in
    let found = found_is t.settings c.args.h c.args.objects c.args.size c.args.mask t.head.now t.loans.now t.chunks.now t.index.now t.regions.now (found_of c.find_fit.result) _ _ _ c.find_fit.ensures.result_value c.mask_for-m.ensures c.size_for-n.ensures c.region_count-k.ensures in
    record {
      result_value = decide_nowhere t.settings c.args.h c.args.objects c.args.size c.args.mask t.head.now t.loans.now t.chunks.now t.index.now t.regions.now _ (sym c.is_alignment.ensures ∙ c.if-not-is_alignment.false) (sym c.is_size.ensures ∙ c.if-not-is_size.false) (sym (ap found_of c.in-None.is) ∙ found) (c.decide_buy.ensures.by_index c.args.size c.size_for-n.ensures);
      planned = carried_is t.settings c.args.h c.args.objects c.args.size c.args.mask t.head.now t.loans.now t.chunks.now t.index.now t.regions.now c.decide_buy.result _ _ c.mask_for-m.ensures c.size_for-n.ensures c.decide_buy.ensures.by_index_2;
    }
