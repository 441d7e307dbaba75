use Rattle.std.proofs.Common.{sym, refl, ◌∙◌, arith}
use Rattle.words.specs.Rows.{rows}
use Rattle.freelist_rules.specs.Records.{chunk_row}
use Rattle.freelist_rules.specs.Seen.{seen}
use Rattle.freelist_rules.proofs.Fits.{lengths_are}
use Rattle.freelist_test.specs.Parts.{lent_ok, live_count}
use Rattle.freelist_test.proofs.Groups.{told_none, told_some, head_chunks, head_regions, lent_few, chunks_rise, chunks_small}
use Rattle.freelist_test.proofs.Whole.{head_fails, loans_fail, chunks_fail, walk_left}
use Rattle.freelist_test.proofs.is_sound.Goals as goal

pub returns-then-not-is_head : goal.returns-then-not-is_head
returns-then-not-is_head c =
    let t = c.args.t.now in
    head_fails t.settings t.head.now t.loans.now t.chunks.now t.index.now t.regions.now c.region_count-n.result c.is_head.result c.region_count-n.ensures c.is_head.ensures c.if-not-is_head.true

pub returns-in_default : goal.returns-in_default
returns-in_default c =
    let t = c.args.t.now in
    let failed = told_none (lent_ok t.settings t.loans.now t.index.now) (live_count t.loans.now) c.are_lent.result c.are_lent.ensures c.in_default.is in
    loans_fail t.settings t.head.now t.loans.now t.chunks.now t.index.now t.regions.now c.region_count-n.result c.is_head.result c.region_count-n.ensures c.is_head.ensures c.if-not-is_head.false _ refl failed

pub are_chunks-requires : goal.are_chunks-requires
are_chunks-requires c =
    let t = c.args.t.now in
    (t.in_table, omega (arith, head_chunks t.settings (seen t) c.region_count-n.result (sym c.is_head.ensures ∙ c.if-not-is_head.false), c.word-k.ensures, t.in_table.store.chunks_most_lem))

pub returns-then-not-are_chunks : goal.returns-then-not-are_chunks
returns-then-not-are_chunks c =
    let t = c.args.t.now in
    let lent = told_some (lent_ok t.settings t.loans.now t.index.now) (live_count t.loans.now) c.are_lent.result c.are_lent.ensures c.in-Some.live c.in-Some.is in
    chunks_fail t.settings t.head.now t.loans.now t.chunks.now t.index.now t.regions.now c.region_count-n.result c.is_head.result c.region_count-n.ensures c.is_head.ensures c.if-not-is_head.false _ refl lent.0 c.word-k.result c.word-size.result c.word-made.result c.are_chunks.result c.word-k.ensures c.word-size.ensures c.word-made.ensures c.are_chunks.ensures c.if-not-are_chunks.true

pub invariant_of-ground : goal.invariant_of-ground
invariant_of-ground c =
    let t = c.args.t.now in
    let long = lengths_are t.settings (seen t) c.requires in
    let head = sym c.is_head.ensures ∙ c.if-not-is_head.false in
    let right = sym c.are_chunks.ensures ∙ c.if-not-are_chunks.false in
    let held = head_chunks t.settings (seen t) c.region_count-n.result head in
    let lent = told_some (lent_ok t.settings t.loans.now t.index.now) (live_count t.loans.now) c.are_lent.result c.are_lent.ensures c.in-Some.live c.in-Some.is in
    let few = lent_few t.settings t.loans.now t.index.now lent.0 in record {
      laid = record {
        chunks_most_lem = omega (arith, held, c.word-k.ensures, t.in_table.store.chunks_most_lem);
        loans_most_lem = t.in_table.store.loans_most_lem;
        few = omega (arith, few, c.word.ensures);
        chunks_long = omega (arith, long.chunks, held, c.word-k.ensures);
        loans_long = omega (arith, long.loans, few, c.word.ensures);
        index_long = omega (arith, long.index);
        regions_long = omega (arith, long.room, head_regions t.settings (seen t) c.region_count-n.result head);
      };
      rise = chunks_rise t.settings c.word-made.result c.word-size.result (rows chunk_row c.word-k.result t.chunks.now) right;
      small = chunks_small t.settings c.word-made.result c.word-size.result (rows chunk_row c.word-k.result t.chunks.now) t.in_table right;
    }

pub walk-requires : goal.walk-requires
walk-requires c =
    let t = c.args.t.now in
    let lent = told_some (lent_ok t.settings t.loans.now t.index.now) (live_count t.loans.now) c.are_lent.result c.are_lent.ensures c.in-Some.live c.in-Some.is in
    omega (arith, lent.1, c.word.ensures)

pub returns : goal.returns
returns c =
    let t = c.args.t.now in
    let lent = told_some (lent_ok t.settings t.loans.now t.index.now) (live_count t.loans.now) c.are_lent.result c.are_lent.ensures c.in-Some.live c.in-Some.is in
    walk_left t.settings t.head.now t.loans.now t.chunks.now t.index.now t.regions.now c.region_count-n.result c.is_head.result c.region_count-n.ensures c.is_head.ensures c.if-not-is_head.false _ refl lent.0 c.word-k.result c.word-size.result c.word-made.result c.are_chunks.result c.word-k.ensures c.word-size.ensures c.word-made.ensures c.are_chunks.ensures c.if-not-are_chunks.false c.word.result c.in-Some.live c.walk.result c.word.ensures lent.1 c.walk.ensures
