use Rattle.slabs.specs.Slab.{vacant_at, link_at}
use Rattle.slabs.proofs.Steps.{parted_within}
use Rattle.store_rules.specs.Loans.{loan_words, size_at}
use Rattle.book_rules.specs.Book.{entry_words, vacant_after_at}
use Rattle.book_rules.proofs.Keeping.{kept_torn, kept_told}
use Rattle.book.proofs.kept.is_led.Goals as goal

pub returns-then-not-parted : goal.returns-then-not-parted
returns-then-not-parted c =
    let a = c.args in
    let told = parted_within (vacant_at a.loans.now size_at loan_words) (link_at a.index.now vacant_after_at entry_words) (record { places = a.places; vacant = c.led_to-last.result }) a.n _ _ c.requires.0.few c.requires.1 c.chain_leads-parted.ensures in
    kept_torn a.loans.now a.index.now a.n a.places a.given _ _ c.led_to-last.ensures told c.if-not-parted.true

pub returns : goal.returns
returns c =
    let a = c.args in
    let told = parted_within (vacant_at a.loans.now size_at loan_words) (link_at a.index.now vacant_after_at entry_words) (record { places = a.places; vacant = c.led_to-last.result }) a.n _ _ c.requires.0.few c.requires.1 c.chain_leads-parted.ensures in
    kept_told a.loans.now a.index.now a.n a.places a.given _ _ c.led_to-last.ensures told c.if-not-parted.false _ c.is_chained.ensures
