-- Every sound store has what a release asks.
use native.Mathlib.Omega.{arith}
use Rattle.counter.specs.InTable.{FreeListIn}
use Rattle.counter.specs.declared.settings.FreeListSettings.{FreeListSettings}
use Rattle.freelist_rules.specs.Records.{Store}
use Rattle.freelist_rules.specs.Sound.{Sound}
use Rattle.freelist_rules.proofs.Facts.{region_low}
use Rattle.freelist_rules.proofs.GivesBack.{gone_count}
use Rattle.freelist_marks.specs.Releasable.{Releasable}

pub releasable : (s : FreeListSettings) (t : Store) → FreeListIn s → Sound s t → Releasable t.chunks t.regions
releasable s t fit sound =
    record {
      numbers = sound.chunks_rise;
      memories = sound.memories_differ;
      low = region_low s t fit sound;
      few = λ spare. omega (arith, gone_count s t fit sound spare);
    }
