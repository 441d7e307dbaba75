-- Sound tables of the right lengths have every word that an ask reads, and every one that a return looks for.
use Prim.Native.Nat.{ℕ, ◌+◌, ◌≤◌, ◌<◌}
use native.Mathlib.Omega.{arith}
use lib.ListN.{length}
use Rattle.counter.specs.InTable.{BuddyIn}
use Rattle.counter.specs.Limits.{levels_most}
use Rattle.counter.specs.declared.settings.BuddySettings.{BuddySettings}
use Rattle.book_rules.specs.Ready.{Reads}
use Rattle.buddy_rules.specs.Level.{level_words}
use Rattle.buddy_rules.specs.Tables.{Tables, Lengths, levels_in, places_in, level_from}
use Rattle.buddy_rules.proofs.Abstract.{levels_in_lem}
use Rattle.buddy_levels.specs.Stands.{Takes}
use Rattle.buddy_levels.proofs.Standing.{good_takes}
use Rattle.buddy_rules.specs.Sound.{Sound}
use Rattle.buddy_decide.specs.Sees.{Sees}

module _ (s : BuddySettings) (t : Tables) (fit : BuddyIn s) (lengths : Lengths s t) (sound : Sound s t) where
  pub book_reads : Reads s.store.loans (places_in t) t.loans t.index
  book_reads =
      record {
        some = fit.store.loans_some;
        most = fit.store.loans_most_lem;
        loans_long = lengths.loans;
        index_long = omega (arith, lengths.index);
        few = sound.loans_parted.limit;
      }

  level_takes : (l : ℕ) → l < levels_in t → Takes (level_from s l) t.room
  level_takes l h =
      let low : l < levels_most = omega (arith, h, sound.levels_most_lem) in
      let long : level_from s l + level_words s.pairs ≤ length t.room = omega (arith, levels_in_lem s l low, lengths.room) in
      good_takes (level_from s l) s.pairs t.room (sound.good l h) long

  pub sees : Sees s t.head t.loans t.index t.room
  sees =
      record {
        fit = fit;
        levels = sound.levels_most_lem;
        head_long = omega (arith, lengths.head);
        book = book_reads;
        tree_long = omega (arith, lengths.room);
        takes = λ l h. level_takes l h;
      }
