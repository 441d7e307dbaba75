-- The buddy stays sound and filled as an engine has to, and lends good blocks.
use mathlib.Core.Path.{sym, ap, ◌∙◌}
use mathlib.Core.Bool.{true}
use Rattle.counter.specs.InTable.{BuddyIn}
use Rattle.counter.specs.declared.settings.BuddySettings.{BuddySettings}
use Rattle.store_rules.specs.Views.{Filled, Differ, Apart}
use Rattle.store_rules.specs.declared.Chunk.{Chunk}
use Rattle.store_rules.specs.declared.Loan.{Loan}
use Rattle.engines.specs.Keeps.{Keeps, Lends}
use Rattle.buddy_trees.proofs.Filling.{filled}
use Rattle.buddy_trees.proofs.Onces.{distinct_by}
use Rattle.buddy_rules.specs.Sound.{Sound}
use Rattle.buddy_rules.specs.Tables.{Tables}
use Rattle.buddy_rules.specs.Views.{loans_in, chunks_in, view_of}
use Rattle.buddy_rules.proofs.Named.{standing}
use Rattle.buddy_rules.proofs.Onces.{loans_once, chunks_once}
use Rattle.buddy_rules.proofs.Viewed.{chunk_at, seen_held}
use Rattle.buddy_rules.proofs.Walks.{minimal_pos}
use Rattle.buddy_outcomes.proofs.Again.{ask_again, deliver_again, return_again}
use Rattle.buddy_outcomes.proofs.Blocks.{ask_block, deliver_block}
use Rattle.buddy_outcomes.proofs.Delivered.{deliver_sound}
use Rattle.buddy_outcomes.proofs.Fitted.{orders_when}
use Rattle.buddy_outcomes.proofs.Passing.{gate_passed}
use Rattle.buddy_outcomes.proofs.Returned.{return_sound}
use Rattle.buddy_outcomes.proofs.Sounds.{is_begun, set_up_sound, ask_sound}
use Rattle.buddy_engine.specs.Shape.{buddy_shape}
use Rattle.buddy_engine.proofs.Fitting.{set_up_fits, still_long}
use Rattle.buddy_engine.proofs.Unjoined.{unjoined}

-- blocks on loan and free pieces fill each held chunk
fills : (s : BuddySettings) (t : Tables) → BuddyIn s → Sound s t → Filled (view_of s t)
fills s t fit sound = filled s.minimal (minimal_pos s fit) (loans_in t) (chunks_in t) (standing s t fit sound) (loans_once s t fit sound) (chunks_once t)

-- no serial, chunk number or memory number stands for two
apart : (s : BuddySettings) (t : Tables) → BuddyIn s → Sound s t → Apart (view_of s t)
apart s t fit sound =
    let stands = standing s t fit sound in
    record {
      serials = distinct_by (λ (l : Loan). l.serial) (loans_in t) (loans_once s t fit sound) stands.serials;
      numbers = distinct_by (λ (c : Chunk). c.number) (chunks_in t) (chunks_once t) stands.numbers;
      memories = distinct_by (λ (c : Chunk). c.memory) (chunks_in t) (chunks_once t) memories_differ;
    }
  where
    memories_differ : Differ (λ (c : Chunk). c.memory) (chunks_in t)
    memories_differ c d m k e =
        let v = seen_held t c m in
        let w = seen_held t d k in
        let same = sound.memories_differ c.number d.number v.0 w.0 (sym (ap (λ (x : Chunk). x.memory) v.1) ∙ e ∙ ap (λ (x : Chunk). x.memory) w.1) in
        v.1 ∙ ap (chunk_at t) same ∙ sym w.1

-- the buddy stays sound, passes its tests again, and is filled
pub keeps : Keeps buddy_shape
keeps =
    record {
      set_up_sound = λ s t e. set_up_sound s t (is_begun s t e);
      ask_sound = λ s a size mask t sound. ask_sound s a size mask t sound;
      deliver_sound = λ s a o t sound. deliver_sound s a o t sound;
      return_sound = λ s a b t list sound. return_sound s a b t list sound;
      other_sound = λ s a c t list sound. absurd c;
      set_up_fits = λ s t e. set_up_fits s t e;
      fits_stays = λ s a t c fits sound. (fits.0, still_long s a t fits.0 fits.1 sound c);
      ask_again = λ s a t typed passes size mask none. ask_again s a t typed passes size mask none;
      deliver_again = λ s a o t typed passes none. deliver_again s a o t typed passes none;
      return_again = λ s a t typed passes b list. return_again s a t typed passes b list;
      other_again = λ s a t typed passes c list. absurd c;
      passed_fits = λ s a t passes. let p = gate_passed s a t true (sym passes) in (p.lent.settings, p.lent.lengths);
      passed_sound = λ s a t passes. (gate_passed s a t true (sym passes)).sound;
      filled = λ s t fits sound. fills s t fits.0 sound;
      apart = λ s t fits sound. apart s t fits.0 sound;
      unjoined = λ s t fits sound. unjoined s.minimal (minimal_pos s fits.0) (loans_in t) (chunks_in t) (standing s t fits.0 sound);
      loans_seen = λ s t l. ((λ m. m), (λ m. m));
    }

-- the buddy lends good blocks, and orders a chunk exactly when none that is held has room
pub lends : Lends buddy_shape
lends =
    record {
      ask_block = λ s a size mask t serial number offset len e. ask_block s a size mask t serial number offset len e;
      deliver_block = λ s a o t serial number offset len e. deliver_block s a o t serial number offset len e;
      orders_when = λ s a size mask t f. orders_when s a size mask t f;
    }
