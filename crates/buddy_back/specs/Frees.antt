-- What a return frees. 01, "buddy.rs": above the top the chunk is released.
use Rattle.std.specs.Prelude.{cond, List, [], ◌∷◌, ℕ}
use Rattle.std.proofs.lemmas.List.Edits.{sets}
use Rattle.counter.specs.declared.answers.Block.{Block}
use Rattle.counter.specs.declared.settings.BuddySettings.{BuddySettings}
use Rattle.buddy_rules.specs.Tables.{Tables, memory_in, chunk_size_in}
use Rattle.buddy_outcomes.specs.Return.{climb_for}
use Rattle.buddy_back.specs.declared.freeing.Freed.{Freed}

-- how many chunks go, and what they have: the block's or none
abbrev pub freed_by : BuddySettings → Block → ℕ → Tables → Freed
freed_by s b w t = cond (climb_for s b w t).freed (record { count = 1; bytes = chunk_size_in t b.chunk }) (record { count = 0; bytes = 0 })

-- the list then: that chunk's memory number stands at its front
abbrev pub freed_list : BuddySettings → Block → ℕ → Tables → List ℕ → List ℕ
freed_list s b w t list = cond (climb_for s b w t).freed (sets list 0 (memory_in t b.chunk ∷ [])) list
