-- Whether a memory number is held, chunk by chunk.
use mathlib.Core.Path.{◌≡◌, refl, sym, ap, ◌∙◌}
use mathlib.Core.Bool.{Bool, true, false, ◌||◌}
use mathlib.Core.List.{List, [], ◌∷◌, ◌++◌}
use Prim.Native.Nat.{ℕ, ◌+◌}
use lib.Dec.{eqb}
use lib.ListN.{get_or}
use Rattle.words.specs.Words.{cell_of}
use Rattle.words.specs.Rows.{row, rows}
use Rattle.words.proofs.Records.{cell_row, rows_snoc}
use Rattle.counter.specs.declared.answers.Memory.{Memory}
use Rattle.counter.specs.declared.answers.Outcome.{Outcome}
use Rattle.counter.specs.declared.answers.Outcome.TheVariants as O
use Rattle.store_rules.specs.Delivery.{holds}
use Rattle.store_rules.specs.declared.Chunk.{Chunk}
use Rattle.store.specs.Comings.{known_in}
use Rattle.freelist_rules.specs.Records.{chunk_words, chunk_row, chunk_memory_at}
use Rattle.freelist_rules.specs.Tables.{chunks_at}
use Rattle.freelist_rules.specs.Walk.{memories}

held_snoc : (m : ℕ) (cs : List Chunk) (c : Chunk) → holds m (memories (cs ++ (c ∷ []))) ≡ (holds m (memories cs) || eqb c.memory m)
held_snoc m [] c = last (eqb c.memory m)
  where
    last : (b : Bool) → (b || false) ≡ b
    last true = refl
    last false = refl
held_snoc m (d ∷ cs) c = next (eqb d.memory m) (holds m (memories cs)) (eqb c.memory m) (held_snoc m cs c)
  where
    next : (a b d : Bool) {x : Bool} → x ≡ (b || d) → (a || x) ≡ ((a || b) || d)
    next true b d e = refl
    next false b d e = e

pub held_next : (m i v : ℕ) (b : Bool) (t : List ℕ) → b ≡ holds m (memories (rows chunk_row i t)) → v ≡ get_or t (cell_of chunk_memory_at chunk_words i) 0 → (b || eqb v m) ≡ holds m (memories (rows chunk_row (i + 1) t))
held_next m i v b t e c =
    let g : v ≡ (row chunk_row i t).memory = c ∙ cell_row t chunk_memory_at chunk_words i in
    (λ j. e j || eqb (g j) m) ∙ sym (ap (λ (cs : List Chunk). holds m (memories cs)) (rows_snoc chunk_row i t) ∙ held_snoc m (rows chunk_row i t) (row chunk_row i t))

pub known_made : (k : ℕ) (r : Bool) (t : List ℕ) (o : Outcome) (d : Memory) → o ≡ O.Made d → k ≡ get_or t chunks_at 0 → r ≡ holds d.number (memories (rows chunk_row k t)) → r ≡ known_in (memories (rows chunk_row (get_or t chunks_at 0) t)) o
known_made k r t o d e f g = g ∙ ap (λ (n : ℕ). holds d.number (memories (rows chunk_row n t))) f ∙ ap (known_in (memories (rows chunk_row (get_or t chunks_at 0) t))) (sym e)
