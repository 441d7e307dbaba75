-- What the words of chunks and tree say when a chunk's place has been vacated, or has not.
use mathlib.Core.Path.{◌≡◌, refl, sym, ap, subst, ◌∙◌}
use mathlib.Core.Bool.{Bool, true, false, cond, not, ◌&&◌, and-false}
use mathlib.Core.Logic.{◌⊎◌, inl, inr, ⊎_elim}
use mathlib.Core.List.{List}
use Prim.Native.Nat.{ℕ, ◌+◌, ◌-◌, ◌≤◌, ◌<◌}
use native.Mathlib.Nat.{mul-suc}
use native.Mathlib.Omega.{arith}
use lib.Dec.{eqb, ltb}
use lib.ListN.{length, length-set, get_or, set, take, drop}
use lib.Seq.{get_or-set_same, get_or-set_other, drop-set-add, take-set-le}
use borrow.Author.Tests.{eq-eqb, ne_eqb}
use Rattle.lists.proofs.Bools.{same?, true_false}
use Rattle.words.specs.Words.{cell_of, mark_at}
use Rattle.rounding_rules.specs.Raising.{level_of}
use Rattle.counter.specs.Limits.{levels_most}
use Rattle.counter.specs.declared.settings.BuddySettings.{BuddySettings}
use Rattle.slabs.specs.Slab.{place_of, record_of, link_at, removed, removed_links, Parted, changed}
use Rattle.slabs.specs.declared.Slab.{Slab}
use Rattle.slabs.proofs.Links.{place_record}
use Rattle.slabs.proofs.Places.{link_here, link_other, parted_same, removed_parted, vacant_set}
use Rattle.buddy_rules.specs.Stores.{with}
use Rattle.buddy_rules.specs.Level.{level_words, part, level_start}
use Rattle.buddy_rules.specs.Tables.{Tables, tables, Lengths, chunk_words, memory_at, chunk_size_at, chunk_places_in, memory_in, chunk_size_in, chunks_from, place_at, top_at, after_at, place_words, held_in, high_in, top_in, vacant_chunk, chunk_after, chunk_slab}
use Rattle.buddy_rules.proofs.Abstract.{levels_in_lem}
use Rattle.buddy_outcomes.specs.Return.{vacated_tree}
use Rattle.buddy_outcomes.proofs.Heads.{left_chunk_places}

-- a word past a level is none of its
part_past : (pairs i j v : ℕ) (t : List ℕ) → level_start pairs (i + 1) ≤ j → part pairs i (set t j v) ≡ part pairs i t
part_past pairs i j v t h =
    let m = level_words pairs in
    let b = level_start pairs i in
    let e : j ≡ b + (j - b) = omega (arith, mul-suc m i) in
    let k : m ≤ j - b = omega (arith, mul-suc m i) in
    ap (λ (x : ℕ). part pairs i (set t x v)) e ∙ ap (take m) (drop-set-add b t (j - b) v) ∙ take-set-le m (drop b t) (j - b) v k

-- tree is t's but for the levels, and c is a chunk place
pub record Past (s : BuddySettings) (t : Tables) (c : ℕ) (tree : List ℕ) : Type 0 where
  pub same : (i : ℕ) → chunks_from s ≤ i → get_or tree i 0 ≡ get_or t.room i 0
  pub long : length tree ≡ length t.room
  pub inside : c < s.store.chunks

module _ (s : BuddySettings) (t : Tables) (c : ℕ) (tree loans index : List ℕ) where
  -- the tables with this tree, these loans and this index, and the place c vacated, or not
  abbrev pub tables_by : Bool → Tables
  tables_by f = tables t.head loans (cond f (set t.chunks (cell_of chunk_size_at chunk_words c) 0) t.chunks) index (cond f (vacated_tree s c tree) tree)

  abbrev after : ℕ
  after = cell_of (place_at s after_at) place_words c

  abbrev linked : List ℕ
  linked = set tree after (get_or tree (chunks_from s) 0)

  -- the marks of the chunks and of the tree stay
  pub chunks_mark_by : (f : Bool) → get_or (tables_by f).chunks mark_at 0 ≡ get_or t.chunks mark_at 0
  chunks_mark_by true = get_or-set_other t.chunks (cell_of chunk_size_at chunk_words c) mark_at 0 0 (λ e. omega arith)
  chunks_mark_by false = refl

  -- and so do the chunk places in use
  places_by : (f : Bool) → chunk_places_in (tables_by f) ≡ chunk_places_in t
  places_by = left_chunk_places c t.chunks

  pub tree_mark_by : (f : Bool) → get_or (tables_by f).room mark_at 0 ≡ get_or tree mark_at 0
  unfolding vacated_tree
  tree_mark_by true = get_or-set_other linked (chunks_from s) mark_at (record_of c) 0 (λ e. omega arith) ∙ get_or-set_other tree after mark_at (get_or tree (chunks_from s) 0) 0 (λ e. omega arith)
  tree_mark_by false = refl

  module _ (lengths : Lengths s t) (p : Past s t c tree) where
    -- ---- the tree

    pub part_by : (f : Bool) (i : ℕ) → i < levels_most → part s.pairs i (tables_by f).room ≡ part s.pairs i tree
    unfolding vacated_tree
    part_by true i h =
        let k : level_start s.pairs (i + 1) ≤ chunks_from s = levels_in_lem s i h in
        part_past s.pairs i (chunks_from s) (record_of c) linked k ∙ part_past s.pairs i after (get_or tree (chunks_from s) 0) tree (omega arith)
    part_by false i h = refl

    word_by : (f : Bool) (j : ℕ) → chunks_from s < j → (j ≡ cell_of (place_at s after_at) place_words c → ⊥) → get_or (tables_by f).room j 0 ≡ get_or t.room j 0
    unfolding vacated_tree
    word_by true j h n =
        get_or-set_other linked (chunks_from s) j (record_of c) 0 (λ e. omega arith)
        ∙ get_or-set_other tree after j (get_or tree (chunks_from s) 0) 0 n
        ∙ p.same j (omega arith)
    word_by false j h n = p.same j (omega arith)

    pub tree_by : (f : Bool) → length (tables_by f).room ≡ length t.room
    unfolding vacated_tree
    tree_by true = length-set linked (chunks_from s) (record_of c) ∙ length-set tree after (get_or tree (chunks_from s) 0) ∙ p.long
    tree_by false = p.long

    -- ---- the chunks

    cell_in : cell_of chunk_size_at chunk_words c < length t.chunks
    cell_in = omega (arith, lengths.chunks, p.inside)

    pub chunks_by : (f : Bool) → length (tables_by f).chunks ≡ length t.chunks
    chunks_by true = length-set t.chunks (cell_of chunk_size_at chunk_words c) 0
    chunks_by false = refl

    pub memory_by : (f : Bool) (x : ℕ) → memory_in (tables_by f) x ≡ memory_in t x
    memory_by true x = get_or-set_other t.chunks (cell_of chunk_size_at chunk_words c) (cell_of memory_at chunk_words x) 0 0 (λ e. omega arith)
    memory_by false x = refl

    -- a place stays as it was, or is the one that is vacated
    abbrev Stays : Bool → ℕ → Type 0
    Stays f x = (chunk_size_in (tables_by f) x ≡ chunk_size_in t x) × ((x ≡ c) → f ≡ false)

    abbrev Leaves : Bool → ℕ → Type 0
    Leaves f x = (held_in (tables_by f) x ≡ false) × (x ≡ c) × (f ≡ true)

    chunk_cases : (f : Bool) (x : ℕ) → Stays f x ⊎ Leaves f x
    chunk_cases true x = by (same? x c)
      where
        by : (x ≡ c) ⊎ (x ≡ c → ⊥) → Stays true x ⊎ Leaves true x
        by (inl e) =
            let z : chunk_size_in (tables_by true) x ≡ 0 = ap (chunk_size_in (tables_by true)) e ∙ get_or-set_same t.chunks (cell_of chunk_size_at chunk_words c) 0 0 cell_in in
            inr (ap (λ (v : ℕ). ltb x (chunk_places_in (tables_by true)) && not (eqb v 0)) z ∙ and-false (ltb x (chunk_places_in (tables_by true))), e, refl)
        by (inr n) = inl (get_or-set_other t.chunks (cell_of chunk_size_at chunk_words c) (cell_of chunk_size_at chunk_words x) 0 0 (λ e. n (omega arith)), λ e. absurd (n e))
    chunk_cases false x = inl (refl, λ e. refl)

    held_stays : (f : Bool) (x : ℕ) → Stays f x → held_in (tables_by f) x ≡ held_in t x
    held_stays f x z = (λ j. ltb x (places_by f j) && not (eqb (z.0 j) 0))

    high_stays : (f : Bool) (x : ℕ) → Stays f x → high_in s (tables_by f) x ≡ high_in s t x
    high_stays f x z = (λ j. cond (held_stays f x z j) (level_of (z.0 j) s.minimal) 0)

    top_stays : (f : Bool) (x : ℕ) → Stays f x → top_in s (tables_by f) x ≡ top_in s t x
    top_stays f x z =
        ap (λ (h : Bool). cond h (get_or (tables_by f).room (cell_of (place_at s top_at) place_words x) 0) 0) (held_stays f x z)
        ∙ ap (λ (v : ℕ). cond (held_in t x) v 0) (word_by f (cell_of (place_at s top_at) place_words x) (omega arith) (λ e. omega arith))

    -- what is held still was so, and is as it was
    pub still_held : (f : Bool) (x : ℕ) → held_in (tables_by f) x ≡ true → (held_in t x ≡ true) × (chunk_size_in (tables_by f) x ≡ chunk_size_in t x) × (high_in s (tables_by f) x ≡ high_in s t x)
    still_held f x h = ⊎_elim (λ z. (sym (held_stays f x z) ∙ h, z.0, high_stays f x z)) (λ z. absurd (true_false _ h z.0)) (chunk_cases f x)

    -- what is told of each chunk is 0 at the vacated place
    with_stays : (f : Bool) (g : ℕ → ℕ) (x : ℕ) → ((x ≡ c) → f ≡ false) → g x ≡ with g c (cond f 0 (g c)) x
    with_stays f g x z = ⊎_elim (λ e. rw (eq-eqb x c e, z e) (ap g e)) (λ n. rw (ne_eqb x c n) refl) (same? x c)

    with_leaves : (f : Bool) (g : ℕ → ℕ) (x : ℕ) → x ≡ c → f ≡ true → 0 ≡ with g c (cond f 0 (g c)) x
    with_leaves f g x e z = rw (eq-eqb x c e, z)

    pub high_by : (f : Bool) (x : ℕ) → high_in s (tables_by f) x ≡ with (high_in s t) c (cond f 0 (high_in s t c)) x
    high_by f x = ⊎_elim
        (λ z. high_stays f x z ∙ with_stays f (high_in s t) x z.1)
        (λ z. ap (λ (h : Bool). cond h (level_of (chunk_size_in (tables_by f) x) s.minimal) 0) z.0 ∙ with_leaves f (high_in s t) x z.1 z.2)
        (chunk_cases f x)

    pub top_by : (f : Bool) (x : ℕ) → top_in s (tables_by f) x ≡ with (top_in s t) c (cond f 0 (top_in s t c)) x
    top_by f x = ⊎_elim
        (λ z. top_stays f x z ∙ with_stays f (top_in s t) x z.1)
        (λ z. ap (λ (h : Bool). cond h (get_or (tables_by f).room (cell_of (place_at s top_at) place_words x) 0) 0) z.0 ∙ with_leaves f (top_in s t) x z.1 z.2)
        (chunk_cases f x)

    -- ---- their places

    -- it leads to the place vacated last until now, as when a slab loses it
    relinked : (x : ℕ) → chunk_after s (tables_by true) x ≡ link_at (set tree after (record_of (chunk_slab s t).vacant)) (place_at s after_at) place_words x
    unfolding vacated_tree
    relinked x =
        let at = place_at s after_at in
        let old = get_or tree (chunks_from s) 0 in
        let v = (chunk_slab s t).vacant in
        let there : cell_of at place_words c < length tree = omega (arith, p.long, p.inside, lengths.room) in
        ap place_of (get_or-set_other linked (chunks_from s) (cell_of at place_words x) (record_of c) 0 (λ e. omega arith))
        ∙ ⊎_elim
        (λ e. rw e (ap place_of (get_or-set_same tree after old 0 there ∙ p.same (chunks_from s) (omega arith)) ∙ sym (link_here tree at place_words c v there)))
        (λ n. link_other tree at place_words c old x (omega arith) n ∙ sym (link_other tree at place_words c (record_of v) x (omega arith) n))
        (same? x c)

    pub parted_by : (f : Bool) → c < chunk_places_in t → vacant_chunk t c ≡ false → Parted (vacant_chunk t) (chunk_after s t) (chunk_slab s t) s.store.chunks
        → Parted (vacant_chunk (tables_by f)) (chunk_after s (tables_by f)) (chunk_slab s (tables_by f)) s.store.chunks
    unfolding vacated_tree removed removed_links
    parted_by true h u P =
        let m = s.store.chunks in
        let at = place_at s after_at in
        let free = vacant_chunk t in
        let t' = tables_by true in
        let v = record_of (chunk_slab s t).vacant in
        let Q = parted_same free free (chunk_after s t) (link_at tree at place_words) (chunk_slab s t) m (λ x i. refl) (λ x i. ap place_of (p.same (cell_of at place_words x) (omega arith))) P in
        let R = removed_parted free tree at place_words (chunk_slab s t) m c Q h u (omega (arith, p.long, p.inside, lengths.room)) (omega arith) in
        let first : (chunk_slab s t').vacant ≡ c = ap place_of (get_or-set_same linked (chunks_from s) (record_of c) 0 (omega (arith, length-set tree after (get_or tree (chunks_from s) 0), p.long, lengths.room))) ∙ place_record c in
        let n = places_by true in
        subst (λ (y : Slab). Parted (vacant_chunk t') (chunk_after s t') y m) (λ j. record { places = sym n j; vacant = sym first j })
        (parted_same (changed free c true) (vacant_chunk t') (link_at (set tree after v) at place_words) (chunk_after s t') (record { places = chunk_places_in t; vacant = c }) m
        (λ x i. vacant_set t.chunks chunk_size_at chunk_words c 0 x (omega arith) cell_in) (λ x i. relinked x) R)
    parted_by false h u P =
        let m = s.store.chunks in
        let at = place_at s after_at in
        subst (λ (y : ℕ). Parted (vacant_chunk t) (link_at tree at place_words) (record { places = chunk_places_in t; vacant = y }) m) (ap place_of (sym (p.same (chunks_from s) (omega arith))))
        (parted_same (vacant_chunk t) (vacant_chunk t) (chunk_after s t) (link_at tree at place_words) (chunk_slab s t) m (λ x i. refl) (λ x i. ap place_of (p.same (cell_of at place_words x) (omega arith))) P)
