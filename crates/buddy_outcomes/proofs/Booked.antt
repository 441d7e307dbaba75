-- A loan entered in a buddy store's book, and its node beside it: the tables are sound when the store with that loan is.
use mathlib.Core.Path.{◌≡◌, refl, sym, ap, ◌∙◌, subst}
use mathlib.Core.Bool.{Bool, true, false, cond, ◌&&◌, not}
use mathlib.Core.Logic.{◌⊎◌, inl, inr, ⊎_elim}
use mathlib.Core.List.{List}
use Prim.Native.Nat.{ℕ, ◌+◌, ◌%◌, ◌≤◌, ◌<◌}
use native.Mathlib.Omega.{arith}
use lib.Dec.{eqb, ltb}
use lib.ListN.{length, get_or, set, length-set}
use lib.Seq.{get_or-set_same, get_or-set_other}
use borrow.Author.Tests.{eq-eqb, ne_eqb, lt-ltb, le-ltb, ltb-true}
use Rattle.lists.proofs.Bools.{told, and_left, same?, lt_or_le}
use Rattle.words.specs.Words.{cell_of, mark_at}
use Rattle.rounding_rules.specs.Raising.{level_of}
use Rattle.counter.specs.InTable.{BuddyIn}
use Rattle.counter.specs.Limits.{levels_most}
use Rattle.counter.specs.declared.settings.BuddySettings.{BuddySettings}
use Rattle.slabs.specs.Slab.{nowhere, Parted, place_of}
use Rattle.slabs.specs.declared.Slab.{Slab}
use Rattle.slabs.proofs.Places.{parted_same}
use Rattle.store_rules.specs.Loans as Loans
use Rattle.store_rules.specs.Loans.{loan, size_at, offset_at}
use Rattle.store_rules.specs.declared.Loan.{Loan}
use Rattle.book_rules.specs.Book.{index_words, taken_of, entered, entered_index}
use Rattle.book_rules.proofs.Columns.{parted_front, chained_front, entered_behind}
use Rattle.book_rules.proofs.Keeps.{BookChained, BookParted, entered_long, entered_wide, taken_where, entered_chained, entered_parted}
use Rattle.book_rules.proofs.Owns.{entered_mark, entered_index_mark}
use Rattle.buddy_trees.specs.Trees.{Tree, bytes}
use Rattle.buddy_trees.proofs.Bytes.{bytes_pos}
use Rattle.buddy_rules.specs.Nodes as Nodes
use Rattle.buddy_rules.specs.Stores.{with}
use Rattle.buddy_rules.specs.Stores as Stores
use Rattle.buddy_rules.specs.Level.{part}
use Rattle.buddy_rules.proofs.Ops.{level_ops}
use Rattle.buddy_rules.specs.Tables.{Tables, tables, Lengths, given_in, levels_in, places_in, chunk_places_in, memory_in, chunk_size_in, chunks_from, place_at, top_at, after_at, place_words, nodes_from, book_words, loan_cell, loan_in, live_in, held_in, high_in, top_in, vacant_chunk, chunk_after, chunk_slab, initial_levels, marks, Signed}
use Rattle.buddy_rules.specs.Moves.{Cut}
use Rattle.buddy_rules.specs.Sound.{Sound}
use Rattle.buddy_rules.proofs.Abstract.{store_of, Sizes, store_trees}
use Rattle.buddy_rules.proofs.Walks.{minimal_pos}
use Rattle.buddy_outcomes.specs.Ask.{booked_tables}
use Rattle.buddy_outcomes.proofs.Same.{sound_as}
use Rattle.buddy_outcomes.proofs.Changed.{few_pairs}
use Rattle.buddy_outcomes.proofs.Heads.{booked_given, booked_places}
use Rattle.buddy_outcomes.proofs.Written.{OfLoan, entered_chunk, entered_offset, entered_size, entered_other}

-- ---- what is asked of the tables before: all but the trees
pub record Kept (s : BuddySettings) (t : Tables) : Type 0 where
  pub signed : Signed marks t
  pub levels_least : initial_levels s ≤ levels_in t
  pub levels_most_lem : levels_in t ≤ levels_most
  pub loans_parted : BookParted t.loans t.index s.store.loans (places_in t)
  pub chained : BookChained t.loans t.index s.store.loans (places_in t) (given_in t)
  pub chunks_parted : Parted (vacant_chunk t) (chunk_after s t) (chunk_slab s t) s.store.chunks
  pub memories_differ : (c d : ℕ) → held_in t c ≡ true → held_in t d ≡ true → memory_in t c ≡ memory_in t d → c ≡ d
  pub sizes : Sizes s t
  pub units : (k : ℕ) → live_in t k ≡ true → ((loan_in s t k).at % (s.store.atom + 1) ≡ 0) × (loan_cell t size_at k % (s.store.atom + 1) ≡ 0)

pub and_no : (a b : Bool) → b ≡ false → (a && b) ≡ false
and_no true b e = e
and_no false b e = refl

-- of the places before p and the new one, those but p are the ones before
pub lower : (x p n m : ℕ) → ((p ≡ n) × (m ≡ n + 1)) ⊎ ((p < n) × (m ≡ n)) → (x ≡ p → ⊥) → ltb x m ≡ ltb x n
lower x p n m w o = by (lt_or_le x n)
  where
    above : n ≤ x → m ≤ x
    above h = ⊎_elim (λ z. ⊎_elim (λ g. absurd (o (omega (arith, z.0, z.1)))) (λ g. g) (lt_or_le x m)) (λ z. omega (arith, z.1)) w

    under : x < n → x < m
    under h = ⊎_elim (λ z. omega (arith, z.1)) (λ z. omega (arith, z.1)) w

    by : (x < n) ⊎ (n ≤ x) → ltb x m ≡ ltb x n
    by (inl h) = lt-ltb x m (under h) ∙ sym (lt-ltb x n h)
    by (inr h) = le-ltb x m (above h) ∙ sym (le-ltb x n h)

module _ (s : BuddySettings) (t : Tables) (fit : BuddyIn s) (lengths : Lengths s t) (c o size : ℕ) (cut : Cut)
    (long : length cut.room ≡ length t.room) where
  abbrev k : ℕ
  k = (taken_of (places_in t) t.index).place

  abbrev q : ℕ
  q = (taken_of (places_in t) t.index).slab.places

  abbrev new : Loan
  new = loan (given_in t + 1) c o size

  -- the index with the loan entered, and its node not yet
  abbrev entries : List ℕ
  entries = entered_index s.store.loans (places_in t) (given_in t + 1) t.index

  abbrev booked : Tables
  booked =
      tables t.head
      (entered (places_in t) t.index new t.loans)
      t.chunks
      (set entries (nodes_from s + (k + 1)) cut.node)
      cut.room

  entries_long : length entries ≡ book_words s
  entries_long = entered_wide s.store.loans (places_in t) (given_in t + 1) t.index ∙ lengths.index

  booked_long : Lengths s booked
  booked_long = record {
    head = lengths.head;
    loans = entered_long (places_in t) t.index new t.loans ∙ lengths.loans;
    chunks = lengths.chunks;
    index = length-set entries (nodes_from s + (k + 1)) cut.node ∙ entries_long;
    room = long ∙ lengths.room;
  }

  pub booked_lengths : Lengths s (booked_tables s c o size cut t)
  unfolding booked_tables
  booked_lengths = booked_long

  -- ---- the counts

  count_given : given_in booked ≡ given_in t + 1
  unfolding booked_tables
  count_given = booked_given s t c o size cut (omega (arith, lengths.loans))

  count_places : places_in booked ≡ q
  unfolding booked_tables
  count_places = booked_places s t c o size cut (omega (arith, lengths.loans))

  module _ (lev : ℕ) (K : Kept s t) (place : (taken_of (places_in t) t.index).place < s.store.loans)
      (level : level_of size s.minimal ≡ lev) (is : size ≡ bytes s.minimal lev) (at_units : o % (s.store.atom + 1) ≡ 0) (size_units : size % (s.store.atom + 1) ≡ 0)
      (past : (i : ℕ) → chunks_from s ≤ i → get_or cut.room i 0 ≡ get_or t.room i 0) (own : get_or cut.room mark_at 0 ≡ get_or t.room mark_at 0) where
    few : s.store.loans < nowhere
    few = omega (arith, fit.store.loans_most_lem)

    some : size ≡ 0 → ⊥
    some e = omega (arith, bytes_pos s.minimal lev (minimal_pos s fit))

    -- ---- the loans' nodes, and the book's entries in front of them

    node_here : get_or booked.index (nodes_from s + (k + 1)) 0 ≡ cut.node
    node_here = get_or-set_same entries (nodes_from s + (k + 1)) cut.node 0 (omega (arith, entries_long))

    node_other : (x : ℕ) → (x ≡ k → ⊥) → get_or booked.index (nodes_from s + (x + 1)) 0 ≡ get_or t.index (nodes_from s + (x + 1)) 0
    node_other x o =
        get_or-set_other entries (nodes_from s + (k + 1)) (nodes_from s + (x + 1)) cut.node 0 (λ e. o (omega arith))
        ∙ entered_behind s.store.loans t.index (nodes_from s + (x + 1)) (omega arith) (places_in t) (given_in t + 1) fit.store.loans_some place

    front : (i : ℕ) → i < index_words s.store.loans → get_or booked.index i 0 ≡ get_or entries i 0
    front i h = get_or-set_other entries (nodes_from s + (k + 1)) i cut.node 0 (λ e. omega arith)

    -- ---- words of the loans

    cell_same : (f x : ℕ) → OfLoan f → (x ≡ k → ⊥) → loan_cell booked f x ≡ loan_cell t f x
    cell_same = entered_other (places_in t) t.index new t.loans s.store.loans lengths.loans place

    size_new : loan_cell booked size_at k ≡ size
    size_new = entered_size (places_in t) t.index new t.loans s.store.loans lengths.loans place

    chunk_new : loan_cell booked Loans.chunk_at k ≡ c
    chunk_new = entered_chunk (places_in t) t.index new t.loans s.store.loans lengths.loans place

    offset_new : loan_cell booked offset_at k ≡ o
    offset_new = entered_offset (places_in t) t.index new t.loans s.store.loans lengths.loans place

    taken : ((k ≡ places_in t) × (q ≡ places_in t + 1)) ⊎ ((k < places_in t) × (q ≡ places_in t))
    taken = ⊎_elim (λ w. inl w) (λ w. inr (w.0, w.2)) (taken_where t.loans t.index s.store.loans (places_in t) few K.loans_parted)

    within_places : k < q
    within_places = ⊎_elim (λ w. omega (arith, w.0, w.1)) (λ w. omega (arith, w.0, w.1)) taken

    live_here : live_in booked k ≡ true
    live_here = rw (count_places, size_new, lt-ltb k q within_places, ne_eqb size 0 some)

    live_other : (j : ℕ) → (j ≡ k → ⊥) → live_in booked j ≡ live_in t j
    live_other j n = rw (count_places, cell_same size_at j (omega arith) n, lower j k (places_in t) q taken n)

    abbrev d : Nodes.Loan
    d = record { chunk = c; at = o; lev = lev; node = cut.node }

    loan_here : loan_in s booked k ≡ d
    loan_here =
        let a = chunk_new in
        let b = offset_new in
        let e : level_of (loan_cell booked size_at k) s.minimal ≡ lev = ap (λ (z : ℕ). level_of z s.minimal) size_new ∙ level in
        let f = node_here in
        (λ j. record { chunk = a j; at = b j; lev = e j; node = f j })

    loan_other : (x : ℕ) → (x ≡ k → ⊥) → loan_in s booked x ≡ loan_in s t x
    loan_other x n =
        let a = cell_same Loans.chunk_at x (omega arith) n in
        let b = cell_same offset_at x (omega arith) n in
        let e = ap (λ (z : ℕ). level_of z s.minimal) (cell_same size_at x (omega arith) n) in
        let f = node_other x n in
        (λ j. record { chunk = a j; at = b j; lev = e j; node = f j })

    live : (j : ℕ) → live_in booked j ≡ with (live_in t) k true j
    live j = ⊎_elim (λ e. rw (eq-eqb j k e) (ap (live_in booked) e ∙ live_here)) (λ n. rw (ne_eqb j k n) (live_other j n)) (same? j k)

    loaned : (j : ℕ) → loan_in s booked j ≡ with (loan_in s t) k d j
    loaned j = ⊎_elim (λ e. rw (eq-eqb j k e) (ap (loan_in s booked) e ∙ loan_here)) (λ n. rw (ne_eqb j k n) (loan_other j n)) (same? j k)

    -- ---- the chunks

    held_low : (b : ℕ) → held_in t b ≡ true → b < s.store.chunks
    held_low b h = omega (arith, ltb-true b (chunk_places_in t) (and_left (ltb b (chunk_places_in t)) (not (eqb (chunk_size_in t b) 0)) h), K.chunks_parted.limit)

    top : (b : ℕ) → top_in s booked b ≡ top_in s t b
    top b = by (told (held_in t b))
      where
        by : (held_in t b ≡ true) ⊎ (held_in t b ≡ false) → cond (held_in t b) (get_or booked.room (cell_of (place_at s top_at) place_words b) 0) 0 ≡ top_in s t b
        by (inl h) =
            let l : b < s.store.chunks = held_low b h in
            rw h (past (cell_of (place_at s top_at) place_words b) (omega arith))
        by (inr h) = rw h

    slab : chunk_slab s t ≡ chunk_slab s booked
    slab =
        let b = sym (past (chunks_from s) (omega arith)) in
        (λ j. record { places = chunk_places_in t; vacant = ap place_of b j })

    chunks_parted : Parted (vacant_chunk t) (chunk_after s booked) (chunk_slab s booked) s.store.chunks
    chunks_parted =
        subst (λ (z : Slab). Parted (vacant_chunk t) (chunk_after s booked) z s.store.chunks) slab
        (parted_same (vacant_chunk t) (vacant_chunk t) (chunk_after s t) (chunk_after s booked) (chunk_slab s t) s.store.chunks (λ x h. refl)
        (λ x h. ap place_of (past (cell_of (place_at s after_at) place_words x) (omega arith))) K.chunks_parted)

    -- ---- what the bytes say

    loan_sized : (j : ℕ) → live_in booked j ≡ true → (j ≡ k) ⊎ (j ≡ k → ⊥) → loan_cell booked size_at j ≡ bytes s.minimal (loan_in s booked j).lev
    loan_sized j h (inl e) = subst (λ (x : ℕ). loan_cell booked size_at x ≡ bytes s.minimal (loan_in s booked x).lev) (sym e) (size_new ∙ is ∙ ap (λ (l : Nodes.Loan). bytes s.minimal l.lev) (sym loan_here))
    loan_sized j h (inr n) = cell_same size_at j (omega arith) n ∙ K.sizes.loans j (sym (live_other j n) ∙ h) ∙ ap (λ (l : Nodes.Loan). bytes s.minimal l.lev) (sym (loan_other j n))

    sizes : Sizes s booked
    sizes = record {
      chunks = K.sizes.chunks;
      loans = λ j h. loan_sized j h (same? j k);
    }

    loan_units : (j : ℕ) → live_in booked j ≡ true → (j ≡ k) ⊎ (j ≡ k → ⊥) → ((loan_in s booked j).at % (s.store.atom + 1) ≡ 0) × (loan_cell booked size_at j % (s.store.atom + 1) ≡ 0)
    loan_units j h (inl e) =
        subst (λ (x : ℕ). (loan_cell booked offset_at x % (s.store.atom + 1) ≡ 0) × (loan_cell booked size_at x % (s.store.atom + 1) ≡ 0)) (sym e)
        (ap (λ (z : ℕ). z % (s.store.atom + 1)) offset_new ∙ at_units, ap (λ (z : ℕ). z % (s.store.atom + 1)) size_new ∙ size_units)
    loan_units j h (inr n) =
        let r = K.units j (sym (live_other j n) ∙ h) in
        (ap (λ (z : ℕ). z % (s.store.atom + 1)) (cell_same offset_at j (omega arith) n) ∙ r.0, ap (λ (z : ℕ). z % (s.store.atom + 1)) (cell_same size_at j (omega arith) n) ∙ r.1)

    -- ---- the whole: W are the levels of the tree that was cut

    module _ (T : ℕ → Tree) (W : ℕ → List ℕ) (levels : (i : ℕ) → i < levels_most → part s.pairs i cut.room ≡ W i)
        (A : Stores.Sound s.minimal (level_ops s.pairs (few_pairs s fit)) (record {
          count = levels_in t;
          levels = W;
          loans = with (loan_in s t) (taken_of (places_in t) t.index).place (record { chunk = c; at = o; lev = lev; node = cut.node });
          live = with (live_in t) (taken_of (places_in t) t.index).place true;
          high = high_in s t;
          top = top_in s t;
        }) T) where
      booked_store : Stores.Sound s.minimal (level_ops s.pairs (few_pairs s fit)) (store_of s (few_pairs s fit) booked) T
      booked_store =
          sound_as s.minimal (level_ops s.pairs (few_pairs s fit)) (minimal_pos s fit) _ (store_of s (few_pairs s fit) booked) T A refl
          (λ i h. levels i (omega (arith, K.levels_most_lem)))
          loaned live (λ b. refl) top

      pub booked_sound : Sound s (booked_tables s c o size cut t)
      unfolding booked_tables
      booked_sound =
          let X = store_trees s (few_pairs s fit) booked T fit booked_long booked_store sizes K.levels_most_lem in
          let n : ℕ = s.store.loans in
          let parted = entered_parted t.loans t.index n (places_in t) few K.loans_parted (given_in t) new lengths.loans (omega (arith, lengths.index)) place refl some in
          record {
            signed =
                record {
                  head = K.signed.head;
                  loans = entered_mark (places_in t) t.index new t.loans ∙ K.signed.loans;
                  chunks = K.signed.chunks;
                  index = front mark_at (omega arith) ∙ entered_index_mark n (places_in t) (given_in t + 1) t.index ∙ K.signed.index;
                  room = own ∙ K.signed.room;
                };
            levels_least = K.levels_least;
            levels_most_lem = K.levels_most_lem;
            loans_parted =
                subst (λ (p : ℕ). BookParted booked.loans booked.index n p) (sym count_places)
                (parted_front n q booked.loans entries booked.index parted.limit front parted);
            chained =
                subst (λ (p : ℕ). BookChained booked.loans booked.index n p (given_in booked)) (sym count_places)
                (subst (λ (g : ℕ). BookChained booked.loans booked.index n q g) (sym count_given)
                (chained_front n q booked.loans entries booked.index parted.limit front (given_in t + 1)
                (entered_chained t.loans t.index n (places_in t) few K.loans_parted (given_in t) new lengths.loans (omega (arith, lengths.index)) place refl some K.chained)));
            chunks_parted = chunks_parted;
            memories_differ = K.memories_differ;
            good = X.1;
            standing = X.0;
            loans_units = λ j h. loan_units j h (same? j k);
          }
