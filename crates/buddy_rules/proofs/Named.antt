-- The trees of a sound buddy store are those that the loans which its user sees make, named by serial instead of place; so what
-- soundness says of trees holds of the chunks and loans that are seen.
use mathlib.Core.Path.{◌≡◌, refl, sym, ap, subst, ◌∙◌}
use mathlib.Core.Bool.{Bool, true, false, cond, not}
use mathlib.Core.Logic.{inl, inr, ◌↔◌}
use mathlib.Core.List.{Memᴰ}
use Prim.Native.Nat.{ℕ, zero, suc, ◌+◌, ◌-◌, ◌<◌}
use native.Mathlib.Omega.{arith}
use lib.Dec.{eqb, ltb}
use borrow.Author.Tests.{ltb-true}
use Rattle.lists.proofs.Bools.{and_left, and_right, not_yes}
use Rattle.words.proofs.Records.{cell_row}
use Rattle.rounding_rules.specs.Raising.{level_of}
use Rattle.counter.specs.InTable.{BuddyIn}
use Rattle.counter.specs.declared.settings.BuddySettings.{BuddySettings}
use Rattle.slabs.specs.Slab.{nowhere}
use Rattle.store_rules.specs.Loans as Loans
use Rattle.store_rules.specs.Loans.{loan_words, serial_at, size_at, offset_at}
use Rattle.store_rules.specs.declared.Chunk.{Chunk}
use Rattle.store_rules.specs.declared.Loan.{Loan}
use Rattle.book_rules.specs.Book.{serial_of}
use Rattle.book_rules.proofs.Decides.{serial_once}
use Rattle.buddy_trees.specs.Trees.{Tree, free, loan, split, Taken, Apart, Wf, Piece, Has, bytes}
use Rattle.buddy_trees.proofs.Canon.{taken_loan, has_who}
use Rattle.buddy_trees.specs.Chunks.{tree_of, piece_of, pieces_in, high_of, tree_in, Standing, lies}
use Rattle.buddy_trees.proofs.Canonical.{tree_is}
use Rattle.buddy_trees.proofs.Ending.{lies_mem}
use Rattle.buddy_trees.proofs.Pieces.{piece_mem}
use Rattle.buddy_rules.specs.Stores.{piece}
use Rattle.buddy_rules.proofs.Frames.{rep_loan}
use Rattle.buddy_rules.specs.Tables.{Tables, given_in, places_in, chunk_size_in, pairs_in, loan_cell, loan_in, live_in, held_in, high_in, top_in, vacant_loan, chain_start, chain_next}
use Rattle.buddy_rules.specs.Sound.{Sound}
use Rattle.buddy_rules.specs.Views.{loans_in, chunks_in}
use Rattle.buddy_rules.proofs.Viewed.{loan_at, live_loan, loan_live, chunk_at, held_seen, seen_held}
use Rattle.buddy_rules.proofs.Walks.{minimal_pos}

-- ---- a tree whose loans have other names

module _ (f : ℕ → ℕ) where
  -- loan k is called f k
  abbrev pub named : Tree → Tree
  named free = free
  named (loan k) = loan (f k)
  named (split a b) = split (named a) (named b)

  -- it is taken where the tree is
  pub named_taken : (t : Tree) → Taken t → Taken (named t)
  named_taken free h = h
  named_taken (loan k) h = tt
  named_taken (split a b) h = tt

  -- its halves are not both free where the tree's are not
  pub named_apart : (a b : Tree) → Apart a b → Apart (named a) (named b)
  named_apart free free h = h
  named_apart free (loan k) h = tt
  named_apart free (split c d) h = tt
  named_apart (loan k) b h = tt
  named_apart (split c d) b h = tt

  -- it is of the same level
  pub named_wf : (l : ℕ) (t : Tree) → Wf l t → Wf l (named t)
  named_wf l free w = tt
  named_wf l (loan k) w = tt
  named_wf zero (split a b) w = absurd w
  named_wf (suc l) (split a b) w = (named_apart a b w.0, named_wf l a w.1, named_wf l b w.2)

  module _ (u : ℕ) where
    -- y is a loan of the node by its other name
    abbrev pub Under : ℕ → ℕ → Tree → Piece → Type 0
    Under l o t y = (x : Piece) × Has u l o t x × (y.at ≡ x.at) × (y.lev ≡ x.lev) × (y.who ≡ f (x.who - 1) + 1)

    -- a loan of the tree with other names is one of the tree
    pub has_under : (l o : ℕ) (t : Tree) (y : Piece) → Has u l o (named t) y → Under l o t y
    has_under l o free y h = absurd h
    has_under l o (loan k) y h =
        let e : k ≡ k + 1 - 1 = omega arith in
        (record { at = o; lev = l; who = k + 1 }, (refl, refl, refl), h.0, h.1, h.2 ∙ ap (λ (j : ℕ). f j + 1) e)
    has_under zero o (split a b) y h = absurd h
    has_under (suc l) o (split a b) y (inl h) = let w = has_under l o a y h in (w.0, inl w.1, w.2, w.3, w.4)
    has_under (suc l) o (split a b) y (inr h) = let w = has_under l (o + bytes u l) b y h in (w.0, inr w.1, w.2, w.3, w.4)

    -- and one of the tree has its other name there
    pub under_has : (l o : ℕ) (t : Tree) (x y : Piece) → Has u l o t x → y.at ≡ x.at → y.lev ≡ x.lev → y.who ≡ f (x.who - 1) + 1 → Has u l o (named t) y
    under_has l o free x y h p q r = absurd h
    under_has l o (loan k) x y h p q r =
        let e : x.who - 1 ≡ k = omega (arith, h.2) in
        (p ∙ h.0, q ∙ h.1, r ∙ ap (λ (j : ℕ). f j + 1) e)
    under_has zero o (split a b) x y h p q r = absurd h
    under_has (suc l) o (split a b) x y (inl h) p q r = inl (under_has l o a x y h p q r)
    under_has (suc l) o (split a b) x y (inr h) p q r = inr (under_has l (o + bytes u l) b x y h p q r)

-- ---- the trees of a sound store

module _ (s : BuddySettings) (t : Tables) where
  -- a loan's name among those that are seen
  abbrev pub serial_at_place : ℕ → ℕ
  serial_at_place k = (loan_at t k).serial

  chunk_cell : (k : ℕ) → loan_cell t Loans.chunk_at k ≡ (loan_at t k).chunk
  chunk_cell k = cell_row t.loans Loans.chunk_at loan_words k

  at_cell : (k : ℕ) → loan_cell t offset_at k ≡ (loan_at t k).offset
  at_cell k = cell_row t.loans offset_at loan_words k

  size_cell : (k : ℕ) → loan_cell t size_at k ≡ (loan_at t k).size
  size_cell k = cell_row t.loans size_at loan_words k

  live_place : (k : ℕ) → live_in t k ≡ true → (k < places_in t) × (vacant_loan t k ≡ false)
  live_place k h =
      let a = ltb k (places_in t) in
      let z = eqb (loan_cell t size_at k) 0 in
      (ltb-true k (places_in t) (and_left a (not z) h), not_yes z (and_right a (not z) h))

  module _ (fit : BuddyIn s) (sound : Sound s t) where
    abbrev u : ℕ
    u = s.minimal

    abbrev T : ℕ → Tree
    T = sound.standing.trees

    -- one loan alone has a serial
    pub serial_place : (j k : ℕ) → live_in t j ≡ true → live_in t k ≡ true → (loan_at t j).serial ≡ (loan_at t k).serial → j ≡ k
    serial_place j k h i e =
        let v = live_place j h in
        let w = live_place k i in
        serial_once (vacant_loan t) (chain_start t) (chain_next t) (serial_of t.loans) s.store.loans (places_in t) (given_in t) j k fit.store.loans_some sound.chained v.0 w.0 v.1 w.1
        (cell_row t.loans serial_at loan_words j ∙ e ∙ sym (cell_row t.loans serial_at loan_words k))

    -- the loan on loan that the piece y of chunk c is
    pub record Owner (c : ℕ) (y : Piece) : Type 0 where
      pub k : ℕ
      pub live : live_in t k ≡ true
      pub chunk : (loan_at t k).chunk ≡ c
      pub at : (loan_at t k).offset ≡ y.at
      pub lev : level_of (loan_at t k).size s.minimal ≡ y.lev
      pub who : y.who ≡ k + 1

    -- what a held chunk's tree has is a loan on loan, with that record
    pub owner : (c : ℕ) (y : Piece) → held_in t c ≡ true → Has s.minimal (high_in s t c) 0 (sound.standing.trees c) y → Owner c y
    owner c y h i =
        let w = has_who u (high_in s t c) 0 (T c) y i in
        let r = rep_loan u (pairs_in s t) (loan_in s t) c (high_in s t c) 0 nowhere (top_in s t c) (T c) y w.0 (sound.standing.rep c h) i w.1 in
        record {
          k = w.0;
          live = sound.standing.is_live c w.0 y h i w.1;
          chunk = sym (chunk_cell w.0) ∙ r.0;
          at = sym (at_cell w.0) ∙ r.1;
          lev = ap (λ (z : ℕ). level_of z u) (sym (size_cell w.0)) ∙ r.2;
          who = w.1;
        }

    -- the loans that are seen of a held chunk are its tree's
    pub seen_has : (c : ℕ) → held_in t c ≡ true → (y : Piece) → Memᴰ y (pieces_in s.minimal c (loans_in t)) ↔ Has s.minimal (high_in s t c) 0 (named serial_at_place (sound.standing.trees c)) y
    seen_has c h y = (there, back)
      where
        there : Memᴰ y (pieces_in u c (loans_in t)) → Has u (high_in s t c) 0 (named serial_at_place (T c)) y
        there m =
            let w = (piece_mem u c (loans_in t) y).0 m in
            let v = loan_live t w.0 w.1 in
            let k = v.0 in
            let e : (loan_in s t k).chunk ≡ c = chunk_cell k ∙ ap (λ (d : Loan). d.chunk) v.2 ∙ w.2 in
            let j : Has u (high_in s t c) 0 (T c) (piece (loan_in s t k) k) = subst (λ (x : ℕ). Has u (high_in s t x) 0 (T x) (piece (loan_in s t k) k)) e (sound.standing.has k v.1).1 in
            let z : k ≡ k + 1 - 1 = omega arith in
            under_has serial_at_place u (high_in s t c) 0 (T c) (piece (loan_in s t k) k) y j
            (ap (λ (p : Piece). p.at) w.3 ∙ ap (λ (d : Loan). d.offset) (sym v.2) ∙ sym (at_cell k))
            (ap (λ (p : Piece). p.lev) w.3 ∙ ap (λ (d : Loan). level_of d.size u) (sym v.2) ∙ ap (λ (x : ℕ). level_of x u) (sym (size_cell k)))
            (ap (λ (p : Piece). p.who) w.3 ∙ ap (λ (d : Loan). d.serial + 1) (sym v.2) ∙ ap (λ (x : ℕ). serial_at_place x + 1) z)

        back : Has u (high_in s t c) 0 (named serial_at_place (T c)) y → Memᴰ y (pieces_in u c (loans_in t))
        back i =
            let w = has_under serial_at_place u (high_in s t c) 0 (T c) y i in
            let o = owner c w.0 h w.1 in
            let z : o.k ≡ w.0.who - 1 = omega (arith, o.who) in
            let at : (loan_at t o.k).offset ≡ y.at = o.at ∙ sym w.2 in
            let lev : level_of (loan_at t o.k).size u ≡ y.lev = o.lev ∙ sym w.3 in
            let who : (loan_at t o.k).serial + 1 ≡ y.who = ap (λ (x : ℕ). serial_at_place x + 1) z ∙ sym w.4 in
            let e : y ≡ piece_of u (loan_at t o.k) = sym (λ j. record { at = at j; lev = lev j; who = who j }) in
            (piece_mem u c (loans_in t) y).1 (loan_at t o.k, live_loan t o.k o.live, o.chunk, e)

    -- so the tree that they make is that of soundness, with serials for places
    pub tree_named : (c : ℕ) → held_in t c ≡ true → tree_of s.minimal (high_in s t c) 0 (pieces_in s.minimal c (loans_in t)) ≡ named serial_at_place (sound.standing.trees c)
    tree_named c h =
        tree_is u (minimal_pos s fit) (high_in s t c) 0 (named serial_at_place (T c)) (pieces_in u c (loans_in t)) (named_wf serial_at_place (high_in s t c) (T c) (sound.standing.wf c h)) (seen_has c h)

    -- ---- the chunks that are seen

    -- how high one is, by its size
    pub high_seen : (c : Chunk) → Memᴰ c (chunks_in t) → high_of s.minimal c ≡ high_in s t c.number
    high_seen c m =
        let w = seen_held t c m in
        ap (λ (d : Chunk). level_of d.size u) w.1 ∙ ap (λ (b : Bool). cond b (level_of (chunk_size_in t c.number) u) 0) (sym w.0)

    -- the tree that its loans make
    pub tree_seen : (c : Chunk) → Memᴰ c (chunks_in t) → tree_in s.minimal (loans_in t) c ≡ named serial_at_place (sound.standing.trees c.number)
    tree_seen c m =
        ap (λ (l : ℕ). tree_of u l 0 (pieces_in u c.number (loans_in t))) (high_seen c m) ∙ tree_named c.number (seen_held t c m).0

    -- what soundness says of chunks and loans holds of those that are seen
    pub standing : Standing s.minimal (loans_in t) (chunks_in t)
    standing =
        let N : Chunk → Tree = λ c. named serial_at_place (T c.number) in
        record {
          sized = λ c m.
              let w = seen_held t c m in
              let z = sound.standing.sized c.number w.0 in
              (ap (λ (d : Chunk). d.size) w.1 ∙ z.0 ∙ ap (bytes u) (sym (high_seen c m)), subst (λ (l : ℕ). 0 < l) (sym (high_seen c m)) z.1);
          loans_sized = λ l m.
              let v = loan_live t l m in
              subst (λ (z : ℕ). z ≡ bytes u (level_of z u)) (size_cell v.0 ∙ ap (λ (d : Loan). d.size) v.2) (sound.standing.loans_sized v.0 v.1);
          held = λ l m.
              let v = loan_live t l m in
              let c = (loan_in s t v.0).chunk in
              (chunk_at t c, held_seen t c (sound.standing.has v.0 v.1).0, chunk_cell v.0 ∙ ap (λ (d : Loan). d.chunk) v.2);
          wf = λ c m.
              subst (λ (x : Tree). Wf (high_of u c) x) (sym (tree_seen c m))
              (named_wf serial_at_place (high_of u c) (T c.number) (subst (λ (l : ℕ). Wf l (T c.number)) (sym (high_seen c m)) (sound.standing.wf c.number (seen_held t c m).0)));
          taken = λ c m.
              subst Taken (sym (tree_seen c m)) (named_taken serial_at_place (T c.number) (sound.standing.taken c.number (seen_held t c m).0));
          has = λ c m y.
              subst (λ (x : Tree). Memᴰ y (pieces_in u c.number (loans_in t)) ↔ Has u (high_of u c) 0 x y) (sym (tree_seen c m))
              (subst (λ (l : ℕ). Memᴰ y (pieces_in u c.number (loans_in t)) ↔ Has u l 0 (N c) y) (sym (high_seen c m)) (seen_has c.number (seen_held t c m).0 y));
          numbers = λ c d m n e. (seen_held t c m).1 ∙ ap (chunk_at t) e ∙ sym (seen_held t d n).1;
          serials = λ k l m n e.
              let v = loan_live t k m in
              let w = loan_live t l n in
              let f : (loan_at t v.0).serial ≡ (loan_at t w.0).serial = ap (λ (d : Loan). d.serial) v.2 ∙ e ∙ ap (λ (d : Loan). d.serial) (sym w.2) in
              sym v.2 ∙ ap (loan_at t) (serial_place v.0 w.0 v.1 w.1 f) ∙ w.2;
        }

    -- each chunk has a loan
    pub has_loan : (c : Chunk) → Memᴰ c (chunks_in t) → lies (loans_in t) c ≡ true
    has_loan c m =
        let h = (seen_held t c m).0 in
        let y = taken_loan u (high_in s t c.number) 0 (T c.number) (sound.standing.wf c.number h) (sound.standing.taken c.number h) in
        let o = owner c.number y.0 h y.1 in
        (lies_mem (loans_in t) c).1 (loan_at t o.k, live_loan t o.k o.live, o.chunk)
