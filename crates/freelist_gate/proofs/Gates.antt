-- The gate's tests in the code's words.
use mathlib.Core.Path.{◌≡◌, refl, sym, ap, ◌∙◌}
use mathlib.Core.Bool.{Bool, true, false, ◌&&◌}
use mathlib.Core.List.{List, [], ◌∷◌}
use Prim.Native.Nat.{ℕ, ◌+◌, ◌*◌}
use native.Mathlib.Omega.{arith}
use lib.Dec.{eqb}
use lib.ListN.{length, get_or}
use Rattle.lists.proofs.Bools.{and_left}
use Rattle.words.specs.Words.{cell_of}
use Rattle.words.specs.Rows.{row, rows}
use Rattle.words.proofs.Records.{cell_row, rows_snoc}
use Rattle.counter.specs.Account.{heap_at}
use Rattle.counter.specs.Gate.{Verdict, pass, refuse}
use Rattle.counter.specs.Table.{free_list_ok, heap_ok, heaps_ok}
use Rattle.counter.specs.declared.account.Account.{Account}
use Rattle.counter.specs.declared.account.Heap.{Heap}
use Rattle.counter.specs.declared.settings.FreeListSettings.{FreeListSettings}
use Rattle.counter.proofs.Tables.{free_list_yes}
use Rattle.store_rules.specs.Loans.{loan_words}
use Rattle.store_rules.proofs.Holders.{holding, order_by, holder}
use Rattle.store_rules.specs.Tests.{no_order, covers_ok}
use Rattle.freelist_rules.specs.Threads.{thread_words}
use Rattle.freelist_rules.specs.Records.{chunk_words, chunk_row, chunk_bytes_at}
use Rattle.freelist_rules.specs.Pieces.{total}
use Rattle.freelist_rules.specs.Tables.{Tables, head_words, chunks_at, chunks_in, room_words, lengths_ok, store_of, sound_ok}
use Rattle.store_rules.specs.declared.Chunk.{Chunk}
use Rattle.store_rules.specs.declared.Share.{Share}
use Rattle.store_rules.proofs.Shares.{held_heap, held_table, held_free}
use Rattle.freelist_rules.proofs.GivesBack.{total_append}
use Rattle.freelist_outcomes.specs.Gate.{in_table_ok, account_ok, gate_of}
use Rattle.freelist_outcomes.specs.SetUp.{fit_ok}
use Rattle.freelist_outcomes.proofs.Passing.{lent_in_lem}
use Rattle.freelist_gate.specs.Gates.{store_gate}

module _ (s : FreeListSettings) (t : Tables) where
  pub lengths_is : ((((eqb (length t.head) head_words && eqb (length t.loans) (loan_words + loan_words * s.store.loans)) && eqb (length t.chunks) (chunk_words + chunk_words * s.store.chunks)) && eqb (length t.index) (thread_words s.store.loans)) && eqb (length t.room) (room_words s)) ≡ lengths_ok s t
  unfolding lengths_ok
  lengths_is = refl

  -- the share's word on all heaps and its own heap's test are the test of the heaps that hold it
  pub lent_yes : (share : Share) (b f : Bool) → free_list_ok s ≡ true → b ≡ heap_ok share.heap → f ≡ lengths_ok s t → (share.bounded && (b && f)) ≡ in_table_ok s (holder s.store share) t
  unfolding in_table_ok
  lent_yes share b f e p q =
      let k : (share.bounded && b) ≡ heaps_ok (holder s.store share).heaps =
      ap (λ (x : Bool). share.bounded && x) p ∙ sym (held_table s.store share (order_by share.idle) (free_list_yes s e).store.heap) in
      and_again share.bounded b f ∙ (λ j. k j && q j) ∙ rw e refl
    where
      and_again : (x y z : Bool) → (x && (y && z)) ≡ ((x && y) && z)
      and_again true y z = refl
      and_again false y z = refl

  pub lent_no : (a : Account) → free_list_ok s ≡ false → false ≡ in_table_ok s a t
  unfolding in_table_ok
  lent_no a e = rw e refl

-- ---- set-up's

module _ (s : FreeListSettings) (t : Tables) where
  pub fit_yes : (f : Bool) → free_list_ok s ≡ true → f ≡ lengths_ok s t → f ≡ fit_ok s t
  unfolding fit_ok
  fit_yes f e g = g ∙ rw e refl

  pub fit_no : free_list_ok s ≡ false → false ≡ fit_ok s t
  unfolding fit_ok
  fit_no e = rw e refl

abbrev pub bytes : ℕ → List ℕ → ℕ
bytes i t = total (λ (c : Chunk). c.size) (rows chunk_row i t)

pub bytes_next : (i v sum : ℕ) (t : List ℕ) → sum ≡ bytes i t → v ≡ get_or t (cell_of chunk_bytes_at chunk_words i) 0 → sum + v ≡ bytes (i + 1) t
bytes_next i v sum t e c =
    let f : bytes (i + 1) t ≡ bytes i t + ((row chunk_row i t).size + 0) =
    ap (total (λ (d : Chunk). d.size)) (rows_snoc chunk_row i t) ∙ total_append (λ (d : Chunk). d.size) (rows chunk_row i t) (row chunk_row i t ∷ []) in
    let g : v ≡ (row chunk_row i t).size = c ∙ cell_row t chunk_bytes_at chunk_words i in
    omega (arith, e, f, g)

-- ---- the gate

module _ (s : FreeListSettings) (h : Heap) (objects : ℕ) (t : Tables) where
  pub store_torn : sound_ok s t ≡ false → refuse 3 ≡ store_gate s h objects t
  unfolding store_gate
  store_torn e = rw e refl

  abbrev pub covered : Bool
  covered = covers_ok h objects (chunks_in t) (total (λ (c : Chunk). c.size) (rows chunk_row (chunks_in t) t.chunks))

  pub store_short : sound_ok s t ≡ true → covered ≡ false → refuse 4 ≡ store_gate s h objects t
  unfolding store_gate store_of
  store_short e f = rw (e, f) refl

  pub store_go : sound_ok s t ≡ true → covered ≡ true → pass ≡ store_gate s h objects t
  unfolding store_gate store_of
  store_go e f = rw (e, f) refl

pub covered_is : (h : Heap) (objects k b : ℕ) (r : Bool) (chunks : List ℕ) → k ≡ get_or chunks chunks_at 0 → b ≡ bytes k chunks → r ≡ covers_ok h objects k b
    → r ≡ covers_ok h objects (get_or chunks chunks_at 0) (bytes (get_or chunks chunks_at 0) chunks)
covered_is h objects k b r chunks e f g = g ∙ (λ j. covers_ok h objects (e j) ((f ∙ ap (λ (i : ℕ). bytes i chunks) e) j))

module _ (s : FreeListSettings) (a : Account) (t : Tables) (list : Bool) where
  pub gate_lent : (in_table_ok s a t && list) ≡ false → refuse 1 ≡ gate_of s a t list
  unfolding gate_of
  gate_lent e = rw e refl

  gate_order : (in_table_ok s a t && list) ≡ true → no_order a.order ≡ false → refuse 2 ≡ gate_of s a t list
  unfolding gate_of
  gate_order e f = rw (e, f) refl

  gate_rest : (v : Verdict) → (in_table_ok s a t && list) ≡ true → no_order a.order ≡ true → v ≡ store_gate s (heap_at a s.store.heap) a.objects t → v ≡ gate_of s a t list
  unfolding gate_of store_gate account_ok
  gate_rest v e f g = g ∙ rw (e, f) refl

-- the later tests, by the share
module _ (s : FreeListSettings) (share : Share) (t : Tables) (list : Bool) where
  abbrev held : Account
  held = holder s.store share

  pub gate_closed : (in_table_ok s held t && list) ≡ true → share.idle ≡ false → refuse 2 ≡ gate_of s held t list
  unfolding holding
  gate_closed e f = gate_order s held t list e (held_free share.idle ∙ f)

  pub gate_open : (v : Verdict) → (in_table_ok s held t && list) ≡ true → share.idle ≡ true → v ≡ store_gate s share.heap share.objects t → v ≡ gate_of s held t list
  unfolding holding
  gate_open v e f g =
      let below = (lent_in_lem s held t (and_left (in_table_ok s held t) list e)).0.store.heap in
      gate_rest s held t list v e (held_free share.idle ∙ f)
      (g ∙ ap (λ (x : Heap). store_gate s x share.objects t) (sym (held_heap s.store share (order_by share.idle) below)))
