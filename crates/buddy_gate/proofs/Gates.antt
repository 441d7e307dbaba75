-- The gate's tests in the code's words.
use mathlib.Core.Path.{◌≡◌, refl, sym, ap, ◌∙◌}
use mathlib.Core.Bool.{Bool, true, false, ◌&&◌}
use mathlib.Core.Logic.{⊎_elim}
use mathlib.Core.List.{[]}
use Prim.Native.Nat.{ℕ, ◌+◌, ◌*◌, ◌^◌, ◌≤◌, ◌<◌}
use native.Mathlib.Omega.{arith}
use lib.Dec.{eqb}
use lib.ListN.{length}
use borrow.Author.Tests.{lt-ltb, ne_eqb}
use Rattle.lists.proofs.Bools.{and_both, and_left, same?}
use Rattle.rounding_rules.proofs.Masks.{power_top}
use Rattle.counter.specs.Gate.{Verdict, pass, refuse}
use Rattle.counter.specs.InTable.{BuddyIn}
use Rattle.counter.specs.Limits.{chunks_most}
use Rattle.counter.specs.Table.{buddy_ok, heap_ok}
use Rattle.counter.specs.declared.account.Account.{Account}
use Rattle.counter.specs.declared.account.Heap.{Heap}
use Rattle.counter.specs.Open.{OpenOrder}
use Rattle.counter.specs.declared.settings.BuddySettings.{BuddySettings}
use Rattle.counter.proofs.Tables.{buddy_yes}
use Rattle.store_rules.specs.Loans.{loan_words}
use Rattle.store_rules.proofs.Holders.{holding, order_by, holder}
use Rattle.store_rules.specs.Tests.{covers_ok}
use Rattle.store_rules.specs.declared.Share.{Share}
use Rattle.store_rules.proofs.Shares.{held_heap, held_table, held_free}
use Rattle.buddy_levels.specs.Seen.{level_part}
use Rattle.buddy_levels.proofs.Bounds.{node_bytes_most}
use Rattle.buddy_rules.specs.Tables.{Tables, head_words, chunk_words, chunk_places_in, chunk_size_in, held_in, high_in, book_words, tree_words, lengths_ok}
use Rattle.buddy_rules.specs.Sound.{Sound}
use Rattle.buddy_rules.specs.Test.{sound_ok}
use Rattle.buddy_outcomes.specs.Gate.{in_table_ok, held_count, held_bytes, account_ok, gate_of}
use Rattle.buddy_outcomes.specs.SetUp.{fit_ok}
use Rattle.buddy_outcomes.proofs.Passing.{lent_in_lem}
use Rattle.buddy_gate.specs.Gates.{store_gate}
use Rattle.buddy_gate.proofs.Held.{count_same, bytes_same, size_most}

-- the row is taken from the left
joined : (a b c d e : Bool) → (a && (b && (c && (d && e)))) ≡ ((((a && b) && c) && d) && e)
joined false b c d e = refl
joined true false c d e = refl
joined true true false d e = refl
joined true true true false e = refl
joined true true true true e = refl

module _ (s : BuddySettings) (t : Tables) where
  pub lengths_is : (room : ℕ) → room ≡ tree_words s
      → (eqb (length t.head) head_words && (eqb (length t.loans) (loan_words + loan_words * s.store.loans) && (eqb (length t.chunks) (chunk_words + chunk_words * s.store.chunks) && (eqb (length t.index) (book_words s) && eqb (length t.room) room)))) ≡ lengths_ok s t
  unfolding lengths_ok
  lengths_is room e =
      joined (eqb (length t.head) head_words) (eqb (length t.loans) (loan_words + loan_words * s.store.loans)) (eqb (length t.chunks) (chunk_words + chunk_words * s.store.chunks)) (eqb (length t.index) (book_words s)) (eqb (length t.room) room)
      ∙ rw e refl

  pub lent_yes : (share : Share) (own f : Bool) → buddy_ok s ≡ true → own ≡ heap_ok share.heap → f ≡ lengths_ok s t → (share.bounded && (own && f)) ≡ in_table_ok s (holder s.store share) t
  unfolding in_table_ok
  lent_yes share own f e p q =
      three share.bounded own f
      ∙ (λ j. (share.bounded && p j) && q j)
      ∙ ap (λ (b : Bool). b && lengths_ok s t) (sym (held_table s.store share (order_by share.idle) (buddy_yes s e).store.heap))
      ∙ rw e refl
    where
      three : (a b c : Bool) → (a && (b && c)) ≡ ((a && b) && c)
      three true b c = refl
      three false b c = refl

  -- whatever order is open
  pub lent_held : (share : Share) (o p : OpenOrder) → in_table_ok s (holding s.store share o) t ≡ in_table_ok s (holding s.store share p) t
  unfolding in_table_ok holding
  lent_held share o p = refl

  pub lent_no : (a : Account) → buddy_ok s ≡ false → false ≡ in_table_ok s a t
  unfolding in_table_ok
  lent_no a e = rw e refl

-- ---- whether the tables of a set-up fit

pub fit_in : (s : BuddySettings) (t : Tables) (m r : Bool) → m ≡ true → m ≡ buddy_ok s → r ≡ lengths_ok s t → r ≡ fit_ok s t
unfolding fit_ok
fit_in s t m r h e f = f ∙ ap (λ (b : Bool). b && lengths_ok s t) (sym h ∙ e)

pub fit_out : (s : BuddySettings) (t : Tables) (m : Bool) → m ≡ false → m ≡ buddy_ok s → false ≡ fit_ok s t
unfolding fit_ok
fit_out s t m h e = ap (λ (b : Bool). b && lengths_ok s t) (sym h ∙ e)

-- ---- what a sound store's chunks come to

module _ (s : BuddySettings) (t : Tables) (fit : BuddyIn s) (sound : Sound s t) where
  pub places_few : chunk_places_in t ≤ chunks_most
  places_few = omega (arith, sound.chunks_parted.limit, fit.store.chunks_most_lem)

  pub sizes_low : (c : ℕ) → c < chunk_places_in t → chunk_size_in t c ≤ size_most
  sizes_low c h =
      ⊎_elim (λ z. omega (arith, z))
      (λ z.
      let held : held_in t c ≡ true = and_both _ _ (lt-ltb c (chunk_places_in t) h) (rw (ne_eqb (chunk_size_in t c) 0 z) refl) in
      let k = sound.standing.sized c held in
      omega (arith, k.0, node_bytes_most s.minimal (high_in s t c) small (omega (arith, k.3, sound.levels_most_lem))))
      (same? (chunk_size_in t c) 0)
    where
      small : s.minimal ≤ 2 ^ 16
      small = power_top fit.minimal

-- ---- the gate

module _ (s : BuddySettings) (h : Heap) (objects : ℕ) (t : Tables) where
  -- as the code counts, by the chunks alone
  abbrev few : Tables
  few = level_part 0 t.chunks []

  abbrev pub covered : Bool
  covered = covers_ok h objects (held_count few (chunk_places_in t)) (held_bytes few (chunk_places_in t))

  pub covered_same : covered ≡ covers_ok h objects (held_count t (chunk_places_in t)) (held_bytes t (chunk_places_in t))
  covered_same j = covers_ok h objects (count_same few t refl (chunk_places_in t) j) (bytes_same few t refl (chunk_places_in t) j)

  pub store_torn : sound_ok s t ≡ false → refuse 3 ≡ store_gate s h objects t
  unfolding store_gate
  store_torn e = rw e refl

  pub store_short : sound_ok s t ≡ true → covered ≡ false → refuse 4 ≡ store_gate s h objects t
  unfolding store_gate
  store_short e f = rw (e, sym covered_same ∙ f) refl

  pub store_go : sound_ok s t ≡ true → covered ≡ true → pass ≡ store_gate s h objects t
  unfolding store_gate
  store_go e f = rw (e, sym covered_same ∙ f) refl

module _ (s : BuddySettings) (share : Share) (t : Tables) (list : Bool) where
  abbrev held : Account
  held = holder s.store share

  pub gate_lent : (in_table_ok s held t && list) ≡ false → refuse 1 ≡ gate_of s held t list
  unfolding gate_of
  gate_lent e = rw e refl

  pub gate_order : (in_table_ok s held t && list) ≡ true → share.idle ≡ false → refuse 2 ≡ gate_of s held t list
  unfolding gate_of holding
  gate_order e f = rw (e, held_free share.idle ∙ f) refl

  pub gate_rest : (v : Verdict) → (in_table_ok s held t && list) ≡ true → share.idle ≡ true → v ≡ store_gate s share.heap share.objects t → v ≡ gate_of s held t list
  unfolding gate_of store_gate account_ok holding
  gate_rest v e f g =
      let below = (lent_in_lem s held t (and_left (in_table_ok s held t) list e)).settings.store.heap in
      g
      ∙ ap (λ (x : Heap). store_gate s x share.objects t) (sym (held_heap s.store share (order_by share.idle) below))
      ∙ rw (e, held_free share.idle ∙ f) refl
