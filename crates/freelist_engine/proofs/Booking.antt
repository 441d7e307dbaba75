-- The free list books as an engine has to: what one call of it charges and releases, and how many device objects it takes and
-- gives.
use mathlib.Core.Path.{◌≡◌, refl, sym, ap, subst, ◌∙◌}
use mathlib.Core.Bool.{Bool, true, false}
use mathlib.Core.List.{List, [], ◌∷◌}
use Prim.Native.Nat.{ℕ, ◌+◌, ◌-◌}
use native.Mathlib.Omega.{arith}
use lib.ListN.{length}
use Rattle.counter.specs.Account.{heap_at}
use Rattle.counter.specs.InTable.{FreeListIn}
use Rattle.counter.specs.Paper.{Said}
use Rattle.counter.specs.Paper as Paper
use Rattle.counter.specs.declared.account.Account.{Account}
use Rattle.counter.specs.declared.account.KeptOrder.{KeptOrder}
use Rattle.counter.specs.declared.answers.Block.{Block}
use Rattle.counter.specs.declared.answers.Mapping.{Mapping}
use Rattle.counter.specs.declared.answers.Mapping.TheVariants as M
use Rattle.counter.specs.declared.answers.Outcome.{Outcome}
use Rattle.counter.specs.declared.answers.Outcome.TheVariants as O
use Rattle.counter.specs.declared.settings.FreeListSettings.{FreeListSettings}
use Rattle.heap.specs.Heap.{bears_ok}
use Rattle.heap.specs.History.{release}
use Rattle.heap.proofs.Bounds.{agrees_yes}
use Rattle.store_rules.specs.Delivery.{free_list, mapped, fate_of}
use Rattle.store_rules.specs.Outcomes.{Out, out, Listed, listed, list_ok, charged_account, back_account, lost_account}
use Rattle.store_rules.specs.Views.{sizes}
use Rattle.freelist_rules.specs.Release.{bytes_of}
use Rattle.freelist_rules.specs.Records.{Store}
use Rattle.freelist_rules.specs.Tables.{Lengths, store_of, SoundTables}
use Rattle.freelist_rules.proofs.Fits.{lengths_are}
use Rattle.freelist_rules.proofs.GivesBack.{gone_bytes}
use Rattle.freelist_outcomes.specs.Gate.{account_ok}
use Rattle.freelist_outcomes.specs.Ask.{ask_of}
use Rattle.freelist_outcomes.specs.Deliver.{carry_fate, deliver_of}
use Rattle.freelist_outcomes.specs.Return.{word_for, on_loan_ok, given_tables, gone_from, released_tables, release_of, return_of, clean_up_of}
use Rattle.freelist_outcomes.specs.SetUp.{Begun, set_up_of}
use Rattle.store_rules.proofs.Accounts.{lost_nothing}
use Rattle.freelist_outcomes.proofs.Accounts.{account_is, covers_yes}
use Rattle.freelist_outcomes.proofs.Changed.{released_store}
use Rattle.freelist_outcomes.proofs.Comes as Comes
use Rattle.freelist_outcomes.proofs.Comes.{Open, Arrival, early, fated, arrives, AskComes, lends, orders, ask_comes, ReturnComes, return_comes, CleanUpComes, cleans, clean_up_comes, SetUpComes, readies, set_up_comes}
use Rattle.freelist_outcomes.proofs.Given.{given_store, given_lengths, given_sound}
use Rattle.freelist_outcomes.proofs.Passing.{Passed}
use Rattle.engines.specs.Books.{release_books, books, takes, Booked, Books}
use Rattle.engines.specs.Shapes.{Tables, Call, sets_up, asks, delivers, returns, others, does}
use Rattle.engines.proofs.Booking.{Bears, not_accepted, still, early_booked, charged_booked, back_booked, release_booked}
use Rattle.freelist_engine.specs.Shape.{OwnCall, cleans_up, list_shape}

-- the bytes of the chunks that the tables hold
abbrev held_bytes : FreeListSettings → Tables → ℕ
held_bytes s t = sizes (store_of s t).chunks

module _ (s : FreeListSettings) (a : Account) (t : Tables) where
  abbrev ListBooked : Call OwnCall → Listed Tables → Type 0
  ListBooked c d = Booked s.store.heap a (books list_shape s a t c d) (takes list_shape c d.said) d

  -- ---- set-up and an ask book nothing

  sets_up_booked : ListBooked sets_up (does list_shape s a t sets_up)
  sets_up_booked = go (set_up_of s t) (set_up_comes s t)
    where
      go : (r : Begun) → SetUpComes s t r → ListBooked sets_up (listed r.said a r.tables [])
      go _ SetUpComes.denied = still s.store.heap a _ _ _ refl refl refl refl refl
      go _ (readies fit lengths) = still s.store.heap a _ _ _ refl refl refl refl refl

  abbrev arrived : Out Tables → Listed Tables
  arrived r = listed r.said r.account r.tables []

  asks_booked : (size mask : ℕ) → ListBooked (asks size mask) (does list_shape s a t (asks size mask))
  asks_booked size mask = go (ask_of s a size mask t) (ask_comes s a size mask t)
    where
      go : (r : Out Tables) → AskComes s a size mask t r → ListBooked (asks size mask) (arrived r)
      go _ (AskComes.denied n) = still s.store.heap a _ _ _ refl refl refl refl refl
      go _ (lends i p v) = still s.store.heap a _ _ _ refl refl refl refl refl
      go _ (orders p v) = still s.store.heap a _ _ _ refl refl refl refl refl

  -- ---- a delivery

  module _ (k : KeptOrder) (w : Open s a t k) where
    bears : Bears s.store a k
    bears =
        let h = heap_at a s.store.heap in
        let c = covers_yes h a.objects (length (store_of s t).chunks) (held_bytes s t) (sym (account_is s a t) ∙ w.covered) in
        record {
          is = w.is;
          low = w.settings.store.heap;
          bears = ap (bears_ok h) w.size ∙ w.buys.bears;
          object = w.buys.object;
          right = agrees_yes h c.1;
        }

    fated_booked : (o : Outcome) → ListBooked (delivers o) (arrived (carry_fate s a k t (fate_of free_list o)))
    unfolding carry_fate lost_account charged_account back_account
    fated_booked O.OutOfDevice =
        subst (λ (b : Account). ListBooked (delivers O.OutOfDevice) (arrived (out (Paper.refusal 11 []) b t))) (sym (lost_nothing s.store a k.order.size []))
        (still s.store.heap a _ _ _ refl refl refl refl refl)
    fated_booked O.OutOfHost =
        subst (λ (b : Account). ListBooked (delivers O.OutOfHost) (arrived (out (Paper.refusal 12 []) b t))) (sym (lost_nothing s.store a k.order.size []))
        (still s.store.heap a _ _ _ refl refl refl refl refl)
    fated_booked (O.Made m) = by m.mapping
      where
        by : (x : Mapping) → ListBooked (delivers (O.Made m)) (arrived (carry_fate s a k t (mapped free_list m.number x)))
        by M.Mapped = charged_booked s.store a k bears m _ _ refl refl
        by M.NotWanted = charged_booked s.store a k bears m _ _ refl refl
        by M.Failed = back_booked s.store a k bears m _ _ refl refl
        by M.OutOfDevice = charged_booked s.store a k bears m _ _ refl refl
        by M.OutOfHost = charged_booked s.store a k bears m _ _ refl refl

  delivers_booked : (o : Outcome) → ListBooked (delivers o) (does list_shape s a t (delivers o))
  delivers_booked o = go (deliver_of s a o t) (arrives s a o t)
    where
      go : (r : Out Tables) → Arrival s a o t r → ListBooked (delivers o) (arrived r)
      go _ (early n x y) = early_booked s.store a n t (not_accepted n x y) o
      go _ (fated k w f) = fated_booked k w o

  -- ---- a release, of tables that hold the same chunks

  abbrev freed : Listed Tables → Listed Tables
  freed r = r

  module _ (p : account_ok s a t ≡ true) (fit : FreeListIn s) (u : Tables) (lengths : Lengths s u) (sound : SoundTables s u) (same : (store_of s u).chunks ≡ (store_of s t).chunks) (spare : Bool) where
    abbrev left : Tables
    left = released_tables s spare u

    abbrev bytes : ℕ
    bytes = bytes_of (gone_from s spare u)

    bytes_gone : held_bytes s left + bytes ≡ held_bytes s t
    bytes_gone =
        ap (λ (v : Store). sizes v.chunks + bytes) (released_store s u fit lengths sound spare)
        ∙ gone_bytes s (store_of s u) fit sound.store spare
        ∙ ap sizes same

    bytes_are : release (held_bytes s t - held_bytes s left) ∷ [] ≡ release bytes ∷ []
    bytes_are = let e : held_bytes s t - held_bytes s left ≡ bytes = omega (arith, bytes_gone) in rw e

    releases : (c : Call OwnCall) (list : List ℕ) → ((d : Listed Tables) → books list_shape s a t c d ≡ release_books (held_bytes s t - held_bytes s d.tables) d.said) → ((said : Said) → takes list_shape c said ≡ 0) → ListBooked c (freed (release_of s a spare u list))
    unfolding release_of
    releases c list books_are Takes-none =
        let d = freed (release_of s a spare u list) in
        release_booked s.store a fit.store.heap (length (store_of s t).chunks) (held_bytes s t) (sym (account_is s a t) ∙ p) (length (gone_from s spare u)) bytes (omega (arith, bytes_gone))
        (books list_shape s a t c d) (takes list_shape c d.said) left d.list (books_are d ∙ bytes_are) (Takes-none d.said)

  returns_booked : (b : Block) (list : List ℕ) → ListBooked (returns b list) (does list_shape s a t (returns b list))
  returns_booked b list = go (return_of s a b t list) (return_comes s a b t list)
    where
      back : Passed s a t (list_ok s.store list) → on_loan_ok s b t ≡ true → ListBooked (returns b list) (freed (release_of s a true (given_tables s b (word_for s b t) t) list))
      back p on =
          let lengths = lengths_are s t p.lengths in
          let u = given_tables s b (word_for s b t) t in
          releases p.covered p.settings u (given_lengths s t p.settings lengths p.sound b on) (given_sound s t p.settings lengths p.sound b on)
          (ap (λ (v : Store). v.chunks) (given_store s t p.settings lengths p.sound b on))
          true (returns b list) list (λ d. refl) (λ said. refl)

      go : (r : Listed Tables) → ReturnComes s a b t list r → ListBooked (returns b list) (freed r)
      go _ (ReturnComes.denied n) = still s.store.heap a _ _ _ refl refl refl refl refl
      go _ (Comes.takes p on) = back p on

  cleans_up_booked : (list : List ℕ) → ListBooked (others cleans_up list) (does list_shape s a t (others cleans_up list))
  cleans_up_booked list = go (clean_up_of s a t list) (clean_up_comes s a t list)
    where
      go : (r : Listed Tables) → CleanUpComes s a t list r → ListBooked (others cleans_up list) (freed r)
      go _ (CleanUpComes.denied n) = still s.store.heap a _ _ _ refl refl refl refl refl
      go _ (cleans p) = releases p.covered p.settings t (lengths_are s t p.lengths) p.sound refl false (others cleans_up list) list (λ d. refl) (λ said. refl)

  list_booked : (c : Call OwnCall) → ListBooked c (does list_shape s a t c)
  list_booked sets_up = sets_up_booked
  list_booked (asks size mask) = asks_booked size mask
  list_booked (delivers o) = delivers_booked o
  list_booked (returns b list) = returns_booked b list
  list_booked (others cleans_up list) = cleans_up_booked list

-- the free list books as an engine has to
pub list_books : Books list_shape
list_books = record { booked = λ s a t c. list_booked s a t c }
