-- The chunks that a store holds are exactly those that its caller heard to have come and not since gone, whatever calls of whichever
-- engines are made; and what a release gives back to the heap are the sizes for which the memory numbers told were delivered.
use mathlib.Core.Path.{◌≡◌, refl, sym, ap, subst, ◌∙◌}
use mathlib.Core.Bool.{cond}
use mathlib.Core.Logic.{⊎_elim}
use mathlib.Core.List.Memᴰ
use mathlib.Core.List.{List, [], ◌∷◌, ◌++◌, Memᴰ}
use Prim.Native.Nat.{ℕ, ◌+◌, ◌-◌, ◌<◌}
use native.Mathlib.Omega.{arith}
use lib.Dec.{eqb}
use lib.ListN.{length, take}
use borrow.Author.Tests.{eq-eqb, ne_eqb}
use Rattle.lists.proofs.Bools.{same?}
use Rattle.counter.specs.Account.{Typed, heap_at}
use Rattle.counter.specs.Paper as Paper
use Rattle.counter.specs.declared.account.Account.{Account}
use Rattle.counter.specs.Open.{OpenOrder}
use Rattle.counter.specs.declared.answers.Block.{Block}
use Rattle.counter.proofs.Papers.{kind_of}
use Rattle.heap.specs.History.{release, after}
use Rattle.store_rules.specs.Outcomes.{Listed, listed, to_free, released_account}
use Rattle.store_rules.specs.Views.{total, sizes, Go}
use Rattle.store_rules.specs.declared.Chunk.{Chunk}
use Rattle.store_rules.proofs.Said.{refuses}
use Rattle.engines.specs.Books.{order_size, release_books, books}
use Rattle.engines.specs.Engines.{Engine}
use Rattle.engines.specs.Further.{Further}
use Rattle.engines.specs.Histories.{State, store_at, Visit, done, step, run, NoSetUp, heap_of, books_here}
use Rattle.engines.specs.Shapes.{Tables, mark_of, Call, sets_up, asks, delivers, returns, others, does, Marked, lent_list}
use Rattle.engines.specs.Stock.{Change, came, went, told_by, change_of, chunks_less, stock, size_of, SameChunks, NoMemoryTwice, changes_at}
use Rattle.engines.proofs.CountUp.{call_counts, setting}
use Rattle.engines.proofs.HeapAndObjects.{own_heap}
use Rattle.engines.proofs.Sizes.{gone_sizes}
use Rattle.engines.proofs.Stocking.{none_less, refused_brings, Holding, call_moves, moved_holding}
use Rattle.engines.proofs.Taking.{return_taken}
use Rattle.engines.proofs.Visits.{set_up?, set_up_stays, stores_stay, store_here, store_other}

-- what is heard first counts first
stock_append : (cs : List Chunk) (ms ns : List Change) → stock cs (ms ++ ns) ≡ stock (stock cs ms) ns
stock_append cs [] ns = refl
stock_append cs (came c ∷ ms) ns = stock_append (c ∷ cs) ms ns
stock_append cs (went xs ∷ ms) ns = stock_append (chunks_less xs cs) ms ns

-- with a call that is refused nothing comes or goes
refused_stock : {Own : Type 0} (order : OpenOrder) (c : Call Own) (n : ℕ) (a : Account) (t : Tables) (cs : List Chunk) → stock cs (change_of order c (listed (Paper.refusal n []) a t (lent_list c))) ≡ cs
refused_stock order sets_up n a t cs = refl
refused_stock order (asks size mask) n a t cs = refl
refused_stock order (delivers o) n a t cs = ap (stock cs) (refused_brings o (order_size order) n [])
refused_stock order (returns b list) n a t cs = none_less cs
refused_stock order (others c list) n a t cs = none_less cs

-- ---- what a release books

module _ (E : Engine) (F : Further E.shape) (s : E.shape.Settings) (a : Account) (t : Tables) (n : ℕ) where
  -- of chunks that go
  told_books : (cs : List Chunk) → Holding E F t cs → (d : Listed Tables) → d.said ≡ Paper.released n → Go (E.shape.view s t).chunks (E.shape.view s d.tables).chunks (take n d.list)
      → release_books (sizes (E.shape.view s t).chunks - sizes (E.shape.view s d.tables).chunks) d.said ≡ release (total (size_of cs) (take n d.list)) ∷ []
  told_books cs h d e g =
      let q = F.chunks_seen s t in
      let once : NoMemoryTwice (E.shape.view s t).chunks = subst NoMemoryTwice (sym q) h.once in
      let same : SameChunks (E.shape.view s t).chunks cs = subst (λ (xs : List Chunk). SameChunks xs cs) (sym q) h.same in
      ap (release_books (sizes (E.shape.view s t).chunks - sizes (E.shape.view s d.tables).chunks)) e
      ∙ ap (λ (z : ℕ). release z ∷ []) (gone_sizes (E.shape.view s t).chunks (E.shape.view s d.tables).chunks (take n d.list) g once cs same h.listed)

  -- a return that is taken says how many it tells
  return_goes : (b : Block) (list : List ℕ) → (E.shape.return s a b t list).said ≡ Paper.released n
      → (length (take n (E.shape.return s a b t list).list) ≡ n) × Go (E.shape.view s t).chunks (E.shape.view s (E.shape.return s a b t list).tables).chunks (take n (E.shape.return s a b t list).list)
  unfolding released_account
  return_goes b list e =
      let r = E.shape.return s a b t list in
      let w = return_taken E s a t b list (ap refuses e) in
      let f : to_free r.said ≡ n = ap to_free e in
      let g : Go (E.shape.view s t).chunks (E.shape.view s r.tables).chunks (take n r.list) = subst (λ (k : ℕ). Go (E.shape.view s t).chunks (E.shape.view s r.tables).chunks (take k r.list)) f w.goes in
      let o : r.account.objects ≡ a.objects + (length (E.shape.view s t).chunks - length (E.shape.view s r.tables).chunks) = ap (λ (x : Account). x.objects) w.account in
      let k : r.account.objects + 0 ≡ a.objects + to_free r.said = (E.books.booked s a t (returns b list)).objects in
      (omega (arith, o, k, f, g.count), g)

  -- no other call is answered so
  released_goes : (c : Call E.shape.Own) → (does E.shape s a t c).said ≡ Paper.released n
      → (length (take n (does E.shape s a t c).list) ≡ n)
      × ((cs : List Chunk) → Holding E F t cs → books E.shape s a t c (does E.shape s a t c) ≡ release (total (size_of cs) (take n (does E.shape s a t c).list)) ∷ [])
  released_goes sets_up e =
      absurd
      (⊎_elim (λ w. let z : ◌≡◌ {A = ℕ} 0 3 = ap kind_of (sym w ∙ e) in omega arith) (λ w. let z : ◌≡◌ {A = ℕ} 5 3 = ap kind_of (sym w.2 ∙ e) in omega arith)
      (E.tells.set_up_says s t))
  released_goes (asks size mask) e =
      absurd
      (⊎_elim (λ w. let z : ◌≡◌ {A = ℕ} 1 3 = ap kind_of (sym w.4 ∙ e) in omega arith)
      (λ x. ⊎_elim (λ w. let z : ◌≡◌ {A = ℕ} 2 3 = ap kind_of (sym w.4 ∙ e) in omega arith) (λ w. let z : ◌≡◌ {A = ℕ} 5 3 = ap kind_of (sym w.2 ∙ e) in omega arith) x)
      (E.tells.ask_says s a size mask t))
  released_goes (delivers o) e =
      absurd
      (⊎_elim (λ w. let z : ◌≡◌ {A = ℕ} 1 3 = ap kind_of (sym w.4 ∙ e) in omega arith) (λ w. let z : ◌≡◌ {A = ℕ} 5 3 = ap kind_of (sym w.2 ∙ e) in omega arith)
      (E.tells.deliver_says s a o t))
  released_goes (returns b list) e =
      let w = return_goes b list e in
      (w.0, λ cs h. told_books cs h (E.shape.return s a b t list) e w.1)
  released_goes (others c list) e =
      let w = F.other_goes s a c t list n e in
      (w.0, λ cs h. told_books cs h (E.shape.other s a c t list) e w.1)

-- no two engines have one mark
module _ (K : Type 0) (E : K → Engine) (F : (k : K) → Further (E k).shape) (differ : (i j : K) → (E i).shape.mark ≡ (E j).shape.mark → i ≡ j) where
  -- ---- over one call of any of the engines, on tables with engine e's mark

  module _ (e : K) (a : Account) (t : Tables) (cs : List Chunk) (h : Holding (E e) (F e) t cs) (f : K) (s : (E f).shape.Settings) (c : Call (E f).shape.Own) where
    -- what it leaves
    any_call : (c ≡ sets_up → (does (E f).shape s a t c).said ≡ Paper.ready → ⊥) → Holding (E e) (F e) (does (E f).shape s a t c).tables (stock cs (change_of a.order c (does (E f).shape s a t c)))
    any_call n = ⊎_elim own other (same? (mark_of t) (E f).shape.mark)
      where
        marks : Marked (E e).shape (does (E f).shape s a t c).tables
        marks = (call_counts K E differ e a t f s c n h.marks).marks

        own : mark_of t ≡ (E f).shape.mark → Holding (E e) (F e) (does (E f).shape s a t c).tables (stock cs (change_of a.order c (does (E f).shape s a t c)))
        own k =
            let q : f ≡ e = differ f e (sym k ∙ h.marks) in
            let g : Holding (E f) (F f) t cs = subst (λ (x : K). Holding (E x) (F x) t cs) (sym q) h in
            let m : Marked (E f).shape (does (E f).shape s a t c).tables = subst (λ (x : K). Marked (E x).shape (does (E f).shape s a t c).tables) (sym q) marks in
            subst (λ (x : K). Holding (E x) (F x) (does (E f).shape s a t c).tables (stock cs (change_of a.order c (does (E f).shape s a t c)))) q
            (moved_holding (E f) (F f) t (does (E f).shape s a t c).tables (told_by (does (E f).shape s a t c)) (change_of a.order c (does (E f).shape s a t c)) cs (call_moves (E f) (F f) s a t c n) m g)

        still : (does (E f).shape s a t c).tables ≡ t → stock cs (change_of a.order c (does (E f).shape s a t c)) ≡ cs → Holding (E e) (F e) (does (E f).shape s a t c).tables (stock cs (change_of a.order c (does (E f).shape s a t c)))
        still x y = subst (Holding (E e) (F e) (does (E f).shape s a t c).tables) (sym y) (subst (λ (v : Tables). Holding (E e) (F e) v cs) (sym x) h)

        other : (mark_of t ≡ (E f).shape.mark → ⊥) → Holding (E e) (F e) (does (E f).shape s a t c).tables (stock cs (change_of a.order c (does (E f).shape s a t c)))
        other k = ⊎_elim first later (set_up? c)
          where
            first : c ≡ sets_up → Holding (E e) (F e) (does (E f).shape s a t c).tables (stock cs (change_of a.order c (does (E f).shape s a t c)))
            first q =
                let d = ap (does (E f).shape s a t) q in
                still (ap (λ (x : Listed Tables). x.tables) d ∙ set_up_stays (E f) s t (λ r. n q (ap (λ (x : Listed Tables). x.said) d ∙ r)))
                (ap (λ (x : Call (E f).shape.Own). stock cs (change_of a.order x (does (E f).shape s a t c))) q)

            later : (c ≡ sets_up → ⊥) → Holding (E e) (F e) (does (E f).shape s a t c).tables (stock cs (change_of a.order c (does (E f).shape s a t c)))
            later q =
                let w = (E f).refuses.foreign s a t c q k in
                still (ap (λ (d : Listed Tables). d.tables) w.1)
                (ap (λ (d : Listed Tables). stock cs (change_of a.order c d)) w.1 ∙ refused_stock a.order c w.0 a t cs)

    -- what one books that releases
    any_release : (n : ℕ) → (does (E f).shape s a t c).said ≡ Paper.released n
        → (length (take n (does (E f).shape s a t c).list) ≡ n)
        × (books (E f).shape s a t c (does (E f).shape s a t c) ≡ release (total (size_of cs) (take n (does (E f).shape s a t c).list)) ∷ [])
    any_release n r =
        let w = released_goes (E f) (F f) s a t n c r in
        let q : f ≡ e = differ f e (sym mine ∙ h.marks) in
        (w.0, w.1 cs (subst (λ (x : K). Holding (E x) (F x) t cs) (sym q) h))
      where
        mine : mark_of t ≡ (E f).shape.mark
        mine = ⊎_elim (λ k. k) (λ k. absurd (foreign k)) (same? (mark_of t) (E f).shape.mark)
          where
            foreign : (mark_of t ≡ (E f).shape.mark → ⊥) → ⊥
            foreign k = ⊎_elim first later (set_up? c)
              where
                first : c ≡ sets_up → ⊥
                first q =
                    let d = ap (λ (x : Call (E f).shape.Own). (does (E f).shape s a t x).said) q in
                    ⊎_elim (λ w. let z : ◌≡◌ {A = ℕ} 0 3 = ap kind_of (sym w ∙ sym d ∙ r) in omega arith) (λ w. let z : ◌≡◌ {A = ℕ} 5 3 = ap kind_of (sym w.2 ∙ sym d ∙ r) in omega arith)
                    ((E f).tells.set_up_says s t)

                later : (c ≡ sets_up → ⊥) → ⊥
                later q = let w = (E f).refuses.foreign s a t c q k in let z : ◌≡◌ {A = ℕ} 5 3 = ap kind_of (sym (ap (λ (d : Listed Tables). d.said) w.1) ∙ r) in omega arith

  -- ---- over a history

  module _ (i : ℕ) (e : K) where
    abbrev change_at : State → Visit K E → List Change
    change_at w v = cond (eqb v.at i) (change_of w.account.order v.call (done K E w v)) []

    hold_one : (w : State) (v : Visit K E) → (v.at ≡ i → v.call ≡ sets_up → (done K E w v).said ≡ Paper.ready → ⊥) → i < length w.stores → (cs : List Chunk) → Holding (E e) (F e) (store_at w i) cs
        → Holding (E e) (F e) (store_at (step K E w v) i) (stock cs (change_at w v))
    hold_one w v f h cs H = ⊎_elim own other (same? v.at i)
      where
        own : v.at ≡ i → Holding (E e) (F e) (store_at (step K E w v) i) (stock cs (change_at w v))
        own q =
            let z : change_at w v ≡ change_of w.account.order v.call (done K E w v) = rw (eq-eqb v.at i q) in
            let g : Holding (E e) (F e) (store_at w v.at) cs = subst (λ (j : ℕ). Holding (E e) (F e) (store_at w j) cs) (sym q) H in
            let A = any_call e w.account (store_at w v.at) cs g v.by v.settings v.call (f q) in
            let x : store_at (step K E w v) i ≡ (done K E w v).tables = subst (λ (j : ℕ). store_at (step K E w v) j ≡ (done K E w v).tables) q (store_here K E w v (omega arith)) in
            subst (λ (ns : List Change). Holding (E e) (F e) (store_at (step K E w v) i) (stock cs ns)) (sym z)
            (subst (λ (u : Tables). Holding (E e) (F e) u (stock cs (change_of w.account.order v.call (done K E w v)))) (sym x) A)

        other : (v.at ≡ i → ⊥) → Holding (E e) (F e) (store_at (step K E w v) i) (stock cs (change_at w v))
        other n =
            let z : change_at w v ≡ [] = rw (ne_eqb v.at i n) in
            subst (λ (ns : List Change). Holding (E e) (F e) (store_at (step K E w v) i) (stock cs ns)) (sym z)
            (subst (λ (u : Tables). Holding (E e) (F e) u cs) (sym (store_other K E w v i n)) H)

    -- over any history in which no set-up of store i is accepted
    pub hold : (w : State) (vs : List (Visit K E)) → NoSetUp K E i w vs → i < length w.stores → (cs : List Chunk) → Holding (E e) (F e) (store_at w i) cs
        → Holding (E e) (F e) (store_at (run K E w vs) i) (stock cs (changes_at K E i w vs))
    hold w [] f h cs H = H
    hold w (v ∷ vs) f h cs H =
        subst (Holding (E e) (F e) (store_at (run K E (step K E w v) vs) i)) (sym (stock_append cs (change_at w v) (changes_at K E i (step K E w v) vs)))
        (hold (step K E w v) vs f.1 (omega (arith, stores_stay K E w v)) (stock cs (change_at w v)) (hold_one w v f.0 h cs H))

    -- ---- from set-up on

    module _ (w : State) (s : (E e).shape.Settings) (here : i < length w.stores) (ready : (done K E w (setting K E i e s)).said ≡ Paper.ready) (vs : List (Visit K E)) (f : NoSetUp K E i (step K E w (setting K E i e s)) vs) where
      abbrev begun : State
      begun = step K E w (setting K E i e s)

      empty : Holding (E e) (F e) (store_at begun i) []
      empty =
          let x = store_here K E w (setting K E i e s) here in
          let none : (F e).chunks (store_at begun i) ≡ [] = ap (F e).chunks x ∙ (F e).fresh_chunks s (store_at w i) ready in
          record {
            marks = subst (Marked (E e).shape) (sym x) ((E e).counts.begins s (store_at w i) ready).0;
            same = λ c. ((λ m. subst (Memᴰ c) none m), (λ m. absurd (Memᴰ.not-nil m)));
            once = subst NoMemoryTwice (sym none) tt;
            listed = tt;
          }

      all : Holding (E e) (F e) (store_at (run K E begun vs) i) (stock [] (changes_at K E i begun vs))
      all = hold begun vs f (omega (arith, stores_stay K E w (setting K E i e s))) [] empty

      -- store i was set up by engine e, and then any calls of any of the engines were made, at any stores, with any settings,
      -- arguments and outcomes, but no accepted set-up of store i: the chunks that it holds are exactly those that came there and
      -- have not since gone
      pub held_stock : SameChunks ((F e).chunks (store_at (run K E (step K E w (setting K E i e s)) vs) i)) (stock [] (changes_at K E i (step K E w (setting K E i e s)) vs))
      held_stock = all.same

      -- none of them stands twice, in the one list or in the other, nor two of one memory number
      pub held_once : NoMemoryTwice ((F e).chunks (store_at (run K E (step K E w (setting K E i e s)) vs) i))
      held_once = all.once

      pub stock_once : NoMemoryTwice (stock [] (changes_at K E i (step K E w (setting K E i e s)) vs))
      stock_once = all.listed

      -- the next call there, of any engine and with any settings: if it says that n are released, it tells n memory numbers
      pub told_many : (v : Visit K E) → v.at ≡ i → (n : ℕ)
          → let u = run K E (step K E w (setting K E i e s)) vs in
          (done K E u v).said ≡ Paper.released n → length (take n (done K E u v).list) ≡ n
      told_many v q n r =
          let u = run K E begun vs in
          (any_release e u.account (store_at u v.at) (stock [] (changes_at K E i begun vs)) (subst (λ (j : ℕ). Holding (E e) (F e) (store_at u j) (stock [] (changes_at K E i begun vs))) (sym q) all) v.by v.settings v.call n r).0

      -- and what it books is one release, of the sizes for which these were delivered
      pub released_bytes : (v : Visit K E) → v.at ≡ i → (n : ℕ)
          → let u = run K E (step K E w (setting K E i e s)) vs in
          (done K E u v).said ≡ Paper.released n
          → books_here K E u v ≡ release (total (size_of (stock [] (changes_at K E i (step K E w (setting K E i e s)) vs))) (take n (done K E u v).list)) ∷ []
      released_bytes v q n r =
          let u = run K E begun vs in
          (any_release e u.account (store_at u v.at) (stock [] (changes_at K E i begun vs)) (subst (λ (j : ℕ). Holding (E e) (F e) (store_at u j) (stock [] (changes_at K E i begun vs))) (sym q) all) v.by v.settings v.call n r).1

      -- so its heap is as that release leaves it
      pub released_heap : (v : Visit K E) → v.at ≡ i → (n : ℕ)
          → let u = run K E (step K E w (setting K E i e s)) vs in
          (done K E u v).said ≡ Paper.released n → Typed u.account
          → heap_at (done K E u v).account (heap_of K E v)
          ≡ after (heap_at u.account (heap_of K E v)) (release (total (size_of (stock [] (changes_at K E i (step K E w (setting K E i e s)) vs))) (take n (done K E u v).list)) ∷ [])
      released_heap v q n r typed =
          let u = run K E begun vs in
          own_heap K E u v typed ∙ ap (after (heap_at u.account (heap_of K E v))) (released_bytes v q n r)
