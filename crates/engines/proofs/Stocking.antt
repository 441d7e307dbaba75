-- What one call does to the held chunks of its store is what its caller hears: a chunk comes with a delivery that lends from it,
-- and goes where its memory number is told, and else nothing comes or goes.
use mathlib.Core.Path.{◌≡◌, refl, sym, ap, subst, ◌∙◌}
use mathlib.Core.Bool.{Bool, true, false, cond, not}
use mathlib.Core.Logic.{◌⊎◌, inl, inr, ⊎_elim, ◌↔◌}
use mathlib.Core.List.Memᴰ
use mathlib.Core.List.{List, [], ◌∷◌, map, Memᴰ}
use Prim.Native.Nat.{ℕ}
use native.Mathlib.Omega.{arith}
use lib.ListN.{take}
use lib.Seq.{take-nil}
use Rattle.lists.specs.Members.{NotIn, Distinct}
use Rattle.lists.proofs.Bools.{same?, told, true_false, not_yes}
use Rattle.counter.specs.Paper as Paper
use Rattle.counter.specs.Reasons.{Clear}
use Rattle.counter.specs.declared.account.Account.{Account}
use Rattle.counter.specs.declared.account.KeptOrder.{KeptOrder}
use Rattle.counter.specs.Open.{OpenOrder}
use Rattle.std.specs.Prelude.{None, Some}
use Rattle.counter.specs.declared.answers.Block.{Block}
use Rattle.counter.specs.declared.answers.Outcome.{Outcome}
use Rattle.counter.specs.declared.answers.Outcome.TheVariants as O
use Rattle.store_rules.specs.Delivery.{holds}
use Rattle.store_rules.specs.Outcomes.{Out, Listed, to_free}
use Rattle.store_rules.specs.Refusals.{NoneFor}
use Rattle.store_rules.specs.Rows.{deliver_rows}
use Rattle.store_rules.specs.Views.{View, chunk, Go}
use Rattle.store_rules.specs.declared.Chunk.{Chunk}
use Rattle.store_rules.proofs.Keyed.{key_not, not_key, distinct_differ}
use Rattle.store_rules.proofs.Lessening.{those, those_mem, those_yes, mem_those}
use Rattle.store_rules.proofs.Refused.{holds_in, in_holds}
use Rattle.store_rules.proofs.Said.{refuses}
use Rattle.engines.specs.Books.{order_size}
use Rattle.engines.specs.Engines.{Engine}
use Rattle.engines.specs.Further.{Further}
use Rattle.engines.specs.Shapes.{Tables, Call, sets_up, asks, delivers, returns, others, does, Marked, words_of}
use Rattle.engines.specs.Stock.{Change, came, went, brought_by, told_by, change_of, chunks_less, stock, SameChunks, NoMemoryTwice}
use Rattle.engines.specs.Tells.{Blocked, Refused}
use Rattle.engines.proofs.Answering.{deliver_tells}
use Rattle.engines.proofs.Sizes.{once_stays}
use Rattle.engines.proofs.Taking.{return_taken}
use Rattle.engines.proofs.Visits.{set_up_stays}

abbrev memory : Chunk → ℕ
memory c = c.memory

-- ---- chunks less those of some memory numbers

less_those : (ms : List ℕ) (cs : List Chunk) → chunks_less ms cs ≡ those (λ (c : Chunk). not (holds c.memory ms)) cs
less_those ms [] = refl
less_those ms (c ∷ cs) = go (holds c.memory ms) (less_those ms cs)
  where
    go : (x : Bool) → chunks_less ms cs ≡ those (λ (d : Chunk). not (holds d.memory ms)) cs
        → cond x (chunks_less ms cs) (c ∷ chunks_less ms cs) ≡ cond (not x) (c ∷ those (λ (d : Chunk). not (holds d.memory ms)) cs) (those (λ (d : Chunk). not (holds d.memory ms)) cs)
    go true ih = ih
    go false ih = ap (λ (ds : List Chunk). c ∷ ds) ih

-- the chunks left are the others
less_chunks : (ms : List ℕ) (cs : List Chunk) (c : Chunk) → Memᴰ c (chunks_less ms cs) ↔ (Memᴰ c cs × (Memᴰ c.memory ms → ⊥))
less_chunks ms cs c = (there, back)
  where
    there : Memᴰ c (chunks_less ms cs) → Memᴰ c cs × (Memᴰ c.memory ms → ⊥)
    there m =
        let k = subst (Memᴰ c) (less_those ms cs) m in
        (those_mem _ c cs k, λ e. true_false (holds c.memory ms) (in_holds c.memory ms e) (not_yes (holds c.memory ms) (those_yes _ c cs k)))

    back : Memᴰ c cs × (Memᴰ c.memory ms → ⊥) → Memᴰ c (chunks_less ms cs)
    back w =
        subst (Memᴰ c) (sym (less_those ms cs))
        (mem_those _ c cs w.0 (ap not (⊎_elim (λ e. absurd (w.1 (holds_in c.memory ms e))) (λ e. e) (told (holds c.memory ms)))))

less_once : (ms : List ℕ) (cs : List Chunk) → NoMemoryTwice cs → NoMemoryTwice (chunks_less ms cs)
less_once ms [] w = tt
less_once ms (c ∷ cs) w = go (holds c.memory ms) (less_once ms cs w.1)
  where
    go : (x : Bool) → NoMemoryTwice (chunks_less ms cs) → NoMemoryTwice (cond x (chunks_less ms cs) (c ∷ chunks_less ms cs))
    go true ih = ih
    go false ih = (not_key memory c.memory (chunks_less ms cs) (λ d m. key_not memory c.memory cs w.0 d ((less_chunks ms cs d).0 m).0), ih)

-- none, where no number is named
pub none_less : (cs : List Chunk) → chunks_less [] cs ≡ cs
none_less [] = refl
none_less (c ∷ cs) = ap (λ (ds : List Chunk). c ∷ ds) (none_less cs)

-- ---- what a call does to the held chunks

-- nothing; or a chunk comes, under a memory number that none has; or some go, and their memory numbers are told
pub data Moved (held : Tables → List Chunk) (t u : Tables) (ms : List ℕ) (ns : List Change) : Type 0 where
  none : held u ≡ held t → ((cs : List Chunk) → stock cs ns ≡ cs) → Moved held t u ms ns
  comes : (x : Chunk) → ns ≡ came x ∷ [] → ((c : Chunk) → Memᴰ c (held u) ↔ (Memᴰ c (held t) ⊎ (c ≡ x)))
      → NoMemoryTwice (held u) → ((c : Chunk) → Memᴰ c (held t) → x.memory ≡ c.memory → ⊥) → Moved held t u ms ns
  goes : ns ≡ went ms ∷ [] → Go (held t) (held u) ms → Moved held t u ms ns

-- what is not said to be otherwise of numbers is so
not_in_stable : (x : ℕ) (l : List ℕ) → ((NotIn x l → ⊥) → ⊥) → NotIn x l
not_in_stable x [] f = tt
not_in_stable x (y ∷ l) f = ((λ e. f (λ n. n.0 e)), not_in_stable x l (λ g. f (λ n. g n.1)))

distinct_stable : (l : List ℕ) → ((Distinct l → ⊥) → ⊥) → Distinct l
distinct_stable [] f = tt
distinct_stable (x ∷ l) f = (not_in_stable x l (λ g. f (λ d. g d.0)), distinct_stable l (λ g. f (λ d. g d.1)))

nothing_kept : (k : KeptOrder) → None ≡ Some k → ⊥
nothing_kept k e = let z : ◌≡◌ {A = ℕ} 0 1 = cc in omega arith

pub refused_brings : (o : Outcome) (z n : ℕ) (back : List ℕ) → brought_by o z (Paper.refusal n back) ≡ []
refused_brings (O.Made m) z n back = refl
refused_brings O.OutOfDevice z n back = refl
refused_brings O.OutOfHost z n back = refl

module _ (E : Engine) (F : Further E.shape) (s : E.shape.Settings) (a : Account) (t : Tables) where
  abbrev held : Tables → List Chunk
  held u = F.chunks u

  -- what a user sees held stays
  seen_stay : (u : Tables) → (E.shape.view s u).chunks ≡ (E.shape.view s t).chunks → held u ≡ held t
  seen_stay u e = sym (F.chunks_seen s u) ∙ e ∙ F.chunks_seen s t

  -- and what goes of it goes
  seen_go : (u : Tables) (ms : List ℕ) → Go (E.shape.view s t).chunks (E.shape.view s u).chunks ms → Go (held t) (held u) ms
  seen_go u ms g =
      subst (λ (ds : List Chunk). Go (held t) ds ms) (F.chunks_seen s u)
      (subst (λ (cs : List Chunk). Go cs (E.shape.view s u).chunks ms) (F.chunks_seen s t) g)

  -- ---- a delivery

  module _ (o : Outcome) where
    abbrev after : Tables
    after = (E.shape.deliver s a o t).tables

    -- 11 and 12 are given only where an order is open
    lost_kept : (n : ℕ) (back : List ℕ) → (E.shape.deliver s a o t).said ≡ Paper.refusal n back → (n ≡ 11) ⊎ (n ≡ 12) → (k : KeptOrder) × (a.order ≡ Some k)
    lost_kept n back e number = by a.order refl
      where
        by : (x : OpenOrder) → a.order ≡ x → (k : KeptOrder) × (a.order ≡ Some k)
        by (Some k) q = (k, q)
        by None q =
            let shut : NoneFor (E.shape.store s).number a = λ k w z. nothing_kept k (sym q ∙ w) in
            let not_low : (m : ℕ) → n ≡ m → (m ≡ 11 → ⊥) → (m ≡ 12 → ⊥) → ⊥ = λ m w x y. ⊎_elim (λ z. x (sym w ∙ z)) (λ z. y (sym w ∙ z)) number in
            absurd
            (⊎_elim (λ w. not_low 1 w.1 (λ z. omega arith) (λ z. omega arith))
            (λ w. ⊎_elim (λ v. not_low 2 v.1 (λ z. omega arith) (λ z. omega arith)) (λ v. v.0 shut) w.1)
            ((E.refuses.deliver_refused s a o t n).0 (back, e)))

    refused_stay : Refused (E.shape.deliver s a o t).said → held after ≡ held t
    refused_stay w = ⊎_elim (λ x. lost (inl x)) (λ x. ⊎_elim (λ y. lost (inr y)) (λ y. other x y) (same? w.0 12)) (same? w.0 11)
      where
        lost : (w.0 ≡ 11) ⊎ (w.0 ≡ 12) → held after ≡ held t
        lost number =
            let k = lost_kept w.0 w.1 w.2 number in
            seen_stay after (ap (λ (v : View). v.chunks) (E.refuses.lost_leaves s a o t k.0 w.0 w.1 k.1 w.2 number).1)

        other : (w.0 ≡ 11 → ⊥) → (w.0 ≡ 12 → ⊥) → held after ≡ held t
        other x y = ap (λ (r : Out Tables). held r.tables) (E.refuses.deliver_leaves s a o t w.0 w.1 w.2 x y)

    -- those held afterwards differ by their memory numbers
    after_once : Clear (deliver_rows (words_of E.shape) s a o t) → NoMemoryTwice (held after)
    after_once c =
        distinct_stable (map memory (held after))
        (λ no. c.0 (λ fit. c.1.1.0 (λ led.
        no (subst NoMemoryTwice (F.chunks_seen s after)
        (E.keeps.apart s after (E.keeps.fits_stays s a t (delivers o) fit.0 led.0) (E.keeps.deliver_sound s a o t led.0)).memories))))

    deliver_moves : Moved F.chunks t after [] (brought_by o (order_size a.order) (E.shape.deliver s a o t).said)
    deliver_moves = ⊎_elim brings stays (E.tells.deliver_says s a o t)
      where
        stays : Refused (E.shape.deliver s a o t).said → Moved F.chunks t after [] (brought_by o (order_size a.order) (E.shape.deliver s a o t).said)
        stays w =
            let e : brought_by o (order_size a.order) (E.shape.deliver s a o t).said ≡ [] = ap (brought_by o (order_size a.order)) w.2 ∙ refused_brings o (order_size a.order) w.0 w.1 in
            none (refused_stay w) (λ cs. ap (stock cs) e)

        brings : Blocked (E.shape.deliver s a o t).said → Moved F.chunks t after [] (brought_by o (order_size a.order) (E.shape.deliver s a o t).said)
        brings b =
            let c = (deliver_tells E s a o t).0 b in
            let d = E.tells.deliver_chunks s a o t b.0 b.1 b.2 b.3 b.4 in
            let k = d.0 in
            let m = d.1 in
            let x = chunk b.1 m.number k.order.size in
            comes x (λ j. brought_by (d.3 j) (order_size (d.2 j)) (b.4 j))
            (λ y. subst (λ (ds : List Chunk). Memᴰ y ds ↔ (Memᴰ y (held t) ⊎ (y ≡ x))) (F.chunks_seen s after)
            (subst (λ (cs : List Chunk). Memᴰ y (E.shape.view s after).chunks ↔ (Memᴰ y cs ⊎ (y ≡ x))) (F.chunks_seen s t) (d.4 y)))
            (after_once c)
            (λ y i q. c.1.1.1.1.0
            (k, d.2, (m, d.3, inl (subst (λ (z : ℕ). Memᴰ z (map memory (E.shape.view s t).chunks)) (sym q) (Memᴰ.map memory (subst (Memᴰ y) (sym (F.chunks_seen s t)) i))))))

  -- ---- a return and a call that only this engine has

  -- one that is refused tells nothing
  untold : (u : Tables) (ms : List ℕ) → held u ≡ held t → ms ≡ [] → Moved F.chunks t u ms (went ms ∷ [])
  untold u ms e n = none e (λ cs. ap (λ (xs : List ℕ). chunks_less xs cs) n ∙ none_less cs)

  return_moves : (b : Block) (list : List ℕ) → Moved F.chunks t (E.shape.return s a b t list).tables (told_by (E.shape.return s a b t list)) (went (told_by (E.shape.return s a b t list)) ∷ [])
  return_moves b list =
      ⊎_elim (λ w. goes refl (seen_go (E.shape.return s a b t list).tables (told_by (E.shape.return s a b t list)) (return_taken E s a t b list (ap refuses w.1)).goes))
      (λ w. let e = E.refuses.return_leaves s a b t list w.0 w.1 w.2 in
      untold (E.shape.return s a b t list).tables (told_by (E.shape.return s a b t list)) (ap (λ (r : Listed Tables). held r.tables) e) (ap told_by e))
      (E.tells.return_says s a b t list)

  other_moves : (c : E.shape.Own) (list : List ℕ) → Moved F.chunks t (E.shape.other s a c t list).tables (told_by (E.shape.other s a c t list)) (went (told_by (E.shape.other s a c t list)) ∷ [])
  other_moves c list =
      ⊎_elim
      (λ w. let z : take w.0 (E.shape.other s a c t list).list ≡ told_by (E.shape.other s a c t list) = ap (λ (n : ℕ). take n (E.shape.other s a c t list).list) (sym (ap to_free w.1)) in
      goes refl (seen_go (E.shape.other s a c t list).tables (told_by (E.shape.other s a c t list))
      (subst (Go (E.shape.view s t).chunks (E.shape.view s (E.shape.other s a c t list).tables).chunks) z (F.other_goes s a c t list w.0 w.1).1)))
      (λ w. let e = E.refuses.other_leaves s a c t list w.0 w.1 w.2 in
      untold (E.shape.other s a c t list).tables (told_by (E.shape.other s a c t list)) (ap (λ (r : Listed Tables). held r.tables) e) (ap told_by e))
      (E.tells.other_says s a c t list)

  -- ---- any call but a set-up that is accepted

  pub call_moves : (c : Call E.shape.Own) → (c ≡ sets_up → (does E.shape s a t c).said ≡ Paper.ready → ⊥)
      → Moved F.chunks t (does E.shape s a t c).tables (told_by (does E.shape s a t c)) (change_of a.order c (does E.shape s a t c))
  call_moves sets_up f = none (ap held (set_up_stays E s t (f refl))) (λ cs. refl)
  call_moves (asks size mask) f = none (seen_stay (E.shape.ask s a size mask t).tables (E.tells.ask_chunks s a size mask t)) (λ cs. refl)
  call_moves (delivers o) f =
      subst (λ (ms : List ℕ). Moved F.chunks t (E.shape.deliver s a o t).tables ms (brought_by o (order_size a.order) (E.shape.deliver s a o t).said))
      (sym (take-nil (to_free (E.shape.deliver s a o t).said)))
      (deliver_moves o)
  call_moves (returns b list) f = return_moves b list
  call_moves (others c list) f = other_moves c list

  module _ (c : Call E.shape.Own) (f : c ≡ sets_up → (does E.shape s a t c).said ≡ Paper.ready → ⊥) (x : Chunk) where
    -- a chunk that is held before a call is held after it, or its memory number is told
    pub chunk_stays : Memᴰ x (F.chunks t) → Memᴰ x (F.chunks (does E.shape s a t c).tables) ⊎ Memᴰ x.memory (told_by (does E.shape s a t c))
    chunk_stays m = by (call_moves c f)
      where
        by : {ns : List Change} → Moved F.chunks t (does E.shape s a t c).tables (told_by (does E.shape s a t c)) ns
            → Memᴰ x (F.chunks (does E.shape s a t c).tables) ⊎ Memᴰ x.memory (told_by (does E.shape s a t c))
        by (none e k) = inl (subst (Memᴰ x) (sym e) m)
        by (comes y e k o n) = inl ((k x).1 (inl m))
        by (goes e g) = ⊎_elim (λ k. inl k) (λ k. inr ((g.tells x.memory).1 (x, m, refl, k))) (g.either x m)

    -- and one that is held after it was held before, or is heard to have come
    pub chunk_came : Memᴰ x (F.chunks (does E.shape s a t c).tables) → Memᴰ x (F.chunks t) ⊎ Memᴰ (came x) (change_of a.order c (does E.shape s a t c))
    chunk_came m = by (call_moves c f)
      where
        by : {ns : List Change} → Moved F.chunks t (does E.shape s a t c).tables (told_by (does E.shape s a t c)) ns → Memᴰ x (F.chunks t) ⊎ Memᴰ (came x) ns
        by (none e k) = inl (subst (Memᴰ x) e m)
        by (comes y e k o n) = ⊎_elim (λ w. inl w) (λ w. inr (subst (Memᴰ (came x)) (sym e) (Memᴰ.head (ap came w)))) ((k x).0 m)
        by (goes e g) = inl (g.among x m)

-- ---- a store whose chunks are those of a list

-- engine E's store, whose held chunks are exactly cs, and no memory number twice
pub record Holding (E : Engine) (F : Further E.shape) (t : Tables) (cs : List Chunk) : Type 0 where
  pub marks : Marked E.shape t
  pub same : SameChunks (F.chunks t) cs
  pub once : NoMemoryTwice (F.chunks t)
  pub listed : NoMemoryTwice cs

pub moved_holding : (E : Engine) (F : Further E.shape) (t u : Tables) (ms : List ℕ) (ns : List Change) (cs : List Chunk) → Moved F.chunks t u ms ns → Marked E.shape u → Holding E F t cs → Holding E F u (stock cs ns)
moved_holding E F t u ms ns cs (none e k) marks h =
    subst (Holding E F u) (sym (k cs))
    (record { marks = marks; same = subst (λ (ds : List Chunk). SameChunks ds cs) (sym e) h.same; once = subst NoMemoryTwice (sym e) h.once; listed = h.listed })
moved_holding E F t u ms ns cs (comes x e k once new) marks h =
    subst (λ (xs : List Change). Holding E F u (stock cs xs)) (sym e)
    (record {
      marks = marks;
      same = λ c. (
        (λ m. ⊎_elim (λ w. Memᴰ.tail ((h.same c).0 w)) (λ w. Memᴰ.head w) ((k c).0 m)),
        (λ m. (k c).1 (⊎_elim (λ w. inr w) (λ w. inl ((h.same c).1 w)) (Memᴰ.cases_cons m))),
      );
      once = once;
      listed = (not_key memory x.memory cs (λ c m. new c ((h.same c).1 m)), h.listed);
    })
moved_holding E F t u ms ns cs (goes e g) marks h =
    subst (λ (xs : List Change). Holding E F u (stock cs xs)) (sym e)
    (record {
      marks = marks;
      same = λ c. (
        (λ m. (less_chunks ms cs c).1 (
          (h.same c).0 (g.among c m),
          λ i.
              let w = (g.tells c.memory).0 i in
              w.3 (subst (λ (d : Chunk). Memᴰ d (F.chunks u)) (sym (distinct_differ memory (F.chunks t) h.once w.0 c w.1 (g.among c m) w.2)) m),
        )),
        (λ m. let w = (less_chunks ms cs c).0 m in
            ⊎_elim (λ k. k) (λ k. absurd (w.1 ((g.tells c.memory).1 (c, (h.same c).1 w.0, refl, k)))) (g.either c ((h.same c).1 w.0))),
      );
      once = once_stays (F.chunks t) (F.chunks u) ms g h.once;
      listed = less_once ms cs h.listed;
    })
