-- The free list tells its caller of every loan and every chunk, as an engine has to.
use mathlib.Core.Path.{◌≡◌, refl, sym, ap, subst, ◌∙◌}
use mathlib.Core.Bool.{false}
use mathlib.Core.Logic.Iff
use mathlib.Core.Logic.{◌⊎◌, inl, inr, ⊎_elim, ◌↔◌}
use mathlib.Core.List.Memᴰ
use mathlib.Core.List.{List, [], ◌∷◌, ◌++◌, Memᴰ, append-nil}
use Prim.Native.Nat.{ℕ, ◌+◌}
use native.Mathlib.Omega.{arith}
use lib.ListN.{length, get_or}
use lib.Seq.{get_or-append_seam}
use Rattle.counter.specs.Paper.{Said}
use Rattle.counter.specs.Paper as Paper
use Rattle.counter.specs.declared.account.Account.{Account}
use Rattle.counter.specs.declared.account.KeptOrder.{KeptOrder}
use Rattle.std.specs.Prelude.{Some}
use Rattle.counter.specs.declared.answers.Block.{Block}
use Rattle.counter.specs.declared.answers.Memory.{Memory}
use Rattle.counter.specs.declared.answers.Outcome.{Outcome}
use Rattle.counter.specs.declared.answers.Outcome.TheVariants as O
use Rattle.counter.specs.declared.settings.FreeListSettings.{FreeListSettings}
use Rattle.counter.proofs.Papers.{kind_of}
use Rattle.store_rules.specs.Loans.{loans_of}
use Rattle.store_rules.specs.Outcomes.{Out, Listed}
use Rattle.store_rules.specs.Views.{chunk}
use Rattle.store_rules.specs.declared.Chunk.{Chunk}
use Rattle.store_rules.specs.declared.Loan.{Loan}
use Rattle.store_rules.specs.declared.Region.{Region}
use Rattle.store_rules.proofs.Amid.{amid_member}
use Rattle.engines.specs.Tells.{lent_by, Same, Joined, Blocked, Ordered, Released, Refused, Tells}
use Rattle.engines.proofs.Joins.{block_of, own_block, none_joined, joined_same}
use Rattle.freelist_rules.specs.Place.{size_for, mask_for, lent_loan, put_loan}
use Rattle.freelist_rules.specs.Records.{Store, region}
use Rattle.freelist_rules.specs.Steps.{no_region, served, delivered}
use Rattle.freelist_rules.specs.Tables.{Tables, places_in, store_of}
use Rattle.freelist_rules.proofs.Fits.{lengths_are}
use Rattle.freelist_rules.proofs.Lends.{put_member}
use Rattle.freelist_rules.proofs.Ordered.{put_in}
use Rattle.freelist_outcomes.specs.Ask.{raised_for, loan_from, ask_of}
use Rattle.freelist_outcomes.specs.Deliver.{carry_fate, deliver_of}
use Rattle.freelist_outcomes.specs.Return.{release_of, return_of, clean_up_of}
use Rattle.freelist_outcomes.specs.SetUp.{Begun, set_up_of}
use Rattle.freelist_outcomes.proofs.Arrives.{arrived, arrived_store, lent_store}
use Rattle.freelist_outcomes.proofs.Changed.{ordered_store, released_store, fresh_loans}
use Rattle.freelist_outcomes.proofs.Comes.{AskComes, lends, orders, ask_comes, DeliverComes, keeps, loses, deliver_comes, ReturnComes, takes, return_comes, CleanUpComes, cleans, clean_up_comes, SetUpComes, readies, set_up_comes}
use Rattle.freelist_outcomes.proofs.Fitted.{refusal_block, same_block_lem}
use Rattle.freelist_outcomes.proofs.Taken.{taken_store}
use Rattle.freelist_engine.specs.Shape.{OwnCall, cleans_up, list_shape, own_of}
use Rattle.freelist_engine.proofs.Keeping.{list_keeps, ask_chunks}

-- ---- the forms of its answers

set_up_says : (s : FreeListSettings) (t : Tables) (r : Begun) → SetUpComes s t r → (r.said ≡ Paper.ready) ⊎ Refused r.said
set_up_says s t _ SetUpComes.denied = inr (1, [], refl)
set_up_says s t _ (readies fit lengths) = inl refl

ask_says : (s : FreeListSettings) (a : Account) (size mask : ℕ) (t : Tables) (r : Out Tables) → AskComes s a size mask t r → Blocked r.said ⊎ (Ordered r.said ⊎ Refused r.said)
ask_says s a size mask t _ (AskComes.denied n) = inr (inr (n, [], refl))
ask_says s a size mask t _ (lends i p v) = inl (_, _, _, _, refl)
ask_says s a size mask t _ (orders p v) = inr (inl (_, _, _, _, refl))

deliver_says : (s : FreeListSettings) (a : Account) (o : Outcome) (t : Tables) (r : Out Tables) → DeliverComes s a o t r → Blocked r.said ⊎ Refused r.said
unfolding carry_fate
deliver_says s a o t _ (DeliverComes.denied n) = inr (n, [], refl)
deliver_says s a o t _ (loses k n charged back w f h) = inr (n, back, refl)
deliver_says s a o t _ (keeps k m f w new) = inl (_, _, _, _, refl)

return_says : (s : FreeListSettings) (a : Account) (b : Block) (t : Tables) (list : List ℕ) (r : Listed Tables) → ReturnComes s a b t list r → Released r.said ⊎ Refused r.said
unfolding release_of
return_says s a b t list _ (ReturnComes.denied n) = inr (n, [], refl)
return_says s a b t list _ (takes p on) = inl (_, refl)

clean_up_says : (s : FreeListSettings) (a : Account) (t : Tables) (list : List ℕ) (r : Listed Tables) → CleanUpComes s a t list r → Released r.said ⊎ Refused r.said
unfolding release_of
clean_up_says s a t list _ (CleanUpComes.denied n) = inr (n, [], refl)
clean_up_says s a t list _ (cleans p) = inl (_, refl)

own_says : (s : FreeListSettings) (a : Account) (c : OwnCall) (t : Tables) (list : List ℕ) → Released (own_of s a c t list).said ⊎ Refused (own_of s a c t list).said
own_says s a cleans_up t list = clean_up_says s a t list (clean_up_of s a t list) (clean_up_comes s a t list)

-- ---- loans

put_joined : (n : Loan) (ls : List Loan) → Joined (put_loan n ls) ls (block_of n ∷ [])
put_joined n ls = (
  n,
  own_block n,
  λ l. (
    (λ m. ⊎_elim (λ e. Memᴰ.head e) (λ k. Memᴰ.tail k) (put_member n ls l m)),
    (λ m. put_in l n ls (Memᴰ.cases_cons m)),
  ),
)

-- of the loans by chunk and place
abbrev Lends : FreeListSettings → Tables → Tables → Said → Type 0
Lends s t u said = Joined (store_of s u).loans (store_of s t).loans (lent_by said)

ask_lends : (s : FreeListSettings) (a : Account) (size mask : ℕ) (t : Tables) (r : Out Tables) → AskComes s a size mask t r → Lends s t r.tables r.said
ask_lends s a size mask t _ (AskComes.denied n) = none_joined (store_of s t).loans (store_of s t).loans refl
ask_lends s a size mask t _ (lends i p v) =
    let e = taken_store s t p.settings (lengths_are s t p.lengths) p.sound size mask i v.aligned v.some v.place v.found in
    subst (λ (x : Store). Joined x.loans (store_of s t).loans (block_of (loan_from s size mask t i) ∷ [])) (sym e) (put_joined (loan_from s size mask t i) (store_of s t).loans)
ask_lends s a size mask t _ (orders p v) =
    let e = ordered_store s t p.settings (lengths_are s t p.lengths) p.sound (raised_for s size t) in
    subst (λ (x : Store). Joined x.loans (store_of s t).loans []) (sym e) (none_joined (store_of s t).loans (store_of s t).loans refl)

deliver_lends : (s : FreeListSettings) (a : Account) (o : Outcome) (t : Tables) (r : Out Tables) → DeliverComes s a o t r → Lends s t r.tables r.said
unfolding carry_fate
deliver_lends s a o t _ (DeliverComes.denied n) = none_joined (store_of s t).loans (store_of s t).loans refl
deliver_lends s a o t _ (loses k n charged back w f h) = none_joined (store_of s t).loans (store_of s t).loans refl
deliver_lends s a o t _ (keeps k m f w new) =
    let e = lent_store s a t k w m.number new in
    let loan_in : Store → Loan = λ x. lent_loan (x.given + 1) (served (mask_for s k.ask.mask) (size_for s k.ask.size) x (length (store_of s t).regions)) in
    let g = arrived_store s a t k w m.number new in
    subst (λ (x : Store). Joined x.loans (store_of s t).loans (block_of (loan_in (store_of s (arrived s a t k w m.number new))) ∷ [])) (sym e)
    (subst (λ (n : Loan). Joined (put_loan (loan_in (delivered s m.number k.order.size (store_of s t))) (store_of s t).loans) (store_of s t).loans (block_of n ∷ [])) (ap loan_in (sym g))
    (put_joined (loan_in (delivered s m.number k.order.size (store_of s t))) (store_of s t).loans))

clean_up_leaves : (s : FreeListSettings) (a : Account) (t : Tables) (list : List ℕ) (r : Listed Tables) → CleanUpComes s a t list r → (store_of s r.tables).loans ≡ (store_of s t).loans
unfolding release_of
clean_up_leaves s a t list _ (CleanUpComes.denied n) = refl
clean_up_leaves s a t list _ (cleans p) = ap (λ (x : Store). x.loans) (released_store s t p.settings (lengths_are s t p.lengths) p.sound false)

own_leaves : (s : FreeListSettings) (a : Account) (c : OwnCall) (t : Tables) (list : List ℕ) → (store_of s (own_of s a c t list).tables).loans ≡ (store_of s t).loans
own_leaves s a cleans_up t list = clean_up_leaves s a t list (clean_up_of s a t list) (clean_up_comes s a t list)

fresh_none : (s : FreeListSettings) (t : Tables) (r : Begun) → SetUpComes s t r → kind_of r.said ≡ 0 → loans_of (places_in r.tables) r.tables.loans ≡ []
fresh_none s t _ SetUpComes.denied e = absurd (omega arith)
fresh_none s t _ (readies fit lengths) e = fresh_loans s

-- the loans as the tables have them
seen_joined : (s : FreeListSettings) (t u : Tables) (said : Said) → Lends s t u said → Joined (list_shape.loans u) (list_shape.loans t) (lent_by said)
seen_joined s t u said j =
    joined_same (list_shape.loans u) (store_of s u).loans (list_shape.loans t) (store_of s t).loans (lent_by said)
    (λ l. Iff.symm (list_keeps.loans_seen s u l))
    (λ l. Iff.symm (list_keeps.loans_seen s t l))
    j

seen_same : (s : FreeListSettings) (t u : Tables) → (store_of s u).loans ≡ (store_of s t).loans → Same (list_shape.loans u) (list_shape.loans t)
seen_same s t u e l =
    let there = list_keeps.loans_seen s u l in
    let here = list_keeps.loans_seen s t l in
    ((λ m. here.0 (subst (Memᴰ l) e (there.1 m))), (λ m. there.0 (subst (Memᴰ l) (sym e) (here.1 m))))

-- ---- chunks

last_joined : (cs : List Chunk) (d c : Chunk) → Memᴰ c (cs ++ (d ∷ [])) ↔ (Memᴰ c cs ⊎ (c ≡ d))
last_joined cs d = amid_member d cs (cs ++ (d ∷ [])) (record { earlier = cs; later = []; were = sym (append-nil cs); are = refl })

-- a delivery that lends a block lends it from the new chunk
abbrev Arrives : FreeListSettings → Account → Outcome → Tables → Tables → ℕ → Type 0
Arrives s a o t u number =
    (k : KeptOrder) × (m : Memory) × (a.order ≡ Some k) × (o ≡ O.Made m)
    × ((c : Chunk) → Memᴰ c (store_of s u).chunks ↔ (Memᴰ c (store_of s t).chunks ⊎ (c ≡ chunk number m.number k.order.size)))

deliver_arrives : (s : FreeListSettings) (a : Account) (o : Outcome) (t : Tables) (serial number offset len : ℕ) (r : Out Tables) → DeliverComes s a o t r → r.said ≡ Paper.block serial number offset len
    → Arrives s a o t r.tables number
unfolding carry_fate
deliver_arrives s a o t serial number offset len _ (DeliverComes.denied n) e = refusal_block n [] serial number offset len e
deliver_arrives s a o t serial number offset len _ (loses k n charged back w f h) e = refusal_block n back serial number offset len e
deliver_arrives s a o t serial number offset len _ (keeps k m f w new) e =
    let v = store_of s t in
    let last : Region = region (v.made + 1) 0 k.order.size in
    let l = loan_from s k.ask.size k.ask.mask (arrived s a t k w m.number new) (length v.regions) in
    let g = arrived_store s a t k w m.number new in
    let from : get_or (store_of s (arrived s a t k w m.number new)).regions (length v.regions) no_region ≡ last =
    ap (λ (x : Store). get_or x.regions (length v.regions) no_region) g ∙ get_or-append_seam v.regions last [] no_region in
    let its : number ≡ v.made + 1 = sym (same_block_lem l.serial l.chunk l.offset l.size serial number offset len e).1 ∙ ap (λ (x : Region). x.chunk) from in (
      k,
      m,
      w.is,
      f,
      λ c.
          subst (λ (x : Store). Memᴰ c x.chunks ↔ (Memᴰ c v.chunks ⊎ (c ≡ chunk number m.number k.order.size))) (sym (lent_store s a t k w m.number new))
          (subst (λ (n : ℕ). Memᴰ c (v.chunks ++ (chunk (v.made + 1) m.number k.order.size ∷ [])) ↔ (Memᴰ c v.chunks ⊎ (c ≡ chunk n m.number k.order.size))) (sym its)
          (last_joined v.chunks (chunk (v.made + 1) m.number k.order.size) c)),
    )

-- the free list tells as an engine has to
pub list_tells : Tells list_shape
list_tells =
    record {
      set_up_says = λ s t. set_up_says s t (set_up_of s t) (set_up_comes s t);
      ask_says = λ s a size mask t. ask_says s a size mask t (ask_of s a size mask t) (ask_comes s a size mask t);
      deliver_says = λ s a o t. deliver_says s a o t (deliver_of s a o t) (deliver_comes s a o t);
      return_says = λ s a b t list. return_says s a b t list (return_of s a b t list) (return_comes s a b t list);
      other_says = λ s a c t list. own_says s a c t list;
      fresh = λ s t e. fresh_none s t (set_up_of s t) (set_up_comes s t) (ap kind_of e);
      ask_loans = λ s a size mask t.
          seen_joined s t (list_shape.ask s a size mask t).tables (list_shape.ask s a size mask t).said
          (ask_lends s a size mask t (ask_of s a size mask t) (ask_comes s a size mask t));
      deliver_loans = λ s a o t.
          seen_joined s t (list_shape.deliver s a o t).tables (list_shape.deliver s a o t).said
          (deliver_lends s a o t (deliver_of s a o t) (deliver_comes s a o t));
      other_loans = λ s a c t list. seen_same s t (list_shape.other s a c t list).tables (own_leaves s a c t list);
      ask_chunks = λ s a size mask t. sym (ask_chunks s a size mask t (ask_of s a size mask t) (ask_comes s a size mask t));
      deliver_chunks = λ s a o t serial number offset len e. deliver_arrives s a o t serial number offset len (deliver_of s a o t) (deliver_comes s a o t) e;
    }
