-- The laws of the loans by place: where a record leads, what it takes for one to come in between two others or go out, and what
-- the test of them says.
use mathlib.Core.Path.{◌≡◌, refl, sym, ap, ◌∙◌, subst}
use mathlib.Core.Bool.{Bool, true, false, cond}
use mathlib.Core.Logic.{◌⊎◌, inl, inr, ⊎_elim}
use mathlib.Core.List.{List, [], ◌∷◌, ◌++◌}
use Prim.Native.Nat.{ℕ, zero, suc, ◌+◌, ◌-◌, ◌≤◌, ◌<◌}
use native.Mathlib.Omega.{arith}
use lib.Dec.{eqb, ltb}
use lib.ListN.{length, get_or, set, length-set}
use lib.Seq.{get_or-set_same, get_or-set_other}
use borrow.Author.Tests.{eqb-true, eqb-false, ltb-true, eq-eqb, ne_eqb, lt-ltb}
use Rattle.lists.specs.Members.{Mem, NotIn, Distinct, head_or}
use Rattle.lists.proofs.Bools.{and_left, and_right, and_both, told, true_false}
use Rattle.lists.proofs.Members.{not_mem, mem_not, mem_left, mem_right, mem_of_left}
use Rattle.book_rules.specs.Book.{index_words}
use Rattle.freelist_rules.specs.Threads.{after_from, before_from, thread_words, after_in, before_in, threaded, unthreaded, Leads, followed, leads_ok}

-- the last of the list, u where it is empty
abbrev pub last_or : ℕ → List ℕ → ℕ
last_or u [] = u
last_or u (r ∷ rs) = last_or r rs

pub last_mem : (u : ℕ) (rs : List ℕ) → Mem (last_or u rs) (u ∷ rs)
last_mem u [] = inl refl
last_mem u (r ∷ rs) = inr (last_mem r rs)

pub head_mem : (u : ℕ) (rs : List ℕ) → Mem (head_or u rs) (u ∷ rs)
head_mem u [] = inl refl
head_mem u (r ∷ rs) = inr (inl refl)

pub last_end : (u r : ℕ) (rs : List ℕ) → last_or u (rs ++ (r ∷ [])) ≡ r
last_end u r [] = refl
last_end u r (x ∷ rs) = last_end x r rs

-- records are numbers over 0
pub no_zero : (rs : List ℕ) → ((r : ℕ) → Mem r rs → 0 < r) → NotIn 0 rs
no_zero rs f = mem_not 0 rs (λ m. let h : 0 < 0 = f 0 m in omega arith)

-- a number that is not in a ++ b is not in one of the two
not_left : (x : ℕ) (a b : List ℕ) → NotIn x (a ++ b) → NotIn x a
not_left x a b o = mem_not x a (λ m. not_mem x (a ++ b) o (mem_left x a b m))

not_right : (x : ℕ) (a b : List ℕ) → NotIn x (a ++ b) → NotIn x b
not_right x a b o = mem_not x b (λ m. not_mem x (a ++ b) o (mem_right x a b m))

-- a member is another number than one that is not in the list
other : (x y : ℕ) (l : List ℕ) → Mem x l → NotIn y l → x ≡ y → ⊥
other x y l m o e = not_mem y l o (subst (λ (z : ℕ). Mem z l) e m)

-- record y stands apart from those behind it and from 0
apart : (x y : ℕ) (l : List ℕ) → NotIn 0 (y ∷ l) → NotIn y l → Mem x (0 ∷ l) → x ≡ y → ⊥
apart x y l z o (inl e) q = z.0 (sym e ∙ q)
apart x y l z o (inr m) q = other x y l m o q

past_one : (x y : ℕ) (l : List ℕ) → Mem x (0 ∷ l) → Mem x (0 ∷ y ∷ l)
past_one x y l (inl e) = inl e
past_one x y l (inr m) = inr (inr m)

-- y is neither the first of what stands further behind it nor 0; and u is not the last of what stands behind it
no_head : (y : ℕ) (a b : List ℕ) → NotIn 0 (y ∷ a ++ b) → NotIn y (a ++ b) → y ≡ head_or 0 b → ⊥
no_head y a b z o e = apart (head_or 0 b) y b (z.0, not_right 0 a b z.1) (not_right y a b o) (head_mem 0 b) (sym e)

no_last : (u y : ℕ) (a b : List ℕ) → NotIn u (y ∷ a ++ b) → u ≡ last_or y a → ⊥
no_last u y a b o e = other (last_or y a) u (y ∷ a) (last_mem y a) (not_left u (y ∷ a) b o) (sym e)

-- what leads on from a record, and what leads back
module _ (after before : ℕ → ℕ) where
  -- where a ends and b begins
  pub leads_ends : (u : ℕ) (a b : List ℕ) → Leads after before u (a ++ b) → (after (last_or u a) ≡ head_or 0 b) × (before (head_or 0 b) ≡ last_or u a)
  leads_ends u [] [] L = L
  leads_ends u [] (r ∷ b) L = (L.0, L.1)
  leads_ends u (x ∷ a) b L = leads_ends x a b L.2

  -- at a record that stands between a and b
  pub leads_next : (u r : ℕ) (a b : List ℕ) → Leads after before u (a ++ (r ∷ b)) → (before r ≡ last_or u a) × (after r ≡ head_or 0 b)
  leads_next u r [] b L = (L.1, (leads_ends r [] b L.2).0)
  leads_next u r (x ∷ a) b L = leads_next x r a b L.2

  -- each record leads back to one alone: so where u is not met again, no record that leads back to u is
  back : (u r v : ℕ) (rs : List ℕ) → Leads after before v rs → NotIn u (v ∷ rs) → before r ≡ u → NotIn r rs
  back u r v [] L o e = tt
  back u r v (x ∷ rs) L o e = ((λ q. o.0 (sym e ∙ ap before q ∙ L.1)), back u r x rs L.2 o.1 e)

  pub leads_all_distinct : (u : ℕ) (rs : List ℕ) → Leads after before u rs → NotIn u rs → Distinct (u ∷ rs)
  leads_all_distinct u [] L o = (tt, tt)
  leads_all_distinct u (r ∷ rs) L o = (o, leads_all_distinct r rs L.2 (back u r r rs L.2 o L.1))

  pub leads_distinct : (rs : List ℕ) → Leads after before 0 rs → NotIn 0 rs → Distinct rs
  leads_distinct rs L o = (leads_all_distinct 0 rs L o).1

  -- they lead through one list alone
  pub leads_once : (u : ℕ) (rs ss : List ℕ) → Leads after before u rs → Leads after before u ss → NotIn 0 rs → NotIn 0 ss → rs ≡ ss
  leads_once u [] [] L M o p = refl
  leads_once u [] (s ∷ ss) L M o p = absurd (p.0 (sym L.0 ∙ M.0))
  leads_once u (r ∷ rs) [] L M o p = absurd (o.0 (sym M.0 ∙ L.0))
  leads_once u (r ∷ rs) (s ∷ ss) L M o p =
      let e : s ≡ r = sym M.0 ∙ L.0 in
      let f : rs ≡ ss = leads_once r rs ss L.2 (rw e at M.2) o.1 p.1 in
      cc

-- and what leads on and back from then on
module _ (after before after' before' : ℕ → ℕ) where
  -- through the same list they lead to the same
  pub leads_after : (u : ℕ) (rs : List ℕ) → Leads after before u rs → Leads after' before' u rs → (x : ℕ) → Mem x (u ∷ rs) → after x ≡ after' x
  leads_after u [] L M x (inl e) = ap after e ∙ L.0 ∙ sym M.0 ∙ ap after' (sym e)
  leads_after u [] L M x (inr m) = elim m [ ]
  leads_after u (r ∷ rs) L M x (inl e) = ap after e ∙ L.0 ∙ sym M.0 ∙ ap after' (sym e)
  leads_after u (r ∷ rs) L M x (inr m) = leads_after r rs L.2 M.2 x m

  pub leads_before : (u : ℕ) (rs : List ℕ) → Leads after before u rs → Leads after' before' u rs → (x : ℕ) → Mem x (0 ∷ rs) → before x ≡ before' x
  leads_before u [] L M x (inl e) = ap before e ∙ L.1 ∙ sym M.1 ∙ ap before' (sym e)
  leads_before u [] L M x (inr m) = elim m [ ]
  leads_before u (r ∷ rs) L M x (inl e) = leads_before r rs L.2 M.2 x (inl e)
  leads_before u (r ∷ rs) L M x (inr (inl e)) = ap before e ∙ L.1 ∙ sym M.1 ∙ ap before' (sym e)
  leads_before u (r ∷ rs) L M x (inr (inr m)) = leads_before r rs L.2 M.2 x (inr m)

  -- where they lead to the same
  pub leads_same : (u : ℕ) (rs : List ℕ) → Leads after before u rs → ((x : ℕ) → Mem x (u ∷ rs) → after' x ≡ after x) → ((x : ℕ) → Mem x (0 ∷ rs) → before' x ≡ before x) → Leads after' before' u rs
  leads_same u [] L f g = (f u (inl refl) ∙ L.0, g 0 (inl refl) ∙ L.1)
  leads_same u (r ∷ rs) L f g =
      (f u (inl refl) ∙ L.0, g r (inr (inl refl)) ∙ L.1, leads_same r rs L.2 (λ x m. f x (inr m)) (λ x m. g x (past_one x r rs m)))

  put_in : (u r : ℕ) (a b : List ℕ) → Leads after before u (a ++ b) → NotIn 0 (a ++ b) → Distinct (u ∷ a ++ b)
      → after' r ≡ head_or 0 b → before' r ≡ last_or u a → after' (last_or u a) ≡ r → before' (head_or 0 b) ≡ r
      → ((x : ℕ) → Mem x (u ∷ a ++ b) → (x ≡ last_or u a → ⊥) → after' x ≡ after x)
      → ((x : ℕ) → Mem x (0 ∷ a ++ b) → (x ≡ head_or 0 b → ⊥) → before' x ≡ before x)
      → Leads after' before' u (a ++ (r ∷ b))
  put_in u r [] [] L z d p q s t f g = (s, q, (p, t))
  put_in u r [] (y ∷ b) L z d p q s t f g =
      (s, q, (p, t, leads_same y b L.2 (λ x m. f x (inr m) (other x u (y ∷ b) m d.0)) (λ x m. g x (past_one x y b m) (apart x y b z d.1.0 m))))
  put_in u r (y ∷ a) b L z d p q s t f g = (
    f u (inl refl) (no_last u y a b d.0) ∙ L.0,
    g y (inr (inl refl)) (no_head y a b z d.1.0) ∙ L.1,
    put_in y r a b L.2 z.1 d.1 p q s t (λ x m. f x (inr m)) (λ x m. g x (past_one x y (a ++ b) m)),
  )

  -- r comes in between a and b
  pub leads_put : (r : ℕ) (a b : List ℕ) → Leads after before 0 (a ++ b) → NotIn 0 (a ++ b) → NotIn r (a ++ b) → 0 < r
      → after' r ≡ head_or 0 b → before' r ≡ last_or 0 a → after' (last_or 0 a) ≡ r → before' (head_or 0 b) ≡ r
      → ((x : ℕ) → Mem x (0 ∷ a ++ b) → (x ≡ r → ⊥) → (x ≡ last_or 0 a → ⊥) → after' x ≡ after x)
      → ((x : ℕ) → Mem x (0 ∷ a ++ b) → (x ≡ r → ⊥) → (x ≡ head_or 0 b → ⊥) → before' x ≡ before x)
      → Leads after' before' 0 (a ++ (r ∷ b))
  leads_put r a b L z o h p q s t f g =
      let n : NotIn r (0 ∷ a ++ b) = ((λ e. omega arith), o) in
      put_in 0 r a b L z (leads_all_distinct after before 0 (a ++ b) L z) p q s t (λ x m. f x m (other x r (0 ∷ a ++ b) m n)) (λ x m. g x m (other x r (0 ∷ a ++ b) m n))

  take_out : (u r : ℕ) (a b : List ℕ) → Leads after before u (a ++ (r ∷ b)) → NotIn 0 (a ++ (r ∷ b)) → Distinct (u ∷ a ++ (r ∷ b))
      → after' (last_or u a) ≡ head_or 0 b → before' (head_or 0 b) ≡ last_or u a
      → ((x : ℕ) → Mem x (u ∷ a ++ b) → (x ≡ last_or u a → ⊥) → after' x ≡ after x)
      → ((x : ℕ) → Mem x (0 ∷ a ++ b) → (x ≡ head_or 0 b → ⊥) → before' x ≡ before x)
      → Leads after' before' u (a ++ b)
  take_out u r [] [] L z d s t f g = (s, t)
  take_out u r [] (y ∷ b) L z d s t f g =
      (s, t, leads_same y b L.2.2 (λ x m. f x (inr m) (other x u (y ∷ b) m d.0.1)) (λ x m. g x (past_one x y b m) (apart x y b z.1 d.1.1.0 m)))
  take_out u r (y ∷ a) b L z d s t f g = (
    f u (inl refl) (no_last u y a (r ∷ b) d.0) ∙ L.0,
    g y (inr (inl refl)) (no_head y a b (z.0, less 0 z.1) (less y d.1.0)) ∙ L.1,
    take_out y r a b L.2 z.1 d.1 s t (λ x m. f x (inr m)) (λ x m. g x (past_one x y (a ++ b) m)),
  )
    where
      less : (x : ℕ) → NotIn x (a ++ (r ∷ b)) → NotIn x (a ++ b)
      less x o = mem_not x (a ++ b) (λ m. not_mem x (a ++ (r ∷ b)) o (mem_of_left r x a b m))

  -- r goes out from between a and b
  pub leads_out : (r : ℕ) (a b : List ℕ) → Leads after before 0 (a ++ (r ∷ b)) → NotIn 0 (a ++ (r ∷ b))
      → after' (last_or 0 a) ≡ head_or 0 b → before' (head_or 0 b) ≡ last_or 0 a
      → ((x : ℕ) → Mem x (0 ∷ a ++ b) → (x ≡ last_or 0 a → ⊥) → after' x ≡ after x)
      → ((x : ℕ) → Mem x (0 ∷ a ++ b) → (x ≡ head_or 0 b → ⊥) → before' x ≡ before x)
      → Leads after' before' 0 (a ++ b)
  leads_out r a b L z s t f g = take_out 0 r a b L z (leads_all_distinct after before 0 (a ++ (r ∷ b)) L z) s t f g

-- ---- in words: the two columns of the index

-- a store in one of the columns
module _ (n : ℕ) (t : List ℕ) (a v : ℕ) where
  after_here : length t ≡ thread_words n → a ≤ n → after_in n (set t (after_from n + a) v) a ≡ v
  after_here e h = get_or-set_same t (after_from n + a) v 0 (omega arith)

  before_here : length t ≡ thread_words n → a ≤ n → before_in n (set t (before_from n + a) v) a ≡ v
  before_here e h = get_or-set_same t (before_from n + a) v 0 (omega arith)

  after_there : (x : ℕ) → (x ≡ a → ⊥) → after_in n (set t (after_from n + a) v) x ≡ after_in n t x
  after_there x o = get_or-set_other t (after_from n + a) (after_from n + x) v 0 (λ e. o (omega arith))

  before_there : (x : ℕ) → (x ≡ a → ⊥) → before_in n (set t (before_from n + a) v) x ≡ before_in n t x
  before_there x o = get_or-set_other t (before_from n + a) (before_from n + x) v 0 (λ e. o (omega arith))

  -- the other column stays
  after_by_before : (x : ℕ) → x ≤ n → after_in n (set t (before_from n + a) v) x ≡ after_in n t x
  after_by_before x h = get_or-set_other t (before_from n + a) (after_from n + x) v 0 (λ e. omega arith)

  before_by_after : (x : ℕ) → a ≤ n → before_in n (set t (after_from n + a) v) x ≡ before_in n t x
  before_by_after x h = get_or-set_other t (after_from n + a) (before_from n + x) v 0 (λ e. omega arith)

  -- and so do the words in front of both
  front_by_after : (k : ℕ) → k < index_words n → get_or (set t (after_from n + a) v) k 0 ≡ get_or t k 0
  front_by_after k h = get_or-set_other t (after_from n + a) k v 0 (λ e. omega arith)

  front_by_before : (k : ℕ) → k < index_words n → get_or (set t (before_from n + a) v) k 0 ≡ get_or t k 0
  front_by_before k h = get_or-set_other t (before_from n + a) k v 0 (λ e. omega arith)

-- record r is put between u and w
module _ (n u r w : ℕ) (index : List ℕ) where
  -- the index after the first store, the second and the third
  abbrev one : List ℕ
  one = set index (after_from n + r) w

  abbrev two : List ℕ
  two = set one (before_from n + r) u

  abbrev three : List ℕ
  three = set two (after_from n + u) r

  pub threaded_length : length (threaded n u r w index) ≡ length index
  unfolding threaded
  threaded_length = length-set three (before_from n + w) r ∙ length-set two (after_from n + u) r ∙ length-set one (before_from n + r) u ∙ length-set index (after_from n + r) w

  pub threaded_front : (k : ℕ) → k < index_words n → get_or (threaded n u r w index) k 0 ≡ get_or index k 0
  unfolding threaded
  threaded_front k h = front_by_before n three w r k h ∙ front_by_after n two u r k h ∙ front_by_before n one r u k h ∙ front_by_after n index r w k h

  module _ (long : length index ≡ thread_words n) (un : u ≤ n) (rn : r ≤ n) (wn : w ≤ n) where
    long_two : length two ≡ thread_words n
    long_two = length-set one (before_from n + r) u ∙ length-set index (after_from n + r) w ∙ long

    pub threaded_after : (r ≡ u → ⊥) → after_in n (threaded n u r w index) r ≡ w
    unfolding threaded
    threaded_after o = after_by_before n three w r r rn ∙ after_there n two u r r o ∙ after_by_before n one r u r rn ∙ after_here n index r w long rn

    pub threaded_before : (r ≡ w → ⊥) → before_in n (threaded n u r w index) r ≡ u
    unfolding threaded
    threaded_before o = before_there n three w r r o ∙ before_by_after n two u r r un ∙ before_here n one r u (length-set index (after_from n + r) w ∙ long) rn

    -- from its neighbours to it
    pub threaded_on : after_in n (threaded n u r w index) u ≡ r
    unfolding threaded
    threaded_on = after_by_before n three w r u un ∙ after_here n two u r long_two un

    pub threaded_back : before_in n (threaded n u r w index) w ≡ r
    unfolding threaded
    threaded_back = before_here n three w r (length-set two (after_from n + u) r ∙ long_two) wn

    -- the others lead where they led
    pub threaded_after_other : (x : ℕ) → x ≤ n → (x ≡ r → ⊥) → (x ≡ u → ⊥) → after_in n (threaded n u r w index) x ≡ after_in n index x
    unfolding threaded
    threaded_after_other x h o p = after_by_before n three w r x h ∙ after_there n two u r x p ∙ after_by_before n one r u x h ∙ after_there n index r w x o

    pub threaded_before_other : (x : ℕ) → x ≤ n → (x ≡ r → ⊥) → (x ≡ w → ⊥) → before_in n (threaded n u r w index) x ≡ before_in n index x
    unfolding threaded
    threaded_before_other x h o p = before_there n three w r x p ∙ before_by_after n two u r x un ∙ before_there n one r u x o ∙ before_by_after n index r w x rn

-- record r is taken out from between u and w
module _ (n r : ℕ) (index : List ℕ) where
  pub unthreaded_length : length (unthreaded n r index) ≡ length index
  unfolding unthreaded
  unthreaded_length =
      length-set (set index (after_from n + before_in n index r) (after_in n index r)) (before_from n + after_in n index r) (before_in n index r)
      ∙ length-set index (after_from n + before_in n index r) (after_in n index r)

  pub unthreaded_front : (k : ℕ) → k < index_words n → get_or (unthreaded n r index) k 0 ≡ get_or index k 0
  unfolding unthreaded
  unthreaded_front k h =
      front_by_before n (set index (after_from n + before_in n index r) (after_in n index r)) (after_in n index r) (before_in n index r) k h
      ∙ front_by_after n index (before_in n index r) (after_in n index r) k h

  module _ (u w : ℕ) (long : length index ≡ thread_words n) (ue : before_in n index r ≡ u) (we : after_in n index r ≡ w) (un : u ≤ n) (wn : w ≤ n) where
    unthreaded_is : unthreaded n r index ≡ set (set index (after_from n + u) w) (before_from n + w) u
    unfolding unthreaded
    unthreaded_is = rw (ue, we)

    pub unthreaded_on : after_in n (unthreaded n r index) u ≡ w
    unthreaded_on = ap (λ (t : List ℕ). after_in n t u) unthreaded_is ∙ after_by_before n (set index (after_from n + u) w) w u u un ∙ after_here n index u w long un

    pub unthreaded_back : before_in n (unthreaded n r index) w ≡ u
    unthreaded_back = ap (λ (t : List ℕ). before_in n t w) unthreaded_is ∙ before_here n (set index (after_from n + u) w) w u (length-set index (after_from n + u) w ∙ long) wn

    pub unthreaded_after_other : (x : ℕ) → x ≤ n → (x ≡ u → ⊥) → after_in n (unthreaded n r index) x ≡ after_in n index x
    unthreaded_after_other x h o = ap (λ (t : List ℕ). after_in n t x) unthreaded_is ∙ after_by_before n (set index (after_from n + u) w) w u x h ∙ after_there n index u w x o

    pub unthreaded_before_other : (x : ℕ) → x ≤ n → (x ≡ w → ⊥) → before_in n (unthreaded n r index) x ≡ before_in n index x
    unthreaded_before_other x h o = ap (λ (t : List ℕ). before_in n t x) unthreaded_is ∙ before_there n (set index (after_from n + u) w) w u x o ∙ before_by_after n index u w x un

-- ---- a record comes in, or goes out, in the words of the index

-- 0 and the records of a list are no more than n, its ends too
low : (n : ℕ) (a b : List ℕ) → ((x : ℕ) → Mem x (a ++ b) → x ≤ n) → (x : ℕ) → Mem x (0 ∷ a ++ b) → x ≤ n
low n a b f x (inl e) = omega arith
low n a b f x (inr m) = f x m

low_last : (n : ℕ) (a b : List ℕ) → ((x : ℕ) → Mem x (a ++ b) → x ≤ n) → last_or 0 a ≤ n
low_last n a b f = low n a b f (last_or 0 a) (mem_left (last_or 0 a) (0 ∷ a) b (last_mem 0 a))

low_head : (n : ℕ) (a b : List ℕ) → ((x : ℕ) → Mem x (a ++ b) → x ≤ n) → head_or 0 b ≤ n
low_head n a b f = ⊎_elim (λ e. low n a b f (head_or 0 b) (inl e)) (λ m. f (head_or 0 b) (mem_right (head_or 0 b) a b m)) (head_mem 0 b)

module _ (n r : ℕ) (a b index : List ℕ) (long : length index ≡ thread_words n) where
  pub thread_put : Leads (after_in n index) (before_in n index) 0 (a ++ b) → NotIn 0 (a ++ b) → ((x : ℕ) → Mem x (a ++ b) → x ≤ n) → 0 < r → r ≤ n → NotIn r (a ++ b)
      → Leads (after_in n (threaded n (last_or 0 a) r (head_or 0 b) index)) (before_in n (threaded n (last_or 0 a) r (head_or 0 b) index)) 0 (a ++ (r ∷ b))
  thread_put L z most h rn o =
      leads_put (after_in n index) (before_in n index) (after_in n (threaded n u r w index)) (before_in n (threaded n u r w index)) r a b L z o h
      (threaded_after n u r w index long un rn wn (λ e. other u r (0 ∷ a) (last_mem 0 a) (away, not_left r a b o) (sym e)))
      (threaded_before n u r w index long un rn wn (λ e. other w r (0 ∷ b) (head_mem 0 b) (away, not_right r a b o) (sym e)))
      (threaded_on n u r w index long un rn wn) (threaded_back n u r w index long un rn wn)
      (λ x m. threaded_after_other n u r w index long un rn wn x (low n a b most x m))
      (λ x m. threaded_before_other n u r w index long un rn wn x (low n a b most x m))
    where
      u : ℕ
      u = last_or 0 a

      w : ℕ
      w = head_or 0 b

      away : r ≡ 0 → ⊥
      away e = omega arith

      un : u ≤ n
      un = low_last n a b most

      wn : w ≤ n
      wn = low_head n a b most

  pub thread_out : Leads (after_in n index) (before_in n index) 0 (a ++ (r ∷ b)) → NotIn 0 (a ++ (r ∷ b)) → ((x : ℕ) → Mem x (a ++ (r ∷ b)) → x ≤ n)
      → Leads (after_in n (unthreaded n r index)) (before_in n (unthreaded n r index)) 0 (a ++ b)
  thread_out L z most =
      leads_out (after_in n index) (before_in n index) (after_in n (unthreaded n r index)) (before_in n (unthreaded n r index)) r a b L z
      (unthreaded_on n r index u w long at.0 at.1 un wn) (unthreaded_back n r index u w long at.0 at.1 un wn)
      (λ x m. unthreaded_after_other n r index u w long at.0 at.1 un wn x (low n a b less x m))
      (λ x m. unthreaded_before_other n r index u w long at.0 at.1 un wn x (low n a b less x m))
    where
      u : ℕ
      u = last_or 0 a

      w : ℕ
      w = head_or 0 b

      at : (before_in n index r ≡ u) × (after_in n index r ≡ w)
      at = leads_next (after_in n index) (before_in n index) 0 r a b L

      less : (x : ℕ) → Mem x (a ++ b) → x ≤ n
      less x m = most x (mem_of_left r x a b m)

      un : u ≤ n
      un = low_last n a b less

      wn : w ≤ n
      wn = low_head n a b less

-- ---- the test

-- r is the record of one of the first places, and the place is in use
abbrev pub Right : (ℕ → Bool) → ℕ → ℕ → Type 0
Right free places r = (0 < r) × (r ≤ places) × (free (r - 1) ≡ false)

module _ (after before : ℕ → ℕ) where
  -- the records that are led through are those that are followed
  pub followed_from : (u k : ℕ) (rs : List ℕ) → Leads after before u rs → NotIn 0 rs → length rs ≤ k → followed after u k ≡ rs
  unfolding followed
  followed_from u zero [] L o h = refl
  followed_from u (suc k) [] L o h = rw (eq-eqb (after u) 0 L.0)
  followed_from u zero (r ∷ rs) L o h = absurd (omega arith)
  followed_from u (suc k) (r ∷ rs) L o h =
      let e : after u ≡ r = L.0 in
      rw (e, ne_eqb r 0 (λ q. o.0 (sym q))) (ap (λ (l : List ℕ). r ∷ l) (followed_from r k rs L.2 o.1 (omega arith)))

  pub followed_leads : (k : ℕ) (rs : List ℕ) → Leads after before 0 rs → NotIn 0 rs → length rs ≤ k → followed after 0 k ≡ rs
  followed_leads k rs L o h = followed_from 0 k rs L o h

  -- what is followed ends where record 0 is next
  pub followed_end : (u k : ℕ) → eqb (after u) 0 ≡ true → followed after u (suc k) ≡ []
  unfolding followed
  followed_end u k e = rw e

  pub followed_more : (u k : ℕ) → eqb (after u) 0 ≡ false → followed after u (suc k) ≡ after u ∷ followed after (after u) k
  unfolding followed
  followed_more u k e = rw e

  pub followed_over : (u k : ℕ) → NotIn 0 (followed after u k)
  unfolding followed
  followed_over u zero = tt
  followed_over u (suc k) = by (told (eqb (after u) 0)) (followed_over (after u) k)
    where
      by : (eqb (after u) 0 ≡ true) ⊎ (eqb (after u) 0 ≡ false) → NotIn 0 (followed after (after u) k) → NotIn 0 (followed after u (suc k))
      by (inl e) o = rw (followed_end u k e) tt
      by (inr e) o = rw (followed_more u k e) ((λ q. eqb-false (after u) 0 e (sym q)), o)

  module _ (free : ℕ → Bool) (places : ℕ) where
    ok_from : (u : ℕ) (rs : List ℕ) → Leads after before u rs → ((r : ℕ) → Mem r rs → Right free places r) → leads_ok after before free places u rs ≡ true
    unfolding leads_ok
    ok_from u [] L f = and_both (eqb (after u) 0) (eqb (before 0) u) (eq-eqb (after u) 0 L.0) (eq-eqb (before 0) u L.1)
    ok_from u (r ∷ rs) L f =
        let p : 0 < r = (f r (inl refl)).0 in
        let q : r ≤ places = (f r (inl refl)).1 in
        rw (eq-eqb (before r) u L.1, lt-ltb (r - 1) places (omega arith), (f r (inl refl)).2) (ok_from r rs L.2 (λ x m. f x (inr m)))

    pub leads_ok_lem : (rs : List ℕ) → Leads after before 0 rs → ((r : ℕ) → Mem r rs → Right free places r) → leads_ok after before free places 0 rs ≡ true
    leads_ok_lem rs L f = ok_from 0 rs L f

    -- what the test shows of the records behind u
    abbrev Passed : ℕ → List ℕ → Type 0
    Passed u rs = Leads after before u rs × ((r : ℕ) → Mem r rs → Right free places r)

    passed_end : (u : ℕ) → leads_ok after before free places u [] ≡ true → Passed u []
    unfolding leads_ok
    passed_end u e =
        ((eqb-true (after u) 0 (and_left (eqb (after u) 0) (eqb (before 0) u) e), eqb-true (before 0) u (and_right (eqb (after u) 0) (eqb (before 0) u) e)), λ r m. absurd m)

    -- what the test of one record says, and the test of those behind it
    passed_one : (u r : ℕ) (rs : List ℕ) → 0 < r → leads_ok after before free places u (r ∷ rs) ≡ true → (before r ≡ u) × Right free places r × (leads_ok after before free places r rs ≡ true)
    unfolding leads_ok
    passed_one u r rs h e =
        let d = and_right (eqb (before r) u) _ e in
        let p : r - 1 < places = ltb-true (r - 1) places (and_left (ltb (r - 1) places) _ d) in
        by (told (free (r - 1))) (eqb-true (before r) u (and_left (eqb (before r) u) _ e)) (omega arith) (and_right (ltb (r - 1) places) _ d)
      where
        by : (free (r - 1) ≡ true) ⊎ (free (r - 1) ≡ false) → before r ≡ u → r ≤ places → cond (free (r - 1)) false (leads_ok after before free places r rs) ≡ true → (before r ≡ u) × Right free places r × (leads_ok after before free places r rs ≡ true)
        by (inl f) b p d = absurd (true_false false (rw f at d) refl)
        by (inr f) b p d = (b, (h, p, f), rw f at d)

    passed_more : (u r : ℕ) (rs : List ℕ) → after u ≡ r → before r ≡ u → Right free places r → Passed r rs → Passed u (r ∷ rs)
    passed_more u r rs a b h p = ((a, b, p.0), λ x. ⊎_elim (λ e. subst (Right free places) (sym e) h) (p.1 x))

    ok_passed : (u k : ℕ) → leads_ok after before free places u (followed after u k) ≡ true → Passed u (followed after u k)
    unfolding followed
    ok_passed u zero e = passed_end u e
    ok_passed u (suc k) e = by (told (eqb (after u) 0)) (ok_passed (after u) k)
      where
        by : (eqb (after u) 0 ≡ true) ⊎ (eqb (after u) 0 ≡ false) → (leads_ok after before free places (after u) (followed after (after u) k) ≡ true → Passed (after u) (followed after (after u) k))
            → Passed u (followed after u (suc k))
        by (inl f) more = subst (Passed u) (sym (followed_end u k f)) (passed_end u (subst (λ (l : List ℕ). leads_ok after before free places u l ≡ true) (followed_end u k f) e))
        by (inr f) more =
            let d = subst (λ (l : List ℕ). leads_ok after before free places u l ≡ true) (followed_more u k f) e in
            let o : (after u ≡ 0 → ⊥) = eqb-false (after u) 0 f in
            let t = passed_one u (after u) (followed after (after u) k) (omega arith) d in
            subst (Passed u) (sym (followed_more u k f)) (passed_more u (after u) (followed after (after u) k) refl t.0 t.1 (more t.2))

    pub ok_leads : (k : ℕ) → leads_ok after before free places 0 (followed after 0 k) ≡ true → Leads after before 0 (followed after 0 k) × ((r : ℕ) → Mem r (followed after 0 k) → Right free places r)
    ok_leads k e = ok_passed 0 k e
