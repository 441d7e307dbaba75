-- What the sound tables of a store say of its loans by place, of the regions' fronts, and of how many regions are whole.
use mathlib.Core.Path.{◌≡◌, refl, sym, ap, subst, ◌∙◌}
use mathlib.Core.Bool.{Bool, true, false, cond}
use mathlib.Core.Logic.{inl, inr, ⊎_elim}
use mathlib.Core.List.{List, [], ◌∷◌, ◌++◌, Memᴰ}
use Prim.Native.Nat.{ℕ, suc, ◌+◌, ◌≤◌, ◌<◌}
use native.Mathlib.Omega.{arith}
use lib.Dec.{ltb}
use lib.ListN.{length, get_or}
use Rattle.lists.specs.Members.{Mem}
use Rattle.lists.proofs.Bools.{told}
use Rattle.counter.specs.declared.settings.FreeListSettings.{FreeListSettings}
use Rattle.store_rules.specs.declared.Chunk.{Chunk}
use Rattle.store_rules.specs.declared.Region.{Region}
use Rattle.freelist_rules.specs.Pieces.{Rising, piece, lo}
use Rattle.freelist_rules.specs.Release.{wholly}
use Rattle.freelist_rules.specs.Tables.{Tables, SoundTables, regions_in, whole_in, store_of, gaps_in}
use Rattle.freelist_rules.specs.Threads.{after_in, before_in, loan_by, Leads, no_gap, region_in, front_of, wholes}
use Rattle.freelist_rules.proofs.Base.{at_in}
use Rattle.freelist_rules.proofs.Fits.{regions_length}
use Rattle.freelist_rules.proofs.GapLists.{free_length}

-- ---- where records lead

past : (x y : ℕ) (l : List ℕ) → Mem x (0 ∷ l) → Mem x (0 ∷ y ∷ l)
past x y l (inl e) = inl e
past x y l (inr m) = inr (inr m)

module _ (after before : ℕ → ℕ) where
  -- each leads on to one of them or to 0
  leads_on : (u : ℕ) (rs : List ℕ) → Leads after before u rs → (x : ℕ) → Mem x (u ∷ rs) → Mem (after x) (0 ∷ rs)
  leads_on u [] L x (inl e) = inl (ap after e ∙ L.0)
  leads_on u [] L x (inr m) = elim m [ ]
  leads_on u (r ∷ rs) L x (inl e) = inr (inl (ap after e ∙ L.0))
  leads_on u (r ∷ rs) L x (inr m) = past (after x) r rs (leads_on r rs L.2 x m)

  -- and back to one of them or to the first
  leads_back : (u : ℕ) (rs : List ℕ) → Leads after before u rs → (x : ℕ) → Mem x (0 ∷ rs) → Mem (before x) (u ∷ rs)
  leads_back u [] L x (inl e) = inl (ap before e ∙ L.1)
  leads_back u [] L x (inr m) = elim m [ ]
  leads_back u (r ∷ rs) L x (inl e) = inr (leads_back r rs L.2 x (inl e))
  leads_back u (r ∷ rs) L x (inr (inl e)) = inl (ap before e ∙ L.1)
  leads_back u (r ∷ rs) L x (inr (inr m)) = inr (leads_back r rs L.2 x (inr m))

-- the front of a region is one of the records, or what stands for none
front_in : (loans : List ℕ) (u : ℕ) (rs : List ℕ) (g : Region) → Mem (front_of loans u rs g) (u ∷ rs)
front_in loans u [] g = inl refl
front_in loans u (r ∷ rs) g =
    let over = λ (b : Bool) (e : ltb (lo (piece (loan_by loans r))) (lo g) ≡ b). subst (λ (v : ℕ). Mem v (u ∷ r ∷ rs)) (sym (ap (λ (x : Bool). cond x (front_of loans r rs g) u) e)) in
    ⊎_elim (λ e. over true e (inr (front_in loans r rs g))) (λ e. over false e (inl refl)) (told (ltb (lo (piece (loan_by loans r))) (lo g)))

module _ (s : FreeListSettings) (t : Tables) (sound : SoundTables s t) where
  abbrev n : ℕ
  n = s.store.loans

  -- 0 or a record
  abbrev pub Ends : ℕ → Type 0
  Ends x = Mem x (0 ∷ sound.threaded.records)

  pub none_ends : Ends 0
  none_ends = inl refl

  pub ends_low : (x : ℕ) → Ends x → x ≤ s.store.loans
  ends_low x (inl e) = omega arith
  ends_low x (inr m) = let w = sound.threaded.right x m in omega (arith, w.1, sound.parted.limit)

  pub after_ends : (x : ℕ) → Ends x → Ends (after_in s.store.loans t.index x)
  after_ends x m = leads_on (after_in n t.index) (before_in n t.index) 0 sound.threaded.records sound.threaded.leads x m

  pub before_ends : (x : ℕ) → Ends x → Ends (before_in s.store.loans t.index x)
  before_ends x m = leads_back (after_in n t.index) (before_in n t.index) 0 sound.threaded.records sound.threaded.leads x m

  pub front_ends : (i : ℕ) → i < regions_in t → Ends (get_or (gaps_in t) i no_gap).front
  unfolding store_of
  front_ends i h =
      let g = get_or (gaps_in t) i no_gap in
      let m : Memᴰ g (gaps_in t) = at_in i (gaps_in t) no_gap (omega (arith, free_length (gaps_in t), regions_length s t)) in
      subst Ends (sym (sound.fronts g m)) (front_in t.loans 0 sound.threaded.records (region_in g))

-- ---- how many regions are whole

wholes_few : (cs : List Chunk) (rs : List Region) → wholes cs rs ≤ length rs
wholes_few cs [] = omega arith
wholes_few cs (r ∷ rs) = ⊎_elim (λ e. rw e (omega (arith, wholes_few cs rs))) (λ e. rw e (omega (arith, wholes_few cs rs))) (told (wholly cs r))

pub whole_few : (s : FreeListSettings) (t : Tables) → SoundTables s t → whole_in t ≤ regions_in t
whole_few s t sound = omega (arith, sound.whole, wholes_few (store_of s t).chunks (store_of s t).regions, regions_length s t)

-- ---- the numbers of chunks rise, also with one more at the end

abbrev Numbered : ℕ → List Chunk → Type 0
Numbered p cs = Rising (λ (c : Chunk). c.number) (λ (c : Chunk). suc c.number) 0 p cs

pub numbered_end : (p : ℕ) (cs : List Chunk) (z : Chunk) → p ≤ z.number → ((c : Chunk) → Memᴰ c cs → c.number < z.number) → Numbered p cs → Numbered p (cs ++ (z ∷ []))
numbered_end p [] z h f r = (h, omega arith, tt)
numbered_end p (c ∷ cs) z h f r =
    (r.0, r.1, numbered_end (0 + suc c.number) cs z (omega (arith, f c (mathlib.Core.List.Memᴰ.head refl))) (λ d m. f d (mathlib.Core.List.Memᴰ.tail m)) r.2)
