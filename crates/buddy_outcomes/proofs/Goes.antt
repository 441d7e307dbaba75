-- One chunk goes, of chunks none of which stands twice; and none does.
use mathlib.Core.Path.{◌≡◌, refl, sym, ap, subst, ◌∙◌}
use mathlib.Core.Bool.{Bool, true, false, cond}
use mathlib.Core.Logic.{◌⊎◌, inl, inr, ⊎_elim}
use mathlib.Core.List.Memᴰ
use mathlib.Core.List.{List, [], ◌∷◌, ◌++◌, Memᴰ}
use Prim.Native.Nat.{ℕ, zero, suc, ◌+◌, ◌<◌}
use native.Mathlib.Omega.{arith}
use lib.ListN.{length-append}
use Rattle.lists.proofs.Bools.{same?}
use Rattle.store_rules.specs.Views.{Go}
use Rattle.store_rules.specs.declared.Chunk.{Chunk}
use Rattle.buddy_trees.proofs.Onces.{Once}
use Rattle.buddy_rules.specs.Tables.{Tables, held_in}
use Rattle.buddy_rules.specs.Views.{chunks_of}
use Rattle.buddy_rules.proofs.Viewed.{chunk_at}
use Rattle.buddy_outcomes.proofs.Counting.{sizes_append}

-- ---- one member among others

module _ {A : Type 0} where
  -- a member is d or one of the others
  pub mid_cases : (xs ys : List A) (d a : A) → Memᴰ a (xs ++ (d ∷ ys)) → (a ≡ d) ⊎ Memᴰ a (xs ++ ys)
  mid_cases xs ys d a m = ⊎_elim
      (λ k. inr (Memᴰ.append_left ys k))
      (λ k. ⊎_elim (λ e. inl e) (λ q. inr (Memᴰ.append_right xs q)) (Memᴰ.cases_cons k))
      (Memᴰ.append_cases xs m)

  -- one of the others is a member
  pub mid_other : (xs ys : List A) (d a : A) → Memᴰ a (xs ++ ys) → Memᴰ a (xs ++ (d ∷ ys))
  mid_other xs ys d a m = ⊎_elim (λ k. Memᴰ.append_left (d ∷ ys) k) (λ k. Memᴰ.append_right xs (Memᴰ.tail k)) (Memᴰ.append_cases xs m)

  -- and d is
  pub mid_this : (xs ys : List A) (d : A) → Memᴰ d (xs ++ (d ∷ ys))
  mid_this xs ys d = Memᴰ.append_right xs (Memᴰ.head refl)

  -- where none stands twice, d is none of the others
  pub mid_once : (xs ys : List A) (d : A) → Once (xs ++ (d ∷ ys)) → Memᴰ d (xs ++ ys) → ⊥
  mid_once [] ys d o m = o.0 m
  mid_once (x ∷ xs) ys d o m = ⊎_elim
      (λ e. o.0 (subst (λ (y : A). Memᴰ y (xs ++ (d ∷ ys))) e (mid_this xs ys d)))
      (λ k. mid_once xs ys d o.1 k)
      (Memᴰ.cases_cons m)

-- ---- chunks that go

-- d alone goes
pub one_goes : (xs ys : List Chunk) (d : Chunk) → Once (xs ++ (d ∷ ys)) → Go (xs ++ (d ∷ ys)) (xs ++ ys) (d.memory ∷ [])
one_goes xs ys d o =
    record {
      among = λ c m. mid_other xs ys d c m;
      either = λ c m. ⊎_elim (λ e. inr (λ k. mid_once xs ys d o (subst (λ (y : Chunk). Memᴰ y (xs ++ ys)) e k))) (λ k. inl k) (mid_cases xs ys d c m);
      count = omega (arith, length-append xs (d ∷ ys), length-append xs ys);
      bytes = omega (arith, sizes_append xs (d ∷ ys), sizes_append xs ys);
      tells = λ m. (there m, back m);
    }
  where
    there : (m : ℕ) → Memᴰ m (d.memory ∷ []) → (c : Chunk) × Memᴰ c (xs ++ (d ∷ ys)) × (c.memory ≡ m) × (Memᴰ c (xs ++ ys) → ⊥)
    there m k = ⊎_elim (λ e. (d, mid_this xs ys d, sym e, mid_once xs ys d o)) (λ q. absurd (Memᴰ.not-nil q)) (Memᴰ.cases_cons k)

    back : (m : ℕ) → (c : Chunk) × Memᴰ c (xs ++ (d ∷ ys)) × (c.memory ≡ m) × (Memᴰ c (xs ++ ys) → ⊥) → Memᴰ m (d.memory ∷ [])
    back m w = ⊎_elim (λ e. Memᴰ.head (sym w.2 ∙ ap (λ (c : Chunk). c.memory) e)) (λ k. absurd (w.3 k)) (mid_cases xs ys d w.0 w.1)

-- ---- chunks of tables that differ at one place at most

-- what is the same at place x
abbrev pub SameAt : Tables → Tables → ℕ → Type 0
SameAt t v x = (held_in v x ≡ held_in t x) × (chunk_at v x ≡ chunk_at t x)

append_assoc : (xs ys zs : List Chunk) → (xs ++ ys) ++ zs ≡ xs ++ (ys ++ zs)
append_assoc [] ys zs = refl
append_assoc (x ∷ xs) ys zs = ap (λ (cs : List Chunk). x ∷ cs) (append_assoc xs ys zs)

module _ (t v : Tables) where
  abbrev here : Tables → ℕ → List Chunk
  here q n = cond (held_in q n) (chunk_at q n ∷ []) []

  here_same : (n : ℕ) → SameAt t v n → here v n ≡ here t n
  here_same n e = ap (λ (b : Bool). cond b (chunk_at v n ∷ []) []) e.0 ∙ ap (λ (d : Chunk). cond (held_in t n) (d ∷ []) []) e.1

  -- the same places have the same chunks
  pub chunks_same : (n : ℕ) → ((x : ℕ) → x < n → SameAt t v x) → chunks_of v n ≡ chunks_of t n
  unfolding chunks_of
  chunks_same zero f = refl
  chunks_same (suc n) f =
      ap (λ (cs : List Chunk). cs ++ here v n) (chunks_same n (λ x h. f x (omega arith))) ∙ ap (λ (cs : List Chunk). chunks_of t n ++ cs) (here_same n (f n (omega arith)))

  -- those before and past the chunk at c, which is held in t and not in v
  pub record Parts (c n : ℕ) : Type 0 where
    pub before : List Chunk
    pub past : List Chunk
    pub was : chunks_of t n ≡ before ++ (chunk_at t c ∷ past)
    pub is : chunks_of v n ≡ before ++ past

  -- where only place c differs, and its chunk is gone
  pub parts : (c n : ℕ) → c < n → held_in t c ≡ true → held_in v c ≡ false → ((x : ℕ) → (x ≡ c → ⊥) → SameAt t v x) → Parts c n
  unfolding chunks_of
  parts c zero l h g f = absurd (omega arith)
  parts c (suc n) l h g f = go (same? n c) (λ k. parts c n k h g f)
    where
      go : (n ≡ c) ⊎ (n ≡ c → ⊥) → (c < n → Parts c n) → Parts c (suc n)
      go (inl e) ih =
          let a : here t n ≡ chunk_at t c ∷ [] = ap (here t) e ∙ ap (λ (b : Bool). cond b (chunk_at t c ∷ []) []) h in
          let b : here v n ≡ [] = ap (here v) e ∙ ap (λ (b : Bool). cond b (chunk_at v c ∷ []) []) g in
          record {
            before = chunks_of t n;
            past = [];
            was = ap (λ (cs : List Chunk). chunks_of t n ++ cs) a;
            is = ap (λ (cs : List Chunk). cs ++ here v n) (chunks_same n (λ x k. f x (λ z. omega arith))) ∙ ap (λ (cs : List Chunk). chunks_of t n ++ cs) b;
          }
      go (inr e) ih =
          let r = ih (omega arith) in
          record {
            before = r.before;
            past = r.past ++ here t n;
            was = ap (λ (cs : List Chunk). cs ++ here t n) r.was ∙ append_assoc r.before (chunk_at t c ∷ r.past) (here t n);
            is = ap (λ (cs : List Chunk). cs ++ here v n) r.is ∙ ap (λ (cs : List Chunk). (r.before ++ r.past) ++ cs) (here_same n (f n e)) ∙ append_assoc r.before r.past (here t n);
          }
