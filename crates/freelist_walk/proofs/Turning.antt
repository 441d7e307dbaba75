-- What is left to test before a turn is what the turn tests and what is left after it: over a loan, over what is left of a chunk, and
-- at the end.
use mathlib.Core.Path.{◌≡◌, refl, sym, ap, ◌∙◌, subst}
use mathlib.Core.Bool.{true, false}
use mathlib.Core.Logic.{inl, inr, ⊎_elim}
use mathlib.Core.List.Memᴰ
use mathlib.Core.List.{List, [], ◌∷◌, map, Memᴰ}
use Prim.Native.Nat.{ℕ, suc, ◌+◌, ◌-◌, ◌≤◌, ◌<◌}
use native.Mathlib.Omega.{arith}
use lib.ListN.{length}
use borrow.Author.Tests.{ne_eqb}
use Rattle.lists.specs.Members.{Mem}
use Rattle.slabs.specs.Slab.{vacant_at}
use Rattle.store_rules.specs.Loans.{loan_words, size_at}
use Rattle.store_rules.specs.declared.Chunk.{Chunk}
use Rattle.store_rules.specs.declared.Loan.{Loan}
use Rattle.store_rules.specs.declared.Region.{Region}
use Rattle.freelist_rules.specs.declared.Gap.{Gap}
use Rattle.freelist_rules.specs.Records.{region}
use Rattle.freelist_rules.specs.Pieces.{line, All}
use Rattle.freelist_rules.specs.Rest.{rest}
use Rattle.freelist_rules.specs.Threads.{after_in, before_in, loan_by, Leads, region_in, free_of, front_of, wholes}
use Rattle.freelist_rules.proofs.Along.{size_is}
use Rattle.freelist_rules.proofs.Facts.{Small, ChunksRise}
use Rattle.freelist_rules.proofs.Turns.{first_in, rest_done}
use Rattle.freelist_walk.specs.Left.{Ground, Between, all_of, Left}
use Rattle.freelist_walk.proofs.Lying.{amid_le, loan_yes, loan_all, chunk_yes, chunk_all, end_yes, upto_next, rest_low}
use Rattle.freelist_walk.proofs.Passing.{Named, between_free, between_in, amid_gaps, front_past, front_short, first_named, named_back, loan_counted, chunk_counted}

module _ (t : Ground) where
  abbrev after : ℕ → ℕ
  after = after_in t.most t.index

  abbrev before : ℕ → ℕ
  before = before_in t.most t.index

  abbrev by : ℕ → Loan
  by = loan_by t.loans

  abbrev Right : ℕ → Type 0
  Right r = (0 < r) × (r ≤ t.places) × (vacant_at t.loans size_at loan_words (r - 1) ≡ false)

  module _ (c : Chunk) (cs : List Chunk) where
    -- c is the first of the chunks that remain
    pub record First : Type 0 where
      pub rise : ChunksRise 1 (c ∷ cs)
      pub small : Small (c ∷ cs)
      pub has : Memᴰ c t.chunks
      pub one : (d : Chunk) → Memᴰ d t.chunks → d.number ≡ c.number → d.size ≡ c.size

    -- the loan of record r is passed: what is tested of it, and what is left then
    pub record Over (p u m : ℕ) (gs : List Gap) (w r : ℕ) : Type 0 where
      pub back : before r ≡ u
      pub some : 0 < (by r).size
      pub ends : (by r).offset + (by r).size ≤ c.size
      pub more : List Gap
      pub between : Between c.number p (by r).offset u gs more
      pub left : Left t (c ∷ cs) ((by r).offset + (by r).size) r (m - 1) more w

    -- what is left of the chunk is passed
    pub record Through (p u m : ℕ) (gs : List Gap) (w : ℕ) : Type 0 where
      pub more : List Gap
      pub between : Between c.number p c.size u gs more
      pub left : Left t cs 0 u m more (w + all_of p c.size)

  -- the record that is next is not that of a loan of the chunk
  abbrev pub NoLoan : Chunk → ℕ → ℕ → Type 0
  NoLoan c u m = 0 < m → 0 < after u → after u ≤ t.places → (by (after u)).chunk ≡ c.number → ⊥

  module _ (c : Chunk) (cs : List Chunk) (at : First c cs) where
    -- ---- the loan of record r, of this chunk

    -- the gaps behind it begin behind it
    behind_loan : (r : ℕ) (rs : List ℕ) (more : List Gap) → (by r).chunk ≡ c.number → 0 < (by r).size → rest (c ∷ cs) ((by r).offset + (by r).size) (map by rs) (free_of more) ≡ true
        → (u : ℕ) (g : Gap) → Memᴰ g more → front_of t.loans u (r ∷ rs) (region_in g) ≡ front_of t.loans r rs (region_in g)
    behind_loan r rs more e s h u g m =
        let b : ℕ = line c.number ((by r).offset + (by r).size) in
        let k = (rest_low b 1 (c ∷ cs) ((by r).offset + (by r).size) (map by rs) (free_of more) at.rise at.small h (omega arith)).1 (region_in g) (Memᴰ.map region_in m) in
        front_past t.loans u r rs (region_in g) (omega (arith, k))

    over_from : (p u m : ℕ) (gs : List Gap) (w r : ℕ) (rs : List ℕ) → (by r).chunk ≡ c.number → before r ≡ u → Leads after before r rs → ((x : ℕ) → Mem x (r ∷ rs) → Right x) → length (r ∷ rs) ≡ m
        → rest (c ∷ cs) p (map by (r ∷ rs)) (free_of gs) ≡ true → All (Named t.loans u (r ∷ rs)) gs → t.whole ≡ w + wholes t.chunks (free_of gs) → Over c cs p u m gs w r
    over_from p u m gs w r rs e b L right many fills fronts counted =
        let k = loan_yes c cs p (by r) (map by rs) (free_of gs) e fills in
        let a = amid_le c.number p (by r).offset (free_of gs) k.2 k.3 in
        let early = front_short t.loans u r rs (region c.number p (by r).offset) (omega arith) in
        let v = amid_gaps c.number p (by r).offset u gs k.2 k.3 (first_named t.loans c.number p (by r).offset u (r ∷ rs) early gs fronts) in
        let h : rest (c ∷ cs) ((by r).offset + (by r).size) (map by rs) (free_of v.0) ≡ true = ap (rest (c ∷ cs) ((by r).offset + (by r).size) (map by rs)) v.2 ∙ k.4 in
        record {
          back = b;
          some = k.0;
          ends = k.1;
          more = v.0;
          between = v.1;
          left = record {
            records = rs;
            leads = L;
            right = λ x m. right x (inr m);
            many = omega arith;
            fills = h;
            fronts = λ g m. fronts g (between_in c.number p (by r).offset u gs v.0 v.1 g m) ∙ behind_loan r rs v.0 e k.0 h u g m;
            counted = counted ∙ ap (λ (x : ℕ). w + x) (loan_counted t.chunks c at.has at.one p (by r).offset u gs v.0 (omega (arith, k.0, k.1)) v.1);
          };
        }

    pub loan_on : (p u m : ℕ) (gs : List Gap) (w r : ℕ) → 0 < m → r ≡ after u → (by r).chunk ≡ c.number → Left t (c ∷ cs) p u m gs w → Over c cs p u m gs w r
    loan_on p u m gs w r some e h L = go L.records L.leads L.right L.many L.fills L.fronts
      where
        go : (rs : List ℕ) → Leads after before u rs → ((x : ℕ) → Mem x rs → Right x) → length rs ≡ m → rest (c ∷ cs) p (map by rs) (free_of gs) ≡ true → All (Named t.loans u rs) gs → Over c cs p u m gs w r
        go [] a right many fills fronts = absurd (omega arith)
        go (x ∷ rs) a right many fills fronts =
            let z : x ≡ r = sym a.0 ∙ sym e in
            subst (Over c cs p u m gs w) z (over_from p u m gs w x rs (ap (λ (y : ℕ). (by y).chunk) z ∙ h) a.1 a.2 right many fills fronts L.counted)

    pub loan_back : (p u m : ℕ) (gs : List Gap) (w r : ℕ) → 0 < m → r ≡ after u → (by r).chunk ≡ c.number → 0 < r → r ≤ t.places → Over c cs p u m gs w r → Left t (c ∷ cs) p u m gs w
    loan_back p u m gs w r some e h a b v =
        let L = v.left in
        let early = front_short t.loans u r L.records (region c.number p (by r).offset) (omega (arith, amid_le c.number p (by r).offset (free_of gs) (free_of v.more) (between_free c.number p (by r).offset u gs v.more v.between))) in
        record {
          records = r ∷ L.records;
          leads = (sym e, v.back, L.leads);
          right = λ x. ⊎_elim (λ z. subst Right (sym z) (a, b, size_is t.loans (r - 1) ∙ ne_eqb (by r).size 0 (λ k. omega (arith, v.some)))) (L.right x);
          many = omega (arith, L.many);
          fills = loan_all c cs p (by r) (map by L.records) (free_of gs) h (free_of v.more) v.some (between_free c.number p (by r).offset u gs v.more v.between) L.fills;
          fronts =
              named_back t.loans c.number p (by r).offset u (r ∷ L.records) early gs v.more v.between
              (λ g m. L.fronts g m ∙ sym (behind_loan r L.records v.more h v.some L.fills u g m));
          counted = L.counted ∙ ap (λ (x : ℕ). w + x) (sym (loan_counted t.chunks c at.has at.one p (by r).offset u gs v.more (omega (arith, v.some, v.ends)) v.between));
        }

    -- ---- what is left of the chunk, where the next record is not that of a loan of it

    none_first : (u m : ℕ) → NoLoan c u m → (rs : List ℕ) → Leads after before u rs → ((x : ℕ) → Mem x rs → Right x) → length rs ≡ m → first_in c.number (map by rs) ≡ false
    none_first u m f [] L right many = refl
    none_first u m f (x ∷ rs) L right many = ne_eqb (by x).chunk c.number (λ h. f (omega arith) (subst (λ (y : ℕ). 0 < y) e r.0) (subst (λ (y : ℕ). y ≤ t.places) e r.1) (ap (λ (y : ℕ). (by y).chunk) (sym e) ∙ h))
      where
        e : x ≡ after u
        e = sym L.0

        r : Right x
        r = right x (inl refl)

    -- the loans behind begin behind it
    tail_early : (p u : ℕ) (rs : List ℕ) (more : List Region) → p ≤ c.size → rest cs 0 (map by rs) more ≡ true → front_of t.loans u rs (region c.number p c.size) ≡ u
    tail_early p u [] more k h = refl
    tail_early p u (x ∷ rs) more k h =
        let b : ℕ = line c.number p in
        let v = (rest_low b (0 + suc c.number) cs 0 (map by (x ∷ rs)) more at.rise.2 (λ d m. at.small d (Memᴰ.tail m)) h (upto_next b 1 c cs p at.rise at.small k (omega arith))).0 (by x) (Memᴰ.head refl) in
        front_short t.loans u x rs (region c.number p c.size) (omega (arith, v))

    pub chunk_on : (p u m : ℕ) (gs : List Gap) (w : ℕ) → NoLoan c u m → Left t (c ∷ cs) p u m gs w → Through c cs p u m gs w
    chunk_on p u m gs w f L =
        let rs : List ℕ = L.records in
        let k = chunk_yes c cs p (map by rs) (free_of gs) (none_first u m f rs L.leads L.right L.many) L.fills in
        let v = amid_gaps c.number p c.size u gs k.1 k.2 (first_named t.loans c.number p c.size u rs (tail_early p u rs k.1 k.0 k.3) gs L.fronts) in
        record {
          more = v.0;
          between = v.1;
          left = record {
            records = rs;
            leads = L.leads;
            right = L.right;
            many = L.many;
            fills = ap (rest cs 0 (map by rs)) v.2 ∙ k.3;
            fronts = λ g m. L.fronts g (between_in c.number p c.size u gs v.0 v.1 g m);
            counted = omega (arith, L.counted, chunk_counted t.chunks c at.has at.one p u gs v.0 v.1);
          };
        }

    pub chunk_back : (p u m : ℕ) (gs : List Gap) (w : ℕ) → NoLoan c u m → Through c cs p u m gs w → Left t (c ∷ cs) p u m gs w
    chunk_back p u m gs w f v =
        let L = v.left in
        let rs : List ℕ = L.records in
        let a = between_free c.number p c.size u gs v.more v.between in
        let k = amid_le c.number p c.size (free_of gs) (free_of v.more) a in
        record {
          records = rs;
          leads = L.leads;
          right = L.right;
          many = L.many;
          fills = chunk_all c cs p (map by rs) (free_of gs) (none_first u m f rs L.leads L.right L.many) (free_of v.more) a L.fills;
          fronts = named_back t.loans c.number p c.size u rs (tail_early p u rs (free_of v.more) k L.fills) gs v.more v.between L.fronts;
          counted = omega (arith, L.counted, chunk_counted t.chunks c at.has at.one p u gs v.more v.between);
        }

  -- ---- no chunk is left

  pub end_on : (p u m : ℕ) (gs : List Gap) (w : ℕ) → Left t [] p u m gs w → (m ≡ 0) × (after u ≡ 0) × (before 0 ≡ u) × (gs ≡ []) × (w ≡ t.whole)
  end_on p u m gs w L = go L.records gs L.leads L.many (end_yes p (map by L.records) (free_of gs) L.fills) L.counted
    where
      go : (rs : List ℕ) (hs : List Gap) → Leads after before u rs → length rs ≡ m → (map by rs ≡ []) × (free_of hs ≡ []) → t.whole ≡ w + wholes t.chunks (free_of hs)
          → (m ≡ 0) × (after u ≡ 0) × (before 0 ≡ u) × (hs ≡ []) × (w ≡ t.whole)
      go [] [] a many e counted = (omega arith, a.0, a.1, refl, omega arith)
      go [] (h ∷ hs) a many e counted = absurd (let f : free_of (h ∷ hs) ≡ [] = e.1 in let z : ◌≡◌ {A = ℕ} 0 1 = cc in omega arith)
      go (r ∷ rs) hs a many e counted = absurd (let f : map by (r ∷ rs) ≡ [] = e.0 in let z : ◌≡◌ {A = ℕ} 0 1 = cc in omega arith)

  pub end_back : (p u m : ℕ) (gs : List Gap) (w : ℕ) → m ≡ 0 → after u ≡ 0 → before 0 ≡ u → gs ≡ [] → w ≡ t.whole → Left t [] p u m gs w
  end_back p u m gs w a b d e f =
      subst (λ (hs : List Gap). Left t [] p u m hs w) (sym e)
      (record {
        records = [];
        leads = (b, d);
        right = λ r k. absurd k;
        many = sym a;
        fills = rest_done p;
        fronts = λ g k. absurd (Memᴰ.not-nil k);
        counted = omega arith;
      })
