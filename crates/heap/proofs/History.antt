-- The law of a heap's history: from used and totals 0, over charges and releases that pass no bound, used equals the
-- charges less the releases, and allocated less deallocated.
use Rattle.std.proofs.Common.{◌≡◌, ℕ, ◌+◌, ◌-◌, ◌^◌, ◌<◌, ◌≤◌, true, List, [], ◌∷◌, ◌++◌, sym, refl, ap, ◌∙◌, subst, mod-lt, arith}
use Rattle.counter.specs.Account.{value}
use Rattle.counter.specs.declared.account.Heap.{Heap}
use Rattle.counter.specs.declared.account.Total.{Total}
use Rattle.heap.specs.Heap.{plus_of, charged_of, released_of, agrees_ok, Within}
use Rattle.heap.specs.History.{Entry, charge, release, new_heap, entered, after, AllFitting, charges, releases}
use Rattle.heap.proofs.Bounds.{charged_is, released_is, agrees_all}

-- what a history adds to a heap
pub record Adds (h : Heap) (es : List Entry) (g : Heap) : Type 0 where
  pub size : g.size ≡ h.size
  pub used : g.used + releases es ≡ h.used + charges es
  pub allocated : value g.allocated ≡ value h.allocated + charges es
  pub deallocated : value g.deallocated ≡ value h.deallocated + releases es

pub adds : (h : Heap) (es : List Entry) → AllFitting h es → Adds h es (after h es)
adds h [] f = record { size = refl; used = refl; allocated = omega arith; deallocated = omega arith }
adds h (charge bytes ∷ es) f =
    let c = charged_is h bytes f.0.0 f.0.1 in
    let r = adds (charged_of h bytes) es f.1 in
    record {
      size = r.size ∙ c.size;
      used = omega (arith, r.used, c.used);
      allocated = omega (arith, r.allocated, c.allocated);
      deallocated = r.deallocated ∙ ap (λ t. value t + releases es) c.deallocated;
    }
adds h (release bytes ∷ es) f =
    let c = released_is h bytes f.0.0 f.0.1 in
    let r = adds (released_of h bytes) es f.1 in
    record {
      size = r.size ∙ c.size;
      used = omega (arith, r.used, c.used);
      allocated = r.allocated ∙ ap (λ t. value t + charges es) c.allocated;
      deallocated = omega (arith, r.deallocated, c.deallocated);
    }

-- 01's law
pub record FromNothing (es : List Entry) (g : Heap) : Type 0 where
  pub used : g.used ≡ charges es - releases es
  pub enough : releases es ≤ charges es
  pub allocated : value g.allocated ≡ charges es
  pub deallocated : value g.deallocated ≡ releases es
  pub totals : g.used ≡ value g.allocated - value g.deallocated
  pub agrees : agrees_ok g ≡ true

pub from_nothing : (size : ℕ) (es : List Entry) → AllFitting (new_heap size) es → FromNothing es (after (new_heap size) es)
from_nothing size es f =
    let r = adds (new_heap size) es f in
    let g = after (new_heap size) es in
    let u : g.used + releases es ≡ charges es = omega (arith, r.used) in
    let a : value g.allocated ≡ charges es = omega (arith, r.allocated) in
    let d : value g.deallocated ≡ releases es = omega (arith, r.deallocated) in
    record {
      used = omega arith;
      enough = omega arith;
      allocated = a;
      deallocated = d;
      totals = omega arith;
      agrees = agrees_all g (omega arith);
    }

-- ---- one history after another

pub after_append : (h : Heap) (es fs : List Entry) → after h (es ++ fs) ≡ after (after h es) fs
after_append h [] fs = refl
after_append h (e ∷ es) fs = after_append (entered h e) es fs

pub fitting_append : (h : Heap) (es fs : List Entry) → AllFitting h es → AllFitting (after h es) fs → AllFitting h (es ++ fs)
fitting_append h [] fs p q = q
fitting_append h (e ∷ es) fs p q = (p.0, fitting_append (entered h e) es fs p.1 q)

-- what passes no bound leaves the totals words
pub fitting_within : (h : Heap) (es : List Entry) → AllFitting h es → Within h → Within (after h es)
fitting_within h [] f w = w
fitting_within h (charge bytes ∷ es) f w =
    let c = charged_is h bytes f.0.0 f.0.1 in
    fitting_within (charged_of h bytes) es f.1 (subst (λ (n : ℕ). n < 2 ^ 128) (sym c.allocated) f.0.1)
fitting_within h (release bytes ∷ es) f w =
    let c = released_is h bytes f.0.0 f.0.1 in
    fitting_within (released_of h bytes) es f.1 (subst (λ (t : Total). value t < 2 ^ 128) (sym c.allocated) w)

-- and a deallocated total whose low word is a word keeps one
pub after_low : (h : Heap) (es : List Entry) → h.deallocated.lo < 2 ^ 64 → (after h es).deallocated.lo < 2 ^ 64
unfolding charged_of released_of plus_of
after_low h [] p = p
after_low h (charge bytes ∷ es) p = after_low (charged_of h bytes) es p
after_low h (release bytes ∷ es) p = after_low (released_of h bytes) es (mod-lt (value h.deallocated + bytes) (omega arith))
