-- An answer's six words: put one after another, and what they say.
use mathlib.Core.Path.{◌≡◌, sym, ap, ◌∙◌}
use mathlib.Core.List.{List}
use Prim.Native.Nat.{ℕ}
use lib.ListN.{set}
use Rattle.std.specs.Prelude.{Option, None, Some}
use mir.Val.{bool_byte}
use Rattle.counter.specs.Paper.{Said, number_of, free_of, refusal, refusal_of, order_of}
use Rattle.counter.specs.declared.account.Order.{Order}
use Rattle.counter.specs.declared.answers.Refused.{Refused}
use Rattle.wire_rules.specs.Wire.{answer_out, said_out}
use Rattle.wire_rules.proofs.Flags.{cast_flag}

-- six words put in turn are an answer
pub six_set : (w a b c d e f : List ℕ) (what p q r s : ℕ)
    → a ≡ set w 0 what → b ≡ set a 1 p → c ≡ set b 2 q → d ≡ set c 3 r → e ≡ set d 4 s → f ≡ set e 5 0
    → f ≡ answer_out what p q r s w
unfolding answer_out
six_set w a b c d e f what p q r s g h i j k l = rw (l, k, j, i, h, g)

-- a refusal with nothing to free; n is its number
pub refused_nothing : (w v : List ℕ) (r : Refused) (n : ℕ) → n ≡ number_of r.refusal → r.free ≡ None
    → v ≡ answer_out 4 n 0 0 0 w → v ≡ said_out (refusal_of r) w
unfolding said_out
refused_nothing w v r n e f t =
    t ∙ ap (λ (x : ℕ). answer_out 4 x 0 0 0 w) e ∙ sym (ap (λ (x : Option ℕ). said_out (refusal (number_of r.refusal) (free_of x)) w) f)

-- a refusal with memory m to free
pub refused_memory : (w v : List ℕ) (r : Refused) (n m : ℕ) → n ≡ number_of r.refusal → r.free ≡ Some m
    → v ≡ answer_out 4 n 1 m 0 w → v ≡ said_out (refusal_of r) w
unfolding said_out
refused_memory w v r n m e f t =
    t ∙ ap (λ (x : ℕ). answer_out 4 x 1 m 0 w) e ∙ sym (ap (λ (x : Option ℕ). said_out (refusal (number_of r.refusal) (free_of x)) w) f)

-- an order; whether to map is a test as a number
pub told_order : (w v : List ℕ) (o : Order) → v ≡ answer_out 2 o.store o.size o.memtype (bool_byte o.map) w → v ≡ said_out (order_of o) w
unfolding said_out
told_order w v o t = t ∙ ap (λ (x : ℕ). answer_out 2 o.store o.size o.memtype x w) (cast_flag o.map)

-- equal answers are told alike
pub told_as : {A : Type 0} (say : A → Said) (w v : List ℕ) (x y : A) → y ≡ x → v ≡ said_out (say x) w → v ≡ said_out (say y) w
told_as {A = A} say w v x y e t = t ∙ sym (ap (λ (z : A). said_out (say z) w) e)
