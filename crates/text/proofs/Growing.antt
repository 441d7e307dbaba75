-- What is written stays, whatever is written behind it.
use Rattle.std.proofs.Common.{ℕ, List, ◌++◌, None, Some, ap, ◌∙◌, append_assoc}
use Rattle.std.specs.declared.option.Option.{Option}
use Rattle.std.specs.Io.KnownBytes.{Appends}
use Rattle.text.specs.Written.{BeginsWith, Stays}

pub appends_stays : (a b : Option (List ℕ)) (bs : List ℕ) → Appends a b bs → Stays a b
unfolding BeginsWith
appends_stays None b bs h xs k = absurd k
appends_stays (Some ys) None bs h xs k = absurd h
appends_stays (Some ys) (Some ws) bs h xs k = (k.0 ++ bs, h ∙ ap (λ (l : List ℕ). l ++ bs) k.1 ∙ append_assoc xs k.0 bs)
