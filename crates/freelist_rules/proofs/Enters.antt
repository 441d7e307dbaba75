-- A loan that is entered amid the others is put among them by chunk and place.
use mathlib.Core.Path.{◌≡◌, sym, ap, ◌∙◌}
use mathlib.Core.List.Memᴰ
use mathlib.Core.List.{List}
use Rattle.store_rules.specs.declared.Loan.{Loan}
use Rattle.store_rules.proofs.Amid.{Amid}
use Rattle.freelist_rules.specs.Pieces.{All}
use Rattle.freelist_rules.specs.Place.{put_loan}
use Rattle.freelist_rules.specs.Tables.{ordered}
use Rattle.freelist_rules.proofs.Gaps.{begins}
use Rattle.freelist_rules.proofs.Ordered.{ordered_amid}

pub put_amid : (l : Loan) (before after : List Loan) → Amid l before after → All (λ (d : Loan). begins d ≡ begins l → ⊥) before → ordered after ≡ put_loan l (ordered before)
put_amid l before after w h =
    ap ordered w.are
    ∙ ordered_amid l w.earlier w.later (λ d m. h d (rw w.were (Memᴰ.append_left w.later m)))
    ∙ ap (λ (zs : List Loan). put_loan l (ordered zs)) (sym w.were)
