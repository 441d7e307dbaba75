-- The calls, the damage and the tables in the order of the numbers that are printed, from 0. A number past the last is taken for the
-- last.
use Rattle.std.specs.Prelude.{List, [], ◌∷◌, ℕ, slice_index_or}
use Rattle.damage_parts.specs.declared.cases.Call.{Call}
use Rattle.damage_parts.specs.declared.cases.Call.TheVariants as C
use Rattle.damage_parts.specs.declared.cases.Damage.{Damage}
use Rattle.damage_parts.specs.declared.cases.Damage.TheVariants as D
use Rattle.damage_parts.specs.declared.image.Table.{Table}
use Rattle.damage_parts.specs.declared.image.Table.TheVariants as T

abbrev pub calls : List Call
calls =
    C.Ask ∷ C.AskLarge ∷ C.Return ∷ C.ReturnStray ∷ C.CleanUp ∷ C.DeliverUnordered ∷ C.Deliver ∷ C.DeviceRefuses ∷ C.MapOutOfHost ∷ C.MapFails ∷ []

unfoldable pub numbered_call : ℕ → Call
numbered_call n = slice_index_or calls n C.MapFails

abbrev pub damages : List Damage
damages = D.Zero ∷ D.One ∷ D.Above ∷ D.Below ∷ D.Highest ∷ []

unfoldable pub numbered_damage : ℕ → Damage
numbered_damage n = slice_index_or damages n D.Highest

abbrev pub tables : List Table
tables = T.Head ∷ T.Loans ∷ T.Chunks ∷ T.Index ∷ T.Own ∷ []

unfoldable pub numbered_table : ℕ → Table
numbered_table n = slice_index_or tables n T.Own
