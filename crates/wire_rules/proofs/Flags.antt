-- A test as a number, as code makes it.
use mathlib.Core.Path.{◌≡◌, refl}
use mathlib.Core.Bool.{Bool, true, false}
use mir.Val.{bool_byte}
use Rattle.wire_rules.specs.Wire.{flag}

-- a cast test is the test's flag
pub cast_flag : (b : Bool) → bool_byte b ≡ flag b
cast_flag true = refl
cast_flag false = refl
