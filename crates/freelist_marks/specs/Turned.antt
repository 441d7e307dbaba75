-- The front of a list turned by one.
use Rattle.std.specs.Prelude.{List, ◌++◌, ℕ, take, drop}
use Rattle.freelist_rules.specs.Release.{rotated}

-- t with the first of its first m words behind the others
unfoldable pub turned : ℕ → List ℕ → List ℕ
turned m t = rotated (take m t) ++ drop m t
