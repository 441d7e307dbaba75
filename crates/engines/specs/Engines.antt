-- An engine: what it is, and the laws that make it one that may stand beside the others over one account.
use Rattle.engines.specs.Books.{Books}
use Rattle.engines.specs.Delivers.{Delivers}
use Rattle.engines.specs.Ends.{Ends}
use Rattle.engines.specs.Keeps.{Keeps, Lends}
use Rattle.engines.specs.Refuses.{Refuses}
use Rattle.engines.specs.Serials.{Counts}
use Rattle.engines.specs.Shapes.{Shape}
use Rattle.engines.specs.Tells.{Tells}

pub record Engine : Type 1 where
  pub shape : Shape
  pub refuses : Refuses shape
  pub keeps : Keeps shape
  pub lends : Lends shape
  pub counts : Counts shape
  pub books : Books shape
  pub ends : Ends shape
  pub tells : Tells shape
  pub delivers : Delivers shape
