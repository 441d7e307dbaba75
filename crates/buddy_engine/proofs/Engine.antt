-- The buddy is an engine: every law of one holds of it.
use Rattle.engines.specs.Engines.{Engine}
use Rattle.buddy_engine.specs.Shape.{buddy_shape}
use Rattle.buddy_engine.proofs.Booking.{books}
use Rattle.buddy_engine.proofs.Counting.{counts}
use Rattle.buddy_engine.proofs.Delivering.{buddy_delivers}
use Rattle.buddy_engine.proofs.Ending.{ends}
use Rattle.buddy_engine.proofs.Keeping.{keeps, lends}
use Rattle.buddy_engine.proofs.Refusing.{refuses}
use Rattle.buddy_engine.proofs.Telling.{buddy_tells}

-- the buddy as an engine
abbrev pub buddy : Engine
buddy =
    record {
      shape = buddy_shape;
      refuses = refuses;
      keeps = keeps;
      lends = lends;
      counts = counts;
      books = books;
      ends = ends;
      tells = buddy_tells;
      delivers = buddy_delivers;
    }
