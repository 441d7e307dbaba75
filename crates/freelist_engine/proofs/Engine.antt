-- The free list is an engine: every law of one holds of it.
use Rattle.engines.specs.Engines.{Engine}
use Rattle.freelist_engine.specs.Shape.{list_shape}
use Rattle.freelist_engine.proofs.Booking.{list_books}
use Rattle.freelist_engine.proofs.Counting.{list_counts}
use Rattle.freelist_engine.proofs.Delivering.{list_delivers}
use Rattle.freelist_engine.proofs.Ending.{list_ends}
use Rattle.freelist_engine.proofs.Keeping.{list_keeps, list_lends}
use Rattle.freelist_engine.proofs.Refusing.{list_refuses}
use Rattle.freelist_engine.proofs.Telling.{list_tells}

-- the free list as an engine
abbrev pub free_list : Engine
free_list =
    record {
      shape = list_shape;
      refuses = list_refuses;
      keeps = list_keeps;
      lends = list_lends;
      counts = list_counts;
      books = list_books;
      ends = list_ends;
      tells = list_tells;
      delivers = list_delivers;
    }
