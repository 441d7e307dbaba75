-- A pair's entry as the code reads it.
use Rattle.buddy_rules.specs.Nodes.{Ent}
use Rattle.buddy_levels.specs.declared.pairs.Pair.{Pair}

abbrev pub ent_from : Pair → Ent
ent_from p =
    record {
      tag = p.tag;
      chunk = p.chunk;
      off = p.off;
      left = p.left;
      right = p.right;
      up = p.up;
    }
