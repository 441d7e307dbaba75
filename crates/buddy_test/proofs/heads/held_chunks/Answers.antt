use mathlib.Core.Path.{◌∙◌}
use Prim.Native.Nat.{◌≤◌}
use Rattle.std.proofs.lemmas.Option.{IfSome_then}
use Rattle.buddy_test.proofs.Parts.{places_told, held_told, told_right, told_value}
use Rattle.buddy_test.proofs.heads.held_chunks.Goals as goal

pub returns : goal.returns
returns c =
    let a = c.args in
    let v = a.v.now in
    let e = c.test_parts.ensures in
    record {
      right = places_told v.settings a.n _ _ v.chunks.now v.tree.now _ c.requires c.chunks_from-at.ensures.value c.led_to.ensures (told_right c.test_parts.result _ _ e.used);
      held = IfSome_then c.test_parts.result (told_value c.test_parts.result _ _ _ e.used e.within) (λ k h. (held_told v.settings a.n k v.chunks.now c.requires h.0, h.1));
    }
