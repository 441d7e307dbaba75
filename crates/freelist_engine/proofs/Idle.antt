-- Of the chunks that a return leaves at most one has no block on loan: that of the last region.
use mathlib.Core.Path.{◌≡◌, sym, ap, subst, ◌∙◌}
use mathlib.Core.Bool.{true}
use mathlib.Core.List.{List}
use Prim.Native.Nat.{ℕ, ◌≤◌}
use lib.ListN.{length}
use Rattle.std.proofs.lemmas.List.{same_from_push}
use Rattle.counter.specs.Gate.{pass}
use Rattle.counter.specs.InTable.{FreeListIn}
use Rattle.counter.specs.declared.account.Account.{Account}
use Rattle.counter.specs.declared.answers.Block.{Block}
use Rattle.counter.specs.declared.settings.FreeListSettings.{FreeListSettings}
use Rattle.store_rules.specs.Views.{OnLoan}
use Rattle.store_rules.specs.declared.Region.{Region}
use Rattle.engines.specs.Further.{Unlent, AtMostOne}
use Rattle.freelist_rules.specs.Records.{Store}
use Rattle.freelist_rules.specs.Sound.{Sound}
use Rattle.freelist_rules.specs.Steps.{released}
use Rattle.freelist_rules.specs.Tables.{Tables, store_of}
use Rattle.freelist_rules.proofs.Blocks.{returned_is}
use Rattle.freelist_rules.proofs.Giving.{give_sound}
use Rattle.freelist_rules.proofs.Meaning.{chunk_one, unnamed_idle}
use Rattle.freelist_rules.proofs.Releases.{Last, remaining_in, release_leaves}
use Rattle.freelist_outcomes.specs.Gate.{gate_of}
use Rattle.freelist_outcomes.specs.Return.{return_of}
use Rattle.freelist_outcomes.proofs.Passing.{gate_passed}
use Rattle.freelist_engine.specs.Shape.{seen}
use Rattle.freelist_engine.proofs.Handing.{return_handed}

-- the last of a list is one
last_one : (r q : Region) (rs : List Region) → Last r rs → Last q rs → r ≡ q
last_one r q rs x y = (same_from_push x.0 y.0 r q (sym x.1 ∙ y.1)).1

-- ---- a release that spares the last region's chunk

released_one : (s : FreeListSettings) (u : Store) → FreeListIn s → Sound s u → AtMostOne (Unlent (seen (released true u)))
released_one s u fit sound c d x y =
    let p = release_leaves s u fit sound true c x.held (unnamed_idle s u fit sound c x.none) in
    let q = release_leaves s u fit sound true d y.held (unnamed_idle s u fit sound d y.none) in
    let e = ap (λ (r : Region). r.chunk) (last_one p.1 q.1 u.regions p.2 q.2) in
    chunk_one s u fit sound c d (remaining_in _ c u.chunks x.held).0 (remaining_in _ d u.chunks y.held).0 (sym p.3 ∙ e ∙ q.3)

pub idle_one : (s : FreeListSettings) (a : Account) (b : Block) (t : Tables) (list : List ℕ) → gate_of s a t true ≡ pass → OnLoan b (store_of s t).loans
    → s.store.chunks ≤ length list → AtMostOne (Unlent (seen (store_of s (return_of s a b t list).tables)))
idle_one s a b t list passes lent long =
    let p = gate_passed s a t true (sym passes) in
    let v = store_of s t in
    let e = (return_handed s a b t list passes lent long).store ∙ returned_is s p.settings b v p.sound.store lent in
    subst (λ (x : Store). AtMostOne (Unlent (seen x))) (sym e) (released_one s _ p.settings (give_sound s v p.settings p.sound.store lent.0 lent.1))
