-- The two engines, beside each other over one account.
use mathlib.Core.Path.{◌≡◌, refl}
use native.Mathlib.Omega.{arith}
use Rattle.engines.specs.Engines.{Engine}
use Rattle.engines.specs.Further.{Further}
use Rattle.engines.specs.Grants.{Grants}
use Rattle.engines.specs.Histories.{Visit}
use Rattle.freelist_rules.specs.Tables as FreeList
use Rattle.freelist_engine.proofs.Engine.{free_list}
use Rattle.freelist_engine.proofs.Furthering.{list_further}
use Rattle.freelist_engine.proofs.Granting.{list_grants}
use Rattle.buddy_rules.specs.Tables as Buddy
use Rattle.buddy_engine.proofs.Engine.{buddy}
use Rattle.buddy_engine.proofs.Furthering.{buddy_further}
use Rattle.buddy_engine.proofs.Granting.{grants}
use Rattle.histories.specs.Which.{Which, a_list, a_buddy}

abbrev pub both : Which → Engine
both a_list = free_list
both a_buddy = buddy

-- their further laws, and what they grant
abbrev pub both_further : (e : Which) → Further (both e).shape
both_further a_list = list_further
both_further a_buddy = buddy_further

pub both_grants : (e : Which) → Grants (both e).shape
both_grants a_list = list_grants
both_grants a_buddy = grants

-- a call of either engine at one of the stores
abbrev pub Call : Type 0
Call = Visit Which both

-- their marks differ, so no call of one takes the other's tables for its own
pub differ : (i j : Which) → (both i).shape.mark ≡ (both j).shape.mark → i ≡ j
differ a_list a_list e = refl
differ a_buddy a_buddy e = refl
differ a_list a_buddy e = let z : (FreeList.marks).head ≡ (Buddy.marks).head = e in absurd (omega arith)
differ a_buddy a_list e = let z : (Buddy.marks).head ≡ (FreeList.marks).head = e in absurd (omega arith)
