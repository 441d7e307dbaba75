-- No two of the ten tables of the two engines have one mark. So a table of another engine, or one lent in another's place, is taken
-- for none of a store's: every call but set-up is refused there, and leaves everything.
use mathlib.Core.Path.{◌≡◌, refl, sym, ap, ◌∙◌}
use mathlib.Core.Bool.{cond}
use mathlib.Core.List.{List, []}
use Prim.Native.Nat.{ℕ, ◌≤◌, ◌<◌}
use lib.Dec.{eqb, ltb}
use Rattle.counter.specs.Paper as Paper
use Rattle.counter.specs.declared.account.Account.{Account}
use Rattle.store_rules.specs.Outcomes.{listed}
use Rattle.engines.specs.Pools.{Slot, of_head, of_loans, of_chunks, of_index, of_room, table_of, seal, Marking}
use Rattle.engines.specs.Shapes.{Tables, Call, sets_up, does, lent_list}
use Rattle.freelist_rules.specs.Tables as FreeList
use Rattle.freelist_engine.proofs.Signing.{list_marking}
use Rattle.buddy_rules.specs.Tables as Buddy
use Rattle.buddy_engine.proofs.Signing.{buddy_marking}
use Rattle.histories.specs.Which.{Which, a_list, a_buddy}
use Rattle.histories.proofs.Both.{both}

-- the marks of both
abbrev pub marking : (e : Which) → Marking (both e).shape
marking a_list = list_marking
marking a_buddy = buddy_marking

-- whose table a mark names, and which
abbrev whose : ℕ → Which
whose n = cond (ltb n (FreeList.marks).chunks) a_buddy a_list

abbrev which : ℕ → Slot
which n =
    cond (eqb n (FreeList.marks).head) of_head
    (cond (eqb n (Buddy.marks).head) of_head
    (cond (eqb n (FreeList.marks).loans) of_loans
    (cond (eqb n (Buddy.marks).loans) of_loans
    (cond (eqb n (FreeList.marks).chunks) of_chunks
    (cond (eqb n (Buddy.marks).chunks) of_chunks
    (cond (eqb n (FreeList.marks).index) of_index
    (cond (eqb n (Buddy.marks).index) of_index of_room)))))))

named_whose : (e : Which) (z : Slot) → whose ((marking e).sign z) ≡ e
named_whose a_list of_head = refl
named_whose a_list of_loans = refl
named_whose a_list of_chunks = refl
named_whose a_list of_index = refl
named_whose a_list of_room = refl
named_whose a_buddy of_head = refl
named_whose a_buddy of_loans = refl
named_whose a_buddy of_chunks = refl
named_whose a_buddy of_index = refl
named_whose a_buddy of_room = refl

named_which : (e : Which) (z : Slot) → which ((marking e).sign z) ≡ z
named_which a_list of_head = refl
named_which a_list of_loans = refl
named_which a_list of_chunks = refl
named_which a_list of_index = refl
named_which a_list of_room = refl
named_which a_buddy of_head = refl
named_which a_buddy of_loans = refl
named_which a_buddy of_chunks = refl
named_which a_buddy of_index = refl
named_which a_buddy of_room = refl

pub marks_differ : (i j : Which) (y z : Slot) → (marking i).sign y ≡ (marking j).sign z → (i ≡ j) × (y ≡ z)
marks_differ i j y z e = (sym (named_whose i y) ∙ ap whose e ∙ named_whose j z, sym (named_which i y) ∙ ap which e ∙ named_which j z)

-- engine e's call, lent in slot z a table that engine g set up for slot y: refused by 1, 2 or 3 unless both are the same
pub misplaced : (e g : Which) (s : (both e).shape.Settings) (a : Account) (t : Tables) (c : Call (both e).shape.Own) → (c ≡ sets_up → ⊥)
    → (y z : Slot) → seal (table_of t z) ≡ (marking g).sign y → ((e ≡ g) × (z ≡ y) → ⊥)
    → (n : ℕ) × (does (both e).shape s a t c ≡ listed (Paper.refusal n []) a t (lent_list c)) × (0 < n) × (n ≤ 3)
misplaced e g s a t c f y z m other = (marking e).unsigned s a t c f (λ h. other (marks_differ e g z y (sym (h z) ∙ m)))
