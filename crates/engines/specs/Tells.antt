-- What the answers tell of the loans and of the held chunks: every block that is on loan was told, and no call but an ask, a
-- delivery, a return that is taken and a set-up changes them. 01: "A block carries serial, chunk, offset, size."
use Rattle.std.specs.Prelude.{◌≡◌, Bool, ◌⊎◌, ◌↔◌, ℕ}
use mathlib.Core.List.{List, [], ◌∷◌, Memᴰ}
use Rattle.counter.specs.Paper.{Said}
use Rattle.counter.specs.Paper as Paper
use Rattle.counter.specs.declared.account.Account.{Account}
use Rattle.counter.specs.declared.account.KeptOrder.{KeptOrder}
use Rattle.std.specs.Prelude.{Some}
use Rattle.counter.specs.declared.answers.Block.{Block}
use Rattle.counter.specs.declared.answers.Memory.{Memory}
use Rattle.counter.specs.declared.answers.Outcome.{Outcome}
use Rattle.counter.specs.declared.answers.Outcome.TheVariants as O
use Rattle.store_rules.specs.Views.{chunk, block, Matches}
use Rattle.store_rules.specs.declared.Chunk.{Chunk}
use Rattle.store_rules.specs.declared.Loan.{Loan}
use Rattle.engines.specs.Shapes.{Tables, Shape}

-- the block that is told
abbrev pub lent_by : Said → List Block
lent_by Paper.ready = []
lent_by (Paper.block serial chunk offset size) = block serial chunk offset size ∷ []
lent_by (Paper.order store size memtype map) = []
lent_by (Paper.released n) = []
lent_by Paper.ranked = []
lent_by (Paper.refusal n back) = []

-- the same loans, in whatever order
abbrev pub Same : List Loan → List Loan → Type 0
Same ks ls = (l : Loan) → Memᴰ l ks ↔ Memᴰ l ls

-- those of ls, and for each told block one loan more, with its serial, chunk, offset and size
abbrev pub Joined : List Loan → List Loan → List Block → Type 0
Joined ks ls [] = Same ks ls
Joined ks ls (b ∷ bs) = (n : Loan) × Matches b n × Joined ks (n ∷ ls) bs

-- ---- the forms of answers

abbrev pub Blocked : Said → Type 0
Blocked x = (serial : ℕ) × (number : ℕ) × (offset : ℕ) × (len : ℕ) × (x ≡ Paper.block serial number offset len)

abbrev pub Ordered : Said → Type 0
Ordered x = (store : ℕ) × (size : ℕ) × (memtype : ℕ) × (map : Bool) × (x ≡ Paper.order store size memtype map)

abbrev pub Released : Said → Type 0
Released x = (n : ℕ) × (x ≡ Paper.released n)

abbrev pub Refused : Said → Type 0
Refused x = (n : ℕ) × (back : List ℕ) × (x ≡ Paper.refusal n back)

pub record Tells (E : Shape) : Type 0 where
  -- each call answers in its own forms
  pub set_up_says : (s : E.Settings) (t : Tables) → ((E.set_up s t).said ≡ Paper.ready) ⊎ Refused (E.set_up s t).said
  pub ask_says : (s : E.Settings) (a : Account) (size mask : ℕ) (t : Tables)
      → Blocked (E.ask s a size mask t).said ⊎ (Ordered (E.ask s a size mask t).said ⊎ Refused (E.ask s a size mask t).said)
  pub deliver_says : (s : E.Settings) (a : Account) (o : Outcome) (t : Tables) → Blocked (E.deliver s a o t).said ⊎ Refused (E.deliver s a o t).said
  pub return_says : (s : E.Settings) (a : Account) (b : Block) (t : Tables) (list : List ℕ) → Released (E.return s a b t list).said ⊎ Refused (E.return s a b t list).said
  pub other_says : (s : E.Settings) (a : Account) (c : E.Own) (t : Tables) (list : List ℕ) → Released (E.other s a c t list).said ⊎ Refused (E.other s a c t list).said
  -- a store set up has no loan
  pub fresh : (s : E.Settings) (t : Tables) → (E.set_up s t).said ≡ Paper.ready → E.loans (E.set_up s t).tables ≡ []
  -- an ask and a delivery that lend a block add one loan, which matches it, and whatever else they say they leave the loans
  pub ask_loans : (s : E.Settings) (a : Account) (size mask : ℕ) (t : Tables)
      → Joined (E.loans (E.ask s a size mask t).tables) (E.loans t) (lent_by (E.ask s a size mask t).said)
  pub deliver_loans : (s : E.Settings) (a : Account) (o : Outcome) (t : Tables)
      → Joined (E.loans (E.deliver s a o t).tables) (E.loans t) (lent_by (E.deliver s a o t).said)
  -- so does a call that only this engine has
  pub other_loans : (s : E.Settings) (a : Account) (c : E.Own) (t : Tables) (list : List ℕ) → Same (E.loans (E.other s a c t list).tables) (E.loans t)
  -- an ask leaves the held chunks, and a delivery that lends a block adds the one that it lies in, of the delivered memory and
  -- the order's size
  pub ask_chunks : (s : E.Settings) (a : Account) (size mask : ℕ) (t : Tables) → (E.view s (E.ask s a size mask t).tables).chunks ≡ (E.view s t).chunks
  pub deliver_chunks : (s : E.Settings) (a : Account) (o : Outcome) (t : Tables) (serial number offset len : ℕ) → (E.deliver s a o t).said ≡ Paper.block serial number offset len
      → (k : KeptOrder) × (m : Memory) × (a.order ≡ Some k) × (o ≡ O.Made m)
      × ((c : Chunk) → Memᴰ c (E.view s (E.deliver s a o t).tables).chunks ↔ (Memᴰ c (E.view s t).chunks ⊎ (c ≡ chunk number m.number k.order.size)))
