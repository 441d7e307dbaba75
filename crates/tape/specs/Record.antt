-- A record of a call. 02, Req 04: "one byte of kind, then a body whose length the kind fixes".
use Rattle.std.specs.Prelude.{Bool, cond, ◌&&◌, not, List, ℕ, ◌+◌, eqb, leb, ltb, length, get_or, Option, None, Some, option_map}
use Rattle.counter.specs.declared.account.Ask.{Ask}
use Rattle.counter.specs.declared.answers.Block.{Block}
use Rattle.counter.specs.declared.answers.Mapping.{Mapping}
use Rattle.counter.specs.declared.answers.Mapping.TheVariants as M
use Rattle.counter.specs.declared.answers.Outcome.{Outcome}
use Rattle.counter.specs.declared.answers.Outcome.TheVariants as O
use Rattle.tape.specs.Numbers.{word_bytes, word_at}
use Rattle.tape.specs.declared.record.Record.{Record}
use Rattle.tape.specs.declared.record.Record.TheVariants as R

-- ---- kinds

abbrev pub ask : ℕ
ask = 1

abbrev pub deliver : ℕ
deliver = 2

abbrev pub return : ℕ
return = 3

abbrev pub clean_up : ℕ
clean_up = 4

-- ---- outcome bytes: "in turn: mapped, not wanted, map failed, map out of device memory, map out of host memory, device
-- refusal, host refusal"

abbrev pub mapped : ℕ
mapped = 0

abbrev pub not_wanted : ℕ
not_wanted = 1

abbrev pub failed : ℕ
failed = 2

abbrev pub out_of_device : ℕ
out_of_device = 3

abbrev pub out_of_host : ℕ
out_of_host = 4

abbrev pub device_refusal : ℕ
device_refusal = 5

abbrev pub host_refusal : ℕ
host_refusal = 6

-- ---- how many bytes a record of each kind has, the kind's own among them

-- two words
abbrev pub ask_bytes : ℕ
ask_bytes = 17

-- a byte and a word
abbrev pub deliver_bytes : ℕ
deliver_bytes = 10

-- four words
abbrev pub return_bytes : ℕ
return_bytes = 33

abbrev pub clean_up_bytes : ℕ
clean_up_bytes = 1

-- of an unknown kind only the kind's own byte is read
unfoldable pub length_of : ℕ → ℕ
length_of k = cond (eqb k ask) ask_bytes (cond (eqb k deliver) deliver_bytes (cond (eqb k return) return_bytes clean_up_bytes))

-- ---- where the words of a body begin, and the two parts of a delivery's

abbrev pub first_at : ℕ
first_at = 1

abbrev pub second_at : ℕ
second_at = first_at + word_bytes

abbrev pub third_at : ℕ
third_at = second_at + word_bytes

abbrev pub fourth_at : ℕ
fourth_at = third_at + word_bytes

abbrev pub outcome_at : ℕ
outcome_at = 1

abbrev pub memory_at : ℕ
memory_at = 2

-- ---- what a record says

-- what became of mapping, of an outcome up to map out of host memory
unfoldable pub mapping_of : ℕ → Mapping
mapping_of code =
    cond (eqb code mapped) M.Mapped
    (cond (eqb code not_wanted) M.NotWanted (cond (eqb code failed) M.Failed (cond (eqb code out_of_device) M.OutOfDevice M.OutOfHost)))

-- "the memory is 0 for the last two, else whatever the caller gave"
unfoldable pub delivery_in : ℕ → ℕ → Option Outcome
delivery_in code memory =
    cond (leb code out_of_host) (Some (O.Made (record { number = memory; mapping = mapping_of code })))
    (cond (eqb code device_refusal && eqb memory 0) (Some O.OutOfDevice)
    (cond (eqb code host_refusal && eqb memory 0) (Some O.OutOfHost) None))

abbrev pub ask_in : List ℕ → Ask
ask_in bs = record { size = word_at bs first_at; mask = word_at bs second_at }

abbrev pub block_in : List ℕ → Block
block_in bs = record { serial = word_at bs first_at; chunk = word_at bs second_at; offset = word_at bs third_at; size = word_at bs fourth_at }

-- by its kind, where the body isn't short
unfoldable pub body_of : ℕ → List ℕ → Bool → Option Record
body_of k bs buddy =
    cond (eqb k ask) (Some (R.Ask (ask_in bs)))
    (cond (eqb k deliver) (option_map R.Deliver (delivery_in (get_or bs outcome_at 0) (word_at bs memory_at)))
    (cond (eqb k return) (Some (R.Return (block_in bs))) (cond (eqb k clean_up && not buddy) (Some R.CleanUp) None)))

-- none where it is torn: "An unknown kind or outcome, a nonzero memory with outcome 5 or 6, a clean-up for a buddy store, or a short
-- body" is; so are no bytes at all
unfoldable pub record_of : List ℕ → Bool → Option Record
record_of bs buddy = cond (ltb (length bs) (length_of (get_or bs 0 0))) None (body_of (get_or bs 0 0) bs buddy)
