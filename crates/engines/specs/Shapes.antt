-- What an engine is: its calls as functions, and what its tables say. 01, "What one store holds".
use Rattle.std.specs.Prelude.{◌≡◌, List, [], ℕ, get_or}
use Rattle.counter.specs.Gate.{Verdict}
use Rattle.counter.specs.Paper.{Said}
use Rattle.counter.specs.Reasons.{Reasons}
use Rattle.counter.specs.declared.account.Account.{Account}
use Rattle.counter.specs.declared.answers.Block.{Block}
use Rattle.counter.specs.declared.answers.Outcome.{Outcome}
use Rattle.counter.specs.declared.settings.StoreSettings.{StoreSettings}
use Rattle.store_rules.specs.Delivery.{Engine}
use Rattle.store_rules.specs.Outcomes.{Out, Listed, listed}
pub use Rattle.store_rules.specs.Tables.{Tables, no_tables, Begun}
use Rattle.store_rules.specs.Views.{View}
use Rattle.store_rules.specs.declared.Loan.{Loan}
use Rattle.store_rules.specs.declared.Region.{Region}
use Rattle.store_rules.specs.Words.{Words}

-- the first word of the head tells which engine set the tables up
abbrev pub mark_of : Tables → ℕ
mark_of t = get_or t.head 0 0

-- a call with what it is given: a size and a mask, an outcome, a block and a lent list, or one that only this engine has, with
-- a lent list
pub data Call (Own : Type 0) : Type 0 where
  sets_up : Call Own
  asks : ℕ → ℕ → Call Own
  delivers : Outcome → Call Own
  returns : Block → List ℕ → Call Own
  others : Own → List ℕ → Call Own

pub record Shape : Type 1 where
  -- ---- its calls
  pub Settings : Type 0
  pub store : Settings → StoreSettings
  pub Own : Type 0
  pub set_up : Settings → Tables → Begun
  pub ask : Settings → Account → ℕ → ℕ → Tables → Out Tables
  pub deliver : Settings → Account → Outcome → Tables → Out Tables
  pub return : Settings → Account → Block → Tables → List ℕ → Listed Tables
  pub other : Settings → Account → Own → Tables → List ℕ → Listed Tables
  -- ---- which of 01's engines it is: that decides what becomes of memory that was not mapped
  pub engine : Engine
  -- ---- what its tables say: its mark, how many serials were given, the loans; blocks on loan, held chunks and free pieces
  pub mark : ℕ
  pub given : Tables → ℕ
  pub loans : Tables → List Loan
  pub view : Settings → Tables → View
  -- and its counts beside these, which returns leave: of a free list serials and chunk numbers given and the chunk size, of a
  -- buddy serials given and levels
  pub Rest : Type 0
  pub rest : Settings → Tables → Rest
  -- ---- when they are sound, and which two free pieces are 01's "joinable pieces"
  pub Sound : Settings → Tables → Type 0
  pub Joinable : Settings → Region → Region → Type 0
  -- ---- when no held chunk has a fitting free place for a size and a mask; how long the chunk is that is ordered then
  pub Needed : Settings → ℕ → ℕ → Tables → Type 0
  pub order_size : Settings → ℕ → ℕ → Tables → ℕ
  -- ---- the words of 01's rows that are an engine's own; the rest is said once, in Rows. 1: settings and tables; 5: a mask of the
  -- allowed form that it does not take; 6: the size; 8 and 10: what it may run out of besides
  pub Fits : Settings → Tables → Type 0
  pub MaskHigh : Settings → ℕ → Type 0
  pub SizeOff : Settings → ℕ → ℕ → Type 0
  pub Roomless : Settings → ℕ → ℕ → Tables → Type 0
  pub Numberless : Settings → Tables → Type 0
  -- the rows of a call that only this engine has
  pub own_rows : Settings → Account → Own → Tables → List ℕ → Reasons
  -- ---- the tests 1 to 4 of an ask, and of a delivery
  pub gate : Settings → Account → Tables → Verdict
  pub deliver_gate : Settings → Account → Tables → Verdict
  -- ---- several blocks come back: the end that 01's rules give
  pub at_once : Settings → List Block → Tables → View

-- the words of its rows, of the lent tables
abbrev pub words_of : Shape → Words
words_of E =
    record {
      Tables = Tables;
      Settings = E.Settings;
      store = E.store;
      given = E.given;
      view = E.view;
      Sound = E.Sound;
      Needed = E.Needed;
      order_size = E.order_size;
      Fits = E.Fits;
      MaskHigh = E.MaskHigh;
      SizeOff = E.SizeOff;
      Roomless = E.Roomless;
      Numberless = E.Numberless;
    }

module _ (E : Shape) where
  -- what a call says and leaves; a call that is lent no list leaves none
  abbrev pub does : E.Settings → Account → Tables → Call E.Own → Listed Tables
  does s a t sets_up = listed (E.set_up s t).said a (E.set_up s t).tables []
  does s a t (asks size mask) = listed (E.ask s a size mask t).said (E.ask s a size mask t).account (E.ask s a size mask t).tables []
  does s a t (delivers o) = listed (E.deliver s a o t).said (E.deliver s a o t).account (E.deliver s a o t).tables []
  does s a t (returns b list) = E.return s a b t list
  does s a t (others c list) = E.other s a c t list

  -- tables that this engine set up
  abbrev pub Marked : Tables → Type 0
  Marked t = mark_of t ≡ E.mark

-- the list that a call is lent
abbrev pub lent_list : {Own : Type 0} → Call Own → List ℕ
lent_list sets_up = []
lent_list (asks size mask) = []
lent_list (delivers o) = []
lent_list (returns b list) = list
lent_list (others c list) = list
