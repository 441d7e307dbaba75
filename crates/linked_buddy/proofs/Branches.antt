-- What each exported call leaves where the lent words are right, and where they are not.
use mathlib.Core.Path.{◌≡◌, refl, sym, ap, ◌∙◌}
use mathlib.Core.Bool.{Bool, true, false, ◌&&◌}
use mathlib.Core.List.{List, []}
use Prim.Native.Nat.{ℕ}
use Rattle.lists.proofs.Bools.{and_left, and_right}
use Rattle.counter.specs.Paper.{Said}
use Rattle.counter.specs.Paper as Paper
use Rattle.counter.specs.declared.account.Account.{Account}
use Rattle.counter.specs.Open.{OpenOrder}
use Rattle.counter.specs.declared.answers.Block.{Block}
use Rattle.counter.specs.declared.answers.Outcome.{Outcome}
use Rattle.counter.specs.declared.settings.BuddySettings.{BuddySettings}
use Rattle.store_rules.specs.Outcomes.{out, listed}
use Rattle.store_rules.specs.Shares.{share_of, with_share, ask_left}
use Rattle.store_rules.proofs.Holders.{holding, holder}
use Rattle.store_rules.specs.declared.Share.{Share}
use Rattle.store.proofs.Wholes.{whole_ask, whole_deliver, whole_listed}
use Rattle.buddy_rules.specs.Tables.{Tables}
use Rattle.buddy_outcomes.specs.Ask.{ask_of}
use Rattle.buddy_outcomes.specs.Deliver.{deliver_of}
use Rattle.buddy_outcomes.specs.Return.{return_of}
use Rattle.buddy_outcomes.specs.SetUp.{Begun, begun, set_up_of}
use Rattle.buddy_outcomes.proofs.Shares.{ask_alike, deliver_alike, return_alike}
use Rattle.wire_rules.specs.Linked.{Left, left, untouched}
use Rattle.wire_rules.specs.Wire.{buddy_words, buddy_in, settings_ok, order_in, account_in, account_ok, order_out, account_out, share_out, asked_out, outcome_in, outcome_ok, said_out}
use Rattle.wire_rules.proofs.Shares.{holds, holds_order, order_held, asked_out_lem, share_out_lem, released_out}
use Rattle.linked_buddy.specs.Calls.{listing, right_ok, linked_set_up, left_by, left_listed, linked_ask, linked_deliver, linked_return}

-- ---- set-up; v is the lent answer, v' what is left in it

-- the settings are right: what set-up said is told, and its tables are left
pub set_up_made : (s v v' : List ℕ) (t t' : Tables) (said : Said) (s' : BuddySettings) (ok : Bool)
    → ok ≡ settings_ok buddy_words s → ok ≡ true → s' ≡ buddy_in s → begun said t' ≡ set_up_of s' t → v' ≡ said_out said v
    → (t' ≡ (linked_set_up s t).tables) × (v' ≡ said_out (linked_set_up s t).said v)
unfolding linked_set_up
set_up_made s v v' t t' said s' ok e right es r g =
    let o : settings_ok buddy_words s ≡ true = sym e ∙ right in
    let q : begun said t' ≡ linked_set_up s t = r ∙ ap (λ (x : BuddySettings). set_up_of x t) es ∙ sym (rw o refl) in
    (ap (λ (x : Begun). x.tables) q, g ∙ ap (λ (x : Begun). said_out x.said v) q)

-- they are not: 1 is told, and the tables stay
pub set_up_bad : (s v v' : List ℕ) (t : Tables) (ok : Bool)
    → ok ≡ settings_ok buddy_words s → ok ≡ false → v' ≡ said_out (Paper.refusal 1 []) v
    → (t ≡ (linked_set_up s t).tables) × (v' ≡ said_out (linked_set_up s t).said v)
unfolding linked_set_up
set_up_bad s v v' t ok e wrong g =
    let o : settings_ok buddy_words s ≡ false = sym e ∙ wrong in
    let q : begun (Paper.refusal 1 []) t ≡ linked_set_up s t = sym (rw o refl) in
    (ap (λ (x : Begun). x.tables) q, g ∙ ap (λ (x : Begun). said_out x.said v) q)

-- ---- any other call

-- the lent account is left as w, the tables as t; of the answer v is left v'
abbrev pub Leaves : {T : Type 0} → Left T → List ℕ → T → List ℕ → List ℕ → Type 0
Leaves l w t v v' = (w ≡ l.account) × ((t ≡ l.tables) × (v' ≡ said_out l.said v))

leaves_made : {T : Type 0} (l : Left T) (w w' v v' : List ℕ) (t' : T) (said : Said) (account : Account)
    → left w said account t' ≡ l → w' ≡ account_out account w → v' ≡ said_out said v → Leaves l w' t' v v'
leaves_made {T = T} l w w' v v' t' said account q f g =
    (f ∙ ap (λ (x : Left T). x.account) q, (ap (λ (x : Left T). x.tables) q, g ∙ ap (λ (x : Left T). said_out x.said v) q))

leaves_bad : {T : Type 0} (l : Left T) (w v v' : List ℕ) (t : T) → untouched w t ≡ l → v' ≡ said_out (Paper.refusal 1 []) v → Leaves l w t v v'
leaves_bad {T = T} l w v v' t q g =
    (ap (λ (x : Left T). x.account) q, (ap (λ (x : Left T). x.tables) q, g ∙ ap (λ (x : Left T). said_out x.said v) q))

-- the tests p and q of the settings s and the account w
module _ (s w : List ℕ) (p q : Bool) (ep : p ≡ settings_ok buddy_words s) (eq : q ≡ account_ok w) where
  both : (x : Bool) → (p && q) ≡ x → right_ok s w ≡ x
  both x e = (λ j. sym ep j && sym eq j) ∙ e

  -- where both tests hold the settings are right
  pub settings_right : (p && q) ≡ true → settings_ok buddy_words s ≡ true
  settings_right e = and_left _ _ (both true e)

  -- and the account
  pub account_right : (p && q) ≡ true → account_ok w ≡ true
  account_right e = and_right (settings_ok buddy_words s) _ (both true e)

  module _ (size mask : ℕ) (t : Tables) where
    -- both are right: of the share that was read, what the ask left of the account is written, and its answer told
    pub ask_made : (w' v v' : List ℕ) (t' : Tables) (said : Said) (s' : BuddySettings) (share : Share)
        → (p && q) ≡ true → s' ≡ buddy_in s → share ≡ share_of s'.store (account_in w)
        → out said (ask_left (holder s'.store share) size mask said) t' ≡ ask_of s' (holder s'.store share) size mask t
        → w' ≡ asked_out size mask said w → v' ≡ said_out said v → Leaves (linked_ask s w size mask t) w' t' v v'
    unfolding linked_ask
    ask_made w' v v' t' said s' share right es own r f g =
        let o : right_ok s w ≡ true = both true right in
        let a = account_in w in
        let b = holder s'.store share in
        let alike = ask_alike s' a b (holds s'.store w share own) size mask t in
        let r' : out said (ask_left a size mask said) t' ≡ ask_of s' a size mask t = whole_ask s'.store a said t' size mask b _ _ alike r in
        leaves_made (linked_ask s w size mask t) w w' v v' t' said (ask_left a size mask said)
        (ap (left_by w) r' ∙ (λ j. left_by w (ask_of (es j) a size mask t)) ∙ sym (rw o refl))
        (f ∙ sym (asked_out_lem w (account_right right) size mask said))
        g

    -- one is not: 1 is told, and nothing changes
    pub ask_bad : (v v' : List ℕ) → (p && q) ≡ false → v' ≡ said_out (Paper.refusal 1 []) v → Leaves (linked_ask s w size mask t) w t v v'
    unfolding linked_ask
    ask_bad v v' wrong g = let o : right_ok s w ≡ false = both false wrong in leaves_bad (linked_ask s w size mask t) w v v' t (sym (rw o refl)) g

  -- z is the test of the outcome
  module _ (what memory mapping : ℕ) (t : Tables) (z : Bool) (ez : z ≡ outcome_ok what mapping) where
    all : (x : Bool) → ((p && q) && z) ≡ x → (right_ok s w && outcome_ok what mapping) ≡ x
    all x e = (λ j. both (p && q) refl j && sym ez j) ∙ e

    -- all three are right: the share and the order that the delivery left are written one after the other
    pub deliver_made : (w'' w' v v' : List ℕ) (t' : Tables) (said : Said) (s' : BuddySettings) (share share' : Share) (n n' : OpenOrder) (o : Outcome)
        → ((p && q) && z) ≡ true → s' ≡ buddy_in s → share ≡ share_of s'.store (account_in w) → n ≡ order_in w → o ≡ outcome_in what memory mapping
        → out said (holding s'.store share' n') t' ≡ deliver_of s' (holding s'.store share n) o t
        → w'' ≡ share_out s'.store.heap share' w → w' ≡ order_out n' w'' → v' ≡ said_out said v → Leaves (linked_deliver s w what memory mapping t) w' t' v v'
    unfolding linked_deliver
    deliver_made w'' w' v v' t' said s' share share' n n' o right es own en eo r f f' g =
        let k : (right_ok s w && outcome_ok what mapping) ≡ true = all true right in
        let a = account_in w in
        let b = holding s'.store share n in
        let after = with_share s'.store a share' n' in
        let alike = deliver_alike s' a b (holds_order s'.store w share own n en) (order_held s'.store w share own n en) o t in
        let r' : out said after t' ≡ deliver_of s' a o t = whole_deliver s'.store a said t' share' n' _ _ alike r in
        leaves_made (linked_deliver s w what memory mapping t) w w' v v' t' said after
        (ap (left_by w) r' ∙ (λ j. left_by w (deliver_of (es j) a (eo j) t)) ∙ sym (rw k refl))
        (f' ∙ ap (order_out n') f ∙ sym (share_out_lem w s'.store share' n'))
        g

    -- one is not
    pub deliver_bad : (v v' : List ℕ) → ((p && q) && z) ≡ false → v' ≡ said_out (Paper.refusal 1 []) v → Leaves (linked_deliver s w what memory mapping t) w t v v'
    unfolding linked_deliver
    deliver_bad v v' wrong g =
        let k : (right_ok s w && outcome_ok what mapping) ≡ false = all false wrong in
        leaves_bad (linked_deliver s w what memory mapping t) w v v' t (sym (rw k refl)) g

  module _ (b : Block) (t : Tables) (list : List ℕ) where
    -- both are right; the list is left as the return left it
    pub return_made : (w' v v' : List ℕ) (t' : Tables) (list' : List ℕ) (said : Said) (s' : BuddySettings) (share share' : Share)
        → (p && q) ≡ true → s' ≡ buddy_in s → share ≡ share_of s'.store (account_in w)
        → listed said (holder s'.store share') t' list' ≡ return_of s' (holder s'.store share) b t list
        → w' ≡ share_out s'.store.heap share' w → v' ≡ said_out said v → Leaves (linked_return s w b t list) w' (listing t' list') v v'
    unfolding linked_return
    return_made w' v v' t' list' said s' share share' right es own r f g =
        let o : right_ok s w ≡ true = both true right in
        let a = account_in w in
        let after = with_share s'.store a share' (order_in w) in
        let alike = return_alike s' a (holder s'.store share) (holds s'.store w share own) b t list in
        let r' : listed said after t' list' ≡ return_of s' a b t list = whole_listed s'.store a said t' list' share' _ _ alike r in
        leaves_made (linked_return s w b t list) w w' v v' (listing t' list') said after
        (ap (left_listed w) r' ∙ (λ j. left_listed w (return_of (es j) a b t list)) ∙ sym (rw o refl))
        (f ∙ sym (released_out w (account_right right) s'.store share'))
        g

    -- one is not
    pub return_bad : (v v' : List ℕ) → (p && q) ≡ false → v' ≡ said_out (Paper.refusal 1 []) v → Leaves (linked_return s w b t list) w (listing t list) v v'
    unfolding linked_return
    return_bad v v' wrong g =
        let o : right_ok s w ≡ false = both false wrong in
        leaves_bad (linked_return s w b t list) w v v' (listing t list) (sym (rw o refl)) g
