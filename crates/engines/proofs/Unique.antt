-- Each call's promise names one outcome: two that meet it have the same answer, the same account and the same words in
-- every table and list. 01, "How tightly the promises bind".
use mathlib.Core.Path.{◌≡◌, sym, ap, ◌∙◌}
use mathlib.Core.List.{List}
use Prim.Native.Nat.{ℕ}
use Rattle.counter.specs.Paper.{Said, set_up_said, ask_said, deliver_said, release_said, AskAnswer, DeliverAnswer, ReleaseAnswer, SetUpAnswer}
use Rattle.counter.specs.declared.account.Account.{Account}
use Rattle.counter.specs.declared.answers.Block.{Block}
use Rattle.counter.specs.declared.answers.Outcome.{Outcome}
use Rattle.counter.proofs.Papers.{set_up_once, ask_once, deliver_once, release_once}
use Rattle.store_rules.specs.Outcomes.{Out, out, Listed, listed}
use Rattle.engines.specs.Shapes.{Tables, Begun, Shape}

-- an ask or a delivery, by what is said
same_out : {A : Type 0} (said : A → Said) (x y : A) (b c : Account) (u v : Tables) → (said x ≡ said y → x ≡ y) → out (said x) b u ≡ out (said y) c v
    → (x ≡ y) × (b ≡ c) × (u ≡ v)
same_out said x y b c u v once g =
    (once (ap (λ (r : Out Tables). r.said) g), ap (λ (r : Out Tables). r.account) g, ap (λ (r : Out Tables). r.tables) g)

-- a return and a call of an engine's own, with the release list
same_listed : (x y : ReleaseAnswer) (b c : Account) (u v : Tables) (l m : List ℕ) → listed (release_said x) b u l ≡ listed (release_said y) c v m
    → (x ≡ y) × (b ≡ c) × (u ≡ v) × (l ≡ m)
same_listed x y b c u v l m g = (
  release_once x y (ap (λ (r : Listed Tables). r.said) g),
  ap (λ (r : Listed Tables). r.account) g,
  ap (λ (r : Listed Tables). r.tables) g,
  ap (λ (r : Listed Tables). r.list) g,
)

module _ (E : Shape) where
  -- two outcomes of set-up that meet its contract are the same
  pub set_up_unique : (s : E.Settings) (t : Tables) (x y : SetUpAnswer) (u v : Tables) → record { said = set_up_said x; tables = u } ≡ E.set_up s t → record { said = set_up_said y; tables = v } ≡ E.set_up s t
      → (x ≡ y) × (u ≡ v)
  set_up_unique s t x y u v e f =
      let g = e ∙ sym f in
      (set_up_once x y (ap (λ (r : Begun). r.said) g), ap (λ (r : Begun). r.tables) g)

  -- of an ask
  pub ask_unique : (s : E.Settings) (a : Account) (size mask : ℕ) (t : Tables) (x y : AskAnswer) (b c : Account) (u v : Tables) → out (ask_said x) b u ≡ E.ask s a size mask t → out (ask_said y) c v ≡ E.ask s a size mask t
      → (x ≡ y) × (b ≡ c) × (u ≡ v)
  ask_unique s a size mask t x y b c u v e f = same_out ask_said x y b c u v (ask_once x y) (e ∙ sym f)

  -- of a delivery
  pub deliver_unique : (s : E.Settings) (a : Account) (o : Outcome) (t : Tables) (x y : DeliverAnswer) (b c : Account) (u v : Tables) → out (deliver_said x) b u ≡ E.deliver s a o t → out (deliver_said y) c v ≡ E.deliver s a o t
      → (x ≡ y) × (b ≡ c) × (u ≡ v)
  deliver_unique s a o t x y b c u v e f = same_out deliver_said x y b c u v (deliver_once x y) (e ∙ sym f)

  module _ (x y : ReleaseAnswer) (b c : Account) (u v : Tables) (l m : List ℕ) where
    -- of a return
    pub return_unique : (s : E.Settings) (a : Account) (d : Block) (t : Tables) (list : List ℕ) → listed (release_said x) b u l ≡ E.return s a d t list → listed (release_said y) c v m ≡ E.return s a d t list
        → (x ≡ y) × (b ≡ c) × (u ≡ v) × (l ≡ m)
    return_unique s a d t list e f = same_listed x y b c u v l m (e ∙ sym f)

    -- of a call that only this engine has
    pub other_unique : (s : E.Settings) (a : Account) (d : E.Own) (t : Tables) (list : List ℕ) → listed (release_said x) b u l ≡ E.other s a d t list → listed (release_said y) c v m ≡ E.other s a d t list
        → (x ≡ y) × (b ≡ c) × (u ≡ v) × (l ≡ m)
    other_unique s a d t list e f = same_listed x y b c u v l m (e ∙ sym f)
