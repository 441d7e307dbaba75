-- What a clean-up that is not refused comes to, as its user sees it. 01, "freelist.rs": "every wholly free chunk .. is released;
-- clean-up spares none".
use Rattle.std.specs.Prelude.{◌≡◌, ◌↔◌, ℕ, ◌+◌, ◌-◌, length, take, drop}
use mathlib.Core.List.{List, Memᴰ}
use Rattle.lists.specs.Members.{Distinct}
use Rattle.counter.specs.declared.account.Account.{Account}
use Rattle.counter.specs.declared.settings.FreeListSettings.{FreeListSettings}
use Rattle.store_rules.specs.Outcomes.{Listed, released_account}
use Rattle.store_rules.specs.Views.{View, sizes}
use Rattle.store_rules.specs.declared.Chunk.{Chunk}
use Rattle.store_rules.specs.declared.Loan.{Loan}
use Rattle.store_rules.specs.declared.Region.{Region}
use Rattle.freelist_rules.specs.Tables.{Tables}
use Rattle.freelist_engine.specs.Shape.{list_shape}

-- some block on loan lies in the chunk of this number: it is not "wholly free"
abbrev pub Used : View → ℕ → Type 0
Used v number = (l : Loan) × Memᴰ l v.loans × (l.chunk ≡ number)

module _ (s : FreeListSettings) where
  abbrev pub seen_in : Tables → View
  seen_in t = list_shape.view s t

  -- of a clean-up that says `released n`
  pub record Cleaned (a : Account) (t : Tables) (list : List ℕ) (n : ℕ) (r : Listed Tables) : Type 0 where
    pub loans : (seen_in r.tables).loans ≡ (seen_in t).loans
    -- exactly the wholly free chunks go, and what is free in them
    pub chunks : (c : Chunk) → Memᴰ c (seen_in r.tables).chunks ↔ (Memᴰ c (seen_in t).chunks × Used (seen_in t) c.number)
    pub free : (p : Region) → Memᴰ p (seen_in r.tables).free ↔ (Memᴰ p (seen_in t).free × Used (seen_in t) p.chunk)
    -- numbers given and the chunk size stay
    pub rest : list_shape.rest s r.tables ≡ list_shape.rest s t
    -- as many device objects and bytes are given back as go
    pub count : n + length (seen_in r.tables).chunks ≡ length (seen_in t).chunks
    pub account : r.account ≡ released_account s.store a n (sizes (seen_in t).chunks - sizes (seen_in r.tables).chunks)
    -- 01, "What one store holds": "writes released memory numbers into a lent list and gives their count": the list's first n words
    -- are those of the chunks that go, each once
    pub each : length (take n r.list) ≡ n
    pub told : (m : ℕ) → Memᴰ m (take n r.list) ↔ ((c : Chunk) × Memᴰ c (seen_in t).chunks × (c.memory ≡ m) × (Used (seen_in t) c.number → ⊥))
    pub once : Distinct (take n r.list)
    -- "places past the count are untouched"
    pub past : drop n r.list ≡ drop n list
    pub long : length r.list ≡ length list
