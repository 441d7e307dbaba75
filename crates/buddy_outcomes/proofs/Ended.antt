-- A return that is taken, as the user sees it: the block is no longer on loan, its chunk goes exactly when no other loan lies in it,
-- and the answer, the account and the list tell so.
use mathlib.Core.Path.{◌≡◌, refl, sym, ap, subst, ◌∙◌}
use mathlib.Core.Bool.{Bool, true, false, cond, not, ◌&&◌, and-false}
use mathlib.Core.Logic.{⊎_elim}
use mathlib.Core.List.{List, [], ◌∷◌, ◌++◌}
use Prim.Native.Nat.{ℕ, zero, suc, ◌*◌, ◌-◌, ◌≤◌, ◌<◌, ◌+◌}
use native.Mathlib.Omega.{arith}
use lib.Dec.{eqb, ltb}
use lib.ListN.{length, get_or, set, take, length-append}
use lib.Seq.{sets, get_or-set_same, get_or-set_other}
use borrow.Author.Tests.{le-leb}
use Rattle.lists.proofs.Bools.{told, true_false}
use Rattle.words.specs.Words.{cell_of}
use Rattle.words.proofs.Records.{cell_row}
use Rattle.counter.specs.Gate.{pass}
use Rattle.counter.specs.InTable.{BuddyIn}
use Rattle.counter.specs.Paper as Paper
use Rattle.counter.specs.declared.account.Account.{Account}
use Rattle.counter.specs.declared.answers.Block.{Block}
use Rattle.counter.specs.declared.settings.BuddySettings.{BuddySettings}
use Rattle.store_rules.specs.Loans.{loan_words, size_at, loans_of}
use Rattle.store_rules.specs.Outcomes.{Listed, listed, list_ok, to_free, released_account}
use Rattle.store_rules.specs.Views.{chunk, OnLoan, loans_less, Differ, Go, sizes}
use Rattle.store_rules.specs.declared.Chunk.{Chunk}
use Rattle.store_rules.specs.declared.Loan.{Loan}
use Rattle.store_rules.proofs.Going.{none_go}
use Rattle.store_rules.proofs.Placed.{earlier, later, loans_with, loans_less_lem}
use Rattle.book_rules.specs.Book.{struck, led_to}
use Rattle.buddy_trees.specs.Chunks.{view_from, lies, stay, at_once}
use Rattle.buddy_trees.proofs.Ending.{lies_mem}
use Rattle.buddy_trees.proofs.Onces.{Once}
use Rattle.buddy_rules.specs.Tables.{Tables, Lengths, chunk_words, memory_at, chunk_size_at, places_in, chunk_places_in, chunk_size_in, memory_in, held_in, vacant_chunk}
use Rattle.buddy_rules.specs.Sound.{Sound}
use Rattle.buddy_rules.specs.Views.{loans_in, chunks_of, chunks_in, view_of}
use Rattle.buddy_rules.proofs.Viewed.{loan_at, chunk_at, held_seen, seen_held}
use Rattle.buddy_rules.proofs.Named.{standing, has_loan}
use Rattle.buddy_rules.proofs.Onces.{loans_once, chunks_once}
use Rattle.buddy_outcomes.specs.Gate.{gate_of}
use Rattle.buddy_outcomes.specs.Return.{word_for, on_loan_ok, climb_for, given_tables, released_by, return_of}
use Rattle.buddy_outcomes.proofs.Passing.{gate_passed}
use Rattle.buddy_outcomes.proofs.Loaned.{live_used, lent_live, on_loan_is, is_on_loan}
use Rattle.buddy_outcomes.proofs.Heads.{back_places, back_chunk_places}
use Rattle.buddy_outcomes.proofs.Given as goal
use Rattle.buddy_outcomes.proofs.Given.{given_sound, given_held, given_memory}
use Rattle.buddy_outcomes.proofs.Returned.{held_taken}
use Rattle.buddy_outcomes.proofs.Counting.{sizes_append}
use Rattle.buddy_outcomes.proofs.Fewer.{less_mid, stay_append}
use Rattle.buddy_outcomes.proofs.Goes.{one_goes, chunks_same, Parts, parts, SameAt}

-- ---- what the return leaves

module _ (s : BuddySettings) (t : Tables) (fit : BuddyIn s) (lengths : Lengths s t) (sound : Sound s t) (b : Block) (on : on_loan_ok s b t ≡ true) where
  abbrev v : Tables
  v = given_tables s b (word_for s b t) t

  abbrev k : ℕ
  k = led_to t.index (word_for s b t)

  -- the other loans
  pub back_loans : loans_in (given_tables s b (word_for s b t) t) ≡ loans_less (b ∷ []) (loans_in t)
  unfolding given_tables struck
  back_loans =
      let o = on_loan_is s t fit lengths sound b on in
      let u = live_used t k o.0 in
      let h : loan_words + loan_words * places_in t ≤ length t.loans = omega (arith, lengths.loans, sound.loans_parted.limit) in
      let z : eqb (loan_at t k).size 0 ≡ false = ap (λ (n : ℕ). eqb n 0) (sym (cell_row t.loans size_at loan_words k)) ∙ u.1 in
      let xs = earlier (places_in t) k t.loans u.0 h in
      let ys = later (places_in t) k t.loans u.0 h in
      let e : loans_in t ≡ xs ++ (loan_at t k ∷ ys) = loans_with (places_in t) k t.loans u.0 h z in
      ap (λ (n : ℕ). loans_of n v.loans) (back_places s b (word_for s b t) t)
      ∙ loans_less_lem (places_in t) k t.loans u.0 h
      ∙ sym (less_mid b (loan_at t k) xs ys o.1 (subst Once e (loans_once s t fit sound)) (subst (Differ (λ (l : Loan). l.serial)) e (standing s t fit sound).serials))
      ∙ ap (loans_less (b ∷ [])) (sym e)

  v_sound : Sound s v
  v_sound = given_sound s t fit lengths sound b on

  -- a chunk that is held still is as it was
  chunk_left : (x : ℕ) → held_in v x ≡ true → chunk_at v x ≡ chunk_at t x
  chunk_left x h =
      let m = given_memory s t fit lengths sound b on x in
      let z = (given_held s t fit lengths sound b on x h).1 in
      (λ j. record { number = x; memory = m j; size = z j })

  -- and one that is not has no loan
  none_lies : (x : ℕ) → held_in v x ≡ false → lies (loans_in v) (chunk_at t x) ≡ false
  none_lies x h = ⊎_elim no (λ e. e) (told (lies (loans_in v) (chunk_at t x)))
    where
      no : lies (loans_in v) (chunk_at t x) ≡ true → lies (loans_in v) (chunk_at t x) ≡ false
      no e =
          let l = (lies_mem (loans_in v) (chunk_at t x)).0 e in
          let c = (standing s v fit v_sound).held l.0 l.1 in
          let g : held_in v x ≡ true = ap (held_in v) (sym (c.2 ∙ l.2)) ∙ (seen_held v c.0 c.1).0 in
          absurd (true_false (held_in v x) g h)

  stay_here : (x : ℕ) → cond (held_in v x) (chunk_at v x ∷ []) [] ≡ stay (loans_in v) (cond (held_in t x) (chunk_at t x ∷ []) [])
  unfolding stay
  stay_here x = ⊎_elim yes no (told (held_in v x))
    where
      yes : held_in v x ≡ true → cond (held_in v x) (chunk_at v x ∷ []) [] ≡ stay (loans_in v) (cond (held_in t x) (chunk_at t x ∷ []) [])
      yes h =
          let e = chunk_left x h in
          let w : held_in t x ≡ true = (given_held s t fit lengths sound b on x h).0 in
          let l : lies (loans_in v) (chunk_at t x) ≡ true = ap (lies (loans_in v)) (sym e) ∙ has_loan s v fit v_sound (chunk_at v x) (held_seen v x h) in
          ap (λ (c : Bool). cond c (chunk_at v x ∷ []) []) h
          ∙ ap (λ (c : Chunk). c ∷ []) e
          ∙ ap (λ (c : Bool). cond c (chunk_at t x ∷ []) []) (sym l)
          ∙ ap (λ (c : Bool). stay (loans_in v) (cond c (chunk_at t x ∷ []) [])) (sym w)

      left : (c : Bool) → lies (loans_in v) (chunk_at t x) ≡ false → [] ≡ stay (loans_in v) (cond c (chunk_at t x ∷ []) [])
      left true e = ap (λ (d : Bool). cond d (chunk_at t x ∷ []) []) (sym e)
      left false e = refl

      no : held_in v x ≡ false → cond (held_in v x) (chunk_at v x ∷ []) [] ≡ stay (loans_in v) (cond (held_in t x) (chunk_at t x ∷ []) [])
      no h = ap (λ (c : Bool). cond c (chunk_at v x ∷ []) []) h ∙ left (held_in t x) (none_lies x h)

  back_of_lem : (n : ℕ) → chunks_of v n ≡ stay (loans_in v) (chunks_of t n)
  unfolding chunks_of stay
  back_of_lem zero = refl
  back_of_lem (suc n) =
      ap (λ (cs : List Chunk). cs ++ cond (held_in v n) (chunk_at v n ∷ []) []) (back_of_lem n)
      ∙ ap (λ (cs : List Chunk). stay (loans_in v) (chunks_of t n) ++ cs) (stay_here n)
      ∙ sym (stay_append (loans_in v) (chunks_of t n) (cond (held_in t n) (chunk_at t n ∷ []) []))

  v_places : chunk_places_in v ≡ chunk_places_in t
  v_places = back_chunk_places s b (word_for s b t) t

  -- the chunks in which one of them lies
  pub back_chunks : chunks_in (given_tables s b (word_for s b t) t) ≡ stay (loans_in (given_tables s b (word_for s b t) t)) (chunks_in t)
  back_chunks = ap (chunks_of v) v_places ∙ back_of_lem (chunk_places_in t)

  -- and so the view is that with the block back
  pub back_view : view_of s (given_tables s b (word_for s b t) t) ≡ at_once s.minimal (b ∷ []) (view_of s t)
  unfolding at_once
  back_view =
      ap (λ (cs : List Chunk). view_from s.minimal (loans_in v) cs) back_chunks
      ∙ ap (λ (ls : List Loan). view_from s.minimal ls (stay ls (chunks_in t))) back_loans

  -- ---- its chunk

  -- what the words of chunks say of place x, the places in use being the same
  abbrev held_by : ℕ → List ℕ → Bool
  held_by x cs = ltb x (chunk_places_in t) && not (eqb (get_or cs (cell_of chunk_size_at chunk_words x) 0) 0)

  abbrev chunk_by : ℕ → List ℕ → Chunk
  chunk_by x cs = chunk x (get_or cs (cell_of memory_at chunk_words x) 0) (get_or cs (cell_of chunk_size_at chunk_words x) 0)

  by_words : (cs : List ℕ) → v.chunks ≡ cs → (x : ℕ) → (held_in v x ≡ held_by x cs) × (chunk_at v x ≡ chunk_by x cs)
  by_words cs e x = ((λ j. ltb x (v_places j) && not (eqb (get_or (e j) (cell_of chunk_size_at chunk_words x) 0) 0)), ap (chunk_by x) e)

  abbrev freed : Bool
  freed = (climb_for s b (word_for s b t) t).freed

  -- the words with its size struck out
  abbrev less : List ℕ
  less = set t.chunks (cell_of chunk_size_at chunk_words b.chunk) 0

  words_are : (f : Bool) → freed ≡ f → v.chunks ≡ cond f less t.chunks
  unfolding given_tables
  words_are f e = ap (λ (z : Bool). cond z less t.chunks) e

  -- it stays, and so do all
  stay_all : freed ≡ false → chunks_in v ≡ chunks_in t
  stay_all e = ap (chunks_of v) v_places ∙ chunks_same t v (chunk_places_in t) (λ x h. by_words t.chunks (words_are false e) x)

  -- it goes, and no other
  goes_one : freed ≡ true → Parts t v b.chunk (chunk_places_in t)
  goes_one e = parts t v c (chunk_places_in t) here.0 (goal.held s t fit lengths sound b on) gone others
    where
      c : ℕ
      c = b.chunk

      here : (c < chunk_places_in t) × (vacant_chunk t c ≡ false)
      here = goal.place s t fit lengths sound b on

      inside : cell_of chunk_size_at chunk_words c < length t.chunks
      inside = omega (arith, here.0, lengths.chunks, sound.chunks_parted.limit)

      words : (x : ℕ) → (held_in v x ≡ held_by x less) × (chunk_at v x ≡ chunk_by x less)
      words = by_words less (words_are true e)

      gone : held_in v c ≡ false
      gone =
          (words c).0
          ∙ ap (λ (z : ℕ). ltb c (chunk_places_in t) && not (eqb z 0)) (get_or-set_same t.chunks (cell_of chunk_size_at chunk_words c) 0 0 inside)
          ∙ and-false (ltb c (chunk_places_in t))

      others : (x : ℕ) → (x ≡ c → ⊥) → SameAt t v x
      others x n =
          let z : get_or less (cell_of chunk_size_at chunk_words x) 0 ≡ chunk_size_in t x = get_or-set_other t.chunks (cell_of chunk_size_at chunk_words c) (cell_of chunk_size_at chunk_words x) 0 0 (λ q. n (omega arith)) in
          let m : get_or less (cell_of memory_at chunk_words x) 0 ≡ memory_in t x = get_or-set_other t.chunks (cell_of chunk_size_at chunk_words c) (cell_of memory_at chunk_words x) 0 0 (λ q. omega arith) in
          ((words x).0 ∙ ap (λ (y : ℕ). ltb x (chunk_places_in t) && not (eqb y 0)) z, (words x).1 ∙ (λ j. chunk x (m j) (z j)))

-- ---- what it says

-- a return that is taken: chunks released, the account that gives them back, the list that tells their memory numbers
pub record Handed (s : BuddySettings) (a : Account) (b : Block) (t : Tables) (r : Listed Tables) : Type 0 where
  pub tables : r.tables ≡ given_tables s b (word_for s b t) t
  pub said : (n : ℕ) × (r.said ≡ Paper.released n)
  pub account : r.account ≡ released_account s.store a (length (chunks_in t) - length (chunks_in r.tables)) (sizes (chunks_in t) - sizes (chunks_in r.tables))
  pub goes : Go (chunks_in t) (chunks_in r.tables) (take (to_free r.said) r.list)

first_word : (list : List ℕ) (m : ℕ) → 0 < length list → take 1 (sets list 0 (m ∷ [])) ≡ m ∷ []
first_word [] m h = absurd (omega arith)
first_word (x ∷ list) m h = refl

module _ (s : BuddySettings) (a : Account) (b : Block) (t : Tables) (list : List ℕ) (fit : BuddyIn s) (lengths : Lengths s t) (sound : Sound s t) (on : on_loan_ok s b t ≡ true) (some : 0 < length list) where
  abbrev w : ℕ
  w = word_for s b t

  abbrev u : Tables
  u = given_tables s b (word_for s b t) t

  -- the chunk goes
  abbrev one : Listed Tables
  one = listed (Paper.released 1) (released_account s.store a 1 (chunk_size_in t b.chunk)) u (sets list 0 (memory_in t b.chunk ∷ []))

  -- or stays
  abbrev none : Listed Tables
  none = listed (Paper.released 0) (released_account s.store a 0 0) u list

  one_handed : (climb_for s b w t).freed ≡ true → Handed s a b t one
  one_handed e =
      let p = goes_one s t fit lengths sound b on e in
      let d = chunk_at t b.chunk in
      let count : length (chunks_in t) - length (chunks_in u) ≡ 1 =
      omega (arith, ap length p.was, ap length (is p), length-append p.before (d ∷ p.past), length-append p.before p.past) in
      let bytes : sizes (chunks_in t) - sizes (chunks_in u) ≡ chunk_size_in t b.chunk =
      omega (arith, ap sizes p.was, ap sizes (is p), sizes_append p.before (d ∷ p.past), sizes_append p.before p.past) in
      record {
        tables = refl;
        said = (1, refl);
        account = λ j. released_account s.store a (sym count j) (sym bytes j);
        goes =
            subst (λ (ms : List ℕ). Go (chunks_in t) (chunks_in u) ms) (sym (first_word list (memory_in t b.chunk) some))
            (subst (λ (cs : List Chunk). Go cs (chunks_in u) (d.memory ∷ [])) (sym p.was)
            (subst (λ (ds : List Chunk). Go (p.before ++ (d ∷ p.past)) ds (d.memory ∷ [])) (sym (is p)) (one_goes p.before p.past d (subst Once p.was (chunks_once t)))));
      }
    where
      is : (p : Parts t u b.chunk (chunk_places_in t)) → chunks_in u ≡ p.before ++ p.past
      is p = ap (chunks_of u) (v_places s t fit lengths sound b on) ∙ p.is

  none_handed : (climb_for s b w t).freed ≡ false → Handed s a b t none
  none_handed e =
      let z = stay_all s t fit lengths sound b on e in
      let count : length (chunks_in t) - length (chunks_in u) ≡ 0 = omega (arith, ap length z) in
      let bytes : sizes (chunks_in t) - sizes (chunks_in u) ≡ 0 = omega (arith, ap sizes z) in
      record {
        tables = refl;
        said = (0, refl);
        account = λ j. released_account s.store a (sym count j) (sym bytes j);
        goes = subst (λ (ds : List Chunk). Go (chunks_in t) ds []) (sym z) (none_go (chunks_in t));
      }

  released_handed : Handed s a b t (released_by s a b w t list)
  unfolding released_by
  released_handed = ⊎_elim
      (λ e. subst (Handed s a b t) (ap (λ (f : Bool). cond f one none) (sym e)) (one_handed e))
      (λ e. subst (Handed s a b t) (ap (λ (f : Bool). cond f one none) (sym e)) (none_handed e))
      (told (climb_for s b w t).freed)

-- a block on loan that is handed back where tests 1 to 4 pass is taken
pub return_told : (s : BuddySettings) (a : Account) (b : Block) (t : Tables) (list : List ℕ) → gate_of s a t true ≡ pass → OnLoan b (loans_in t) → s.store.chunks ≤ length list
    → Handed s a b t (return_of s a b t list)
return_told s a b t list passes lent long =
    let p = gate_passed s a t true (sym passes) in
    let fit = p.lent.settings in
    let m = lent_live t b lent in
    let on = is_on_loan s t fit p.lent.lengths p.sound b m.0 m.1 m.2 in
    let gate : gate_of s a t (list_ok s.store list) ≡ pass = ap (gate_of s a t) (le-leb s.store.chunks (length list) long) ∙ passes in
    subst (Handed s a b t) (sym (held_taken s a b t list gate m.0 m.1 m.2))
    (released_handed s a b t list fit p.lent.lengths p.sound on (omega (arith, fit.store.chunks_some, long)))

-- and its tables are seen as the store with the block back
pub return_view : (s : BuddySettings) (a : Account) (b : Block) (t : Tables) (list : List ℕ) → gate_of s a t true ≡ pass → OnLoan b (loans_in t) → s.store.chunks ≤ length list
    → view_of s (return_of s a b t list).tables ≡ at_once s.minimal (b ∷ []) (view_of s t)
return_view s a b t list passes lent long =
    let p = gate_passed s a t true (sym passes) in
    let fit = p.lent.settings in
    let m = lent_live t b lent in
    let on = is_on_loan s t fit p.lent.lengths p.sound b m.0 m.1 m.2 in
    ap (view_of s) (return_told s a b t list passes lent long).tables ∙ back_view s t fit p.lent.lengths p.sound b on
