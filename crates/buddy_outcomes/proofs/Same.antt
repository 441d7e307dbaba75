-- Stores that say the same are sound together, and levels that are made fresh, one after the other.
use mathlib.Core.Path.{◌≡◌, refl, sym, ap, ◌∙◌, subst}
use mathlib.Core.Logic.{⊎_elim}
use mathlib.Core.List.{List}
use Prim.Native.Nat.{ℕ, zero, suc, ◌+◌, ◌≤◌, ◌<◌}
use native.Mathlib.Omega.{arith}
use lib.ListN.{length, get_or}
use Rattle.lists.proofs.Bools.{same?}
use Rattle.counter.specs.Limits.{levels_most}
use Rattle.counter.specs.declared.settings.BuddySettings.{BuddySettings}
use Rattle.slabs.specs.Slab.{nowhere}
use Rattle.buddy_trees.specs.Trees.{Tree}
use Rattle.buddy_rules.specs.Levels.{Ops}
use Rattle.buddy_rules.specs.Returns.{entries}
use Rattle.buddy_rules.specs.Stores.{Store, Sound}
use Rattle.buddy_rules.proofs.Frames.{frame}
use Rattle.buddy_rules.specs.Level.{fresh_level, part}
use Rattle.buddy_rules.proofs.Fresh.{fresh_length}
use Rattle.buddy_rules.proofs.Parts.{part_fresh}
use Rattle.buddy_rules.specs.Tables.{level_from, chunks_from}
use Rattle.buddy_rules.proofs.Abstract.{levels_in_lem}
use Rattle.buddy_outcomes.specs.Ask.{fresh_levels}

module _ (u : ℕ) (O : Ops) (some : 0 < u) where
  -- nothing is said of levels that are not there
  pub sound_levels : (s : Store u O) (T : ℕ → Tree) → Sound u O s T → (W : ℕ → O.Lv) → ((i : ℕ) → i < s.count → W i ≡ s.levels i)
      → Sound u O (record { count = s.count; levels = W; loans = s.loans; live = s.live; high = s.high; top = s.top }) T
  sound_levels s T S W e = record {
    good = λ i h. rw (e i h) (S.good i h);
    small = λ i p h k. S.small i p h (rw (e i h) at k);
    tall = S.tall;
    held = S.held;
    vacant = S.vacant;
    wf = S.wf;
    rep = λ c.
        frame u (entries O s.levels) (entries O W) s.loans c (s.high c) 0 nowhere (s.top c) (T c) some
        (λ i p k. let q : O.ent (W i) p ≡ O.ent (s.levels i) p = ap (λ (v : O.Lv). O.ent v p) (e i (omega (arith, S.tall c))) in ((λ x y. q), (λ x y. q)))
        (S.rep c);
    owned = λ i p h k. let q = e i h in rw q (S.owned i p h (rw q at k));
    has = S.has;
    is_live = S.is_live;
  }

  pub sound_as : (s s' : Store u O) (T : ℕ → Tree) → Sound u O s T → s'.count ≡ s.count → ((i : ℕ) → i < s.count → s'.levels i ≡ s.levels i) → ((k : ℕ) → s'.loans k ≡ s.loans k)
      → ((k : ℕ) → s'.live k ≡ s.live k) → ((c : ℕ) → s'.high c ≡ s.high c) → ((c : ℕ) → s'.top c ≡ s.top c) → Sound u O s' T
  sound_as s s' T S n w l v h t =
      let a : (k : ℕ) → s.loans k ≡ s'.loans k = λ k. sym (l k) in
      let b : (k : ℕ) → s.live k ≡ s'.live k = λ k. sym (v k) in
      let c : (k : ℕ) → s.high k ≡ s'.high k = λ k. sym (h k) in
      let d : (k : ℕ) → s.top k ≡ s'.top k = λ k. sym (t k) in
      let m : s.count ≡ s'.count = sym n in
      subst (λ (z : Store u O). Sound u O z T)
      (λ j. record { count = m j; levels = s'.levels; loans = λ (k : ℕ). a k j; live = λ (k : ℕ). b k j; high = λ (k : ℕ). c k j; top = λ (k : ℕ). d k j })
      (sound_levels s T S s'.levels w)

module _ (s : BuddySettings) where
  -- the levels from l on, n of them, are made fresh, and nothing else changes before or past them
  pub record Freshened (l n : ℕ) (t t' : List ℕ) : Type 0 where
    pub below : (i : ℕ) → i < l → part s.pairs i t' ≡ part s.pairs i t
    pub inside : (i : ℕ) → l ≤ i → i < l + n → part s.pairs i t' ≡ fresh_level 0 (part s.pairs i t)
    pub past : (i : ℕ) → chunks_from s ≤ i → get_or t' i 0 ≡ get_or t i 0
    pub long : length t' ≡ length t

  pub freshened : (l n : ℕ) (t : List ℕ) → l + n ≤ levels_most → Freshened l n t (fresh_levels s l n t)
  unfolding fresh_levels
  freshened l zero t h = record {
    below = λ i k. refl;
    inside = λ i k j. absurd (omega arith);
    past = λ i k. refl;
    long = refl;
  }
  freshened l (suc n) t h =
      let W = part_fresh s.pairs l t in
      let F = freshened (suc l) n (fresh_level (level_from s l) t) (omega arith) in
      record {
        below = λ i k. F.below i (omega arith) ∙ W.others i (λ e. omega arith);
        inside = λ i k j. ⊎_elim
            (λ e. rw e (F.below l (omega arith) ∙ W.here))
            (λ o. F.inside i (omega arith) (omega arith) ∙ ap (fresh_level 0) (W.others i o))
            (same? i l);
        past = λ i k. F.past i k ∙ W.past i (omega (arith, levels_in_lem s l (omega arith)));
        long = F.long ∙ W.long;
      }

  -- however many they are, the table is as long as it was
  pub freshened_long : (l n : ℕ) (t : List ℕ) → length (fresh_levels s l n t) ≡ length t
  unfolding fresh_levels
  freshened_long l zero t = refl
  freshened_long l (suc n) t = freshened_long (suc l) n (fresh_level (level_from s l) t) ∙ fresh_length (level_from s l) t
