-- A loan made in a sound store, in a chunk that it holds or in a new one, leaves it sound, and so do more levels; the store
-- as it is set up is sound.
use mathlib.Core.Path.{◌≡◌, refl, sym, ap, ◌∙◌}
use mathlib.Core.Bool.{Bool, true, false, cond}
use mathlib.Core.Logic.{◌⊎◌, inl, inr, ⊎_elim, ◌↔◌}
use Prim.Native.Nat.{ℕ, zero, suc, ◌+◌, ◌*◌, ◌≤◌, ◌<◌}
use native.Mathlib.Omega.{arith}
use lib.Dec.{eqb}
use borrow.Author.Tests.{eq-eqb, ne_eqb}
use Rattle.lists.proofs.Bools.{same?, lt_or_le, true_false}
use Rattle.slabs.specs.Slab.{nowhere}
use Rattle.buddy_trees.specs.Trees.{Tree, free, loan, split, Piece, Taken, Wf, Has, up, bytes, spine, plant}
use Rattle.buddy_trees.proofs.Plants.{plant_taken, planted, spine_wf, spine_taken, spine_has}
use Rattle.buddy_rules.specs.Nodes.{Ent, Loan, L, R, node_of, pair_said, Rep}
use Rattle.buddy_rules.specs.Levels.{Ops, base_of}
use Rattle.buddy_rules.specs.Returns.{entries}
use Rattle.buddy_rules.specs.Lends.{grow, lend}
use Rattle.buddy_rules.specs.Stores.{with, piece, Store, Sound, grown_to, made, head_ent, cut_loan, lent, new_loan, delivered}
use Rattle.buddy_rules.proofs.Frames.{frame, local_keep}
use Rattle.buddy_rules.proofs.Gave.{Done}
use Rattle.buddy_rules.proofs.Readies.{ready_free}
use Rattle.buddy_rules.proofs.Grown.{new_chunk}
use Rattle.buddy_rules.proofs.Lent as chunks
use Rattle.buddy_rules.proofs.Uses.{grow_new, lend_new}

taken_free : (t : Tree) → Taken t → t ≡ free → ⊥
taken_free t h e = rw e at h

module _ (u : ℕ) where
  -- other records of loans that the tree does not have
  pub rep_loans : (E : ℕ → ℕ → Ent) (K K' : ℕ → Loan) (c l o n w : ℕ) (t : Tree) → ((y : Piece) (j : ℕ) → Has u l o t y → y.who ≡ j + 1 → K' j ≡ K j) → Rep u E K c l o n w t → Rep u E K' c l o n w t
  rep_loans E K K' c l o n w free f r = r
  rep_loans E K K' c l o n w (loan k) f r = (r.0, f (record { at = o; lev = l; who = k + 1 }) k (refl, refl, refl) refl ∙ r.1, r.2)
  rep_loans E K K' c zero o n w (split a b) f r = absurd r
  rep_loans E K K' c (suc l) o n w (split a b) f r = record {
    is = r.is;
    tag = r.tag;
    chunk = r.chunk;
    off = r.off;
    up = r.up;
    only = r.only;
    this = rep_loans E K K' c l o (node_of (pair_said w) L) (E l (pair_said w)).left a (λ y j h e. f y j (inl h) e) r.this;
    twin = rep_loans E K K' c l (o + bytes u l) (node_of (pair_said w) R) (E l (pair_said w)).right b (λ y j h e. f y j (inr h) e) r.twin;
  }

module _ (u : ℕ) (O : Ops) (some : 0 < u) where
  -- loan k, which was not on loan, is made as d: its chunk was vacant or stays as high as it was, and its tree has the loan
  -- too
  record Makes (s : Store u O) (T : ℕ → Tree) (k : ℕ) (d : Loan) (W : ℕ → O.Lv) (h w : ℕ) (t : Tree) : Type 0 where
    dead : s.live k ≡ false
    done : Done u O (with s.loans k d) s.levels W d.chunk h 0 nowhere w t
    small : (i p : ℕ) → i < s.count → 0 < (O.ent (W i) p).tag → 2 * p + 1 < nowhere
    wf : Wf h t
    taken : Taken t
    held : 0 < h
    tall : h ≤ s.count
    chunk : (s.high d.chunk ≡ 0) ⊎ (s.high d.chunk ≡ h)
    has : (y : Piece) → Has u h 0 t y ↔ (Has u (s.high d.chunk) 0 (T d.chunk) y ⊎ ((y.at ≡ d.at) × (y.lev ≡ d.lev) × (y.who ≡ k + 1)))

  module _ (s : Store u O) (T : ℕ → Tree) (S : Sound u O s T) (k : ℕ) (d : Loan) (W : ℕ → O.Lv) (h w : ℕ) (t : Tree) (m : Makes s T k d W h w t) where
    abbrev c : ℕ
    c = d.chunk

    -- the loans that are on loan keep their records
    kept : (j : ℕ) → s.live j ≡ true → with s.loans k d j ≡ s.loans j
    kept j l = rw (ne_eqb j k (λ e. true_false (s.live j) l (ap s.live e ∙ m.dead)))

    new_rep : (b : ℕ) → Rep u (entries O W) (with s.loans k d) b (with s.high c h b) 0 nowhere (with s.top c w b) (with T c t b) × Wf (with s.high c h b) (with T c t b)
    new_rep b = ⊎_elim
        (λ e. rw (eq-eqb b c e) (rw e m.done.rep, m.wf))
        (λ n. rw (ne_eqb b c n) (
          rep_loans u (entries O W) s.loans (with s.loans k d) b (s.high b) 0 nowhere (s.top b) (T b) (λ y j i e. kept j (S.is_live b j y i e))
              (frame u (entries O s.levels) (entries O W) s.loans b (s.high b) 0 nowhere (s.top b) (T b) some
              (local_keep u (entries O s.levels) (entries O W) c 0 h b 0 (s.high b) (λ e i j. n (sym j.0 ∙ i.0)) m.done.local) (S.rep b)),
          S.wf b,
        ))
        (same? b c)

    -- where the chunk was held, its pairs lie in it still
    same_owned : (i p : ℕ) → (O.ent (s.levels i) p).chunk ≡ c → (i < s.high (O.ent (s.levels i) p).chunk) × ((O.ent (s.levels i) p).off < bytes u (s.high (O.ent (s.levels i) p).chunk))
        → (i < h) × ((O.ent (s.levels i) p).off < bytes u h)
    same_owned i p e o =
        let x : (i < s.high c) × ((O.ent (s.levels i) p).off < bytes u (s.high c)) = rw e at o in
        ⊎_elim (λ z. absurd (omega (arith, x.0))) (λ z. rw z at x) m.chunk

    new_owned : (i p : ℕ) → i < s.count → 0 < (O.ent (W i) p).tag → (i < with s.high c h (O.ent (W i) p).chunk) × ((O.ent (W i) p).off < bytes u (with s.high c h (O.ent (W i) p).chunk))
    new_owned i p z t =
        ⊎_elim
        (λ e.
        let o = S.owned i p z (rw e at t) in
        rw e (⊎_elim
        (λ f. rw (eq-eqb (O.ent (s.levels i) p).chunk c f) (same_owned i p f o))
        (λ n. rw (ne_eqb (O.ent (s.levels i) p).chunk c n) o)
        (same? (O.ent (s.levels i) p).chunk c)))
        (λ g. ⊎_elim (λ z. absurd (omega arith)) (λ z. rw (eq-eqb (O.ent (W i) p).chunk c z.1.0) (z.0, omega (arith, z.1.2))) g.1)
        (m.done.local i p)

    new_has : (j : ℕ) → with s.live k true j ≡ true → Has u (with s.high c h (with s.loans k d j).chunk) 0 (with T c t (with s.loans k d j).chunk) (piece (with s.loans k d j) j)
    new_has j l = ⊎_elim
        (λ e. rw (eq-eqb j k e, eq-eqb c c refl) ((m.has (piece d j)).1 (inr (refl, refl, rw e refl))))
        (λ n.
        let i = S.has j (rw (ne_eqb j k n) at l) in
        rw (ne_eqb j k n) (⊎_elim
        (λ e. rw (eq-eqb (s.loans j).chunk c e) ((m.has (piece (s.loans j) j)).1 (inl (rw e at i))))
        (λ a. rw (ne_eqb (s.loans j).chunk c a) i)
        (same? (s.loans j).chunk c)))
        (same? j k)

    new_live : (b j : ℕ) (y : Piece) → Has u (with s.high c h b) 0 (with T c t b) y → y.who ≡ j + 1 → with s.live k true j ≡ true
    new_live b j y i e = by (eqb j k) (⊎_elim
        (λ f. ⊎_elim
        (λ z. inl (S.is_live c j y z e))
        (λ z. inr (eq-eqb j k (omega (arith, z.2))))
        ((m.has y).0 (rw (eq-eqb b c f) at i)))
        (λ n. inl (S.is_live b j y (rw (ne_eqb b c n) at i) e))
        (same? b c))
      where
        by : (x : Bool) → (s.live j ≡ true) ⊎ (x ≡ true) → cond x true (s.live j) ≡ true
        by true z = refl
        by false (inl z) = z
        by false (inr z) = absurd (true_false false z refl)

    new_tall : (b : ℕ) → (b ≡ c) ⊎ (b ≡ c → ⊥) → with s.high c h b ≤ s.count
    new_tall b (inl e) = rw (eq-eqb b c e) m.tall
    new_tall b (inr n) = rw (ne_eqb b c n) (S.tall b)

    new_held : (b : ℕ) → (b ≡ c) ⊎ (b ≡ c → ⊥) → with T c t b ≡ free → (with s.high c h b ≡ 0) × (with s.top c w b ≡ 0)
    new_held b (inl e) f = absurd (taken_free t m.taken (rw (eq-eqb b c e) at f))
    new_held b (inr n) f = rw (ne_eqb b c n) (S.held b (rw (ne_eqb b c n) at f))

    new_vacant : (b : ℕ) → (b ≡ c) ⊎ (b ≡ c → ⊥) → with s.high c h b ≡ 0 → with T c t b ≡ free
    new_vacant b (inl e) f = let z : h ≡ 0 = rw (eq-eqb b c e) at f in absurd (omega (arith, m.held))
    new_vacant b (inr n) f = rw (ne_eqb b c n) (S.vacant b (rw (ne_eqb b c n) at f))

    sound_made : Sound u O (made u O s k d W h w) (with T c t)
    sound_made = record {
      good = λ i z. m.done.good i (S.good i z);
      small = m.small;
      tall = λ b. new_tall b (same? b c);
      held = λ b. new_held b (same? b c);
      vacant = λ b. new_vacant b (same? b c);
      wf = λ b. (new_rep b).1;
      rep = λ b. (new_rep b).0;
      owned = new_owned;
      has = new_has;
      is_live = new_live;
    }

  -- the record of the loan that is made
  with_here : (f : ℕ → Loan) (k : ℕ) (x : Loan) → with f k x k ≡ x
  with_here f k x = rw (eq-eqb k k refl)

  -- ---- in a chunk that it holds

  -- the head of the first level that has one is split down, and its left end lent as k
  pub lent_sound : (s : Store u O) (T : ℕ → Tree) → Sound u O s T → (lev d k : ℕ) → s.live k ≡ false → up d lev < s.count → O.Some (s.levels (up d lev))
      → ((i : ℕ) → lev ≤ i → i < up d lev → O.Room (s.levels i)) → ((i : ℕ) → lev ≤ i → i < up d lev → O.Some (s.levels i) → ⊥)
      → ((i : ℕ) → lev ≤ i → i < up d lev → 2 * O.new_place (s.levels i) + 1 < nowhere)
      → Sound u O (lent u O s lev d k)
      (with T (head_ent u O s (up d lev)).chunk
      (plant u (s.high (head_ent u O s (up d lev)).chunk) 0 (base_of u (head_ent u O s (up d lev)) (up d lev)) (spine d k) (T (head_ent u O s (up d lev)).chunk)))
  unfolding lent
  lent_sound s T S lev d k dead le sm rm em sp =
      let i = up d lev in
      let c = (head_ent u O s i).chunk in
      let x = base_of u (head_ent u O s i) i in
      let D = cut_loan u O s lev d in
      let rd = O.head_ready (s.levels i) (S.good i le) sm in
      let ow = S.owned i (O.head (s.levels i)) le (omega arith) in
      let fr = ready_free u (entries O s.levels) s.loans c (s.high c) 0 nowhere (s.top c) i (O.head (s.levels i)) (T c) (S.wf c) (S.rep c) ow.0 rd (refl, omega arith, omega (arith, ow.1)) in
      let pl = planted u (s.high c) 0 (T c) (spine d k) x i some (S.wf c) (spine_wf d lev k) (spine_taken d k) fr in
      let r = rep_loans u (entries O s.levels) s.loans (with s.loans k D) c (s.high c) 0 nowhere (s.top c) (T c)
      (λ y j h e. rw (ne_eqb j k (λ z. true_false (s.live j) (S.is_live c j y h e) (ap s.live z ∙ dead)))) (S.rep c) in
      let rm' : (j : ℕ) → j < i → lev ≤ j → O.Room (s.levels j) = λ j a b. rm j b a in
      let em' : (j : ℕ) → j < i → lev ≤ j → O.Some (s.levels j) → ⊥ = λ j a b. em j b a in
      sound_made s T S k D (lend u O s.levels lev d k) (s.high c) (s.top c) (plant u (s.high c) 0 x (spine d k) (T c)) (record {
        dead = dead;
        done = chunks.lent u O (with s.loans k D) some s.levels (s.high c) (s.top c) lev d k (T c) (λ j z. S.good j (omega (arith, S.tall c))) sm (S.wf c) r ow.0 ow.1 (with_here s.loans k D) rm' em';
        small = λ j p h t. ⊎_elim (S.small j p h) (λ z. rw z.2 (sp j z.0 z.1)) (lend_new u O s.loans s.levels lev d k (λ a b. S.good a (omega arith)) sm rm' em' j p t);
        wf = pl.wf;
        taken = plant_taken u (s.high c) 0 x (spine d k) (T c) (spine_taken d k);
        held = omega (arith, ow.0);
        tall = S.tall c;
        chunk = inr refl;
        has = λ y. (
          (λ h. ⊎_elim (λ z. inl z) (λ z. inr ((spine_has u d lev k x y).0 z)) ((pl.has y).0 h)),
          ⊎_elim (λ z. (pl.has y).1 (inl z)) (λ z. (pl.has y).1 (inr ((spine_has u d lev k x y).1 z))),
        );
      })

  -- ---- in a new one

  -- a new chunk, twice as long as the top level's nodes, at a vacant place
  pub delivered_sound : (s : Store u O) (T : ℕ → Tree) → Sound u O s T → (lev d k c : ℕ) → s.live k ≡ false → s.high c ≡ 0 → s.count ≡ up (suc d) lev
      → ((i : ℕ) → lev ≤ i → i ≤ up d lev → O.Room (s.levels i)) → ((i : ℕ) → lev ≤ i → i ≤ up d lev → O.Some (s.levels i) → ⊥)
      → ((i : ℕ) → lev ≤ i → i ≤ up d lev → 2 * O.new_place (s.levels i) + 1 < nowhere)
      → Sound u O (delivered u O s lev d k c) (with T c (spine (suc d) k))
  unfolding delivered
  delivered_sound s T S lev d k c dead eh ec rm em sp =
      let D = new_loan u O s lev c in
      let G = grow u O s.levels lev c 0 k nowhere (suc d) in
      sound_made s T S k D G.levels (up (suc d) lev) G.top (spine (suc d) k) (record {
        dead = dead;
        done = new_chunk u O (with s.loans k D) some s.levels lev c k d (λ i z. S.good i (omega arith)) (with_here s.loans k D)
            (λ i p h t e. let z : i < s.high c = rw e at (S.owned i p (omega arith) t).0 in omega arith) rm em;
        small = λ j p h t. ⊎_elim (S.small j p h) (λ z. rw z.2 (sp j z.0 (omega (arith, z.1))))
            (grow_new u O s.loans s.levels lev c 0 k nowhere (suc d) (λ i z. S.good i (omega arith)) (λ i a b. rm i b (omega arith)) (λ i a b. em i b (omega arith)) j p t);
        wf = spine_wf (suc d) lev k;
        taken = spine_taken (suc d) k;
        held = omega arith;
        tall = omega arith;
        chunk = inl eh;
        has = λ y. (
          (λ h. inr ((spine_has u (suc d) lev k 0 y).0 h)),
          ⊎_elim (λ z. absurd (none y (S.vacant c eh) z)) (λ z. (spine_has u (suc d) lev k 0 y).1 z),
        );
      })
    where
      none : (y : Piece) → T c ≡ free → Has u (s.high c) 0 (T c) y → ⊥
      none y e h = rw e at h

  -- ---- its levels

  -- more levels, which are there and empty
  pub grown_sound : (s : Store u O) (T : ℕ → Tree) → Sound u O s T → (n : ℕ) → s.count ≤ n → ((i : ℕ) → s.count ≤ i → i < n → O.Good (s.levels i))
      → ((i p : ℕ) → s.count ≤ i → i < n → (O.ent (s.levels i) p).tag ≡ 0) → Sound u O (grown_to u O n s) T
  grown_sound s T S n le g z = record {
    good = λ i h. ⊎_elim (S.good i) (λ j. g i j h) (lt_or_le i s.count);
    small = λ i p h t. ⊎_elim (λ j. S.small i p j t) (λ j. absurd (omega (arith, z i p j h))) (lt_or_le i s.count);
    tall = λ c. omega (arith, S.tall c);
    held = S.held;
    vacant = S.vacant;
    wf = S.wf;
    rep = S.rep;
    owned = λ i p h t. ⊎_elim (λ j. S.owned i p j t) (λ j. absurd (omega (arith, z i p j h))) (lt_or_le i s.count);
    has = S.has;
    is_live = S.is_live;
  }

  -- the store as it is set up
  pub empty_sound : (n : ℕ) (W : ℕ → O.Lv) (K : ℕ → Loan) → ((i : ℕ) → i < n → O.Good (W i)) → ((i p : ℕ) → i < n → (O.ent (W i) p).tag ≡ 0)
      → Sound u O (record { count = n; levels = W; loans = K; live = λ k. false; high = λ c. 0; top = λ c. 0 }) (λ c. free)
  empty_sound n W K g z = record {
    good = g;
    small = λ i p h t. absurd (omega (arith, z i p h));
    tall = λ c. omega arith;
    held = λ c e. (refl, refl);
    vacant = λ c e. refl;
    wf = λ c. tt;
    rep = λ c. (refl, λ i p h. absurd (omega arith));
    owned = λ i p h t. absurd (omega (arith, z i p h));
    has = λ k e. absurd (true_false false e refl);
    is_live = λ c k y h. absurd h;
  }
