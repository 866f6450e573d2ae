-- The table of levels by rounds is the answers to D1 to D3 (`levels_answer`).
-- Idea: each round writes only what is derived, and only for held keys (`Cell`); where no byte rises, the table is closed under the rules
-- (`closed`). It rests on `table_answers`: a table that is closed and derived is the answers.
use Prim.Native.Nat.{ℕ, suc, min, ◌≤◌}
use mathlib.Core.Bool.{Bool, not, ◌&&◌}
use mathlib.Core.List.Memᴰ
use mathlib.Core.List.{List, [], Memᴰ}
use mathlib.Core.Logic.{◌⊎◌, inl, inr}
use mathlib.Core.Path.{◌≡◌, refl, sym, subst}
use lib.Dec.{eqb}
use native.Mathlib.Omega.{arith}
use Rattle.rules.specs.Rules.{Admin, Stands, d1, d2, d3, Answer}
use Rattle.rules.specs.Rows.{level_of}
use Rattle.rules.specs.Numbered.{Del, World}
use Rattle.rules.proofs.Derivations.Monotone.{stands_top}
use Rattle.rules.proofs.Derivations.Rows.{Closed, Derived, table_answers}
use Rattle.rules.proofs.Plain.Evaluate.{Table, mem, total, tab, look, cell, self, val, edge, via, raise, round, levels}
use Rattle.rules.proofs.Plain.Says.{Says, holds, fails, cond_yes, cond_no, both, neither, says_eq}
use Rattle.rules.proofs.Plain.Lists.{says_mem, best_most, total_le, total_tight, look_tab}
use Rattle.rules.proofs.Plain.Bytes.{Byte, blank, rank, byte_at, byte_max, byte_best, byte_cond, byte_min, byte_small}
use Rattle.rules.proofs.Plain.Until.{Settled, rounds_settle}

module _ (ks : List ℕ) (E : List Del) (N : List ℕ) (c : Del → ℕ) where
  abbrev Derives : ℕ → ℕ → ℕ → Type 0
  Derives = Stands World (λ d. Memᴰ d E) (λ n. Memᴰ n N) c

  abbrev Held : ℕ → ℕ → Type 0
  Held r x = Memᴰ r ks × Memᴰ x ks

  -- What a round writes, the table after a round, and the table at the end.
  abbrev raised : Table → ℕ → ℕ → ℕ
  raised = raise ks E N c

  abbrev next : Table → Table
  next = round ks E N c

  abbrev final : Table
  final = levels ks E N c

  -- ## What the rules are tested by
  says_self : (r x : ℕ) → Says ((r ≡ x) × (¬ Memᴰ r N)) (eqb r x && not (mem r N))
  says_self r x = both (says_eq r x) (neither (says_mem r N))

  says_edge : (r x : ℕ) (d : Del)
      → Says ((d.subject ≡ r) × ((d.audience ≡ x) × (¬ Memᴰ x N))) (eqb d.subject r && (eqb d.audience x && not (mem x N)))
  says_edge r x d = both (says_eq d.subject r) (both (says_eq d.audience x) (neither (says_mem x N)))

  self_top : {r : ℕ} → ¬ Memᴰ r N → self N r r ≡ 4
  unfolding self
  self_top {r} n = cond_yes (says_self r r) 4 0 (refl, n)

  self_zero : {r x : ℕ} → ¬ (r ≡ x) → self N r x ≡ 0
  unfolding self
  self_zero {r} {x} n = cond_no (says_self r x) 4 0 (λ p. n p.0)

  -- ## What a byte of the table may be
  record Cell (r x v : ℕ) : Type 0 where
    derived : Byte (Derives r x) v
    inside : (v ≡ 0) ⊎ Held r x

  Good : Table → Type 0
  Good T = (r x : ℕ) → Cell r x (cell T r x)

  cell_none : {r x : ℕ} → Cell r x 0
  cell_none = record { derived = blank; inside = inl refl }

  -- D1: with what a key has over itself, every value is derived
  val_sound : (T : Table) → Good T → (r x : ℕ) → Byte (Derives r x) (val N T r x)
  unfolding val self Good
  val_sound T g r x = byte_max (self N r x) (cell T r x)
      (byte_cond 4 (says_self r x) (λ p. rank (subst (λ y. Derives r y Admin) p.0 (d1 p.1)))) (g r x).derived

  -- D2 and D3: so is what a round writes
  raise_sound : (T : Table) → Good T → (r x : ℕ) → Byte (Derives r x) (raised T r x)
  unfolding raise edge via Good
  raise_sound T g r x = byte_max _ _ (g r x).derived (byte_max _ _ (byte_best _ E edges) (byte_best _ ks vias))
    where
      by_edge : (d : Del) → Memᴰ d E → (d.subject ≡ r) × ((d.audience ≡ x) × (¬ Memᴰ x N))
          → {j k : ℕ} → Derives r d.issuer j → c d ≡ k → Derives r x (min j k)
      by_edge d m p {j} {k} s e = let q = p.1.0 in
          subst (λ y. Derives r y (min j k)) q (subst (λ k. Derives r d.audience (min j k)) e (d2 d m p.0 (λ z. p.1.1 (Memᴰ.cast (sym q) z)) s))

      edges : (d : Del) → Memᴰ d E → Byte (Derives r x) (edge ks E N c T r x d)
      edges d m = byte_cond _ (says_edge r x d)
          (λ p. byte_min {R = λ k. c d ≡ k} (λ j k s e. by_edge d m p s e) (val_sound T g r d.issuer) (rank refl))

      vias : (u : ℕ) → Memᴰ u ks → Byte (Derives r x) (via ks E N c T r x u)
      vias u m = byte_cond _ (neither (says_eq u r)) (λ n. byte_min (λ j k s t. d3 n s t) (val_sound T g r u) (val_sound T g u x))

  -- ## Rounds
  -- After a round there is nothing for keys that are not held, and what was raised for those that are.
  round_all : (T : Table) (P : ℕ → Type 0) (r x : ℕ) → (¬ Held r x → P 0) → (Held r x → P (raised T r x)) → P (cell (next T) r x)
  unfolding cell round look
  round_all T P r x z s =
      look_tab (λ r. r) (λ r. tab (λ x. x) (raised T r) ks) (λ t. P (look t x 0)) ks r [] (λ n. z (λ h. n r h.0 refl))
      (λ q m e. look_tab (λ x. x) (raised T q) P ks x 0 (λ n. z (λ h. n x h.1 refl))
      (λ y n f. subst (λ r. P (raised T r y)) (sym e) (subst (λ x. P (raised T r x)) (sym f) (s (Memᴰ.cast (sym e) m, Memᴰ.cast (sym f) n)))))

  good_next : (T : Table) → Good T → Good (next T)
  unfolding Good
  good_next T g r x = round_all T (Cell r x) r x (λ n. cell_none) (λ h. record { derived = raise_sound T g r x; inside = inr h })

  next_at : (T : Table) {r x : ℕ} → Held r x → cell (next T) r x ≡ raised T r x
  next_at T {r} {x} h = round_all T (λ v. v ≡ raised T r x) r x (λ n. absurd (n h)) (λ h. refl)

  rises : (T : Table) {r x : ℕ} → Held r x → cell T r x ≤ cell (next T) r x
  unfolding raise
  rises T h = omega (arith, next_at T h)

  ended : Settled Good ks (λ T r. total (cell T r) ks) next final
  unfolding levels Good cell look
  ended = rounds_settle ks (λ T r. total (cell T r) ks) (total (λ x. 4) ks) next good_next
      (λ T g r m. total_le (cell T r) (cell (next T) r) ks (λ x n. rises T (m, n)))
      (λ T g r m. total_le (cell T r) (λ x. 4) ks (λ x n. byte_small 3 (g r x).derived (λ l s. stands_top s)))
      [] (λ r x. cell_none)

  -- ## At the end no rule raises a byte
  steady : {r x : ℕ} → Held r x → raised final r x ≤ cell final r x
  steady {r} {x} h =
      let row = total_tight (cell final r) (cell (next final) r) ks (λ x n. rises final (h.0, n)) (ended.rest r h.0) h.1 in
      omega (arith, next_at final h)

  module _ (known : (d : Del) → Memᴰ d E → Memᴰ d.issuer ks × Memᴰ d.audience ks × Memᴰ d.subject ks) where
    closed : Closed World (λ d. Memᴰ d E) (λ n. Memᴰ n N) c (val N final)
    unfolding val raise edge via Good
    closed = record {
      start = λ {r} n. omega (arith, self_top n);
      step = λ {d} m n. edges d m n;
      through = λ {r} {u} {x} ne. vias r u x ne (ended.is_good r u).inside (ended.is_good u x).inside (says_eq u x);
    }
      where
        edges : (d : Del) → Memᴰ d E → ¬ Memᴰ d.audience N
            → min (val N final d.subject d.issuer) (suc (c d)) ≤ val N final d.subject d.audience
        edges d m n = let k = known d m in let r = d.subject in let x = d.audience in
            omega (
              arith,
              steady (k.2, k.1),
              best_most (edge ks E N c final r x) m,
              cond_yes (says_edge r x d) (min (val N final r d.issuer) (suc (c d))) 0 (refl, (refl, n)),
            )

        -- unless u is r, or x is u, both bytes are of held keys
        vias : (r u x : ℕ) → ¬ (u ≡ r) → (cell final r u ≡ 0) ⊎ Held r u → (cell final u x ≡ 0) ⊎ Held u x → {b : Bool} → Says (u ≡ x) b
            → min (val N final r u) (val N final u x) ≤ val N final r x
        vias r u x ne (inl z) b s = omega (arith, self_zero {r = r} {x = u} (λ e. ne (sym e)))
        vias r u x ne (inr h) (inl z) (holds e) = rw (← e) (omega arith)
        vias r u x ne (inr h) (inl z) (fails n) = omega (arith, self_zero n)
        vias r u x ne (inr h) (inr i) s =
            omega (
              arith,
              steady (h.0, i.1),
              best_most (via ks E N c final r x) h.1,
              cond_yes (neither (says_eq u r)) (min (val N final r u) (val N final u x)) 0 ne,
            )

    derived : Derived World (λ d. Memᴰ d E) (λ n. Memᴰ n N) c (val N final)
    derived = record { sound = λ {r} {x} e. byte_at (val_sound final ended.is_good r x) e }

    pub levels_answer : (r x : ℕ) → Answer (Stands World (λ d. Memᴰ d E) (λ n. Memᴰ n N) c r x) (level_of (val N (levels ks E N c) r x))
    levels_answer = table_answers closed derived
