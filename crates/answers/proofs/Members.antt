-- The members of a subject: the marked places of the key table, in ascending order of their keys, each with the level that its byte of the
-- subject's effective row says, are the list that document 01 defines (`members_are`); over a key that is not held there is none.
use Prim.Native.Nat.{ℕ, zero, suc, pred, ◌<◌}
use mathlib.Core.Path.{◌≡◌, refl, sym, ◌∙◌, ap, subst}
use mathlib.Core.Bool.{Bool, true, false}
use mathlib.Core.Logic.{inl, inr}
use mathlib.Core.List.Memᴰ
use mathlib.Core.List.{List, [], ◌∷◌, map, Memᴰ}
use mathlib.Core.Option.{Option, none, some}
use native.Mathlib.Omega.{arith}
use lib.ListN.{get_or}
use Rattle.rules.specs.Rules.{Answer, absent, level, Greatest, Ascending, done, before, Lists, Effective, EffectiveIs, Caps, Member, MembersAre}
use Rattle.rules.specs.Rows.{level_of}
use Rattle.rules.proofs.Derivations.Answers.{greatest_unique}
use Rattle.rules.proofs.Derivations.Monotone.{stands_named}
use Rattle.rules.proofs.Evaluation.LiveSet.{live_held}
use Rattle.rules.proofs.Evaluation.Settled.{effective_at}
use Rattle.rules.proofs.Stores.Places.{caps_bytes}
use Rattle.runs.specs.Bytes.{Bytes, Less, run_at}
use Rattle.runs.specs.Members.{has, place}
use Rattle.runs.specs.Table.{runs, order}
use Rattle.runs.specs.Chosen.{picked, Marked}
use Rattle.runs.proofs.MemberLaws.{has_within, get_or_place}
use Rattle.runs.proofs.TableLaws.{runs_long, runs_at, found_at}
use Rattle.runs.proofs.ListLaws.{chosen_lists, picked_in, order_below}
use Rattle.keyline.specs.Limits.{key_limit}
use Rattle.tables.specs.Committed.{Delegation}
use Rattle.store.specs.Store.{committed, GoodStore}
use Rattle.store.specs.declared.Store.{Store}
use Rattle.coverage.specs.Places.{places}
use Rattle.coverage.specs.declared.Facts.{Facts}
use Rattle.answers.specs.Graph.{graph}
use Rattle.answers.specs.Facts.{FactsOf}
use Rattle.answers.proofs.Places.{table}
use Rattle.answers.proofs.OverBytes.{effective_held, effective_no_subject, audience_held, bytes_caps}

-- ## Lists of pairs
pub ascending_pairs : {A B C : Type 0} {L : B → B → Type 0} (w : A → C) (π : C → B) (l : List A) → Ascending L (map (λ a. π (w a)) l)
    → Ascending (λ x y. L (π x) (π y)) (map w l)
ascending_pairs w π [] done = done
ascending_pairs {L = L} w π (a ∷ l) (before b s) = before
    (λ y m. let q = Memᴰ.of_map w l m in subst (λ z. L (π (w a)) (π z)) q.2 (b (π (w q.0)) (Memᴰ.map (λ a. π (w a)) q.1))) (ascending_pairs w π l s)

-- ## What a row's byte says
level_greatest : {P : ℕ → Type 0} (n : ℕ) → 0 < n → Answer P (level_of n) → Greatest P (pred n)
unfolding level_of
level_greatest zero h a = absurd (omega arith)
level_greatest {P} (suc l) h a = go refl a
  where
    go : {o : Option ℕ} → o ≡ some l → Answer P o → Greatest P l
    go e (absent n) = let z : ◌≡◌ {A = ℕ} 0 1 = cc in absurd (omega arith)
    go e (level {l = m} g) = let q : m ≡ l = cc in rw q at g

greatest_level : {P : ℕ → Type 0} {l : ℕ} (n : ℕ) → Answer P (level_of n) → Greatest P l → (0 < n) × (pred n ≡ l)
unfolding level_of
greatest_level {P} {l} zero a g = go refl a
  where
    go : {o : Option ℕ} → o ≡ none → Answer P o → (0 < 0) × (pred 0 ≡ l)
    go e (absent n) = absurd (n l g.holds)
    go e (level h) = let z : ◌≡◌ {A = ℕ} 0 1 = cc in absurd (omega arith)
greatest_level {P} {l} (suc m) a g = (omega arith, greatest_unique (level_greatest (suc m) (omega arith) a) g)

module _ (s : Store) (g : GoodStore s) (e : Facts) (f : FactsOf s e) {κ : ℕ → ℕ} (caps : Caps (places e) κ) where
  abbrev Keys : List Bytes
  Keys = runs s.keys.table s.keys.count

  caps_there : Caps (graph (committed s)) (bytes_caps s g e f caps)
  caps_there = caps_bytes (table s g e f) caps

  -- nobody is a member of a key that is not held
  pub no_members : (k : Bytes) → has Keys k ≡ false → MembersAre (graph (committed s)) Less k []
  no_members k n = record {
    κ = bytes_caps s g e f caps;
    caps = caps_there;
    lists = record {
      ascending = done;
      sound = λ m h. absurd (Memᴰ.not-nil h);
      complete = λ m h. absurd (none_there (effective_at caps_there (effective_no_subject s g e f caps k m.0 h.other n)) h.effective);
    };
  }
    where
      none_there : {P : ℕ → Type 0} {l : ℕ} → Answer P none → ¬ Greatest P l
      none_there (absent a) h = a _ h.holds

  module _ (i : ℕ) (h : i < s.keys.count) (row : List ℕ) (rows : (x : ℕ) → x < s.keys.count → EffectiveIs (places e) i x (level_of (get_or row x 0)))
      (on : List Bool) (marks : (x : ℕ) → x < s.keys.count → get_or on x false ≡ true → ¬ (x ≡ i) × (0 < get_or row x 0))
      (marked : (x : ℕ) → x < s.keys.count → ¬ (x ≡ i) → 0 < get_or row x 0 → get_or on x false ≡ true) where
    abbrev pub Chosen : List ℕ
    Chosen = picked on (order key_limit s.keys.table s.keys.count)

    abbrev pub member : ℕ → Bytes × ℕ
    member x = (run_at s.keys.table x, pred (get_or row x 0))

    key_distinct : (x y : ℕ) → x < s.keys.count → y < s.keys.count → run_at s.keys.table x ≡ run_at s.keys.table y → x ≡ y
    key_distinct x y p q z = found_at key_limit s.keys.table s.keys.count g.keys (run_at s.keys.table y) x p z
        ∙ sym (found_at key_limit s.keys.table s.keys.count g.keys (run_at s.keys.table y) y q refl)

    listed : Lists Less (Marked on s.keys.table s.keys.count) (map (run_at s.keys.table) Chosen)
    listed = chosen_lists key_limit s.keys.table s.keys.count g.keys on

    answer : (x : ℕ) → x < s.keys.count → Answer (Effective (graph (committed s)) (bytes_caps s g e f caps) (run_at s.keys.table i) (run_at s.keys.table x)) (level_of (get_or row x 0))
    answer x p = effective_at caps_there (effective_held s g e f h p (rows x p))

    pub chosen_place : (x : ℕ) → Memᴰ x Chosen → (x < s.keys.count) × (get_or on x false ≡ true)
    chosen_place x m =
        let w = listed.sound (run_at s.keys.table x) (Memᴰ.map (run_at s.keys.table) m) in
        let p = picked_in on (order key_limit s.keys.table s.keys.count) m in
        (below_order x p.0, p.1)
      where
        below_order : (x : ℕ) → Memᴰ x (order key_limit s.keys.table s.keys.count) → x < s.keys.count
        below_order x m = order_below key_limit s.keys.table s.keys.count g.keys on m

    pub place_chosen : (x : ℕ) → x < s.keys.count → get_or on x false ≡ true → Memᴰ x Chosen
    place_chosen x p o =
        let w = Memᴰ.of_map (run_at s.keys.table) Chosen (listed.complete (run_at s.keys.table x) (record { place = x; within = p; chosen = o; is = refl })) in
        subst (λ y. Memᴰ y Chosen) (key_distinct w.0 x (chosen_place w.0 w.1).0 p w.2) w.1

    pub members_are : MembersAre (graph (committed s)) Less (run_at s.keys.table i) (map member Chosen)
    members_are = record {
      κ = bytes_caps s g e f caps;
      caps = caps_there;
      lists = record {
        ascending = ascending_pairs member (λ m. m.0) Chosen listed.ascending;
        sound = λ m k. let w = Memᴰ.of_map member Chosen k in subst (Member (graph (committed s)) (bytes_caps s g e f caps) (run_at s.keys.table i)) w.2 (one w.0 w.1);
        complete = λ m k. find m k (audience_held s g m.0 (named m.0 k.other k.effective.holds));
      };
    }
      where
        one : (x : ℕ) → Memᴰ x Chosen → Member (graph (committed s)) (bytes_caps s g e f caps) (run_at s.keys.table i) (member x)
        one x m =
            let c = chosen_place x m in
            let q = marks x c.0 c.1 in
            record { other = λ z. q.0 (key_distinct x i c.0 h z); effective = level_greatest (get_or row x 0) q.1 (answer x c.0) }

        named : (k : Bytes) {l : ℕ} → ¬ (k ≡ run_at s.keys.table i) → Effective (graph (committed s)) (bytes_caps s g e f caps) (run_at s.keys.table i) k l
            → (d : Delegation) × Memᴰ d (committed s).delegations × (d.audience ≡ k)
        named k n t = elim (stands_named t) [ inl p ↦ absurd (n p) | inr q ↦ (q.0, live_held q.1, q.2) ]

        pair : {a b : Bytes} {m n : ℕ} → a ≡ b → m ≡ n → ◌≡◌ {A = Bytes × ℕ} (a, m) (b, n)
        pair p q i = (p i, q i)

        at : (m : Bytes × ℕ) (x : ℕ) → x < s.keys.count → run_at s.keys.table x ≡ m.0
            → Member (graph (committed s)) (bytes_caps s g e f caps) (run_at s.keys.table i) m → Memᴰ m (map member Chosen)
        at m x p q k =
            let v = subst (λ y. Greatest (Effective (graph (committed s)) (bytes_caps s g e f caps) (run_at s.keys.table i) y) m.1) (sym q) k.effective in
            let r = greatest_level (get_or row x 0) (answer x p) v in
            let c = place_chosen x p (marked x p (λ z. k.other (sym q ∙ ap (run_at s.keys.table) z)) r.0) in
            subst (λ n. Memᴰ n (map member Chosen)) (pair q r.1) (Memᴰ.map member c)

        find : (m : Bytes × ℕ) → Member (graph (committed s)) (bytes_caps s g e f caps) (run_at s.keys.table i) m → has Keys m.0 ≡ true → Memᴰ m (map member Chosen)
        find m k t =
            let l = runs_long key_limit s.keys.table s.keys.count g.keys in
            let w = has_within Keys m.0 t in
            let x = place Keys m.0 in
            let p : x < s.keys.count = omega arith in
            let q : run_at s.keys.table x ≡ m.0 = sym (runs_at key_limit s.keys.table s.keys.count g.keys x p) ∙ get_or_place Keys m.0 [] w in
            at m x p q k
