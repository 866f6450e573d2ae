-- One pass of a round: r's new row is stored, new subjects are known, and the roots that wait for r fall due. Every other root stays closed. Assumes nothing.
use Prim.Native.Nat.{ℕ, zero, suc, ◌+◌, ◌-◌, ◌*◌, ◌^◌, ◌≤◌, ◌<◌, min, max}
use mathlib.Core.Path.{◌≡◌, sym, ap, ◌∙◌, subst}
use mathlib.Core.Bool.{Bool, true, false}
use mathlib.Core.List.{List}
use mathlib.Core.Logic.{◌⊎◌, inl, inr, ⊎_elim}
use native.Mathlib.Decide.{ℕ_discrete}
use native.Mathlib.Omega.{arith}
use lib.ListN.{get_or, length}
use Rattle.keyset.specs.Word.{bit, size}
use Rattle.keyset.proofs.Laws.{bit_le, bit_two, bit_none, size_le, size_mono, size_more, some_member}
use Rattle.places.specs.Limits.{key_limit, level_count}
use Rattle.rules.proofs.Derivations.Monotone.{stands_out}
use Rattle.search.specs.Sets.{Word, Among}
use Rattle.search.specs.Graph.{Graph, At}
use Rattle.search.specs.Levels.{word, On}
use Rattle.search.specs.Walk.{In, Sound, Row}
use Rattle.search.specs.Rounds.{Stored, Closed, room, Going, Falls, Passed}
use Rattle.search.proofs.Laws.Sets.{place}
use Rattle.search.proofs.Laws.Room.{words, Under, by_words, total_le, total_mono, total_more, room_le, room_keys, room_roots}

zero_le : (a b : ℕ) → a ≡ 0 → a ≤ b
zero_le a b e = omega arith

one_le : (a b : ℕ) → a ≤ 1 → b ≡ 1 → a ≤ b
one_le a b h e = omega arith

-- what contains the words above it contains them down to the first
bottom : (P : ℕ → Type 0) → ((l : ℕ) → suc l < level_count → P (suc l) → P l) → (l : ℕ) → l < level_count → P l → P 0
bottom P f zero h p = p
bottom P f (suc l) h p = bottom P f l (omega arith) (f l h p)

module _ (G : Graph) (levels : List ℕ) (S : Sound G levels) (len : length levels ≡ words) (r : ℕ) (rl : r < key_limit) (row : List ℕ) (R : Row G r levels row)
    (next : List ℕ) (rose : Bool) (T : Stored r level_count row levels next rose) where
  -- a pass drops no key
  keeps : (l x : ℕ) → l < level_count → On levels l r x → In row l x
  keeps l x h i =
      ⊎_elim (λ f. R.member l r x h rl (R.self l h f) i) (λ f. absurd ((stands_out (S.derived l r x h rl i).holds).0 f)) (bit_two G.exclude r)

  root_le : (x l : ℕ) → l < level_count → bit (word levels r l) x ≤ bit (word next r l) x
  root_le x l h =
      let e = ap (λ (y : ℕ). bit y x) (T.here l h) in
      ⊎_elim (λ z. zero_le _ _ z) (λ z. one_le _ _ (bit_le (word levels r l) x) (e ∙ keeps l x h z)) (bit_two (word levels r l) x)

  word_le : (x u l : ℕ) → Dec (u ≡ r) → l < level_count → bit (word levels u l) x ≤ bit (word next u l) x
  word_le x u l (yes e) h = subst (λ (z : ℕ). bit (word levels z l) x ≤ bit (word next z l) x) (sym e) (root_le x l h)
  word_le x u l (no n) h = let z = ap (λ (y : ℕ). bit y x) (T.there l u n h) in omega arith

  grows : Under levels next
  grows i x = by_words (λ (i : ℕ). bit (get_or levels i 0) x ≤ bit (get_or next i 0) x) (λ u l h. word_le x u l (ℕ_discrete u r) h) i

  -- r's words are the pass's, any other's are as they were
  to_row : (l x : ℕ) → l < level_count → On next l r x → In row l x
  to_row l x h i = ap (λ (y : ℕ). bit y x) (sym (T.here l h)) ∙ i

  from_row : (l x : ℕ) → l < level_count → In row l x → On next l r x
  from_row l x h i = ap (λ (y : ℕ). bit y x) (T.here l h) ∙ i

  to_old : (l u x : ℕ) → (u ≡ r → ⊥) → l < level_count → On next l u x → On levels l u x
  to_old l u x n h i = ap (λ (y : ℕ). bit y x) (sym (T.there l u n h)) ∙ i

  from_old : (l u x : ℕ) → (u ≡ r → ⊥) → l < level_count → On levels l u x → On next l u x
  from_old l u x n h i = ap (λ (y : ℕ). bit y x) (T.there l u n h) ∙ i

  sound_next : Sound G next
  sound_next = record { derived = λ l u x h ul i. go l u x h ul i (ℕ_discrete u r); nested = λ l u x h ul i. down l u x h ul i (ℕ_discrete u r) }
    where
      go : (l u x : ℕ) → l < level_count → u < key_limit → On next l u x → Dec (u ≡ r) → At G u x l
      go l u x h ul i (yes e) = subst (λ (z : ℕ). At G z x l) (sym e) (R.derived l x h (to_row l x h (subst (λ (z : ℕ). On next l z x) e i)))
      go l u x h ul i (no n) = S.derived l u x h ul (to_old l u x n h i)

      down : (l u x : ℕ) → suc l < level_count → u < key_limit → On next (suc l) u x → Dec (u ≡ r) → On next l u x
      down l u x h ul i (yes e) =
          subst (λ (z : ℕ). On next l z x) (sym e)
          (from_row l x (omega arith) (R.nested l x h (to_row (suc l) x h (subst (λ (z : ℕ). On next (suc l) z x) e i))))
      down l u x h ul i (no n) = from_old l u x n (omega arith) (S.nested l u x h ul (to_old (suc l) u x n h i))

  module _ (subjects known left found fresh known' left' : ℕ) (is_found : (j : ℕ) → bit found j ≡ min (bit (get_or row 0 0) j) (bit subjects j))
      (is-fresh : (j : ℕ) → bit fresh j ≡ bit found j - bit known j) (is_Known : (j : ℕ) → bit known' j ≡ max (bit known j) (bit found j))
      (others : (j : ℕ) → (j ≡ r → ⊥) → bit left' j ≡ bit left j) where
    -- ---- the room

    roots_le : size key_limit known ≤ size key_limit known'
    roots_le = size_mono key_limit known known' (λ j l. omega (arith, is_Known j))

    room_falls : room next known' ≤ room levels known
    room_falls = room_le levels next known known' (total_mono words levels next grows) roots_le

    less_rose : rose ≡ true → room next known' < room levels known
    less_rose e =
        let d = T.rose e in
        let at = r * level_count + d.level in
        let n = ap (λ (y : ℕ). bit y d.key) (T.here d.level d.level_lt) ∙ d.new in
        room_keys levels next known known'
        (total_more words levels next at grows (omega (arith, d.level_lt))
        (size_more key_limit (get_or levels at 0) (get_or next at 0) d.key (λ j l. grows at j) d.key_lt (omega (arith, d.old))))
        (total_le words next) roots_le

    less_fresh : fresh < 2 ^ 64 → (fresh ≡ 0 → ⊥) → room next known' < room levels known
    less_fresh fits n =
        let t = some_member fresh fits n in
        let p = t.2 in
        room_roots levels next known known' (total_mono words levels next grows)
        (size_more key_limit known known' t.0 (λ j l. omega (arith, is_Known j)) t.1
        (omega (arith, is_Known t.0, is-fresh t.0, bit_le found t.0)))
        (size_le key_limit known')

    module _ (due due' : ℕ) where
      falls_rose : rose ≡ true → Falls (room levels known) due (room next known') due'
      falls_rose e = record { falls = room_falls; less = inr (less_rose e) }

      falls_still : fresh < 2 ^ 64 → ((j : ℕ) → bit due' j ≡ max (bit due j) (bit fresh j)) → Falls (room levels known) due (room next known') due'
      falls_still fits is = record { falls = room_falls; less = go (ℕ_discrete fresh 0) }
        where
          go : Dec (fresh ≡ 0) → (size key_limit due' ≤ size key_limit due) ⊎ (room next known' < room levels known)
          go (yes z) = inl (size_mono key_limit due' due (λ j l. let e = ap (λ (y : ℕ). bit y j) z ∙ bit_none j in omega (arith, is j)))
          go (no n) = inr (less_fresh fits n)

      -- ---- what stays closed

      closed_here : Closed G subjects known' next r
      closed_here = record {
        self = λ l h f. from_row l r h (R.self l h f);
        edge = λ l k u x h p i e. from_row l x h (R.edge l k u x h p (to_row l u h i) e);
        member = λ l u x h ul i j. through l u x h ul i j (ℕ_discrete u r);
        found = λ l u h i s.
            let z = bottom (λ (m : ℕ). In row m u) (λ m p q. R.nested m u p q) l h (to_row l u h i) in
            omega (arith, is_found u, is_Known u, bit_le known u);
      }
        where
          through : (l u x : ℕ) → l < level_count → u < key_limit → On next l r u → On next l u x → Dec (u ≡ r) → On next l r x
          through l u x h ul i j (yes e) = subst (λ (z : ℕ). On next l z x) e j
          through l u x h ul i j (no n) = from_row l x h (R.member l u x h ul (to_row l u h i) (to_old l u x n h j))

      module _ (q : ℕ) (ql : q < key_limit) (qr : q ≡ r → ⊥) (C : Closed G subjects known levels q) (quiet : (rose ≡ false) ⊎ (On levels 0 q r → ⊥)) where
        -- what r's new row adds to q is there already, or r does not stand over q
        via_root : (l x : ℕ) → l < level_count → On levels l q r → On next l r x → (rose ≡ false) ⊎ (On levels 0 q r → ⊥) → On levels l q x
        via_root l x h i j (inl f) =
            let e = T.still f l x h in
            let k = to_row l x h j in
            C.member l r x h rl i (let b = bit_le (word levels r l) x in omega arith)
        via_root l x h i j (inr n) = absurd (n (bottom (λ (m : ℕ). On levels m q r) (λ m p o. S.nested m q r p ql o) l h i))

        via : (l u x : ℕ) → l < level_count → u < key_limit → On levels l q u → On next l u x → Dec (u ≡ r) → On levels l q x
        via l u x h ul i j (yes e) = via_root l x h (subst (λ (z : ℕ). On levels l q z) e i) (subst (λ (z : ℕ). On next l z x) e j) quiet
        via l u x h ul i j (no n) = C.member l u x h ul i (to_old l u x n h j)

        closed_there : Closed G subjects known' next q
        closed_there = record {
          self = λ l h f. from_old l q q qr h (C.self l h f);
          edge = λ l k u x h p i e. from_old l q x qr h (C.edge l k u x h p (to_old l q u qr h i) e);
          member = λ l u x h ul i j. from_old l q x qr h (via l u x h ul (to_old l q u qr h i) j (ℕ_discrete u r));
          found = λ l u h i s. omega (arith, C.found l u h (to_old l q u qr h i) s, is_Known u, bit_le found u);
        }

      module _ (keeps-due : (j : ℕ) → bit due j ≤ bit due' j) (fresh-due : (j : ℕ) → bit fresh j ≤ bit due' j)
          (quiet : (q : ℕ) → (q ≡ r → ⊥) → bit known q ≡ 1 → bit left q ≡ 0 → bit due' q ≡ 0 → (rose ≡ false) ⊎ (On levels 0 q r → ⊥))
          (place : (q : ℕ) → bit known' q ≡ 1 → q < key_limit) (I : Going G subjects known left due levels) where
        was_known : (q : ℕ) → bit known' q ≡ 1 → bit due' q ≡ 0 → bit known q ≡ 1
        was_known q p z = let f = fresh-due q in ⊎_elim (λ y. omega (arith, is_Known q, is-fresh q)) (λ y. y) (bit_two known q)

        closed' : (q : ℕ) → Dec (q ≡ r) → bit known' q ≡ 1 → bit left' q ≡ 0 → bit due' q ≡ 0 → Closed G subjects known' next q
        closed' q (yes e) p a z = subst (λ (y : ℕ). Closed G subjects known' next y) (sym e) closed_here
        closed' q (no n) p a z =
            let k = was_known q p z in
            let b : bit left q ≡ 0 = sym (others q n) ∙ a in
            closed_there q (place q p) n (I.closed q k b (omega (arith, keeps-due q))) (quiet q n k b z)

        going_on : Going G subjects known' left' due' next
        going_on = record {
          sound = sound_next;
          len = T.same ∙ len;
          closed = λ q p a z. closed' q (ℕ_discrete q r) p a z;
        }

        passed : Falls (room levels known) due (room next known') due' → Passed G subjects known due levels known' left' due' next
        passed F = record { going = going_on; more = λ j. omega (arith, is_Known j); falls = F }

      module _ (fits : known' < 2 ^ 64) (I : Going G subjects known left due levels) where
        -- nothing rose: new subjects fall due
        pub passed_still : rose ≡ false → fresh < 2 ^ 64 → ((j : ℕ) → bit due' j ≡ max (bit due j) (bit fresh j)) → Passed G subjects known due levels known' left' due' next
        passed_still f fresh-fits is =
            passed (λ j. omega (arith, is j)) (λ j. omega (arith, is j)) (λ q n k b z. inl f) (λ q p. place known' fits q p) I (falls_still fresh-fits is)

        -- r's words rose: so do the roots over which it stands, unless they are left anyway
        pub passed_rose : rose ≡ true → (mid waits rest : ℕ) → ((j : ℕ) → bit mid j ≡ max (bit due j) (bit fresh j)) → ((j : ℕ) → bit rest j ≡ bit known j - bit left j)
            → Word waits (Among rest (λ q. On next 0 q r)) → ((j : ℕ) → bit due' j ≡ max (bit mid j) (bit waits j)) → Passed G subjects known due levels known' left' due' next
        passed_rose f mid waits rest is-mid is-rest W is =
            passed (λ j. omega (arith, is j, is-mid j)) (λ j. omega (arith, is j, is-mid j))
            (λ q n k b z. inr (λ o.
            let w = W.has q (record { member = omega (arith, is-rest q); is = from_old 0 q r n (omega arith) o }) in
            omega (arith, is q))) (λ q p. place known' fits q p) I (falls_rose f)

-- ---- passes after passes

pub passed_none : {G : Graph} {subjects known left due : ℕ} {levels : List ℕ} → Going G subjects known left due levels → Passed G subjects known due levels known left due levels
passed_none I = record { going = I; more = λ j. omega arith; falls = record { falls = omega arith; less = inl (omega arith) } }

falls_then : {a d b e c f : ℕ} → Falls a d b e → Falls b e c f → Falls a d c f
falls_then {a} {d} {b} {e} {c} {f} F H =
    let p = F.falls in
    let q = H.falls in
    record { falls = omega arith; less = ⊎_elim (λ y. ⊎_elim (λ z. inl (omega arith)) (λ z. inr (omega arith)) F.less) (λ y. inr (omega arith)) H.less }

pub passed_then : {G : Graph} {subjects k₀ d₀ k₁ l₁ d₁ k₂ l₂ d₂ : ℕ} {v₀ v₁ v₂ : List ℕ} → Passed G subjects k₀ d₀ v₀ k₁ l₁ d₁ v₁ → Passed G subjects k₁ d₁ v₁ k₂ l₂ d₂ v₂
    → Passed G subjects k₀ d₀ v₀ k₂ l₂ d₂ v₂
passed_then P Q = record { going = Q.going; more = λ j. omega (arith, P.more j, Q.more j); falls = falls_then P.falls Q.falls }

-- the roots that are left are fewer
pub fewer_left : (left left' r : ℕ) → r < key_limit → bit left r ≡ 1 → bit left' r ≡ 0 → ((j : ℕ) → (j ≡ r → ⊥) → bit left' j ≡ bit left j)
    → size key_limit left' < size key_limit left
fewer_left left left' r rl p q o = size_more key_limit left' left r (λ j l. up j (ℕ_discrete j r)) rl (omega arith)
  where
    up : (j : ℕ) → Dec (j ≡ r) → bit left' j ≤ bit left j
    up j (yes e) = let s = ap (bit left') e in omega arith
    up j (no n) = omega (arith, o j n)
