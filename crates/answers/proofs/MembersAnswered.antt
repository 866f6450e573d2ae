-- From the marked and counted members to the statement of `members` (`members-refused-keys`, `members-refused-powers`, `members_answered`).
use Prim.Native.Nat.{ℕ, zero, suc, pred, ◌*◌, ◌<◌, ◌≤◌}
use mathlib.Core.Path.{◌≡◌, refl, sym, ◌∙◌, ap, subst}
use mathlib.Core.Bool.{Bool, true, false, cond, not, false≢true}
use mathlib.Core.List.{List, [], ◌∷◌, map, Memᴰ}
use native.Mathlib.Omega.{arith}
use borrow.Author.Tests.{eqb-false, ne_eqb}
use lib.ListN.{length, get_or, take, length-map}
use lib.Seq.{get_or-take}
use lib.Dec.{eqb}
use Rattle.rules.specs.Rules.{EffectiveIs, Caps, MembersAre}
use Rattle.rules.specs.Rows.{level_of}
use Rattle.keyset.specs.Word.{size, width}
use Rattle.lent.specs.Bytes.{front}
use Rattle.keyline.specs.Limits.{key_limit, key_length}
use Rattle.keyline.specs.declared.refusal.Refusal.TheVariants.{SmallBuffer}
use Rattle.runs.specs.Bytes.{Bytes, Less, run_at, run_length, joined}
use Rattle.runs.specs.Table.{order}
use Rattle.runs.specs.Chosen.{picked, Chose, values_at, Listable, Valued}
use Rattle.runs.specs.declared.list.Chosen.{Chosen}
use Rattle.runs.proofs.AscentLaws.{lt_irrefl}
use Rattle.runs.proofs.ListLaws.{chosen_lists}
use Rattle.lists.proofs.ChosenLaws.{stand}
use Rattle.store.specs.Store.{committed, GoodStore}
use Rattle.store.specs.declared.Store.{Store}
use Rattle.coverage.specs.Places.{places}
use Rattle.coverage.specs.declared.Facts.{Facts}
use Rattle.answers.specs.Graph.{graph}
use Rattle.answers.specs.Facts.{FactsOf}
use Rattle.answers.specs.Marks.{isMember, MemberWord, MemberMarks, Letters, letter_at}
use Rattle.answers.specs.Answers as says
use Rattle.answers.specs.Answers.{MembersAnswer, member_keys, member_letters}
use Rattle.answers.proofs.Counting.{ascending_once, ones_length}
use Rattle.answers.proofs.Members.{members_are, chosen_place, place_chosen}
use Rattle.std.specs.Prelude.{Ok, Err}

-- ## A member's mark
member_yes : (b x i : ℕ) → isMember b x i ≡ true → ¬ (x ≡ i) × (0 < b)
unfolding isMember
member_yes b x i e = go (eqb b 0) (eqb x i) refl refl e
  where
    go : (t u : Bool) → eqb b 0 ≡ t → eqb x i ≡ u → cond t false (not u) ≡ true → ¬ (x ≡ i) × (0 < b)
    go true u p q z = absurd (false≢true z)
    go false true p q z = absurd (false≢true z)
    go false false p q z = (eqb-false x i q, let n = eqb-false b 0 p in omega (arith, n))

yes_member : (b x i : ℕ) → ¬ (x ≡ i) → 0 < b → isMember b x i ≡ true
unfolding isMember
yes_member b x i n h = ap (λ (t : Bool). cond t false (not (eqb x i))) (ne_eqb b 0 (λ e. absurd (omega arith))) ∙ ap not (ne_eqb x i n)

get_or_in : (l : List ℕ) (j : ℕ) → j < length l → Memᴰ (get_or l j 0) l
get_or_in [] j h = absurd (omega (arith, h))
get_or_in (x ∷ l) zero h = Memᴰ.head refl
get_or_in (x ∷ l) (suc j) h = Memᴰ.tail (get_or_in l j (omega arith))

map_same : {A B : Type 0} (f h : A → B) (l : List A) → ((a : A) → Memᴰ a l → f a ≡ h a) → map f l ≡ map h l
map_same f h [] e = refl
map_same f h (a ∷ l) e =
    let p = e a (Memᴰ.head refl) in
    let q = map_same f h l (λ b m. e b (Memᴰ.tail m)) in
    cc

module _ (s : Store) (g : GoodStore s) (e : Facts) (f : FactsOf s e) {κ : ℕ → ℕ} (caps : Caps (places e) κ) (i : ℕ) (h : i < s.keys.count)
    (row : List ℕ) (rows : (x : ℕ) → x < key_limit → EffectiveIs (places e) i x (level_of (get_or row x 0)))
    (on : List Bool) (marks : MemberMarks row s.keys.count i on) where
  within : (x : ℕ) → x < s.keys.count → x < key_limit
  within x p = let r = g.keys.room in omega arith

  rows_held : (x : ℕ) → x < s.keys.count → EffectiveIs (places e) i x (level_of (get_or row x 0))
  rows_held x p = rows x (within x p)

  marked_is : (x : ℕ) → x < s.keys.count → get_or on x false ≡ true → ¬ (x ≡ i) × (0 < get_or row x 0)
  marked_is x p o = member_yes (get_or row x 0) x i (sym (marks.are x p) ∙ o)

  is_marked : (x : ℕ) → x < s.keys.count → ¬ (x ≡ i) → 0 < get_or row x 0 → get_or on x false ≡ true
  is_marked x p n k = marks.are x p ∙ yes_member (get_or row x 0) x i n k

  abbrev places_of : List ℕ
  places_of = picked on (order key_limit s.keys.table s.keys.count)

  abbrev pub member_at : ℕ → Bytes × ℕ
  member_at x = (run_at s.keys.table x, pred (get_or row x 0))

  abbrev pub listed : List (Bytes × ℕ)
  listed = map member_at places_of

  pub are : {key : Bytes} → run_at s.keys.table i ≡ key → MembersAre (graph (committed s)) Less key listed
  are q = subst (λ y. MembersAre (graph (committed s)) Less y listed) q (members_are s g e f caps i h row rows_held on marked_is is_marked)

  -- the count from ones
  module _ (w : ℕ) (word : MemberWord row s.keys.count i w) where
    pub counted : length listed ≡ size width w
    counted =
        length-map places_of member_at
        ∙ ones_length width w places_of (ascending_once lt_irrefl (run_at s.keys.table) places_of (chosen_lists key_limit s.keys.table s.keys.count g.keys on).ascending)
        (λ x m.
        let c = chosen_place s g e f caps i h row rows_held on marked_is is_marked x m in
        let q = marked_is x c.0 c.1 in
        (within x c.0, word.has x c.0 (yes_member (get_or row x 0) x i q.0 q.1)))
        (λ x p b.
        let o = word.only x b in
        let q = member_yes (get_or row x 0) x i o.1 in
        place_chosen s g e f caps i h row rows_held on marked_is is_marked x o.0 (is_marked x o.0 q.0 q.1))

    module _ (c : Chosen) (ch : Chose places_of c) where
      pub count_is : c.count ≡ size width w
      count_is = ch.count ∙ (sym (length-map places_of member_at) ∙ counted)

      pub taken : take (size width w) c.places ≡ places_of
      taken = ap (λ k. take k c.places) (sym count_is) ∙ ch.places

      pub keys_written : map (run_at s.keys.table) (take (size width w) c.places) ≡ member_keys listed
      keys_written = ap (λ (l : List ℕ). map (run_at s.keys.table) l) taken ∙ same places_of
        where
          same : (l : List ℕ) → map (run_at s.keys.table) l ≡ member_keys (map member_at l)
          same [] = refl
          same (x ∷ l) = ap (λ (m : List Bytes). run_at s.keys.table x ∷ m) (same l)

      pub letters_written : (out : List ℕ) → Letters row out → values_at out (take (size width w) c.places) ≡ member_letters listed
      letters_written out l =
          ap (λ (m : List ℕ). values_at out m) taken
          ∙ (map_same (λ x. get_or out x 0) (λ x. letter_at (get_or row x 0)) places_of
          (λ x m. l.are x (within x (chosen_place s g e f caps i h row rows_held on marked_is is_marked x m).0)) ∙ same places_of)
        where
          same : (m : List ℕ) → map (λ x. letter_at (get_or row x 0)) m ≡ member_letters (map member_at m)
          same [] = refl
          same (x ∷ m) = ap (λ (k : List ℕ). letter_at (get_or row x 0) ∷ k) (same m)

      module _ (k : ℕ) (kw : k ≡ size width w) where
        long_k : length listed ≡ k
        long_k = counted ∙ sym kw

        pub listable : (out : Bytes) → run_length * k ≤ length out → Listable s.keys.table c.places k out
        listable out r =
            let st = stand key_limit s.keys.table s.keys.count g.keys (omega arith) on c ch in
            let l = st.long in
            let n = st.few in
            let q = count_is in
            record { enough = omega arith; within = λ j p. st.within j (omega arith); room = r }

        pub valued : (letters : List ℕ) → Letters row letters → (out : Bytes) → k ≤ length out → Valued letters c.places k out
        valued letters le out r =
            let st = stand key_limit s.keys.table s.keys.count g.keys (omega arith) on c ch in
            let l = st.long in
            let n = st.few in
            let q = count_is in
            record {
              enough = omega arith;
              within = λ j p.
                  let u : length places_of ≡ k = sym ch.count ∙ (q ∙ sym kw) in
                  let o : get_or c.places j 0 ≡ get_or places_of j 0 = sym (get_or-take c.count c.places j 0 (omega arith)) ∙ ap (λ (l : List ℕ). get_or l j 0) ch.places in
                  let m = get_or_in places_of j (omega arith) in
                  let b = within (get_or places_of j 0) (chosen_place s g e f caps i h row rows_held on marked_is is_marked (get_or places_of j 0) m).0 in
                  let z = le.long in
                  omega (arith, o);
              room = r;
            }

        module _ {key keys powers : Bytes} (long : length key ≡ key_length) (is : run_at s.keys.table i ≡ key) where
          pub keys_small : length keys < key_length * k → MembersAnswer (committed s) key keys powers (Err (SmallBuffer (key_length * k))) keys powers
          keys_small r = subst (λ n. MembersAnswer (committed s) key keys powers (Err (SmallBuffer (key_length * n))) keys powers) long_k
              (says.keys_room long (are is) (rw long_k r))

          pub powers_small : key_length * k ≤ length keys → length powers < k → MembersAnswer (committed s) key keys powers (Err (SmallBuffer k)) keys powers
          powers_small r t = subst (λ n. MembersAnswer (committed s) key keys powers (Err (SmallBuffer n)) keys powers) long_k
              (says.powers_room long (are is) (rw long_k r) (rw long_k t))

          pub members_answered : {u v : Bytes} (letters : List ℕ) → Letters row letters → key_length * k ≤ length keys → k ≤ length powers
              → u ≡ front (joined (map (run_at s.keys.table) (take k c.places))) keys → v ≡ front (values_at letters (take k c.places)) powers
              → MembersAnswer (committed s) key keys powers (Ok k) u v
          members_answered {u} {v} letters le r t p q =
              let a : u ≡ front (joined (member_keys listed)) keys =
              p ∙ ap (λ (l : List Bytes). front (joined l) keys) (ap (λ n. map (run_at s.keys.table) (take n c.places)) kw ∙ keys_written) in
              let b : v ≡ front (member_letters listed) powers =
              q ∙ ap (λ (l : List ℕ). front l powers) (ap (λ n. values_at letters (take n c.places)) kw ∙ letters_written letters le) in
              subst (λ n. MembersAnswer (committed s) key keys powers (Ok n) u v) long_k
              (subst (λ y. MembersAnswer (committed s) key keys powers (Ok (length listed)) y v) (sym a)
              (subst (λ y. MembersAnswer (committed s) key keys powers (Ok (length listed)) (front (joined (member_keys listed)) keys) y) (sym b)
              (says.answered long (are is) (rw long_k r) (rw long_k t))))
