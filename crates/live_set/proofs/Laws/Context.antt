-- One search for the members of a context, and contexts after contexts. Assumes nothing.
use Prim.Native.Nat.{ℕ, pred, ◌+◌, ◌≤◌, ◌<◌, min, max}
use mathlib.Core.Path.{◌≡◌, sym, ap, ◌∙◌, subst}
use mathlib.Core.List.{List}
use mathlib.Core.Logic.{⊎_elim}
use native.Mathlib.Omega.{arith}
use native.Mathlib.Decide.{ℕ_discrete}
use lib.ListN.{get_or}
use Rattle.keyset.specs.Word.{bit}
use Rattle.keyset.proofs.Laws.{bit_le, bit_two}
use Rattle.rules.proofs.Derivations.Monotone.{mono}
use Rattle.search.specs.Sets.{Word, Among}
use Rattle.search.specs.Graph.{Graph, graph, world, Holds}
use Rattle.search.specs.Levels.{Found}
use Rattle.search.proofs.Laws.Answer.{found_only, found_has}
use Rattle.coverage.specs.Contexts.{Through, In}
use Rattle.live_set.specs.Live.{Judged, Stood}
use Rattle.coverage.proofs.Laws.Flags.{no_bit, bit_zero}
use Rattle.coverage.proofs.Laws.Seek.{rooted}

-- ---- a search from the subjects of what the members name

module _ (G : Graph) (members from known : ℕ) (target found : List ℕ) (R : Word from (Through members (λ j. get_or G.subject (get_or target j 0) 0)))
    (F : Found (Holds G) known found) (more : (j : ℕ) → bit from j ≤ bit known j) where
  -- reached are those whose issuer stands
  pub judged_members : {w : ℕ} → Word w (Among members (λ j. Stood G.issuer G.subject found (get_or target j 0))) → Word w (Among members (λ j. Judged G (get_or target j 0)))
  judged_members W = record {
    has = λ j a. W.has j (record { member = a.member; is = found_has F _ _ (rooted G members from known target R more j a.member) 0 a.is });
    only = λ j b. let a = W.only j b in record { member = a.member; is = found_only F _ _ (rooted G members from known target R more j a.member) 0 (omega arith) a.is };
  }

-- ---- contexts after contexts

module _ (members : List ℕ) (candidates : ℕ) (J : ℕ → ℕ → Type 0) where
  -- j is a candidate, and judged in the context c
  abbrev pub Joining : ℕ → ℕ → Type 0
  Joining c j = (bit candidates j ≡ 1) × J c j

  pub in_none : Word 0 (In 0 members Joining)
  in_none = record { has = λ j a. absurd (let h = a.lt in omega arith); only = λ j p. absurd (no_bit j p) }

  module _ (c w m : ℕ) (W : Word w (In c members Joining)) (is : (j : ℕ) → bit m j ≡ min (bit (get_or members c 0) j) (bit candidates j)) where
    in_up : {j : ℕ} → In c members Joining j → In (c + 1) members Joining j
    in_up a = record { context = a.context; lt = omega (arith, a.lt); member = a.member; is = a.is }

    in_old : {j : ℕ} (a : In (c + 1) members Joining j) → (a.context ≡ c → ⊥) → In c members Joining j
    in_old a n = record { context = a.context; lt = omega (arith, n, a.lt); member = a.member; is = a.is }

    meets : (j : ℕ) (a : In (c + 1) members Joining j) → a.context ≡ c → bit m j ≡ 1
    meets j a e = let p = ap (λ (y : ℕ). bit (get_or members y 0) j) (sym e) ∙ a.member in omega (arith, is j, a.is.0)

    -- none of c's members is a candidate
    pub in_skip : m ≡ 0 → Word w (In (c + 1) members Joining)
    in_skip z = record { has = λ j a. W.has j (go j a (ℕ_discrete a.context c)); only = λ j b. in_up (W.only j b) }
      where
        go : (j : ℕ) (a : In (c + 1) members Joining j) → Dec (a.context ≡ c) → In c members Joining j
        go j a (yes e) = absurd (bit_zero m j z (meets j a e))
        go j a (no n) = in_old a n

    pub in_more : (f w' : ℕ) → Word f (Among m (J c)) → ((j : ℕ) → bit w' j ≡ max (bit w j) (bit f j)) → Word w' (In (c + 1) members Joining)
    in_more f w' F u = record { has = λ j a. has j a (ℕ_discrete a.context c); only = λ j b. ⊎_elim (λ z. new j (omega (arith, u j))) (λ z. in_up (W.only j z)) (bit_two w j) }
      where
        has : (j : ℕ) (a : In (c + 1) members Joining j) → Dec (a.context ≡ c) → bit w' j ≡ 1
        has j a (yes e) = omega (arith, u j, bit_le w j, F.has j (record { member = meets j a e; is = subst (λ (y : ℕ). J y j) e a.is.1 }))
        has j a (no n) = omega (arith, u j, bit_le f j, W.has j (in_old a n))

        new : (j : ℕ) → bit f j ≡ 1 → In (c + 1) members Joining j
        new j b =
            let a = F.only j b in
            let p = a.member in
            record {
              context = c;
              lt = omega arith;
              member = omega (arith, is j, bit_le (get_or members c 0) j);
              is = (omega (arith, is j, bit_le candidates j), a.is);
            }

module _ (i a s g : List ℕ) where
  -- whoever stands without some keys stands
  judged_wider : (n d : ℕ) → Judged (graph i a s g n) d → Judged (graph i a s g 0) d
  judged_wider n d J =
      let r = mono {W = world (graph i a s g n)} {E' = λ d. 0 < get_or g d 0} {N' = λ x. bit 0 x ≡ 1} {c' = λ d. pred (get_or g d 0)} (λ d e. e) (λ x b. absurd (no_bit x b)) (λ d e. omega arith) J.holds in
      record { level = r.level; more = omega arith; holds = r.holds }

  -- so candidates that are reached with nobody excluded are enough
  pub candidates_enough : (exclude members target base : List ℕ) (count subjects waiting candidates w : ℕ) → Found (Holds (graph i a s g 0)) subjects base
      → ((j : ℕ) → bit waiting j ≡ 1 → bit subjects (get_or s (get_or target j 0) 0) ≡ 1) → Word candidates (Among waiting (λ j. Stood i s base (get_or target j 0)))
      → Word w (In count members (λ c j. (bit candidates j ≡ 1) × Judged (graph i a s g (get_or exclude c 0)) (get_or target j 0)))
      → Word w (In count members (λ c j. (bit waiting j ≡ 1) × Judged (graph i a s g (get_or exclude c 0)) (get_or target j 0)))
  candidates_enough exclude members target base count subjects waiting candidates w F about C W = record {
    has = λ j a. W.has j (record {
      context = a.context;
      lt = a.lt;
      member = a.member;
      is = (
        C.has j (record {
          member = a.is.0;
          is = found_has F _ _ (about j a.is.0) 0 (judged_wider (get_or exclude a.context 0) (get_or target j 0) a.is.1);
        }),
        a.is.1,
      );
    });
    only = λ j b. let a = W.only j b in record { context = a.context; lt = a.lt; member = a.member; is = ((C.only j a.is.0).member, a.is.1) };
  }
