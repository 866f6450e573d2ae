-- The live set: a round, what stays between rounds, and that at the end it is the live set of the rules. Assumes nothing.
use Prim.Native.Nat.{ℕ, pred, ◌+◌, ◌-◌, ◌^◌, ◌≤◌, ◌<◌}
use mathlib.Core.Path.{◌≡◌, refl, sym, ap, ◌∙◌, subst}
use mathlib.Core.Bool.{Bool}
use mathlib.Core.List.{List}
use mathlib.Core.Logic.{◌⊎◌, inl, inr, ⊎_elim}
use native.Mathlib.Omega.{arith}
use native.Mathlib.Decide.{dec_lt}
use lib.ListN.{get_or, length}
use Rattle.keyset.specs.Word.{bit, size}
use Rattle.keyset.proofs.Laws.{bit_le, bit_two, bit_none, size_more, some_member}
use Rattle.places.specs.Limits.{delegation_limit, revocation_limit, level_count}
use Rattle.rules.specs.Rules.{Nobody, Excluded, Uncovered, Eligible, Reached, Usable, LiveCovered, LiveUncovered, Live}
use Rattle.rules.proofs.Derivations.Monotone.{mono, reach}
use Rattle.rules.proofs.Evaluation.LiveSet.{live_in, live_set, live_held}
use Rattle.search.specs.Sets.{Says, Word}
use Rattle.search.specs.Levels.{Found}
use Rattle.search.proofs.Laws.Answer.{found_only, found_has}
use Rattle.coverage.specs.Arrays.{Below, Filled}
use Rattle.coverage.specs.Places.{places, Fit, Grades, Subject, Over}
use Rattle.coverage.specs.Coverage.{RevokersBy, Nets}
use Rattle.coverage.specs.Contexts.{Put, Grouped, In}
use Rattle.coverage.specs.Lives.{Starts}
use Rattle.live_set.specs.Live.{PlainAt, Fair, Open, Judged, Stood, SettledAt}
use Rattle.coverage.specs.declared.Facts.{Facts}
use Rattle.coverage.proofs.Laws.Flags.{no_bit}
use Rattle.coverage.proofs.Laws.Fill.{filled_held}
use Rattle.coverage.proofs.Laws.Seek.{seen, to_over, from_over}
use Rattle.coverage.proofs.Laws.Net.{covered_named, net_covered, net_word, covered_net, plain_net, uncovered, live_net}

pub root_of : {subjects : ℕ} (e : Facts) → Word subjects (Subject e) → (d : ℕ) → d < e.delegations → bit subjects (get_or e.subject d 0) ≡ 1
root_of e W d h = W.has _ (record { place = d; lt = h; is = refl })

-- what is fair of the delegation d is open of the revocation j that names it
module _ (target : List ℕ) (n : ℕ) (issuer audience subject revokers excluded : List ℕ) (j d i a s : ℕ) (d-is : d ≡ get_or target j 0) (held : d < n)
    (i-is : i ≡ get_or issuer d 0) (a-is : a ≡ get_or audience d 0) (s-is : s ≡ get_or subject d 0) where
  fair_as : (w v : ℕ) → ◌≡◌ {A = Type 0} (Fair w v i a s) (Fair w v (get_or issuer d 0) (get_or audience d 0) (get_or subject d 0))
  fair_as w v =
      ap (λ (z : ℕ). Fair w v z a s) i-is ∙ ap (λ (z : ℕ). Fair w v (get_or issuer d 0) z s) a-is ∙ ap (λ (z : ℕ). Fair w v (get_or issuer d 0) (get_or audience d 0) z) s-is

  open_as : ◌≡◌ {A = Type 0} (Fair (get_or excluded d 0) (get_or revokers d 0) (get_or issuer d 0) (get_or audience d 0) (get_or subject d 0))
      (let c = get_or target j 0 in Fair (get_or excluded c 0) (get_or revokers c 0) (get_or issuer c 0) (get_or audience c 0) (get_or subject c 0))
  open_as = ap (λ (c : ℕ). Fair (get_or excluded c 0) (get_or revokers c 0) (get_or issuer c 0) (get_or audience c 0) (get_or subject c 0)) d-is

  pub open_says : {t : Bool} → Says t (Fair (get_or excluded d 0) (get_or revokers d 0) i a s) → Says t (Open target n issuer audience subject revokers excluded j)
  open_says S =
      let e = fair_as (get_or excluded d 0) (get_or revokers d 0) ∙ open_as in
      record {
        yes = λ p. record { held = subst (λ (z : ℕ). z < n) d-is held; fair = subst (λ (P : Type 0). P) e (S.yes p) };
        no = λ p o. S.no p (subst (λ (P : Type 0). P) (sym e) o.fair);
      }

-- ---- who is open

pub out : (w k : ℕ) → (bit w k ≡ 1 → ⊥) → bit w k ≡ 0
out w k n = ⊎_elim (λ z. z) (λ z. absurd (n z)) (bit_two w k)

module _ (e : Facts) (excluded : List ℕ) (NN : Nets e excluded) where
  -- the delegation that j names is eligible
  abbrev pub Opens : List ℕ → ℕ → Type 0
  Opens revokers j = Open e.target e.delegations e.issuer e.audience e.subject revokers excluded j

  module _ (revokers : List ℕ) (R : RevokersBy e.revoker e.target e.revocations e.delegations revokers) where
    pub open_eligible : (j : ℕ) → Opens revokers j → Eligible (places e) (get_or e.target j 0)
    open_eligible j o =
        let d = get_or e.target j 0 in
        let f = o.fair in
        let w = net_word e excluded NN d f.covered in
        record {
          covered = net_covered e excluded NN d f.covered;
          issuer = λ x. let b = w.has _ x in let z = f.issuer_out in omega arith;
          subject = λ x. let b = w.has _ x in let z = f.subject_out in omega arith;
          audience = λ x. let b = (R.is d o.held).has _ x in let z = f.audience_out in omega arith;
        }

    fair_at : (d : ℕ) → Eligible (places e) d → (j : ℕ) → get_or e.target j 0 ≡ d → Opens revokers j
    fair_at d el j p =
        let n = covered_net e excluded NN el.covered in
        subst (λ (y : ℕ). Eligible (places e) y → Opens revokers j) p
        (λ q. let h = covered_net e excluded NN q.covered in
        record {
          held = q.covered.held;
          fair = record {
            covered = h;
            issuer_out = out _ _ (λ b. q.issuer ((net_word e excluded NN _ h).only _ b));
            subject_out = out _ _ (λ b. q.subject ((net_word e excluded NN _ h).only _ b));
            audience_out = out _ _ (λ b. q.audience ((R.is _ q.covered.held).only _ b));
          };
        }) el

    pub eligible_open : (d : ℕ) → Eligible (places e) d → (j : ℕ) × (get_or e.target j 0 ≡ d) × Below e.revocations (Opens revokers) j
    eligible_open d el =
        let n = covered_named e el.covered in
        (n.place, n.is, record { lt = n.lt; is = fair_at d el n.place n.is })

-- ---- between rounds: the uncovered, and live covered ones, each at its power; those that wait are eligible, and every eligible one waits or is usable

pub record Usables (e : Facts) (excluded grades : List ℕ) (waiting : ℕ) : Type 0 where
  pub len : length grades ≡ delegation_limit
  pub plain : (d : ℕ) → d < e.delegations → get_or excluded d 0 ≡ 0 → get_or grades d 0 ≡ get_or e.power d 0 + 1
  pub live : (d : ℕ) → 0 < get_or grades d 0 → 0 < get_or excluded d 0 → LiveCovered (places e) d
  pub value : (d : ℕ) → 0 < get_or grades d 0 → (d < e.delegations) × (get_or grades d 0 ≡ get_or e.power d 0 + 1)
  pub within : (j : ℕ) → bit waiting j ≡ 1 → (j < e.revocations) × Eligible (places e) (get_or e.target j 0)
  pub waits : (d : ℕ) → Eligible (places e) d → get_or grades d 0 ≡ 0 → (j : ℕ) × (bit waiting j ≡ 1) × (get_or e.target j 0 ≡ d)

-- what j names is reached without the keys of its N(d)
abbrev pub Reaching : Facts → List ℕ → List ℕ → ℕ → Type 0
Reaching e excluded grades j = Judged (seen e grades (get_or excluded (get_or e.target j 0) 0)) (get_or e.target j 0)

-- a round's word
abbrev pub Newly : Facts → List ℕ → ℕ → ℕ → List ℕ → List ℕ → ℕ → Type 0
Newly e grades waiting count exclude members newly =
    Word newly (In count members (λ c j. (bit waiting j ≡ 1) × Judged (seen e grades (get_or exclude c 0)) (get_or e.target j 0)))

module _ (e : Facts) (excluded : List ℕ) (fit : Fit e) (NN : Nets e excluded) where
  pub usables_start : {revokers grades : List ℕ} {waiting : ℕ} → RevokersBy e.revoker e.target e.revocations e.delegations revokers
      → Filled e.delegations (PlainAt e.power excluded) grades → Word waiting (Below e.revocations (Opens e excluded NN revokers)) → Usables e excluded grades waiting
  usables_start {revokers} {grades} {waiting} R F W = record {
    len = F.len;
    plain = λ d h z. (F.here d h).yes z;
    live = λ d p q. absurd (let z = (F.here d (filled_held F d p)).no q in omega arith);
    value = λ d p. (filled_held F d p, at d p (dec_lt 0 (get_or excluded d 0)));
    within = λ j b. let a = W.only j b in (a.lt, open_eligible e excluded NN revokers R j a.is);
    waits = λ d el z. let a = eligible_open e excluded NN revokers R d el in (a.0, W.has a.0 a.2, a.1);
  }
    where
      at : (d : ℕ) → 0 < get_or grades d 0 → Dec (0 < get_or excluded d 0) → get_or grades d 0 ≡ get_or e.power d 0 + 1
      at d p (yes q) = absurd (let z = (F.here d (filled_held F d p)).no q in omega arith)
      at d p (no n) = (F.here d (filled_held F d p)).yes (let z : get_or excluded d 0 ≡ 0 = omega (arith, n) in z)

  module _ (grades : List ℕ) (waiting : ℕ) (U : Usables e excluded grades waiting) where
    pub usable_in : (d : ℕ) → 0 < get_or grades d 0 → Usable (places e) d
    usable_in d p = go (dec_lt 0 (get_or excluded d 0))
      where
        go : Dec (0 < get_or excluded d 0) → Usable (places e) d
        go (yes q) = inr (U.live d p q)
        go (no n) = inl (uncovered e excluded NN d (U.value d p).0 (let z : get_or excluded d 0 ≡ 0 = omega (arith, n) in z))

    pub grades_usable : Grades e grades
    grades_usable = record { len = U.len; le = λ d. le d (dec_lt 0 (get_or grades d 0)); held = λ d p. (U.value d p).0 }
      where
        le : (d : ℕ) → Dec (0 < get_or grades d 0) → get_or grades d 0 ≤ level_count
        le d (yes p) = omega (arith, (U.value d p).1, fit.power_le d)
        le d (no n) = omega (arith, n)

    pub plain_grade : {d : ℕ} → Uncovered (places e) d → 0 < get_or grades d 0
    plain_grade {d} u = omega (arith, U.plain d u.held (plain_net e excluded NN u))

    -- ---- one round

    module _ (count : ℕ) (exclude members : List ℕ) (G : Grouped e.target excluded e.revocations e.delegations count exclude members)
        (newly : ℕ) (N : Newly e grades waiting count exclude members newly) where
      joins : (j : ℕ) → bit newly j ≡ 1 → (bit waiting j ≡ 1) × Reaching e excluded grades j
      joins j b =
          let a = N.only j b in
          let p = G.member a.context j a.lt a.member in
          (a.is.0, subst (λ (y : ℕ). Judged (seen e grades y) (get_or e.target j 0)) (sym p.3) a.is.1)

      joins_all : (j : ℕ) → bit waiting j ≡ 1 → Reaching e excluded grades j → bit newly j ≡ 1
      joins_all j b r =
          let u = U.within j b in
          let el = u.1 in
          let a = G.all j u.0 el.covered.held (covered_net e excluded NN el.covered) in
          let p = G.member a.0 j a.1 a.2 in
          N.has j (record { context = a.0; lt = a.1; member = a.2; is = (b, subst (λ (y : ℕ). Judged (seen e grades y) (get_or e.target j 0)) p.3 r) })

      joins_live : (j : ℕ) → bit newly j ≡ 1 → LiveCovered (places e) (get_or e.target j 0)
      joins_live j b =
          let p = joins j b in
          let d = get_or e.target j 0 in
          let el = (U.within j p.0).1 in
          let a = mono {E' = Usable (places e)} {N' = Excluded (places e) d} {c' = λ d. get_or e.power d 0} usable_in
          (net_word e excluded NN d (covered_net e excluded NN el.covered)).has (λ d p. omega (arith, (U.value d p).1)) (to_over e grades _ p.1.holds) in
          live_in el a.holds

      -- ---- the next round

      module _ (next : List ℕ) (P : Put newly e.target (λ d v. v ≡ get_or e.power d 0 + 1) grades next) (waiting' : ℕ)
          (is : (j : ℕ) → bit waiting' j ≡ bit waiting j - bit newly j) where
        named : (d j : ℕ) → bit newly j ≡ 1 → get_or e.target j 0 ≡ d → get_or next d 0 ≡ get_or e.power d 0 + 1
        named d j b p = subst (λ (y : ℕ). get_or next y 0 ≡ get_or e.power y 0 + 1) p (P.here j b)

        live' : (d : ℕ) → 0 < get_or next d 0 → 0 < get_or excluded d 0 → LiveCovered (places e) d
        live' d p q =
            ⊎_elim (λ r. U.live d (subst (λ (y : ℕ). 0 < y) r p) q) (λ t. subst (λ (y : ℕ). LiveCovered (places e) y) t.is (joins_live t.place t.member)) (P.there d)

        value' : (d : ℕ) → 0 < get_or next d 0 → (d < e.delegations) × (get_or next d 0 ≡ get_or e.power d 0 + 1)
        value' d p =
            ⊎_elim (λ r. let y = U.value d (subst (λ (y : ℕ). 0 < y) r p) in (y.0, r ∙ y.1))
            (λ t. (subst (λ (y : ℕ). y < e.delegations) t.is (U.within t.place (joins t.place t.member).0).1.covered.held, named d t.place t.member t.is)) (P.there d)

        still_zero : (d : ℕ) → get_or next d 0 ≡ 0 → get_or grades d 0 ≡ 0
        still_zero d z = ⊎_elim (λ r. sym r ∙ z) (λ t. absurd (let y = named d t.place t.member t.is in omega arith)) (P.there d)

        pub usables_next : Usables e excluded next waiting'
        usables_next = record {
          len = P.same ∙ U.len;
          plain = λ d h z. ⊎_elim (λ p. p ∙ U.plain d h z) (λ t. named d t.place t.member t.is) (P.there d);
          live = live';
          value = value';
          within = λ j b. U.within j (let p = is j in let q = bit_le waiting j in omega arith);
          waits = λ d el z.
              let a = U.waits d el (still_zero d z) in (
                a.0,
                ⊎_elim (λ y. let p = is a.0 in let q = a.1 in omega arith) (λ y. absurd (let p = named d a.0 y a.2 in omega arith)) (bit_two newly a.0),
                a.2,
              );
        }

        -- fewer wait
        pub waiting_less : newly < 2 ^ 64 → (newly ≡ 0 → ⊥) → size revocation_limit waiting' < size revocation_limit waiting
        waiting_less fits n =
            let m = some_member newly fits n in
            let b = m.2 in
            size_more revocation_limit waiting' waiting m.0 (λ j l. let p = is j in omega arith) m.1 (let p = is m.0 in let q = (joins m.0 b).0 in omega arith)

      -- ---- the end: none joins

      module _ (none : newly ≡ 0) where
        has_all : (d l : ℕ) → Eligible (places e) d → Reached (places e) (λ i. Uncovered (places e) i ⊎ (0 < get_or grades i 0)) d l → 0 < get_or grades d 0
        has_all d l el s = go (dec_lt 0 (get_or grades d 0))
          where
            reached : (y : ℕ) → y ≡ d → Judged (seen e grades (get_or excluded y 0)) y
            reached y p =
                subst (λ (z : ℕ). Judged (seen e grades (get_or excluded z 0)) z) (sym p)
                (let r = reach {E' = λ i. 0 < get_or grades i 0} {N' = λ x. bit (get_or excluded d 0) x ≡ 1} {c' = λ i. 0} (λ i. elim [ inl u ↦ plain_grade u | inr q ↦ q ])
                (net_word e excluded NN d (covered_net e excluded NN el.covered)).only s in
                let t = reach {E' = λ i. 0 < get_or grades i 0} {N' = λ x. bit (get_or excluded d 0) x ≡ 1} {c' = λ i. pred (get_or grades i 0)} (λ i q. q) (λ x q. q) r.holds in
                record { level = t.level; more = omega arith; holds = from_over e grades _ t.holds })

            go : Dec (0 < get_or grades d 0) → 0 < get_or grades d 0
            go (yes p) = p
            go (no n) =
                let a = U.waits d el (let y : get_or grades d 0 ≡ 0 = omega (arith, n) in y) in
                let b = joins_all a.0 a.1 (reached (get_or e.target a.0 0) a.2) in
                absurd (let z = ap (λ (y : ℕ). bit y a.0) none ∙ bit_none a.0 in omega arith)

        pub live_grade : {d : ℕ} → LiveCovered (places e) d → 0 < get_or grades d 0
        live_grade {d} v = live_set.least (λ d. 0 < get_or grades d 0) has_all d v

        usable_grade : (d : ℕ) → Usable (places e) d → 0 < get_or grades d 0
        usable_grade d (inl u) = plain_grade u
        usable_grade d (inr v) = live_grade v

        module _ {subjects : ℕ} {base g : List ℕ} (W : Word subjects (Subject e)) (B : Found (Over e grades 0) subjects base)
            (S : Filled e.delegations (SettledAt e.issuer e.subject excluded grades base) g) where
          stood_live : (d : ℕ) → d < e.delegations → get_or excluded d 0 ≡ 0 → Stood e.issuer e.subject base d → LiveUncovered (places e) d
          stood_live d h z m =
              let a = found_only B _ _ (root_of e W d h) 0 (omega arith) m in
              let b = reach {E' = Usable (places e)} {N' = Nobody} {c' = λ d. get_or e.power d 0} usable_in (λ n y. absurd y) a.holds in
              record { uncovered = uncovered e excluded NN d h z; level = b.level; stands = b.holds }

          plain_at : (d : ℕ) → LiveUncovered (places e) d → get_or g d 0 ≡ get_or e.power d 0 + 1
          plain_at d u =
              let h = u.uncovered.held in
              let z = plain_net e excluded NN u.uncovered in
              let m : Stood e.issuer e.subject base d = found_has B _ _ (root_of e W d h) 0 (reach usable_grade (λ n b. absurd (no_bit n b)) u.stands) in
              (S.here d h).plain z (plain_grade u.uncovered) m ∙ U.plain d h z

          relay_at : (d : ℕ) → LiveCovered (places e) d → get_or g d 0 ≡ 1
          relay_at d v = (S.here d (live_held (inr v))).covered (live_net e excluded NN v) (live_grade v)

          lives_yes : (d : ℕ) → 0 < get_or g d 0 → Live (places e) d
          lives_yes d p =
              let h = filled_held S d p in
              let o = (S.here d h).only p in
              ⊎_elim (λ q. inr (U.live d o.0 q)) (λ q. inl (stood_live d h q.0 q.1)) o.1

          lives_no : (d : ℕ) → Live (places e) d → 0 < get_or g d 0
          lives_no d (inl u) = omega (arith, plain_at d u)
          lives_no d (inr v) = omega (arith, relay_at d v)

          most_at : (d : ℕ) → Live (places e) d → get_or g d 0 ≤ get_or e.power d 0 + 1
          most_at d (inl u) = omega (arith, plain_at d u)
          most_at d (inr v) = omega (arith, relay_at d v)

          lives_most : (d : ℕ) → Dec (0 < get_or g d 0) → get_or g d 0 ≤ get_or e.power d 0 + 1
          lives_most d (yes p) = most_at d (lives_yes d p)
          lives_most d (no n) = omega (arith, n)

          pub starts : Starts e g
          starts = record {
            lives = record { len = S.len; yes = lives_yes; no = lives_no; rest = plain_at; most = λ d. lives_most d (dec_lt 0 (get_or g d 0)) };
            relay = relay_at;
          }
