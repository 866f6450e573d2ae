-- One search at places: what it may take for granted, and that the levels it finds are the rules' levels. Assumes nothing.
use Prim.Native.Nat.{ℕ, zero, suc, ◌≤◌}
use mathlib.Core.Path.{◌≡◌, refl}
use mathlib.Core.List.{List}
use mathlib.Core.Option.{Option}
use native.Mathlib.Omega.{arith}
use lib.ListN.{get_or}
use Rattle.keyset.specs.Word.{bit}
use Rattle.keyset.proofs.Laws.{bit_le}
use Rattle.rules.specs.Rules.{d1, d2, d3, Answer, absent, level}
use Rattle.rules.proofs.Derivations.Answers.{AtLeast, Under, answer_carry}
use Rattle.rules.specs.Rows.{level_of}
use Rattle.search.specs.Sets.{Word}
use Rattle.search.specs.Graph.{Graph, graph, Holds}
use Rattle.search.specs.Index.{Indexed, indexed_count, Ready}
use Rattle.search.specs.Levels.{Found}
use Rattle.search.proofs.Laws.Lent.{ready_indexed}
use Rattle.coverage.specs.Places.{Fit, Grades, Subject, Over}
use Rattle.coverage.specs.Contexts.{Through}
use Rattle.coverage.specs.declared.Facts.{Facts}

-- the facts as a search is handed them
abbrev pub seen : Facts → List ℕ → ℕ → Graph
seen e g n = graph e.issuer e.audience e.subject g n

module _ (e : Facts) (g : List ℕ) (n : ℕ) where
  -- the stated power takes no part in D1 to D3
  pub to_over : {r x l : ℕ} → Holds (seen e g n) r x l → Over e g n r x l
  to_over (d1 f) = d1 f
  to_over (d2 d u p f s) = d2 d u p f (to_over s)
  to_over (d3 ne s t) = d3 ne (to_over s) (to_over t)

  pub from_over : {r x l : ℕ} → Over e g n r x l → Holds (seen e g n) r x l
  from_over (d1 f) = d1 f
  from_over (d2 d u p f s) = d2 d u p f (from_over s)
  from_over (d3 ne s t) = d3 ne (from_over s) (from_over t)

  pub at_over : {r x l : ℕ} → AtLeast (Holds (seen e g n) r x) l → AtLeast (Over e g n r x) l
  at_over a = record { level = a.level; more = a.more; holds = to_over a.holds }

  pub at_holds : {r x l : ℕ} → AtLeast (Over e g n r x) l → AtLeast (Holds (seen e g n) r x) l
  at_holds a = record { level = a.level; more = a.more; holds = from_over a.holds }

  under_over : {r x : ℕ} → Under (Holds (seen e g n) r x) (Over e g n r x)
  under_over l s = record { level = l; more = omega arith; holds = to_over s }

  under_holds : {r x : ℕ} → Under (Over e g n r x) (Holds (seen e g n) r x)
  under_holds l s = record { level = l; more = omega arith; holds = from_over s }

  pub answer_over : {r x : ℕ} {o : Option ℕ} → Answer (Holds (seen e g n) r x) o → Answer (Over e g n r x) o
  answer_over = answer_carry under_over under_holds

  pub found_over : {roots : ℕ} {levels : List ℕ} → Found (Holds (seen e g n)) roots levels → Found (Over e g n) roots levels
  found_over F = record { answer = λ r x k. answer_carry under_over under_holds (F.answer r x k); nested = F.nested }

  pub ready : {issuers last earlier : List ℕ} {subjects : ℕ} → Fit e → Grades e g → Indexed e.issuer e.subject e.delegations issuers last earlier
      → Word subjects (Subject e) → Ready (seen e g n) (indexed_count last) issuers last earlier subjects
  ready f h I W = ready_indexed (record {
    placed = record { issuer_lt = f.issuer_lt; audience_lt = f.audience_lt; grade_le = h.le };
    count_le = f.delegations_le;
    indexed = I;
    held = h.held;
    covers = λ d p. W.has (get_or e.subject d 0) (record { place = d; lt = h.held d p; is = refl });
  }) (λ d p. f.subject_lt d)

-- ---- searches in general

up : (a b : ℕ) → a ≤ b → b ≤ 1 → a ≡ 1 → b ≡ 1
up a b p q e = omega arith

-- what was found for some roots was found for fewer
pub found_less : {S : ℕ → ℕ → ℕ → Type 0} (roots known : ℕ) {levels : List ℕ} → ((j : ℕ) → bit roots j ≤ bit known j) → Found S known levels → Found S roots levels
found_less roots known h F = record {
  answer = λ r x k. F.answer r x (up _ _ (h r) (bit_le known r) k);
  nested = λ r x l k. F.nested r x l (up _ _ (h r) (bit_le known r) k);
}

-- a search from the subjects of what the members name knows each of these subjects
module _ (G : Graph) (members from known : ℕ) (target : List ℕ) (R : Word from (Through members (λ j. get_or G.subject (get_or target j 0) 0)))
    (more : (j : ℕ) → bit from j ≤ bit known j) where
  pub rooted : (j : ℕ) → bit members j ≡ 1 → bit known (get_or G.subject (get_or target j 0) 0) ≡ 1
  rooted j m = let a = R.has _ (record { place = j; member = m; is = refl }) in let b = more (get_or G.subject (get_or target j 0) 0) in omega (arith, bit_le known (get_or G.subject (get_or target j 0) 0))

-- the same levels, of standings that are the same
pub found_as : {S T : ℕ → ℕ → ℕ → Type 0} {roots : ℕ} {levels : List ℕ} → ((r x : ℕ) → Under (S r x) (T r x)) → ((r x : ℕ) → Under (T r x) (S r x))
    → Found S roots levels → Found T roots levels
found_as f g F = record { answer = λ r x k. answer_carry (f r x) (g r x) (F.answer r x k); nested = F.nested }

-- ---- what an answer says

pub answer_holds : {P : ℕ → Type 0} (l : ℕ) → Answer P (level_of (suc l)) → P l
unfolding level_of
answer_holds l (level g) = g.holds

pub answer_most : {P : ℕ → Type 0} (v : ℕ) → Answer P (level_of v) → (l : ℕ) → P l → suc l ≤ v
unfolding level_of
answer_most zero (absent f) l p = absurd (f l p)
answer_most (suc v) (level g) l p = omega (arith, g.most l p)
