-- What D1 to D3 give at a level or above. Assumes nothing.
use Prim.Native.Nat.{ℕ, suc, pred, ◌≤◌, ◌<◌, min}
use mathlib.Core.Path.{◌≡◌, sym, ap, ◌∙◌, subst}
use native.Mathlib.Decide.{ℕ_discrete}
use native.Mathlib.Omega.{arith}
use lib.ListN.{get_or}
use Rattle.keyset.specs.Word.{bit}
use Rattle.places.specs.Limits.{level_count}
use Rattle.rules.specs.Rules.{Admin, d1, d2, d3}
use Rattle.search.specs.Graph.{Graph, At}
use Rattle.search.specs.Walk.{Leads}

free_not : (w x : ℕ) → bit w x ≡ 0 → bit w x ≡ 1 → ⊥
free_not w x p q = omega arith

module _ (G : Graph) where
  pub at_less : (r x l k : ℕ) → k ≤ l → At G r x l → At G r x k
  at_less r x l k h a = record { level = a.level; more = omega (arith, a.more); holds = a.holds }

  pub at_self : (r l : ℕ) → bit G.exclude r ≡ 0 → l < level_count → At G r r l
  at_self r l f h = record { level = Admin; more = omega arith; holds = d1 (free_not G.exclude r f) }

  at_del : (r d l : ℕ) → get_or G.subject d 0 ≡ r → bit G.exclude (get_or G.audience d 0) ≡ 0 → suc l ≤ get_or G.grades d 0
      → At G r (get_or G.issuer d 0) l → At G r (get_or G.audience d 0) l
  at_del r d l e f h a = record {
    level = min a.level (pred (get_or G.grades d 0));
    more = omega (arith, a.more);
    holds = d2 d (omega arith) e (free_not G.exclude (get_or G.audience d 0) f) a.holds;
  }

  pub at_lead : (r u x h l : ℕ) → Leads G r u x h → l ≤ h → At G r u l → At G r x l
  at_lead r u x h l e le a =
      subst (λ (z : ℕ). At G r z l) e.is_audience
      (at_del r e.del l e.about_root (ap (bit G.exclude) e.is_audience ∙ e.free)
      (subst (λ (z : ℕ). suc l ≤ z) (sym e.is_grade) (omega arith)) (subst (λ (z : ℕ). At G r z l) (sym e.is_issuer) a))

  pub at_member : (r u x l : ℕ) → At G r u l → At G u x l → At G r x l
  at_member r u x l a b = go (ℕ_discrete u r)
    where
      go : Dec (u ≡ r) → At G r x l
      go (yes e) = subst (λ (z : ℕ). At G z x l) e b
      go (no n) = record { level = min a.level b.level; more = omega (arith, a.more, b.more); holds = d3 n a.holds b.holds }
