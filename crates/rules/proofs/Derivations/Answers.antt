-- Levels as answers. Two ways to stand, P and Q, are compared by `Under P Q`: what holds at a level by P holds by Q at that level or more.
-- Then Q's answer is no less than P's (`no_more`), and all else here follows: an answer is the only one (`answer_unique`), and an answer
-- about P is one about Q where each is under the other (`answer_carry`).
use Prim.Native.Nat.{ℕ, ◌≤◌}
use mathlib.Core.Option.{Option, some}
use mathlib.Core.Path.{◌≡◌, refl}
use native.Mathlib.Omega.{arith}
use Rattle.rules.specs.Rules.{Greatest, Answer, absent, level}
use Rattle.rules.specs.Revoking.{NoMore, none_of, at_most}

-- P at l or more
pub record AtLeast (P : ℕ → Type 0) (l : ℕ) : Type 0 where
  pub level : ℕ
  pub more : l ≤ level
  pub holds : P level

abbrev pub Under : (ℕ → Type 0) → (ℕ → Type 0) → Type 0
Under P Q = (l : ℕ) → P l → AtLeast Q l

module _ {P : ℕ → Type 0} {l : ℕ} where
  pub just : P l → AtLeast P l
  just p = record { level = l; more = omega arith; holds = p }

  pub enough : {m : ℕ} → AtLeast P l → m ≤ l → AtLeast P m
  enough a h = record { level = a.level; more = omega arith; holds = a.holds }

  -- The level that is answered is the greatest.
  pub greatest_of : Answer P (some l) → Greatest P l
  greatest_of (level g) = g

pub no_more : {P Q : ℕ → Type 0} {o p : Option ℕ} → Under P Q → Answer P o → Answer Q p → NoMore o p
no_more f (absent a) q = none_of
no_more f (level g) (absent b) = absurd (b _ (f _ g.holds).holds)
no_more f (level {l} g) (level {l = m} h) = let i = f l g.holds in at_most {l = l} {m = m} (omega (arith, h.most _ i.holds))

pub no_more_both : {o p : Option ℕ} → NoMore o p → NoMore p o → o ≡ p
no_more_both none_of none_of = refl
no_more_both (at_most {l} {m} h) (at_most k) = let e : l ≡ m = omega arith in rw e

-- Levels are unique.
pub answer_unique : {P : ℕ → Type 0} {o p : Option ℕ} → Answer P o → Answer P p → o ≡ p
answer_unique a b = no_more_both (no_more (λ l. just) a b) (no_more (λ l. just) b a)

pub greatest_unique : {P : ℕ → Type 0} {l m : ℕ} → Greatest P l → Greatest P m → l ≡ m
greatest_unique g h = let e = answer_unique (level g) (level h) in cc

pub greatest_carry : {P Q : ℕ → Type 0} {l : ℕ} → Under P Q → Under Q P → Greatest P l → Greatest Q l
greatest_carry {Q = Q} {l} f g h = record { holds = rw same at up.holds; most = top }
  where
    top : (m : ℕ) → Q m → m ≤ l
    top m q = let a = g m q in omega (arith, h.most _ a.holds)

    up : AtLeast Q l
    up = f l h.holds

    same : up.level ≡ l
    same = omega (arith, up.more, top _ up.holds)

pub answer_carry : {P Q : ℕ → Type 0} {o : Option ℕ} → Under P Q → Under Q P → Answer P o → Answer Q o
answer_carry f g (absent h) = absent (λ l q. h _ (g l q).holds)
answer_carry f g (level h) = level (greatest_carry f g h)
