-- What a flag counts for, and what an "or" of two tests comes to when the first is asked first.
use mir.Val.{bool_byte}
use mathlib.Core.Path.{◌≡◌, refl, sym, ◌∙◌}
use mathlib.Core.Bool.{Bool, true, false, cond, not}
use Rattle.runs.proofs.BoolLaws.{or, or_left}

pub one_unless : (t : Bool) → bool_byte (not t) ≡ cond t 0 1
one_unless true = refl
one_unless false = refl

pub or_first : {x t u : Bool} (v : Bool) → x ≡ t → t ≡ true → t ≡ u → x ≡ or u v
or_first {u = u} v e f g = e ∙ f ∙ sym (or_left u v (sym g ∙ f))

pub or_second : {x r t u v : Bool} → x ≡ r → t ≡ false → t ≡ u → r ≡ v → x ≡ or u v
or_second e f g h = e ∙ h ∙ rw (sym g ∙ f) refl
