-- What a script answers is settled: two answers to one script on the same buffer coincide, in number, in what stands beside it and in every
-- byte. Request by request, from the calls' own theorems (Settled of keyline_memory).
use Prim.Native.Nat.{ℕ}
use mathlib.Core.Path.{◌≡◌, refl, sym, ap, ◌∙◌, subst}
use mathlib.Core.Bool.{true, false}
use native.Mathlib.Omega.{arith}
use lib.ListN.{take}
use Rattle.keyline.specs.declared.refusal.Refusal.{Refusal}
use Rattle.runs.specs.Bytes.{Bytes}
use Rattle.tables.specs.Committed.{Committed, nothing}
use Rattle.answers.proofs.Settled as calls
use Rattle.wire.specs.Request.{Whole, Script, ended, next, NoRequest, header, unknown, arguments, Malformed, here, later}
use Rattle.wire.specs.Reply as reply
use Rattle.script.specs.Run.{Changes, StateAnswers, EvaluatedAnswers, inPlace, state_replied, evaluated_replied, change_replied, Replied, Runs, RanAs}
use Rattle.script.specs.Run as run
use Rattle.wire.specs.declared.operation.Operation.{Operation}
use Rattle.wire.specs.declared.operation.OfState.{OfState}
use Rattle.wire.specs.declared.operation.OfEvaluated.{OfEvaluated}
use Rattle.wire.specs.declared.operation.Change.{Change}
use Rattle.wire.specs.declared.reply.Reply.{Reply}
use Rattle.std.specs.Prelude.{Result, Option}

-- ## One request
pub record SameChange (r r' : Reply) (d d' : Committed) : Type 0 where
  pub reply : r ≡ r'
  pub set : d ≡ d'

pub change : {c : Committed} {x y z : Bytes} {w : Change} {r r' : Reply} {d d' : Committed} → Changes c x y z w r d → Changes c x y z w r' d' → SameChange r r' d d'
change run.new run.new = record { reply = refl; set = refl }
change run.insert_delegation run.insert_delegation = record { reply = refl; set = refl }
change run.insert_revocation run.insert_revocation = record { reply = refl; set = refl }

pub record SameReply (r r' : Reply) (p p' q q' : Bytes) : Type 0 where
  pub reply : r ≡ r'
  pub room : p ≡ p'
  pub other : q ≡ q'

pub state_asked : {c : Committed} {x y p q : Bytes} {w : OfState} {r r' : Reply} {p₁ p₂ q₁ q₂ : Bytes}
    → StateAnswers c x y p q w r p₁ q₁ → StateAnswers c x y p q w r' p₂ q₂ → SameReply r r' p₁ p₂ q₁ q₂
state_asked run.version run.version = record { reply = refl; room = refl; other = refl }
state_asked run.len run.len = record { reply = refl; room = refl; other = refl }
state_asked run.is_empty run.is_empty = record { reply = refl; room = refl; other = refl }
state_asked run.contains_delegation run.contains_delegation = record { reply = refl; room = refl; other = refl }
state_asked run.contains_revocation run.contains_revocation = record { reply = refl; room = refl; other = refl }
state_asked (run.delegation a) (run.delegation b) = let e = a ∙ sym b in record { reply = rw e; room = rw e; other = rw e }
state_asked (run.revocation a) (run.revocation b) = let e = a ∙ sym b in record { reply = rw e; room = rw e; other = rw e }
state_asked (run.subjects a) (run.subjects b) = let e = a ∙ sym b in record { reply = rw e; room = rw e; other = refl }
state_asked (run.lists_revocations a) (run.lists_revocations b) = let e = a ∙ sym b in record { reply = rw e; room = rw e; other = refl }
state_asked (run.lists_delegations a) (run.lists_delegations b) = let e = a ∙ sym b in record { reply = rw e; room = rw e; other = refl }
state_asked (run.certificates a) (run.certificates b) = let e = a ∙ sym b in record { reply = rw e; room = rw e; other = refl }

pub evaluated_asked : {e : Committed} {x y p q : Bytes} {w : OfEvaluated} {r r' : Reply} {p₁ p₂ q₁ q₂ : Bytes}
    → EvaluatedAnswers e x y p q w r p₁ q₁ → EvaluatedAnswers e x y p q w r' p₂ q₂ → SameReply r r' p₁ p₂ q₁ q₂
evaluated_asked {e} (run.positive_power a) (run.positive_power b) = record { reply = ap reply.powered (calls.positive_power e a b); room = refl; other = refl }
evaluated_asked {e} (run.effective_power a) (run.effective_power b) = record { reply = ap reply.powered (calls.effective_power e a b); room = refl; other = refl }
evaluated_asked {e} (run.members a) (run.members b) = let s = calls.members e a b in record { reply = ap reply.listed s.answer; room = s.keys; other = s.powers }
evaluated_asked {e} (run.is_live a) (run.is_live b) = record { reply = ap reply.lived (calls.is_live e a b); room = refl; other = refl }
evaluated_asked {e} (run.conveyed_power a) (run.conveyed_power b) = record { reply = ap reply.powered (calls.conveyed_power e a b); room = refl; other = refl }
evaluated_asked {e} (run.standing a) (run.standing b) = record { reply = ap reply.stood (calls.standing e a b); room = refl; other = refl }
evaluated_asked {e} (run.closure a) (run.closure b) = let s = calls.closure e a b in record { reply = ap reply.both_listed s.answer; room = s.out; other = refl }

in_place_same : {r r' : Reply} {p p' q q' : Bytes} → SameReply r r' p p' q q' → inPlace r p q ≡ inPlace r' p' q'
in_place_same s = rw (s.reply, s.room, s.other)

pub record SameStep (d d' f f' : Committed) (o o' : Bytes) : Type 0 where
  pub set : d ≡ d'
  pub evaluated : f ≡ f'
  pub out : o ≡ o'

pub step : {c e : Committed} {x y z p q : Bytes} {w : Option Operation} {d d' f f' : Committed} {o o' : Bytes}
    → Replied c e x y z p q w d f o → Replied c e x y z p q w d' f' o' → SameStep d d' f f' o o'
step (run.changed (change_replied a)) (run.changed (change_replied b)) = let s = change a b in record { set = s.set; evaluated = refl; out = rw s.reply }
step run.evaluate run.evaluate = record { set = refl; evaluated = refl; out = refl }
step (run.state_asked (state_replied a)) (run.state_asked (state_replied b)) = record { set = refl; evaluated = refl; out = in_place_same (state_asked a b) }
step (run.evaluated_asked (evaluated_replied a)) (run.evaluated_asked (evaluated_replied b)) = record { set = refl; evaluated = refl; out = in_place_same (evaluated_asked a b) }

-- ## A script
moved : {d d' f f' : Committed} {s o t : Bytes} → d ≡ d' → f ≡ f' → Runs d' f' s o t → Runs d f s o t
moved {d} {d'} {f} {f'} {s} {o} {t} a b r = subst (λ x. Runs x f s o t) (sym a) (subst (λ x. Runs d' x s o t) (sym b) r)

pub runs : {c e : Committed} {s o t t' : Bytes} → Runs c e s o t → Runs c e s o t' → t ≡ t'
runs run.ended run.ended = refl
runs run.ended (run.next w a r) = let h = w.header in absurd (omega arith)
runs (run.next w a r) run.ended = let h = w.header in absurd (omega arith)
runs (run.next w a r) (run.next v b q) =
    let m = step a b in
    let u = runs r (moved m.set m.evaluated q) in
    rw (m.out, u)

pub length_settled : {s : Bytes} {n m : ℕ} → Script s n → Script s m → n ≡ m
length_settled ended ended = refl
length_settled ended (next w t) = let h = w.header in absurd (omega arith)
length_settled (next w t) ended = let h = w.header in absurd (omega arith)
length_settled (next w t) (next v q) = rw (length_settled t q)

fault_settled : {s : Bytes} {why because : Refusal} → NoRequest s why → NoRequest s because → why ≡ because
fault_settled (header a b) (header d e) = refl
fault_settled (header a b) (unknown d e) = absurd (omega arith)
fault_settled (header a b) (arguments d e f) = refl
fault_settled (unknown a b) (header d e) = absurd (omega arith)
fault_settled (unknown a b) (unknown d e) = refl
fault_settled (unknown a b) (arguments d e f) = let z : true ≡ false = sym e ∙ b in let y : ◌≡◌ {A = ℕ} 0 1 = cc in absurd (omega arith)
fault_settled (arguments a b k) (header d e) = refl
fault_settled (arguments a b k) (unknown d e) = let z : true ≡ false = sym b ∙ e in let y : ◌≡◌ {A = ℕ} 0 1 = cc in absurd (omega arith)
fault_settled (arguments a b k) (arguments d e f) = refl

not_whole : {s : Bytes} {why : Refusal} → NoRequest s why → ¬ Whole s
not_whole (header a b) w = let h = w.header in omega arith
not_whole (unknown a b) w = let z : true ≡ false = sym w.known ∙ b in let y : ◌≡◌ {A = ℕ} 0 1 = cc in absurd (omega arith)
not_whole (arguments a b k) w = let h = w.all in omega arith

pub malformed_settled : {s : Bytes} {why because : Refusal} → Malformed s why → Malformed s because → why ≡ because
malformed_settled (here a) (here b) = fault_settled a b
malformed_settled (here a) (later w b) = absurd (not_whole a w)
malformed_settled (later w a) (here b) = absurd (not_whole b w)
malformed_settled (later w a) (later v b) = malformed_settled a b

-- a script is well-formed or malformed, and not both
pub apart : {s : Bytes} {n : ℕ} {why : Refusal} → Script s n → Malformed s why → ⊥
apart ended (here (header a b)) = omega arith
apart ended (here (unknown a b)) = omega arith
apart ended (here (arguments a b k)) = omega arith
apart ended (later w m) = let h = w.header in omega arith
apart (next w t) (here a) = not_whole a w
apart (next w t) (later v m) = apart t m

pub record SameRun (r r' : Result ℕ Refusal) (o o' : Bytes) : Type 0 where
  pub answer : r ≡ r'
  pub out : o ≡ o'

-- two answers to one script on the same buffer coincide
pub ran : {s o : Bytes} {r r' : Result ℕ Refusal} {t t' : Bytes} → RanAs s o r t → RanAs s o r' t' → SameRun r r' t t'
ran (run.too_long a) (run.too_long b) = record { answer = refl; out = refl }
ran (run.too_long a) (run.malformed b m) = absurd (omega arith)
ran (run.too_long a) (run.room b m k) = absurd (omega arith)
ran (run.too_long a) (run.answered b m k q) = absurd (omega arith)
ran (run.malformed a m) (run.too_long b) = absurd (omega arith)
ran (run.malformed a m) (run.malformed b n) = record { answer = rw (malformed_settled m n); out = refl }
ran (run.malformed a m) (run.room b n k) = absurd (apart n m)
ran (run.malformed a m) (run.answered b n k q) = absurd (apart n m)
ran (run.room a m k) (run.too_long b) = absurd (omega arith)
ran (run.room a m k) (run.malformed b n) = absurd (apart m n)
ran (run.room a m k) (run.room b n l) = record { answer = rw (length_settled m n); out = refl }
ran (run.room a m k) (run.answered b n l q) = let e = length_settled m n in absurd (omega arith)
ran (run.answered a m k p) (run.too_long b) = absurd (omega arith)
ran (run.answered a m k p) (run.malformed b n) = absurd (apart m n)
ran (run.answered a m k p) (run.room b n l) = let e = length_settled m n in absurd (omega arith)
ran {s} {o} (run.answered {n = i} {here = x} a m k p) (run.answered {n = j} {here = y} b n l q) =
    let e = length_settled m n in
    let u = runs p (subst (λ z. Runs nothing nothing s (take z o) y) (sym e) q) in
    record { answer = rw e; out = rw (u, e) }
