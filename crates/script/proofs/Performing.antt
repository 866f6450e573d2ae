-- The second pass over a script: the replies so far stand at the front of the answers, and what the rest answers makes them the whole.
use Prim.Native.Nat.{ℕ, ◌+◌, ◌-◌, ◌≤◌}
use mathlib.Core.Path.{◌≡◌, refl, sym, ap, ◌∙◌, subst}
use mathlib.Core.List.{◌++◌, append_assoc}
use native.Mathlib.Omega.{arith}
use lib.ListN.{length, take, drop, length-drop, length-append, take-append-drop, drop_of_length-le}
use lib.Seq.{length-take-le, take_at, drop_at, take-add, take-take, drop-drop}
use borrow.Rule.Slice.PartMut.{mid_of, put_mid}
use Rattle.runs.specs.Bytes.{Bytes}
use Rattle.tables.specs.Committed.{Committed, nothing}
use Rattle.tables.specs.Insertion.{settled}
use Rattle.keyline_memory.specs.State.{held_in, Insertion}
use Rattle.queries.specs.Evaluated.{held_by, GoodEvaluated}
use Rattle.keyline_memory.specs.declared.state.State.{State}
use Rattle.queries.specs.declared.evaluated.Evaluated.{Evaluated}
use Rattle.wire.specs.Reply.{head_length, valued}
use Rattle.wire.specs.Reply as reply
use Rattle.wire.specs.Request.{header_length, request_of, length_of, needs, first_part, second_part, third_part, Whole, Script, Malformed, NextOf, Asked}
use Rattle.script.specs.Run.{room_in, zeros, inPlace, Replied, Changes, ChangeReplied, StateReplied, EvaluatedReplied, Runs, script_limit, MeasuredAs, RanAs}
use Rattle.script.specs.Run as run
use Rattle.keyline.specs.declared.refusal.Refusal.{Refusal}
use Rattle.wire.specs.declared.request.Request.{Request}
use Rattle.wire.specs.declared.reply.Reply.{Reply}
use Rattle.wire.specs.Operation.{is_known}
use Rattle.wire.specs.declared.operation.Change.{Change}
use Rattle.wire.specs.declared.operation.Change.TheVariants as change
use Rattle.wire.specs.declared.operation.OfState.{OfState}
use Rattle.wire.specs.declared.operation.OfEvaluated.{OfEvaluated}
use Rattle.wire.specs.declared.operation.Operation.TheVariants as operation
use Rattle.script.proofs.Measuring.{rest_lent}
use mathlib.Core.Bool.{true, false}
use Rattle.tables.specs.declared.answer.Outcome.{Outcome}
use Rattle.std.specs.Prelude.{Result, Ok, Err, Some, None}

-- ---- lists
drop_take : (m k : ℕ) (x : Bytes) → m ≤ length x → drop m (take (m + k) x) ≡ take k (drop m x)
drop_take m k x h = ap (λ (z : Bytes). drop m z) (take-add m k x) ∙ drop_at (take m x) (take k (drop m x)) m (length-take-le m x h)

-- the first room in the part that is lent is the first room in all that is left
room_of_part : (n m : ℕ) (x : Bytes) → head_length + n + m ≤ length x → room_in n (take (head_length + n + m) x) ≡ room_in n x
room_of_part n m x h =
    let e : head_length + n + m ≡ head_length + (n + m) = omega arith in
    ap (λ k. room_in n (take k x)) e ∙ ap (λ (z : Bytes). take n z) (drop_take head_length (n + m) x (omega arith)) ∙ take-take n (n + m) (drop head_length x) (omega arith)

-- the answers with y in the k bytes from `done` on: what is behind, and what is before
behind : (done k : ℕ) (o y : Bytes) → done ≤ length o → length y ≡ k → drop (done + k) (put_mid done k o y) ≡ drop k (drop done o)
behind done k o y h l =
    sym (drop-drop k done (put_mid done k o y))
    ∙ ap (λ (z : Bytes). drop k z) (drop_at (take done o) (y ++ drop k (drop done o)) done (length-take-le done o h))
    ∙ drop_at y (drop k (drop done o)) k l

before : (done k : ℕ) (o y : Bytes) → done ≤ length o → length y ≡ k → take (done + k) (put_mid done k o y) ≡ take done o ++ y
before done k o y h l =
    take-add done k (put_mid done k o y)
    ∙ rw (take_at (take done o) (y ++ drop k (drop done o)) done (length-take-le done o h), drop_at (take done o) (y ++ drop k (drop done o)) done (length-take-le done o h), take_at y (drop k (drop done o)) k l)

same_length : (done k : ℕ) (o y : Bytes) → done + k ≤ length o → length y ≡ k → length (put_mid done k o y) ≡ length o
same_length done k o y h l =
    let a = length-append (take done o) (y ++ drop k (drop done o)) in
    let b = length-append y (drop k (drop done o)) in
    let d = length-take-le done o (omega arith) in
    let e = length-drop k (drop done o) in
    let f = length-drop done o in
    omega arith

-- ---- the loop
pub record Performing (s o₀ o : Bytes) (state : State) (evaluated : Evaluated) (at done : ℕ) : Type 0 where
  pub worked_out : GoodEvaluated evaluated
  pub within : at ≤ length s
  pub long : length o ≡ length o₀
  pub room : done ≤ length o
  pub todo : Script (drop at s) (length o - done)
  pub so_far : (t : Bytes) → Runs (held_in state) (held_by evaluated) (drop at s) (drop done o) t → Runs nothing nothing s o₀ (take done o ++ t)

pub begin : {s o : Bytes} {state : State} {evaluated : Evaluated} → held_in state ≡ nothing → GoodEvaluated evaluated → held_by evaluated ≡ held_in state
    → Script s (length o) → Performing s o o state evaluated 0 0
begin {s} {o} {state} {evaluated} n w h t =
    let e : length o ≡ length o - 0 = omega arith in
    record {
      worked_out = w;
      within = omega arith;
      long = refl;
      room = omega arith;
      todo = subst (Script s) e t;
      so_far = λ r p. subst (λ c. Runs nothing c s o r) (h ∙ n) (subst (λ c. Runs c (held_by evaluated) s o r) n p);
    }

-- where the next request and the next reply begin, as the code adds it up
abbrev pub at_after : ℕ → Request → ℕ
at_after at q = at + header_length + q.first + q.second + q.third

abbrev pub done_after : ℕ → Request → ℕ
done_after done q = done + head_length + q.room + q.other

module _ (s o₀ o : Bytes) (state : State) (evaluated : Evaluated) (at done : ℕ) (i : Performing s o₀ o state evaluated at done) (later : State) (anew : Evaluated) (y : Bytes) where
  -- one reply more, with the request as the definition reads it
  step : GoodEvaluated anew → (q : Request) → q ≡ request_of (drop at s) → Whole (drop at s) → length_of q ≤ length (drop at s) → needs q ≤ length o - done
      → Script (drop (length_of q) (drop at s)) (length o - done - needs q) → length y ≡ needs q
      → Replied (held_in state) (held_by evaluated) (first_part (drop at s)) (second_part (drop at s)) (third_part (drop at s)) (room_in q.room (take (needs q) (drop done o))) (zeros q.other) q.operation (held_in later) (held_by anew) y
      → (k m : ℕ) → k ≡ at + length_of q → m ≡ done + needs q → Performing s o₀ (put_mid done (needs q) o y) later anew k m
  step w q e all l f t n r k m ek em =
      let u = i.room in
      let z = length-drop done o in
      let v = length-drop at s in
      let c = i.within in
      let p : length (put_mid done (needs q) o y) ≡ length o = same_length done (needs q) o y (omega arith) n in
      record {
        worked_out = w;
        within = omega arith;
        long = p ∙ i.long;
        room = omega arith;
        todo = subst (λ x. Script x (length (put_mid done (needs q) o y) - m)) (drop-drop (length_of q) at s ∙ ap (λ x. drop x s) (sym ek)) (subst (λ x. Script (drop (length_of q) (drop at s)) x) (omega arith) t);
        so_far = λ b h. subst (λ x. Runs nothing nothing s o₀ x) (glue b)
            (i.so_far (y ++ b) (run.next all (at_the_definition r) (subst (λ x. Runs (held_in later) (held_by anew) x (drop (needs (request_of (drop at s))) (drop done o)) b) (script_on) (subst (λ x. Runs (held_in later) (held_by anew) (drop k s) x b) answers_on h))));
      }
    where
      glue : (b : Bytes) → take done o ++ (y ++ b) ≡ take m (put_mid done (needs q) o y) ++ b
      glue b = sym (append_assoc (take done o) y b) ∙ ap (λ (x : Bytes). x ++ b) (sym (ap (λ x. take x (put_mid done (needs q) o y)) em ∙ before done (needs q) o y i.room n))

      script_on : drop k s ≡ drop (length_of (request_of (drop at s))) (drop at s)
      script_on = ap (λ x. drop x s) ek ∙ sym (drop-drop (length_of q) at s) ∙ ap (λ x. drop (length_of x) (drop at s)) e

      answers_on : drop m (put_mid done (needs q) o y) ≡ drop (needs (request_of (drop at s))) (drop done o)
      answers_on = ap (λ x. drop x (put_mid done (needs q) o y)) em ∙ behind done (needs q) o y i.room n ∙ ap (λ x. drop (needs x) (drop done o)) e

      inside : head_length + q.room + q.other ≤ length (drop done o)
      inside = let z = length-drop done o in omega (arith, f)

      at_the_definition : Replied (held_in state) (held_by evaluated) (first_part (drop at s)) (second_part (drop at s)) (third_part (drop at s)) (room_in q.room (take (needs q) (drop done o))) (zeros q.other) q.operation (held_in later) (held_by anew) y
          → Replied (held_in state) (held_by evaluated) (first_part (drop at s)) (second_part (drop at s)) (third_part (drop at s)) (room_in (request_of (drop at s)).room (drop done o)) (zeros (request_of (drop at s)).other) (request_of (drop at s)).operation (held_in later) (held_by anew) y
      at_the_definition r =
          subst (λ x. Replied (held_in state) (held_by evaluated) (first_part (drop at s)) (second_part (drop at s)) (third_part (drop at s)) (room_in x.room (drop done o)) (zeros x.other) x.operation (held_in later) (held_by anew) y) e
          (subst (λ p. Replied (held_in state) (held_by evaluated) (first_part (drop at s)) (second_part (drop at s)) (third_part (drop at s)) p (zeros q.other) q.operation (held_in later) (held_by anew) y) (room_of_part q.room q.other (drop done o) inside) r)

  -- .. and as the code has it
  pub advance : (q : Request) → NextOf (mid_of at (length s - at) s) (length o - done) q → GoodEvaluated anew → length y ≡ needs q
      → Replied (held_in state) (held_by evaluated) (first_part (mid_of at (length s - at) s)) (second_part (mid_of at (length s - at) s)) (third_part (mid_of at (length s - at) s)) (room_in q.room (mid_of done (done_after done q - done) o)) (zeros q.other) q.operation (held_in later) (held_by anew) y
      → Performing s o₀ (put_mid done (done_after done q - done) o y) later anew (at_after at q) (done_after done q)
  advance q x w n r =
      let e : done_after done q - done ≡ needs q = omega arith in
      let p = rest_lent s at i.within in
      let h = subst (λ z. NextOf z (length o - done) q) p x in
      subst (λ k. Performing s o₀ (put_mid done k o y) later anew (at_after at q) (done_after done q)) (sym e)
      (step w q h.is h.whole h.within h.fits h.rest n
      (subst (λ k. Replied (held_in state) (held_by evaluated) (first_part (drop at s)) (second_part (drop at s)) (third_part (drop at s)) (room_in q.room (mid_of done k o)) (zeros q.other) q.operation (held_in later) (held_by anew) y) e
      (subst (λ z. Replied (held_in state) (held_by evaluated) (first_part z) (second_part z) (third_part z) (room_in q.room (mid_of done (done_after done q - done) o)) (zeros q.other) q.operation (held_in later) (held_by anew) y) p r))
      (at_after at q) (done_after done q) (omega arith) (omega arith))

-- ---- each kind of request
-- a change's reply, from the set afterwards and the bytes
replied : {c d later : Committed} {x y z p q out : Bytes} {w : Change} {r : Reply} → Changes c x y z w r d → later ≡ d → out ≡ inPlace r p q → ChangeReplied c x y z p q w later out
replied {c} {d} {later} {x} {y} {z} {p} {q} {out} {w} {r} t h i =
    subst (λ b. ChangeReplied c x y z p q w later b) (sym i) (run.change_replied (subst (λ b. Changes c x y z w r b) (sym h) t))

module _ {s o₀ o : Bytes} {state : State} {evaluated : Evaluated} {at done : ℕ} (i : Performing s o₀ o state evaluated at done) {q : Request}
    (x : NextOf (mid_of at (length s - at) s) (length o - done) q) where
  pub asked : Asked q (mid_of at (length s - at) s) (mid_of done (done_after done q - done) o)
  asked =
      let h = subst (λ z. NextOf z (length o - done) q) (rest_lent s at i.within) x in
      let f = h.fits in
      let r = i.room in
      let e : done_after done q - done ≡ needs q = omega arith in
      record { is = x.is; within = x.within; long = rw e (length-take-le (needs q) (drop done o) (rw (length-drop done o) f)); other = x.other }

  changed : {later : State} {y : Bytes} {w : Change} → q.operation ≡ Some (operation.Change w) → length y ≡ needs q
      → ChangeReplied (held_in state) (first_part (mid_of at (length s - at) s)) (second_part (mid_of at (length s - at) s)) (third_part (mid_of at (length s - at) s)) (room_in q.room (mid_of done (done_after done q - done) o)) (zeros q.other) w (held_in later) y
      → Performing s o₀ (put_mid done (done_after done q - done) o y) later evaluated (at_after at q) (done_after done q)
  changed {later} {y} {w} e n r =
      advance s o₀ o state evaluated at done i later evaluated y q x i.worked_out n
      (subst (λ k. Replied (held_in state) (held_by evaluated) (first_part (mid_of at (length s - at) s)) (second_part (mid_of at (length s - at) s)) (third_part (mid_of at (length s - at) s)) (room_in q.room (mid_of done (done_after done q - done) o)) (zeros q.other) k (held_in later) (held_by evaluated) y) (sym e) (run.changed r))

  pub renewed : {fresh : State} {y : Bytes} → q.operation ≡ Some (operation.Change change.New) → held_in fresh ≡ nothing → length y ≡ needs q
      → y ≡ inPlace (valued 0) (room_in q.room (mid_of done (done_after done q - done) o)) (zeros q.other)
      → Performing s o₀ (put_mid done (done_after done q - done) o y) fresh evaluated (at_after at q) (done_after done q)
  renewed e h n r = changed e n (replied run.new h r)

  -- an insertion, whose set is the one afterwards
  pub inserted : {a : Result Outcome Refusal} {new : Committed} {w : Change}
      → Changes (held_in state) (first_part (mid_of at (length s - at) s)) (second_part (mid_of at (length s - at) s)) (third_part (mid_of at (length s - at) s)) w (reply.inserted a) (settled a (held_in state) new)
      → {r : Result Outcome Refusal} {later : State} → Insertion state later r a new → {y : Bytes} → q.operation ≡ Some (operation.Change w) → length y ≡ needs q
      → y ≡ inPlace (reply.inserted r) (room_in q.room (mid_of done (done_after done q - done) o)) (zeros q.other)
      → Performing s o₀ (put_mid done (done_after done q - done) o y) later evaluated (at_after at q) (done_after done q)
  inserted {a} {new} {w} t {r} {later} j {y} e n b =
      changed e n
      (replied t (j.held ∙ ap (λ z. settled z (held_in state) new) j.answer) (b ∙ ap (λ z. inPlace (reply.inserted z) (room_in q.room (mid_of done (done_after done q - done) o)) (zeros q.other)) j.answer))

  pub worked : {anew : Evaluated} {y : Bytes} → q.operation ≡ Some operation.Evaluate → GoodEvaluated anew → held_by anew ≡ held_in state → length y ≡ needs q
      → y ≡ inPlace (valued 0) (room_in q.room (mid_of done (done_after done q - done) o)) (zeros q.other)
      → Performing s o₀ (put_mid done (done_after done q - done) o y) state anew (at_after at q) (done_after done q)
  worked {anew} {y} e g h n r =
      advance s o₀ o state evaluated at done i state anew y q x g n
      (subst (λ k. Replied (held_in state) (held_by evaluated) (first_part (mid_of at (length s - at) s)) (second_part (mid_of at (length s - at) s)) (third_part (mid_of at (length s - at) s)) (room_in q.room (mid_of done (done_after done q - done) o)) (zeros q.other) k (held_in state) (held_by anew) y) (sym e)
      (subst (λ d. Replied (held_in state) (held_by evaluated) (first_part (mid_of at (length s - at) s)) (second_part (mid_of at (length s - at) s)) (third_part (mid_of at (length s - at) s)) (room_in q.room (mid_of done (done_after done q - done) o)) (zeros q.other) (Some operation.Evaluate) (held_in state) d y) (sym h)
      (subst (λ b. Replied (held_in state) (held_by evaluated) (first_part (mid_of at (length s - at) s)) (second_part (mid_of at (length s - at) s)) (third_part (mid_of at (length s - at) s)) (room_in q.room (mid_of done (done_after done q - done) o)) (zeros q.other) (Some operation.Evaluate) (held_in state) (held_in state) b) (sym r) run.evaluate)))

  pub asked_state : {y : Bytes} {w : OfState} → q.operation ≡ Some (operation.OfState w) → length y ≡ needs q
      → StateReplied (held_in state) (first_part (mid_of at (length s - at) s)) (second_part (mid_of at (length s - at) s)) (room_in q.room (mid_of done (done_after done q - done) o)) (zeros q.other) w y
      → Performing s o₀ (put_mid done (done_after done q - done) o y) state evaluated (at_after at q) (done_after done q)
  asked_state {y} {w} e n r =
      advance s o₀ o state evaluated at done i state evaluated y q x i.worked_out n
      (subst (λ k. Replied (held_in state) (held_by evaluated) (first_part (mid_of at (length s - at) s)) (second_part (mid_of at (length s - at) s)) (third_part (mid_of at (length s - at) s)) (room_in q.room (mid_of done (done_after done q - done) o)) (zeros q.other) k (held_in state) (held_by evaluated) y) (sym e) (run.state_asked r))

  pub asked_evaluated : {y : Bytes} {w : OfEvaluated} → q.operation ≡ Some (operation.OfEvaluated w) → length y ≡ needs q
      → EvaluatedReplied (held_by evaluated) (first_part (mid_of at (length s - at) s)) (second_part (mid_of at (length s - at) s)) (room_in q.room (mid_of done (done_after done q - done) o)) (zeros q.other) w y
      → Performing s o₀ (put_mid done (done_after done q - done) o y) state evaluated (at_after at q) (done_after done q)
  asked_evaluated {y} {w} e n r =
      advance s o₀ o state evaluated at done i state evaluated y q x i.worked_out n
      (subst (λ k. Replied (held_in state) (held_by evaluated) (first_part (mid_of at (length s - at) s)) (second_part (mid_of at (length s - at) s)) (third_part (mid_of at (length s - at) s)) (room_in q.room (mid_of done (done_after done q - done) o)) (zeros q.other) k (held_in state) (held_by evaluated) y) (sym e) (run.evaluated_asked r))

-- the bounds of one request, for the code's sums
pub record Bounds (s o : Bytes) (at done : ℕ) (q : Request) : Type 0 where
  pub script : at_after at q ≤ length s
  pub answers : done_after done q ≤ length o

pub bounds : {s o₀ o : Bytes} {state : State} {evaluated : Evaluated} {at done : ℕ} {q : Request} → Performing s o₀ o state evaluated at done
    → NextOf (mid_of at (length s - at) s) (length o - done) q → Bounds s o at done q
bounds {s} {o₀} {o} {state} {evaluated} {at} {done} {q} i x =
    let h = subst (λ z. NextOf z (length o - done) q) (rest_lent s at i.within) x in
    let a = h.within in
    let b = h.fits in
    let c = length-drop at s in
    let d = i.within in
    let e = i.room in
    record { script = omega arith; answers = omega arith }

-- the end
pub ending : {s o₀ o : Bytes} {state : State} {evaluated : Evaluated} {at done : ℕ} → Performing s o₀ o state evaluated at done → length s ≤ at → Runs nothing nothing s o₀ o
ending {s} {o₀} {o} {state} {evaluated} {at} {done} i h =
    subst (λ x. Runs nothing nothing s o₀ x) (take-append-drop done o)
    (i.so_far (drop done o) (subst (λ x. Runs (held_in state) (held_by evaluated) x (drop done o) (drop done o)) (sym (drop_of_length-le s {i = at} h)) run.ended))

-- a request of a well-formed script says something
pub says : {s : Bytes} {n : ℕ} {q : Request} → NextOf s n q → q.operation ≡ None → ⊥
says {s} {n} {q} x e =
    let h : true ≡ false = sym x.whole.known ∙ ap (λ z. is_known z.operation) (sym x.is) ∙ ap is_known e in
    let z : ◌≡◌ {A = ℕ} 0 1 = cc in
    absurd (omega arith)

-- ---- the call
pub needs_of : {s : Bytes} {n : ℕ} {r : Result ℕ Refusal} → MeasuredAs s r → r ≡ Ok n → Script s n
needs_of {s} {n} m e = from (subst (MeasuredAs s) e m)
  where
    from : MeasuredAs s (Ok n) → Script s n
    from (run.needs t) = t

pub fault_of : {s : Bytes} {why : Refusal} {r : Result ℕ Refusal} → MeasuredAs s r → r ≡ Err why → Malformed s why
fault_of {s} {why} m e = from (subst (MeasuredAs s) e m)
  where
    from : MeasuredAs s (Err why) → Malformed s why
    from (run.refused t) = t

-- the front of the answers, as it is lent and as it comes back
pub front_long : (o : Bytes) (n : ℕ) → n ≤ length o → n ≡ length (mid_of 0 (n - 0) o)
front_long o n h = let e : n - 0 ≡ n = omega arith in rw e (sym (length-take-le n o h))

pub run_all : {s : Bytes} (o here : Bytes) (n : ℕ) → length s ≤ script_limit → Script s n → n ≤ length o → Runs nothing nothing s (mid_of 0 (n - 0) o) here
    → RanAs s o (Ok n) (put_mid 0 (n - 0) o here)
run_all {s} o here n l t h r =
    let e : n - 0 ≡ n = omega arith in
    subst (λ k. RanAs s o (Ok n) (put_mid 0 k o here)) (sym e) (run.answered l t h (subst (λ k. Runs nothing nothing s (mid_of 0 k o) here) e r))
