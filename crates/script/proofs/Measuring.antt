-- The first pass over a script: what is left of it decides what all of it is.
use Prim.Native.Nat.{ℕ, ◌+◌, ◌-◌, ◌*◌, ◌≤◌}
use mathlib.Core.Path.{◌≡◌, sym, subst}
use native.Mathlib.Omega.{arith}
use lib.ListN.{length, drop, length-drop, drop_of_length-le}
use lib.Seq.{take_all, drop-drop}
use borrow.Rule.Slice.PartMut.{mid_of}
use Rattle.keyline.specs.declared.refusal.Refusal.{Refusal}
use Rattle.runs.specs.Bytes.{Bytes}
use Rattle.wire.specs.Reply.{head_length}
use Rattle.wire.specs.Request.{header_length, longest, other_limit, Script, ended, next, Malformed, here, later, StepOf, whole, refused}
use Rattle.script.specs.Run.{MeasuredAs}
use Rattle.script.specs.Run as run
use Rattle.wire.specs.declared.request.Sizes.{Sizes}
use Rattle.std.specs.Prelude.{Result, Ok, Err}

-- the rest of s, as it is lent
pub rest_lent : (s : Bytes) (at : ℕ) → at ≤ length s → mid_of at (length s - at) s ≡ drop at s
rest_lent s at h = take_all (length s - at) (drop at s) (rw (length-drop at s) (omega arith))

-- the largest reply
abbrev pub largest : ℕ
largest = head_length + longest + other_limit

-- the requests before `at` are whole and need n bytes
pub record Measuring (s : Bytes) (at n : ℕ) : Type 0 where
  pub within : at ≤ length s
  pub few : n ≤ largest * at
  pub so_far : (k : ℕ) → Script (drop at s) k → Script s (n + k)
  pub fault : (why : Refusal) → Malformed (drop at s) why → Malformed s why

pub start : (s : Bytes) → Measuring s 0 0
start s = record { within = omega arith; few = omega arith; so_far = λ k t. subst (Script s) (zero k) t; fault = λ why t. t }
  where
    zero : (k : ℕ) → k ≡ 0 + k
    zero k = omega arith

pub record StepFacts (t : Bytes) (l m : ℕ) : Type 0 where
  pub within : l ≤ length t
  pub some : header_length ≤ l
  pub few : m ≤ largest

-- a step by its two sizes
pub by_sizes : {t : Bytes} {q : Sizes} → StepOf t (Ok q) → StepOf t (Ok (record { request = q.request; reply = q.reply }))
by_sizes (whole w b) = whole w b

pub step_facts : {t : Bytes} {l m : ℕ} → StepOf t (Ok (record { request = l; reply = m })) → StepFacts t l m
step_facts (whole w b) = record { within = w.all; some = omega arith; few = let x = b.room in let y = b.other in omega arith }

-- one request more
pub go_on : {s : Bytes} {at n l m : ℕ} → Measuring s at n → StepOf (drop at s) (Ok (record { request = l; reply = m })) → Measuring s (at + l) (n + m)
go_on {s} {at} {n} {l} {m} i t =
    let f = step_facts t in
    let a = f.within in
    let b = f.some in
    let d = f.few in
    let e = i.within in
    let g = i.few in
    let p : l ≤ length s - at = subst (λ k. l ≤ k) (length-drop at s) a in
    record {
      within = omega arith;
      few = grow at n l m g d b;
      so_far = λ k r. subst (Script s) (omega arith) (i.so_far (m + k) (script t (subst (λ x. Script x k) (sym (drop-drop l at s)) r)));
      fault = λ why r. i.fault why (faulty t (subst (λ x. Malformed x why) (sym (drop-drop l at s)) r));
    }
  where
    grow : (at n l m : ℕ) → n ≤ largest * at → m ≤ largest → header_length ≤ l → n + m ≤ largest * (at + l)
    grow at n l m g d b = omega arith

    script : {t : Bytes} {l m k : ℕ} → StepOf t (Ok (record { request = l; reply = m })) → Script (drop l t) k → Script t (m + k)
    script (whole w b) r = next w r

    faulty : {t : Bytes} {l m : ℕ} {why : Refusal} → StepOf t (Ok (record { request = l; reply = m })) → Malformed (drop l t) why → Malformed t why
    faulty (whole w b) r = later w r

pub all_read : {s : Bytes} {at n : ℕ} → Measuring s at n → length s ≤ at → MeasuredAs s (Ok n)
all_read {s} {at} {n} i h =
    let e : n + 0 ≡ n = omega arith in
    run.needs (subst (Script s) e (i.so_far 0 (subst (λ x. Script x 0) (sym (drop_of_length-le s {i = at} h)) ended)))

pub no_request : {s : Bytes} {at n : ℕ} {why : Refusal} → Measuring s at n → StepOf (drop at s) (Err why) → MeasuredAs s (Err why)
no_request i (refused r) = run.refused (i.fault _ (here r))

-- what the code was told of the rest, as it is lent
pub told : (s : Bytes) (at : ℕ) {r q : Result Sizes Refusal} → at ≤ length s → StepOf (mid_of at (length s - at) s) r → r ≡ q → StepOf (drop at s) q
told s at {r} {q} h t e = subst (λ x. StepOf x q) (rest_lent s at h) (subst (λ x. StepOf (mid_of at (length s - at) s) x) e t)
