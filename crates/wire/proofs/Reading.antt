-- A request that the code has read is the definition's, so that what the code tests of it holds of the definition.
use Prim.Native.Nat.{ℕ, ◌+◌, ◌-◌, ◌≤◌, ◌<◌}
use mathlib.Core.Path.{◌≡◌, sym, ap, ◌∙◌, subst}
use mathlib.Core.Bool.{Bool, true}
use native.Mathlib.Omega.{arith}
use borrow.Rule.Slice.PartMut.{mid_of}
use lib.ListN.{length, drop}
use Rattle.runs.specs.Bytes.{Bytes}
use Rattle.wire.specs.Operation.{is_known}
use Rattle.wire.specs.Request.{header_length, request_of, length_of, needs, Bounded, StepOf, whole, Script, ended, next, NextOf, first_part, second_part, third_part}
use Rattle.wire.specs.declared.request.Request.{Request}
use Rattle.std.specs.Prelude.{Ok}

pub known_of : (s : Bytes) (q : Request) (v : Bool) → q ≡ request_of s → is_known q.operation ≡ v → is_known (request_of s).operation ≡ v
known_of s q v e h = ap (λ x. is_known x.operation) (sym e) ∙ h

-- a step that is whole, from the request as it was read
pub whole_step : (s : Bytes) (q : Request) → q ≡ request_of s → Bounded q → header_length ≤ length s → is_known (request_of s).operation ≡ true
    → length_of q ≤ length s → StepOf s (Ok (record { request = length_of q; reply = needs q }))
whole_step s q e b h k l = subst (λ r. StepOf s (Ok (record { request = length_of r; reply = needs r }))) (sym e)
    (whole (record { header = h; known = k; all = subst (λ r. length_of r ≤ length s) e l }) (subst Bounded e b))

-- ---- the next request of a well-formed rest
pub header_of : {s : Bytes} {n : ℕ} → Script s n → 0 < length s → header_length ≤ length s
header_of ended h = absurd (omega arith)
header_of (next w t) h = w.header

pub next_of : {s : Bytes} {n : ℕ} (q : Request) → Script s n → 0 < length s → q ≡ request_of s → Bounded q → NextOf s n q
next_of q ended h e b = absurd (omega arith)
next_of q (next {s} {n} w t) h e b = record {
  is = e;
  whole = w;
  within = subst (λ r. length_of r ≤ length s) (sym e) w.all;
  fits = subst (λ r. needs r ≤ needs (request_of s) + n) (sym e) (omega arith);
  other = b.other;
  rest = subst (λ r. Script (drop (length_of r) s) (needs (request_of s) + n - needs r)) (sym e)
      (subst (λ k. Script (drop (length_of (request_of s)) s) k) (left (needs (request_of s)) n) t);
}
  where
    left : (a k : ℕ) → k ≡ a + k - a
    left a k = omega arith

-- ---- the arguments as they are lent
module _ (q : Request) (s : Bytes) (e : q ≡ request_of s) where
  pub first_lent : mid_of header_length (header_length + q.first - header_length) s ≡ first_part s
  first_lent =
      let k : header_length + q.first - header_length ≡ q.first = omega arith in
      rw (k, e)

  pub second_lent : mid_of (header_length + q.first) (header_length + q.first + q.second - (header_length + q.first)) s ≡ second_part s
  second_lent =
      let k : header_length + q.first + q.second - (header_length + q.first) ≡ q.second = omega arith in
      rw (k, e)

  pub third_lent : mid_of (header_length + q.first + q.second) (header_length + q.first + q.second + q.third - (header_length + q.first + q.second)) s ≡ third_part s
  third_lent =
      let k : header_length + q.first + q.second + q.third - (header_length + q.first + q.second) ≡ q.third = omega arith in
      rw (k, e)
