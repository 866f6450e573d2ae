-- A reply's three parts in a buffer, and buffers that begin as zeros.
use Prim.Native.Nat.{ℕ, ◌+◌, ◌-◌, ◌≤◌}
use mathlib.Core.Path.{◌≡◌, refl, sym, ap, ◌∙◌, subst}
use mathlib.Core.List.{[], ◌++◌, append-nil}
use native.Mathlib.Omega.{arith}
use lib.ListN.{length, take, drop, length-drop, length-append, length-replicate, replicate-append-replicate, drop_of_length-le}
use lib.Seq.{length-take-le, take_at, drop_at, take-append-add}
use borrow.Rule.Slice.PartMut.{put_mid, mid_of}
use Rattle.lent.specs.Bytes.{put, put_within}
use Rattle.lent.proofs.Fronts.{put_within_lem}
use Rattle.runs.specs.Bytes.{Bytes}
use Rattle.wire.specs.Reply.{head_length, head_of}
use Rattle.wire.specs.Request.{other_limit, header_length, request_of, first_part, second_part, third_part}
use Rattle.wire.specs.declared.request.Request.{Request}
use Rattle.wire.proofs.Reading.{first_lent, second_lent, third_lent}
use Rattle.script.specs.Run.{room_in, zeros, inPlace, Placed, placed, StateAnswers, StateReplied, state_replied, EvaluatedAnswers, EvaluatedReplied, evaluated_replied}
use Rattle.tables.specs.Committed.{Committed}
use Rattle.wire.specs.declared.operation.OfState.{OfState}
use Rattle.wire.specs.declared.operation.OfEvaluated.{OfEvaluated}
use Rattle.wire.specs.declared.reply.Reply.{Reply}

pub head_long : (r : Reply) → length (head_of r) ≡ head_length
unfolding head_of
head_long r = refl

-- head first, then the second room behind the first
pub in_place : (r : Reply) (o o₁ o₂ s : Bytes) (n : ℕ) → length o ≡ head_length + n + length s → o₁ ≡ put_within o 0 (head_of r) → o₂ ≡ put_within o₁ (head_length + n) s
    → o₂ ≡ inPlace r (room_in n o) s
unfolding put
in_place r o o₁ o₂ s n l e₁ e₂ = at (head_of r) (head_long r) e₁
  where
    at : (h : Bytes) → length h ≡ head_length → o₁ ≡ put_within o 0 h → o₂ ≡ h ++ room_in n o ++ s
    at h k f =
        let a : o₁ ≡ h ++ drop head_length o = f ∙ put_within_lem o h 0 (omega arith) ∙ rw k in
        let d : length (drop head_length o) ≡ n + length s = length-drop head_length o ∙ omega arith in
        let b : length o₁ ≡ head_length + (n + length s) = ap (λ (x : Bytes). length x) a ∙ length-append h (drop head_length o) ∙ rw (k, d) in
        let t : take (head_length + n) o₁ ≡ h ++ room_in n o = ap (λ (x : Bytes). take (head_length + n) x) a ∙ sym (ap (λ (m : ℕ). take (m + n) (h ++ drop head_length o)) k) ∙ take-append-add h (drop head_length o) n in
        let z : drop (head_length + n + length s) o₁ ≡ [] = drop_of_length-le o₁ {i = head_length + n + length s} (omega arith) in
        e₂ ∙ put_within_lem o₁ s (head_length + n) (omega arith) ∙ rw (t, z) (append-nil ((h ++ room_in n o) ++ s))

-- the first room as it is lent, ..
pub room_lent : (o : Bytes) (n : ℕ) → mid_of head_length (head_length + n - head_length) o ≡ room_in n o
room_lent o n = let k : head_length + n - head_length ≡ n = omega arith in rw k

-- .. and as it comes back
pub room_back : (o y : Bytes) (n : ℕ) → length y ≡ n → head_length + n ≤ length o → room_in n (put_mid head_length (head_length + n - head_length) o y) ≡ y
room_back o y n l h =
    ap (λ (x : Bytes). take n x) (drop_at (take head_length o) _ head_length (length-take-le head_length o (omega arith))) ∙ take_at y _ n l

pub take_zeros : (k n : ℕ) → k ≤ n → take k (zeros n) ≡ zeros k
take_zeros k n h =
    let e : k + (n - k) ≡ n = omega arith in
    ap (λ (x : Bytes). take k x) (ap zeros (sym e) ∙ sym (replicate-append-replicate k (n - k) 0)) ∙ take_at (zeros k) (zeros (n - k)) k (length-replicate k 0)

-- ---- a question's reply, from what the call left in the rooms
pub reply_back : (A : Bytes → Reply → Bytes → Bytes → Type 0) (o p q o₂ : Bytes) (r : Reply) (n : ℕ)
    → A (mid_of head_length (head_length + n - head_length) o) r p q → length p ≡ n → head_length + n ≤ length o
    → o₂ ≡ inPlace r (room_in n (put_mid head_length (head_length + n - head_length) o p)) q → Placed (A (room_in n o)) o₂
reply_back A o p q o₂ r n a l h e =
    subst (λ z. Placed (A (room_in n o)) z) (sym (e ∙ ap (λ z. inPlace r z q) (room_back o p n l h)))
    (placed (subst (λ z. A z r p q) (room_lent o n) a))

pub state_placed : {c : Committed} {x y p q o : Bytes} {what : OfState} → Placed (StateAnswers c x y p q what) o → StateReplied c x y p q what o
state_placed (placed a) = state_replied a

pub evaluated_placed : {c : Committed} {x y p q o : Bytes} {what : OfEvaluated} → Placed (EvaluatedAnswers c x y p q what) o → EvaluatedReplied c x y p q what o
evaluated_placed (placed a) = evaluated_replied a

-- the second room as it begins
pub first_zeros : (k : ℕ) → k ≤ other_limit → mid_of 0 k (zeros other_limit) ≡ zeros k
first_zeros k h = take_zeros k other_limit h

-- ---- the same with the arguments as they are lent
module _ (q : Request) (s : Bytes) (e : q ≡ request_of s) where
  pub reply_asked : (A : Bytes → Bytes → Bytes → Reply → Bytes → Bytes → Type 0) {o : Bytes} → q.other ≤ other_limit
      → Placed (A (mid_of header_length (header_length + q.first - header_length) s) (mid_of (header_length + q.first) (header_length + q.first + q.second - (header_length + q.first)) s) (mid_of 0 q.other (zeros other_limit))) o
      → Placed (A (first_part s) (second_part s) (zeros q.other)) o
  reply_asked A {o} h t =
      subst (λ x. Placed (A x (second_part s) (zeros q.other)) o) (first_lent q s e)
      (subst (λ y. Placed (A (mid_of header_length (header_length + q.first - header_length) s) y (zeros q.other)) o) (second_lent q s e)
      (subst (λ z. Placed (A (mid_of header_length (header_length + q.first - header_length) s) (mid_of (header_length + q.first) (header_length + q.first + q.second - (header_length + q.first)) s) z) o) (first_zeros q.other h) t))

  -- what holds of the three arguments as they are lent
  pub as_asked : (P : Bytes → Bytes → Bytes → Type 0)
      → P (mid_of header_length (header_length + q.first - header_length) s) (mid_of (header_length + q.first) (header_length + q.first + q.second - (header_length + q.first)) s) (mid_of (header_length + q.first + q.second) (header_length + q.first + q.second + q.third - (header_length + q.first + q.second)) s)
      → P (first_part s) (second_part s) (third_part s)
  as_asked P t =
      subst (λ x. P x (second_part s) (third_part s)) (first_lent q s e)
      (subst (λ y. P (mid_of header_length (header_length + q.first - header_length) s) y (third_part s)) (second_lent q s e)
      (subst (λ z. P (mid_of header_length (header_length + q.first - header_length) s) (mid_of (header_length + q.first) (header_length + q.first + q.second - (header_length + q.first)) s) z) (third_lent q s e) t))
