-- The payload's four writes: audience, subject, power byte and tag, citation, each where the one before ends, make one front.
use Prim.Native.Nat.{ℕ}
use mathlib.Core.Path.{◌≡◌, ap, ◌∙◌}
use mathlib.Core.List.{List, [], ◌∷◌, ◌++◌, append_assoc}
use native.Mathlib.Omega.{arith}
use lib.ListN.{length, length-append}
use Rattle.keyline.specs.Limits.{key_length, power_at, payload_length}
use Rattle.lent.specs.Bytes.{put, front}
use Rattle.lent.proofs.Fronts.{front_none, put_front}

pub parts_front : (a s c o o1 o2 o3 o4 : List ℕ) (b t : ℕ) → length a ≡ key_length → length s ≡ key_length
    → o1 ≡ put o 0 a → o2 ≡ put o1 key_length s → o3 ≡ put o2 power_at (b ∷ t ∷ []) → o4 ≡ put o3 payload_length c
    → o4 ≡ front (a ++ (s ++ (b ∷ t ∷ c))) o
parts_front a s c o o1 o2 o3 o4 b t ha hs e1 e2 e3 e4 =
    let p2 : List ℕ = a ++ s in
    let p3 : List ℕ = p2 ++ (b ∷ t ∷ []) in
    let l2 : length p2 ≡ power_at = simp length-append (omega arith) in
    let l3 : length p3 ≡ payload_length = simp length-append (omega arith) in
    let f1 : o1 ≡ front a o = e1 ∙ ap (λ d. put d 0 a) (front_none o) ∙ put_front [] o a in
    let f2 : o2 ≡ front p2 o = e2 ∙ rw (f1, ← ha) (put_front a o s) in
    let f3 : o3 ≡ front p3 o = e3 ∙ rw (f2, ← l2) (put_front p2 o (b ∷ t ∷ [])) in
    let f4 : o4 ≡ front (p3 ++ c) o = e4 ∙ rw (f3, ← l3) (put_front p3 o c) in
    f4 ∙ ap (λ p. front p o) (simp append_assoc)
