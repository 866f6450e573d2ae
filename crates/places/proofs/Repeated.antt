-- An array as a loop begins to fill it has one value at every place, and past its end too, where that value is what a read gives. Assumes nothing.
use Prim.Native.Nat.{ℕ, ◌<◌, ◌≤◌}
use mathlib.Core.Path.{◌≡◌, sym, subst}
use native.Mathlib.Decide.{dec_lt}
use native.Mathlib.Omega.{arith}
use lib.ListN.{get_or, replicate, length-replicate, get_or-replicate, get_or-eq_default}

pub repeated : {A : Type 0} (n i : ℕ) (a : A) → get_or (replicate n a) i a ≡ a
repeated {A} n i a = go (dec_lt i n)
  where
    go : Dec (i < n) → get_or (replicate n a) i a ≡ a
    go (yes h) = get_or-replicate n i a a h
    go (no h) = get_or-eq_default (replicate n a) a (subst (λ (k : ℕ). k ≤ i) (sym (length-replicate n a)) (let q : n ≤ i = omega (arith, h) in q))
