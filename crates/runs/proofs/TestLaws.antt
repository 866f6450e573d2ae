-- What `==` and `cmp` on slices of bytes answer, in the tests of specs/Bytes.
use Rattle.std.proofs.Common.{Ordering, ◌≡◌, Bool, true, false, cond, [], ◌∷◌, refl, arith, eqb}
use Rattle.std.specs.Cmp.Lexicographic.{slice_cmp, pointwise}
use Rattle.std.specs.Ordering.{nat_cmp, is_lt}
use Rattle.std.specs.Prelude.{nat_eq, ◌&&◌}
use Rattle.std.proofs.lemmas.Bool.Decides.{nat_tests}
use Rattle.std.proofs.lemmas.Cmp.{same_from_slice_cmp}
use Rattle.runs.specs.Bytes.{Bytes, eq_bytes, lt_bytes}

pub lt_is : (xs ys : Bytes) (o : Ordering) → o ≡ slice_cmp nat_cmp xs ys → is_lt o ≡ lt_bytes xs ys
unfolding lt_bytes
lt_is = same_from_slice_cmp nat_cmp is_lt lt_bytes refl (λ _ _. refl) (λ _ _. refl) (λ x y xs ys o h. grind (arith, nat_tests))

pub eq_is : (xs ys : Bytes) → pointwise nat_eq xs ys ≡ eq_bytes xs ys
unfolding eq_bytes
eq_is [] [] = refl
eq_is [] (y ∷ ys) = refl
eq_is (x ∷ xs) [] = refl
eq_is (x ∷ xs) (y ∷ ys) = go (eqb x y) (eq_is xs ys)
  where
    go : (t : Bool) → pointwise nat_eq xs ys ≡ eq_bytes xs ys → (t && pointwise nat_eq xs ys) ≡ cond t (eq_bytes xs ys) false
    go true e = e
    go false e = refl
