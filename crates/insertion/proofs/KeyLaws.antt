-- The keys of a certificate, put into the table one after the other. Rests on the laws of fresh runs.
use Prim.Native.Nat.{ℕ, ◌+◌, ◌≤◌, ◌<◌}
use mathlib.Core.Path.{◌≡◌, sym, ap, ◌∙◌}
use mathlib.Core.List.{List, [], ◌∷◌, ◌++◌}
use native.Mathlib.Omega.{arith}
use lib.ListN.{length, length-append}
use Rattle.runs.specs.Bytes.{Bytes, run_length, run_at}
use Rattle.runs.specs.Members.{fresh}
use Rattle.runs.specs.Table.{runs, GoodRuns, Internable, InternedAs}
use Rattle.runs.specs.declared.table.Interned.{Interned}
use Rattle.runs.proofs.FreshLaws.{fresh_more}
use Rattle.runs.proofs.PartLaws.{tabulate_long}
use Rattle.runs.proofs.TableLaws.{runs_long, kept_at}
use Rattle.keyline.specs.Limits.{key_limit}

-- the table u of m keys has those of t, of n, and the fresh ones of ks
pub record WithKeys (t u : Bytes) (n m : ℕ) (ks : List Bytes) : Type 0 where
  pub good : GoodRuns key_limit u m
  pub held : runs u m ≡ runs t n ++ fresh (runs t n) ks

-- the key k stands at a held place
pub record Stands (u : Bytes) (m : ℕ) (i : ℕ) (k : Bytes) : Type 0 where
  pub within : i < m
  pub is : run_at u i ≡ k

-- there is room for the fresh ones of ks
abbrev pub KeyRoom : Bytes → ℕ → List Bytes → Type 0
KeyRoom t n ks = n + length (fresh (runs t n) ks) ≤ key_limit

-- room for one is room for the rest behind it
rest_long : (l : List Bytes) (k : Bytes) (ks : List Bytes) → length (l ++ fresh l (k ∷ [])) + length (fresh (l ++ fresh l (k ∷ [])) ks) ≡ length l + length (fresh l (k ∷ ks))
rest_long l k ks =
    sym (length-append (l ++ fresh l (k ∷ [])) (fresh (l ++ fresh l (k ∷ [])) ks)) ∙ ap (λ (m : List Bytes). length m) (fresh_more l (k ∷ []) ks) ∙ length-append l (fresh l (k ∷ ks))

module _ (t : Bytes) (n : ℕ) (g : GoodRuns key_limit t n) (k : Bytes) (ks : List Bytes) (fits : length k ≡ run_length) (room : KeyRoom t n (k ∷ ks)) where
  pub can_intern : Internable key_limit t n k
  can_intern = record {
    good = g;
    few = omega arith;
    space =
        let a = rest_long (runs t n) k ks in
        let b = length-append (runs t n) (fresh (runs t n) (k ∷ [])) in
        let l = runs_long key_limit t n g in
        omega arith;
    fits = fits;
  }

  pub rest_room : (u : Bytes) (r : Interned) → InternedAs key_limit t u n k r → KeyRoom u r.count ks
  rest_room u r i =
      let a = rest_long (runs t n) k ks in
      let l = runs_long key_limit t n g in
      let e : length (runs u r.count) ≡ r.count = runs_long key_limit u r.count i.good in
      let f : length (runs u r.count) + length (fresh (runs u r.count) ks) ≡ length (runs t n) + length (fresh (runs t n) (k ∷ ks)) = rw i.held a in
      omega arith

-- what stood in the table stands there still
pub stands_on : (t u : Bytes) (n m : ℕ) (l : List Bytes) → GoodRuns key_limit u m → runs u m ≡ runs t n ++ l → (i : ℕ) (k : Bytes) → Stands t n i k → Stands u m i k
stands_on t u n m l g e i k s =
    let a = runs_long key_limit u m g in
    let b : length (runs u m) ≡ length (runs t n) + length l = ap (λ (x : List Bytes). length x) e ∙ length-append (runs t n) l in
    let c : length (runs t n) ≡ n = tabulate_long (run_at t) n in
    let w = s.within in
    record { within = omega arith; is = kept_at t u n m l e i w ∙ s.is }

pub stands : (t u : Bytes) (n : ℕ) (k : Bytes) (r : Interned) → InternedAs key_limit t u n k r → Stands u r.count r.place k
stands t u n k r i = record { within = i.within; is = i.is }

pub one_key : (t u : Bytes) (n : ℕ) (k : Bytes) (r : Interned) → InternedAs key_limit t u n k r → WithKeys t u n r.count (k ∷ [])
one_key t u n k r i = record { good = i.good; held = i.held }

-- three keys
module _ (t u v w : Bytes) (n : ℕ) (a b c : Bytes) (p q r : Interned) (i : InternedAs key_limit t u n a p) (j : InternedAs key_limit u v p.count b q) (k : InternedAs key_limit v w q.count c r) where
  two : runs v q.count ≡ runs t n ++ fresh (runs t n) (a ∷ b ∷ [])
  two = j.held ∙ rw i.held (fresh_more (runs t n) (a ∷ []) (b ∷ []))

  pub three_keys : WithKeys t w n r.count (a ∷ b ∷ c ∷ [])
  three_keys = record { good = k.good; held = k.held ∙ rw two (fresh_more (runs t n) (a ∷ b ∷ []) (c ∷ [])) }

  pub first_stands : Stands w r.count p.place a
  first_stands =
      stands_on v w q.count r.count (fresh (runs v q.count) (c ∷ [])) k.good k.held p.place a
      (stands_on u v p.count q.count (fresh (runs u p.count) (b ∷ [])) j.good j.held p.place a (stands t u n a p i))

  pub second_stands : Stands w r.count q.place b
  second_stands = stands_on v w q.count r.count (fresh (runs v q.count) (c ∷ [])) k.good k.held q.place b (stands u v p.count b q j)

  pub third_stands : Stands w r.count r.place c
  third_stands = stands v w q.count c r k
