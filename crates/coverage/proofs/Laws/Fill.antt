-- One more turn of a loop over places that fills an array, or that gathers a word. Assumes nothing.
use Prim.Native.Nat.{ℕ, ◌+◌, ◌≤◌, ◌<◌}
use mathlib.Core.Path.{◌≡◌, refl, sym, ap, ◌∙◌, subst}
use mathlib.Core.List.{List}
use native.Mathlib.Decide.{ℕ_discrete, dec_lt}
use native.Mathlib.Omega.{arith}
use lib.ListN.{get_or, set, length-set, replicate}
use lib.Seq.{get_or-set_same, get_or-set_other}
use Rattle.keyset.specs.Word.{bit}
use Rattle.keyset.proofs.Laws.{bit_none}
use Rattle.places.specs.Limits.{delegation_limit}
use Rattle.search.specs.Sets.{Word}
use Rattle.places.proofs.Repeated.{repeated}
use Rattle.coverage.specs.Arrays.{Any, Below, Filled}

-- ---- an array

pub filled_none : (P : ℕ → ℕ → Type 0) → Filled 0 P (replicate delegation_limit 0)
filled_none P = record { len = refl; here = λ d h. absurd (omega arith); rest = λ d h. repeated {A = ℕ} delegation_limit d 0 }

pub filled_more : {P : ℕ → ℕ → Type 0} {g : List ℕ} (d v : ℕ) → Filled d P g → d < delegation_limit → P d v → Filled (d + 1) P (set g d v)
filled_more {P} {g} d v f h p = record {
  len = length-set g d v ∙ f.len;
  here = λ j l. here j l (ℕ_discrete j d);
  rest = λ j l. get_or-set_other g d j v 0 (λ e. omega arith) ∙ f.rest j (omega arith);
}
  where
    here : (j : ℕ) → j < d + 1 → Dec (j ≡ d) → P j (get_or (set g d v) j 0)
    here j l (yes e) =
        subst (λ (z : ℕ). P z (get_or (set g d v) z 0)) (sym e)
        (subst (λ (z : ℕ). P d z) (sym (get_or-set_same g d v 0 (let q = f.len in omega arith))) p)
    here j l (no n) = subst (λ (z : ℕ). P j z) (sym (get_or-set_other g d j v 0 n)) (f.here j (omega (arith, n)))

pub filled_to : {P : ℕ → ℕ → Type 0} {g : List ℕ} {m n : ℕ} → m ≡ n → Filled m P g → Filled n P g
filled_to {P} {g} e f = subst (λ (z : ℕ). Filled z P g) e f

pub filled_map : {n : ℕ} {P Q : ℕ → ℕ → Type 0} {g : List ℕ} → ((d v : ℕ) → d < n → P d v → Q d v) → Filled n P g → Filled n Q g
filled_map f F = record { len = F.len; here = λ d h. f d _ h (F.here d h); rest = F.rest }

-- an element that is not 0 is one of those that were filled
pub filled_held : {n : ℕ} {P : ℕ → ℕ → Type 0} {g : List ℕ} → Filled n P g → (d : ℕ) → 0 < get_or g d 0 → d < n
filled_held {n} {P} {g} f d p = go (dec_lt d n)
  where
    go : Dec (d < n) → d < n
    go (yes h) = h
    go (no h) = absurd (let z = f.rest d (let y : n ≤ d = omega (arith, h) in y) in omega arith)

-- ---- a word

pub any_none : (T : ℕ → ℕ → Type 0) → Word 0 (Any 0 T)
any_none T = record { has = λ k a. absurd (let h = a.lt in omega arith); only = λ k p. absurd (let h = bit_none k in omega arith) }

pub any_map : {T : ℕ → ℕ → Type 0} {n : ℕ} {k : ℕ} → Any n T k → Any (n + 1) T k
any_map a = record { place = a.place; lt = omega (arith, a.lt); is = a.is }

module _ {T : ℕ → ℕ → Type 0} {w : ℕ} (d : ℕ) (f : Word w (Any d T)) where
  -- d gives the one key k
  pub any_more : {r k : ℕ} → bit r k ≡ 1 → ((j : ℕ) → (j ≡ k → ⊥) → bit r j ≡ bit w j) → T d k → ((j : ℕ) → T d j → j ≡ k) → Word r (Any (d + 1) T)
  any_more {r} {k} b o t u = record { has = λ j q. has j q (ℕ_discrete j k); only = λ j q. only j q (ℕ_discrete j k) }
    where
      old : (j : ℕ) → (j ≡ k → ⊥) → (q : Any (d + 1) T j) → Dec (q.place ≡ d) → Any d T j
      old j n q (yes e) = absurd (n (u j (subst (λ (y : ℕ). T y j) e q.is)))
      old j n q (no m) = record { place = q.place; lt = omega (arith, m, q.lt); is = q.is }

      has : (j : ℕ) → Any (d + 1) T j → Dec (j ≡ k) → bit r j ≡ 1
      has j q (yes e) = ap (bit r) e ∙ b
      has j q (no n) = o j n ∙ f.has j (old j n q (ℕ_discrete q.place d))

      only : (j : ℕ) → bit r j ≡ 1 → Dec (j ≡ k) → Any (d + 1) T j
      only j q (yes e) = record { place = d; lt = omega arith; is = subst (λ (y : ℕ). T d y) (sym e) t }
      only j q (no n) = any_map (f.only j (sym (o j n) ∙ q))

  -- d gives none
  pub any_skip : ((j : ℕ) → T d j → ⊥) → Word w (Any (d + 1) T)
  any_skip n = record { has = λ j q. f.has j (old j q (ℕ_discrete q.place d)); only = λ j q. any_map (f.only j q) }
    where
      old : (j : ℕ) (q : Any (d + 1) T j) → Dec (q.place ≡ d) → Any d T j
      old j q (yes e) = absurd (n j (subst (λ (y : ℕ). T y j) e q.is))
      old j q (no m) = record { place = q.place; lt = omega (arith, m, q.lt); is = q.is }

pub below_none : (P : ℕ → Type 0) → Word 0 (Below 0 P)
below_none P = record { has = λ k a. absurd (let h = a.lt in omega arith); only = λ k p. absurd (let h = bit_none k in omega arith) }

module _ {P : ℕ → Type 0} {w : ℕ} (d : ℕ) (f : Word w (Below d P)) where
  pub below_more : {r : ℕ} → bit r d ≡ 1 → ((j : ℕ) → (j ≡ d → ⊥) → bit r j ≡ bit w j) → P d → Word r (Below (d + 1) P)
  below_more {r} b o p = record { has = λ j q. has j q (ℕ_discrete j d); only = λ j q. only j q (ℕ_discrete j d) }
    where
      has : (j : ℕ) → Below (d + 1) P j → Dec (j ≡ d) → bit r j ≡ 1
      has j q (yes e) = ap (bit r) e ∙ b
      has j q (no n) = o j n ∙ f.has j (record { lt = omega (arith, n, q.lt); is = q.is })

      only : (j : ℕ) → bit r j ≡ 1 → Dec (j ≡ d) → Below (d + 1) P j
      only j q (yes e) = record { lt = omega arith; is = subst P (sym e) p }
      only j q (no n) = let a = f.only j (sym (o j n) ∙ q) in record { lt = omega (arith, a.lt); is = a.is }

  pub below_skip : (P d → ⊥) → Word w (Below (d + 1) P)
  below_skip n = record {
    has = λ j q. has j q (ℕ_discrete j d);
    only = λ j q. let a = f.only j q in record { lt = omega (arith, a.lt); is = a.is };
  }
    where
      has : (j : ℕ) → Below (d + 1) P j → Dec (j ≡ d) → bit w j ≡ 1
      has j q (yes e) = absurd (n (subst P e q.is))
      has j q (no m) = f.has j (record { lt = omega (arith, m, q.lt); is = q.is })

pub below_to : {P : ℕ → Type 0} {w m n : ℕ} → m ≡ n → Word w (Below m P) → Word w (Below n P)
below_to {P} {w} e f = subst (λ (z : ℕ). Word w (Below z P)) e f
