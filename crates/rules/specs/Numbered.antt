-- Stores whose keys and digests are numbers: what the specimens are written in and what the plain evaluator (proofs/Plain) computes on.
-- 32 bytes, first byte first, read as one number have the order of the bytes, so nothing that a rule can see is lost.
use Rattle.std.specs.Prelude.{ℕ, ◌<◌, true, false, ◌≡◌, eqb, ltb}
use mathlib.Core.List.{List, [], ◌∷◌, Memᴰ}
use Rattle.rules.specs.Rules.{Shape, Graph, Revocations, Store, graph}

pub record Del : Type 0 where
  pub digest : ℕ
  pub issuer : ℕ
  pub audience : ℕ
  pub subject : ℕ
  pub power : ℕ

pub record Rev : Type 0 where
  pub digest : ℕ
  pub issuer : ℕ
  pub target : ℕ

-- What a store holds.
pub record Holding : Type 0 where
  pub dels : List Del
  pub revs : List Rev

-- The shape of document 01's rules that these are, and the store and graph that a holding is.
abbrev pub World : Shape
World = record { Key = ℕ; Del = Del; issuer = λ d. d.issuer; audience = λ d. d.audience; subject = λ d. d.subject; power = λ d. d.power }

abbrev pub world_revocations : Revocations World
world_revocations = record { Rev = Rev; revoker = λ v. v.issuer; Names = λ v d. v.target ≡ d.digest }

abbrev pub store : Holding → Store World world_revocations
store S = record { HeldDel = λ d. Memᴰ d S.dels; HeldRev = λ v. Memᴰ v S.revs }

abbrev pub world : Holding → Graph World
world S = graph (store S)

-- The order of keys, and the order by k, as by digest.
abbrev pub Less : ℕ → ℕ → Type 0
Less m n = m < n

abbrev pub Lower : {A : Type 0} → (A → ℕ) → A → A → Type 0
Lower k x y = k x < k y

-- x put into a list that ascends by k; where one stands at its place already, the list stays
unfoldable pub insert : {A : Type 0} → (A → ℕ) → A → List A → List A
insert k x [] = x ∷ []
insert k x (y ∷ ys) =
    let r = insert k x ys in
    elim (ltb (k x) (k y)) [ true ↦ x ∷ y ∷ ys | false ↦ elim (eqb (k x) (k y)) [ true ↦ y ∷ ys | false ↦ y ∷ r ] ]

-- Insertions, first to last, into the empty store.
pub data Cert : Type 0 where
  delegation : Del → Cert
  revocation : Rev → Cert

unfoldable pub add : Holding → Cert → Holding
add S (delegation d) = record { dels = insert (λ d. d.digest) d S.dels; revs = S.revs }
add S (revocation v) = record { dels = S.dels; revs = insert (λ v. v.digest) v S.revs }

unfoldable pub adding : Holding → List Cert → Holding
adding S [] = S
adding S (c ∷ cs) = adding (add S c) cs

unfoldable pub inserted : List Cert → Holding
inserted cs = adding (record { dels = []; revs = [] }) cs
