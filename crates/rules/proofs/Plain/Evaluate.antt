-- Document 01 computed plainly: D1 to D3 over all pairs of held keys until nothing rises, the live set and the caps by rounds, without
-- contexts and without rejecting candidates early. Nothing is proved here, and nobody has to believe it: Answers proves each of its
-- answers right by the definitions, and Specimens has S1 to S12 computed by it. (A branch that may not be read is bound by `let`: it waits.)
use Prim.Native.Nat.{ℕ, zero, suc, pred, ◌+◌, min, max}
use mathlib.Core.Bool.{Bool, true, false, not, cond, ◌&&◌, ◌||◌}
use mathlib.Core.List.{List, [], ◌∷◌, ◌++◌, map}
use mathlib.Core.Option.{Option, none, some}
use lib.Dec.{eqb, ltb}
use Rattle.rules.specs.Rules.{Capped, Standing, live, revoked, unsupported}
use Rattle.rules.specs.Rows.{level_of}
use Rattle.rules.specs.Numbered.{Del, Rev, Holding, insert}

-- ## Lists
module _ {A : Type 0} where
  unfoldable pub any : (A → Bool) → List A → Bool
  any p [] = false
  any p (x ∷ xs) = let r = any p xs in p x || r

  unfoldable pub keep : (A → Bool) → List A → List A
  keep p [] = []
  keep p (x ∷ xs) = let r = keep p xs in cond (p x) (x ∷ r) r

  unfoldable pub best : (A → ℕ) → List A → ℕ
  best f [] = 0
  best f (x ∷ xs) = max (f x) (best f xs)

  unfoldable pub total : (A → ℕ) → List A → ℕ
  total f [] = 0
  total f (x ∷ xs) = f x + total f xs

  -- whether all the fields agree
  unfoldable pub agree : List (A → ℕ) → A → A → Bool
  agree [] x y = true
  agree (f ∷ fs) x y = eqb (f x) (f y) && agree fs x y

unfoldable pub mem : ℕ → List ℕ → Bool
mem n = any (eqb n)

unfoldable pub ascend : List ℕ → List ℕ
ascend [] = []
ascend (x ∷ xs) = insert (λ x. x) x (ascend xs)

-- f tabulated by the key k, and what a table has at n (b where it has nothing)
unfoldable pub tab : {A B : Type 0} → (A → ℕ) → (A → B) → List A → List (ℕ × B)
tab k f = map (λ x. (k x, f x))

unfoldable pub look : {B : Type 0} → List (ℕ × B) → ℕ → B → B
look [] n b = b
look (e ∷ es) n b = let r = look es n b in cond (eqb e.0 n) e.1 r

-- ## Rounds
-- step until the size rises no more, n times at most
unfoldable pub until : {A : Type 0} → (A → ℕ) → (A → A) → ℕ → A → A
until size step zero a = a
until size step (suc n) a = let b = step a in let r = until size step n b in cond (ltb (size a) (size b)) r a

-- step until it raises no value at the points ps; none goes above B
unfoldable pub rounds : {A P : Type 0} → List P → (A → P → ℕ) → ℕ → (A → A) → A → A
rounds ps val B step = until (λ a. total (val a) ps) step (suc (total (λ p. B) ps))

-- ## D1 to D3: a table of rows of bytes, each 0 for no level and l + 1 for the level l
abbrev pub Table : Type 0
Table = List (ℕ × List (ℕ × ℕ))

unfoldable pub cell : Table → ℕ → ℕ → ℕ
cell T r x = look (look T r []) x 0

-- D1: no table is needed
unfoldable pub self : List ℕ → ℕ → ℕ → ℕ
self N r x = cond (eqb r x && not (mem r N)) 4 0

unfoldable pub val : List ℕ → Table → ℕ → ℕ → ℕ
val N T r x = max (self N r x) (cell T r x)

module _ (ks : List ℕ) (E : List Del) (N : List ℕ) (c : Del → ℕ) where
  -- D2 by one delegation, D3 by one key
  unfoldable pub edge : Table → ℕ → ℕ → Del → ℕ
  edge T r x d = let v = min (val N T r d.issuer) (suc (c d)) in cond (eqb d.subject r && (eqb d.audience x && not (mem x N))) v 0

  unfoldable pub via : Table → ℕ → ℕ → ℕ → ℕ
  via T r x u = let v = min (val N T r u) (val N T u x) in cond (not (eqb u r)) v 0

  unfoldable pub raise : Table → ℕ → ℕ → ℕ
  raise T r x = max (cell T r x) (max (best (edge T r x) E) (best (via T r x) ks))

  unfoldable pub round : Table → Table
  round T = tab (λ r. r) (λ r. tab (λ x. x) (raise T r) ks) ks

  unfoldable pub levels : Table
  levels = rounds ks (λ T r. total (cell T r) ks) (total (λ x. 4) ks) round []

-- ## The store
-- Its keys, ascending.
unfoldable pub keys_of : List Del → List Rev → List ℕ
keys_of ds vs = ascend (map (λ d. d.issuer) ds ++ (map (λ d. d.audience) ds ++ (map (λ d. d.subject) ds ++ map (λ v. v.issuer) vs)))

-- The fields of a delegation, and whether two agree in all.
abbrev pub fields : List (Del → ℕ)
fields = (λ d. d.digest) ∷ (λ d. d.issuer) ∷ (λ d. d.audience) ∷ (λ d. d.subject) ∷ (λ d. d.power) ∷ []

unfoldable pub same : Del → Del → Bool
same = agree fields

-- Tables by digest; a flag is a number above 0.
abbrev pub Marks : Type 0
Marks = List (ℕ × ℕ)

unfoldable pub by_id : Marks → ℕ → Del → ℕ
by_id a b d = look a d.digest b

unfoldable pub flagged : Marks → Del → Bool
flagged a d = ltb 0 (by_id a 0 d)

-- The held revocations that name d.
unfoldable pub naming : Holding → Del → List Rev
naming S d = keep (λ v. eqb v.target d.digest) S.revs

unfoldable pub stands_in : List ℕ → Table → ℕ → ℕ → Bool
stands_in N T r x = ltb 0 (val N T r x)

-- the issuer's byte over the subject with E, exclusion ns, c
unfoldable pub issuer_in : List ℕ → List Del → List ℕ → (Del → ℕ) → Del → ℕ
issuer_in ks E ns c d = val ns (levels ks E ns c) d.subject d.issuer

-- P is the table of positive levels.
module _ (S : Holding) (ks : List ℕ) (P : Table) where
  -- ## Coverage
  unfoldable pub is_subject : ℕ → Bool
  is_subject n = any (λ d. eqb d.subject n) S.dels

  unfoldable pub at_admin : ℕ → ℕ → Bool
  at_admin n k = eqb (val [] P n k) 4

  unfoldable pub excludes : Del → ℕ → Bool
  excludes d n = any (λ v. eqb v.issuer n || (is_subject n && at_admin n v.issuer)) (naming S d)

  unfoldable pub excluded : Del → List ℕ
  excluded d = keep (excludes d) ks

  unfoldable pub covered : Del → Bool
  covered d = any (stands_in [] P d.subject) (excluded d)

  -- ## Live
  unfoldable pub eligible : Del → Bool
  eligible d =
      let ns = excluded d in
      covered d && (not (mem d.issuer ns) && (not (mem d.subject ns) && not (any (λ v. eqb v.issuer d.audience) (naming S d))))

  unfoldable pub usable : Marks → List Del
  usable a = keep (λ d. not (covered d) || flagged a d) S.dels

  unfoldable pub joining : List Del → Del → Bool
  joining E d = ltb 0 (issuer_in ks E (excluded d) (λ e. e.power) d)

  unfoldable pub joined : Marks → List Del → Del → Bool
  joined a E d = flagged a d || (eligible d && joining E d)

  unfoldable pub live_step : Marks → Marks
  live_step a = let E = usable a in tab (λ d. d.digest) (λ d. cond (joined a E d) 1 0) S.dels

  unfoldable pub live_flags : Marks
  live_flags = rounds (keep covered S.dels) (λ a. by_id a 0) 1 live_step []

  -- TU: the table with E = all uncovered and the live covered ones, which F marks
  unfoldable pub is_live_uncovered : Table → Del → Bool
  is_live_uncovered TU d = not (covered d) && stands_in [] TU d.subject d.issuer

  unfoldable pub isLive : Marks → Table → Del → Bool
  isLive F TU d = is_live_uncovered TU d || flagged F d

  -- ## Caps: F marks the live covered ones, L lists the live ones
  unfoldable pub cap_in : Marks → Del → ℕ
  cap_in a d = cond (covered d) (by_id a 0 d) d.power

  unfoldable pub cap_of : List Del → Marks → Del → ℕ
  cap_of L a d = Capped d.power (level_of (issuer_in ks L (excluded d) (cap_in a) d))

  unfoldable pub cap_raise : Marks → List Del → Marks → Del → ℕ
  cap_raise F L a d = let v = max (by_id a 0 d) (cap_of L a d) in cond (flagged F d) v (by_id a 0 d)

  unfoldable pub cap_step : Marks → List Del → Marks → Marks
  cap_step F L a = tab (λ d. d.digest) (cap_raise F L a) S.dels

  unfoldable pub cap_table : Marks → List Del → Marks
  cap_table F L = rounds (keep (flagged F) S.dels) (λ a. by_id a 0) 3 (cap_step F L) []

-- ## All of it
pub record Eval : Type 0 where
  pub keys : List ℕ
  pub positive : Table
  pub flags : Marks
  pub usables : Table
  pub lives : List Del
  pub caps : Marks
  pub effective : Table

unfoldable pub evaluate : Holding → Eval
evaluate S =
    let ks = keys_of S.dels S.revs in
    let P = levels ks S.dels [] (λ d. d.power) in
    let F = live_flags S ks P in
    let TU = levels ks (usable S ks P F) [] (λ d. d.power) in
    let L = keep (isLive S ks P F TU) S.dels in
    let C = cap_table S ks P F L in
    record { keys = ks; positive = P; flags = F; usables = TU; lives = L; caps = C; effective = levels ks L [] (cap_in S ks P C) }

-- ## The queries: e is what the store S evaluates to
unfoldable pub through : ℕ → Option ℕ → Option ℕ
through p none = none
through p (some l) = some (min p l)

module _ (S : Holding) (e : Eval) where
  unfoldable pub positive_of : ℕ → ℕ → Option ℕ
  positive_of s x = level_of (val [] e.positive s x)

  unfoldable pub effective_of : ℕ → ℕ → Option ℕ
  effective_of s x = level_of (val [] e.effective s x)

  unfoldable pub members_of : ℕ → List (ℕ × ℕ)
  members_of s = map (λ x. (x, pred (val [] e.effective s x))) (keep (λ x. not (eqb x s) && stands_in [] e.effective s x) e.keys)

  unfoldable pub subjects_of : List ℕ
  subjects_of = keep (is_subject S e.keys e.positive) e.keys

  unfoldable pub held_of : Del → Bool
  held_of d = any (same d) S.dels

  unfoldable pub excluded_of : Del → List ℕ
  excluded_of d = excluded S e.keys e.positive d

  unfoldable pub live_of : Del → Bool
  live_of d = held_of d && isLive S e.keys e.positive e.flags e.usables d

  unfoldable pub conveyed_of : Del → Option ℕ
  conveyed_of d =
      let cap = some (cap_in S e.keys e.positive e.caps d) in
      let plain = through d.power (effective_of d.subject d.issuer) in
      let conveyed = cond (flagged e.flags d) cap plain in
      cond (live_of d) conveyed none

  -- of a held delegation
  unfoldable pub standing_of : Del → Standing
  standing_of d = let dead = cond (any (λ v. true) (naming S d)) revoked unsupported in cond (live_of d) live dead

  unfoldable pub closure_of : ℕ → List Del
  closure_of s = keep (λ d. stands_in [] e.positive s d.subject) S.dels

  unfoldable pub closure_revs_of : ℕ → List Rev
  closure_revs_of s = keep (λ v. any (λ d. eqb v.target d.digest) (closure_of s)) S.revs

  unfoldable pub delegations_to_of : ℕ → ℕ → List Del
  delegations_to_of s x = keep (λ d. eqb d.subject s && eqb d.audience x) S.dels
