-- The index of delegations by subject and issuer: from the last delegation of a pair down through the earlier ones. Assumes nothing.
use Rattle.std.specs.Prelude.{ℕ, zero, suc, max, ◌+◌, ◌*◌, ◌≤◌, ◌<◌, ◌≡◌, List, get_or}
use Rattle.keyset.specs.Word.{bit}
use Rattle.places.specs.Limits.{key_limit, delegation_limit}
use Rattle.search.specs.Graph.{Graph, Placed}

-- next is one more than the last place below n of a delegation about r that u issued, and 0 where there is none
pub record Last (issuer subject : List ℕ) (n r u next : ℕ) : Type 0 where
  pub found : (d : ℕ) → next ≡ suc d → (d < n) × (get_or subject d 0 ≡ r) × (get_or issuer d 0 ≡ u)
  pub most : (d : ℕ) → d < n → get_or subject d 0 ≡ r → get_or issuer d 0 ≡ u → d < next

-- the index of the first n delegations: each subject's issuers, each pair's last delegation, and for each delegation the earlier one of its pair
pub record Indexed (issuer subject : List ℕ) (n : ℕ) (issuers last earlier : List ℕ) : Type 0 where
  pub issues : (d : ℕ) → d < n → bit (get_or issuers (get_or subject d 0) 0) (get_or issuer d 0) ≡ 1
  pub start : (r u : ℕ) → r < key_limit → u < key_limit → Last issuer subject n r u (get_or last (r * key_limit + u) 0)
  pub before : (d : ℕ) → d < n → Last issuer subject d (get_or subject d 0) (get_or issuer d 0) (get_or earlier d 0)

-- the greatest of the first n elements
unfoldable pub greatest_below : ℕ → List ℕ → ℕ
greatest_below zero xs = zero
greatest_below (suc n) xs = max (greatest_below n xs) (get_or xs n 0)

-- of how many delegations the index is, as it tells itself: one more than the last place to which a pair leads
abbrev pub indexed_count : List ℕ → ℕ
indexed_count last = greatest_below (key_limit * key_limit) last

-- What a search may take for granted: places are places, the index is that of the first count delegations, each usable one is indexed, and its
-- subject is among the subjects.
pub record Ready (G : Graph) (count : ℕ) (issuers last earlier : List ℕ) (subjects : ℕ) : Type 0 where
  pub placed : Placed G
  pub count_le : count ≤ delegation_limit
  pub indexed : Indexed G.issuer G.subject count issuers last earlier
  pub held : (d : ℕ) → 0 < get_or G.grades d 0 → d < count
  pub covers : (d : ℕ) → 0 < get_or G.grades d 0 → bit subjects (get_or G.subject d 0) ≡ 1
