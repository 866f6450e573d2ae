-- What the words of N(d) say of covered delegations, live ones among them: what both the live set and the caps ask of coverage. Assumes nothing.
use Prim.Native.Nat.{ℕ, ◌<◌}
use mathlib.Core.Path.{◌≡◌}
use mathlib.Core.List.{List}
use native.Mathlib.Omega.{arith}
use native.Mathlib.Decide.{dec_lt}
use lib.ListN.{get_or}
use Rattle.rules.specs.Rules.{Excluded, revoker, administered, Covered, Uncovered, LiveCovered}
use Rattle.rules.proofs.Evaluation.LiveSet.{live_eligible}
use Rattle.search.specs.Sets.{Word}
use Rattle.coverage.specs.Places.{places, Names}
use Rattle.coverage.specs.Coverage.{Nets, NamedBelow}
use Rattle.coverage.specs.declared.Facts.{Facts}
use Rattle.coverage.proofs.Laws.Fill.{filled_held}

-- a covered delegation is named by a revocation
pub covered_named : (e : Facts) {d : ℕ} → Covered (places e) d → NamedBelow e.target e.revocations d
covered_named e {d} c = go c.excluded
  where
    name : {k : ℕ} → Names e.revoker e.target e.revocations d k → NamedBelow e.target e.revocations d
    name a = record { place = a.place; lt = a.lt; is = a.is.0 }

    go : {k : ℕ} → Excluded (places e) d k → NamedBelow e.target e.revocations d
    go (revoker r) = name r
    go (administered f j h p r s) = name r

module _ (e : Facts) (excluded : List ℕ) (NN : Nets e excluded) where
  pub net_covered : (d : ℕ) → 0 < get_or excluded d 0 → Covered (places e) d
  net_covered d h = (NN.here d (filled_held NN d h)).some h

  pub net_word : (d : ℕ) → 0 < get_or excluded d 0 → Word (get_or excluded d 0) (Excluded (places e) d)
  net_word d h = (NN.here d (filled_held NN d h)).word_is h

  pub covered_net : {d : ℕ} → Covered (places e) d → 0 < get_or excluded d 0
  covered_net {d} c = go (dec_lt 0 (get_or excluded d 0))
    where
      go : Dec (0 < get_or excluded d 0) → 0 < get_or excluded d 0
      go (yes h) = h
      go (no n) = absurd ((NN.here d c.held).none (let z : get_or excluded d 0 ≡ 0 = omega (arith, n) in z) c)

  pub plain_net : {d : ℕ} → Uncovered (places e) d → get_or excluded d 0 ≡ 0
  plain_net {d} u = go (dec_lt 0 (get_or excluded d 0))
    where
      go : Dec (0 < get_or excluded d 0) → get_or excluded d 0 ≡ 0
      go (yes h) = absurd (u.not (net_covered d h))
      go (no n) = omega (arith, n)

  pub uncovered : (d : ℕ) → d < e.delegations → get_or excluded d 0 ≡ 0 → Uncovered (places e) d
  uncovered d h z = record { held = h; not = (NN.here d h).none z }

  pub live_net : {d : ℕ} → LiveCovered (places e) d → 0 < get_or excluded d 0
  live_net v = covered_net (live_eligible v).covered
