-- Request #111, stated of the definitions: revocations only take away. `only_take_away` of proofs/Stores/Revoking proves it.
use Rattle.std.specs.Prelude.{ℕ, ◌≤◌, ◌↔◌}
use Rattle.std.proofs.Math.Option.{Option, none, some}
use Rattle.rules.specs.Rules.{Shape, Graph, Live, PositiveIs, EffectiveIs, ConveyedIs}

-- H holds the delegations of G, and the revocations of G with perhaps more, be their targets held or not.
pub record Adds {W : Shape} (G H : Graph W) : Type 0 where
  pub there : {d : W.Del} → G.Held d → H.Held d
  pub back : {d : W.Del} → H.Held d → G.Held d
  pub more : {k : W.Key} {d : W.Del} → G.Revokes k d → H.Revokes k d

-- o is no level, or no more than p
pub data NoMore : Option ℕ → Option ℕ → Type 0 where
  none_of : {p : Option ℕ} → NoMore none p
  at_most : {l m : ℕ} → l ≤ m → NoMore (some l) (some m)

-- "never makes a dead delegation live, never raises any effective or conveyed power, gives no subject a new member, and changes no
-- positive power"
pub record OnlyTakesAway {W : Shape} (G H : Graph W) : Type 0 where
  pub positive : {s x : W.Key} {o : Option ℕ} → PositiveIs G s x o ↔ PositiveIs H s x o
  pub dead : {d : W.Del} → ¬ Live G d → ¬ Live H d
  pub effective : {s x : W.Key} {o p : Option ℕ} → EffectiveIs H s x o → EffectiveIs G s x p → NoMore o p
  pub conveyed : {d : W.Del} {o p : Option ℕ} → ConveyedIs H d o → ConveyedIs G d p → NoMore o p
  pub member : {s x : W.Key} {l : ℕ} → EffectiveIs H s x (some l) → ¬ EffectiveIs G s x none
