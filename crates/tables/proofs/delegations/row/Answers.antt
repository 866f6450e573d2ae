use mathlib.Core.Path.{◌≡◌}
use Rattle.places.specs.declared.KeyPlace.{KeyPlace}
use Prim.Native.Nat.{ℕ}
use mathlib.Core.Bool.{Bool}
use Rattle.tables.specs.declared.delegations.DelegationRow.{DelegationRow}
use Rattle.tables.proofs.delegations.row.Goals as goal

made : {i j a b s t : KeyPlace} {p q : ℕ} {c d : Bool} → i ≡ j → a ≡ b → s ≡ t → p ≡ q → c ≡ d
    → ◌≡◌ {A = DelegationRow} (record { issuer = i; audience = a; subject = s; power = p; cited = c }) (record { issuer = j; audience = b; subject = t; power = q; cited = d })
made x y z u v = cc

pub returns : goal.returns
returns c = made c.key_at-i.ensures c.key_at-a.ensures c.key_at-s.ensures c.rank_at-p.ensures c.flag_at-c.ensures
