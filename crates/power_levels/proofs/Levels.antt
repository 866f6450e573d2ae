-- Laws of the levels: a level and its byte say each other, and so do a level and its rank. Callers reason by these, not by cases.
use Prim.Native.Nat.{ℕ, ◌<◌}
use mathlib.Core.Path.{◌≡◌, refl, sym, ap, ◌∙◌}
use mathlib.Core.Bool.{Bool, true, false, cond}
use lib.Dec.{eqb, lit<}
use borrow.Author.Tests.{eqb-true}
use Rattle.std.specs.Prelude.{Result, Ok, Err}
use Rattle.power_levels.specs.Power.{rank_of, at_rank, byte_of, level_of, level_count}
use Rattle.power_levels.specs.declared.power.Power.{Power}
use Rattle.power_levels.specs.declared.power.Power.TheVariants.{Relay, Read, Edit, Admin}
use Rattle.power_levels.specs.declared.power.InvalidPower.{InvalidPower}

-- a level's own byte says that level
pub level_byte : (p : Power) → level_of (byte_of p) ≡ Ok p
unfolding level_of
level_byte Relay = refl
level_byte Read = refl
level_byte Edit = refl
level_byte Admin = refl

-- and no other byte does
pub byte_level : (b : ℕ) (p : Power) → level_of b ≡ Ok p → b ≡ byte_of p
unfolding level_of
byte_level b p e = go (eqb b (byte_of Relay)) (eqb b (byte_of Read)) (eqb b (byte_of Edit)) (eqb b (byte_of Admin)) refl refl refl refl e
  where
    go : (l r d a : Bool) → eqb b (byte_of Relay) ≡ l → eqb b (byte_of Read) ≡ r → eqb b (byte_of Edit) ≡ d → eqb b (byte_of Admin) ≡ a
        → cond {A = Result Power InvalidPower} l (Ok Relay) (cond r (Ok Read) (cond d (Ok Edit) (cond a (Ok Admin) (Err (record { 0 = b }))))) ≡ Ok p
        → b ≡ byte_of p
    go true r d a el er ed ea e = let s : Relay ≡ p = cc in eqb-true _ _ el ∙ ap byte_of s
    go false true d a el er ed ea e = let s : Read ≡ p = cc in eqb-true _ _ er ∙ ap byte_of s
    go false false true a el er ed ea e = let s : Edit ≡ p = cc in eqb-true _ _ ed ∙ ap byte_of s
    go false false false true el er ed ea e = let s : Admin ≡ p = cc in eqb-true _ _ ea ∙ ap byte_of s
    go false false false false el er ed ea e = cc

-- two levels with one byte are one level
pub same_byte : (p q : Power) → byte_of p ≡ byte_of q → p ≡ q
same_byte p q e = let f : ◌≡◌ {A = Result Power InvalidPower} (Ok p) (Ok q) = rw (← level_byte p, ← level_byte q, e) in cc

-- ranks run below the number of levels
pub rank_below : (p : Power) → rank_of p < level_count
rank_below Relay = lit< tt
rank_below Read = lit< tt
rank_below Edit = lit< tt
rank_below Admin = lit< tt

-- two levels with one rank are one level: the rank says which
pub rank_back : (p : Power) → at_rank (rank_of p) ≡ p
unfolding at_rank
rank_back Relay = refl
rank_back Read = refl
rank_back Edit = refl
rank_back Admin = refl

pub same_rank : (p q : Power) → rank_of p ≡ rank_of q → p ≡ q
same_rank p q e = sym (rank_back p) ∙ ap at_rank e ∙ rank_back q
