-- Power levels, from document 01: "Levels (power.rs): Relay `L` rank 0, Read `R` 1, Edit `E` 2, Admin `A` 3. Order is by rank, never by byte."
-- `cond t a b` is a where t holds, and b where it does not. Rests on nothing.
use Rattle.std.specs.Prelude.{ℕ, Bool, true, false, cond, eqb, leb, Result, Ok, Err}
use Rattle.power_levels.specs.declared.power.Power.{Power}
use Rattle.power_levels.specs.declared.power.Power.TheVariants.{Relay, Read, Edit, Admin}
use Rattle.power_levels.specs.declared.power.InvalidPower.{InvalidPower}

abbrev pub rank_of : Power → ℕ
rank_of Relay = 0
rank_of Read = 1
rank_of Edit = 2
rank_of Admin = 3

-- how many levels there are
abbrev pub level_count : ℕ
level_count = 4

-- `L`, `R`, `E`, `A`
abbrev pub byte_of : Power → ℕ
byte_of Relay = 76
byte_of Read = 82
byte_of Edit = 69
byte_of Admin = 65

-- the level of rank r, or Admin where no level has it
unfoldable pub at_rank : ℕ → Power
at_rank r = cond (eqb r (rank_of Relay)) Relay (cond (eqb r (rank_of Read)) Read (cond (eqb r (rank_of Edit)) Edit Admin))

-- the level whose byte b is, or the byte for "a power byte that is none of the four"
unfoldable pub level_of : ℕ → Result Power InvalidPower
level_of b =
    cond (eqb b (byte_of Relay)) (Ok Relay)
    (cond (eqb b (byte_of Read)) (Ok Read)
    (cond (eqb b (byte_of Edit)) (Ok Edit)
    (cond (eqb b (byte_of Admin)) (Ok Admin)
    (Err (record { 0 = b })))))

-- p is q or above it
abbrev pub at_least : Power → Power → Bool
at_least p q = leb (rank_of q) (rank_of p)

-- power.rs: "At least `Read`: may decrypt."
abbrev pub is_reader : Power → Bool
is_reader p = at_least p Read

-- power.rs: "At least `Edit`: may write."
abbrev pub is_editor : Power → Bool
is_editor p = at_least p Edit

-- power.rs: "Exactly `Admin`: may govern."
abbrev pub is_admin : Power → Bool
is_admin Relay = false
is_admin Read = false
is_admin Edit = false
is_admin Admin = true
