-- How many keys, delegations and revocations a store holds at most, and how many levels there are: the names of keyline and power_levels, for
-- everything that works on places.
pub use Rattle.keyline.specs.Limits.{key_limit, delegation_limit, revocation_limit}
pub use Rattle.power_levels.specs.Power.{level_count}
