-- S1 to S12: every line of the table is right by the definitions. One theorem, by computation through the plain evaluator.
use mathlib.Core.Bool.{true}
use mathlib.Core.List.{Memᴰ}
use mathlib.Core.Path.{◌≡◌, refl}
use Rattle.rules.specs.Rules.{Capped}
use Rattle.rules.specs.Rows.{level_of}
use Rattle.rules.specs.Numbered.{insert, add, adding, inserted}
use Rattle.rules.specs.Facts.{Specimen, Holds}
use Rattle.rules.specs.Specimens.{specimens}
use Rattle.rules.proofs.Plain.Evaluate.{any, keep, best, total, agree, mem, ascend, tab, look, until, rounds, cell, self, val, edge, via, raise, round, levels, keys_of, same, by_id, flagged, naming, stands_in, issuer_in, is_subject, at_admin, excludes, excluded, covered, eligible, usable, joining, joined, live_step, live_flags, is_live_uncovered, isLive, cap_in, cap_of, cap_raise, cap_step, cap_table, evaluate, through, positive_of, effective_of, members_of, held_of, excluded_of, live_of, conveyed_of, standing_of, closure_of, closure_revs_of}
use Rattle.rules.proofs.Plain.Tests.{byte_of, number_of, same_list, test, every, passes, passing, passed}

computed : every passing specimens ≡ true
unfolding specimens Capped level_of insert add adding inserted any keep best total agree mem ascend tab look until rounds cell self val edge via raise round levels keys_of same by_id flagged naming stands_in issuer_in is_subject at_admin excludes excluded covered eligible usable joining joined live_step live_flags is_live_uncovered isLive cap_in cap_of cap_raise cap_step cap_table evaluate through positive_of effective_of members_of held_of excluded_of live_of conveyed_of standing_of closure_of closure_revs_of byte_of number_of same_list test every passes passing
computed = refl

-- The one theorem.
pub specimens_hold : (s : Specimen) → Memᴰ s specimens → Holds s
specimens_hold = passed specimens computed
