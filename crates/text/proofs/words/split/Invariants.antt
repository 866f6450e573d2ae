-- `text::words::split`: no more words than there is room for, WORD_LIMIT of them.
use Rattle.std.proofs.Common.{◌≤◌}
use Rattle.text.proofs.words.split.Given as goal

abbrev pub invariant-loop-word : goal.invariant-loop-word
invariant-loop-word l =
    (goal.iterator-loop-word).can_next l.word-iterator ×
    (goal.iterator-loop-word).is_finite l.word-iterator ×
    (l.count ≤ 12)
