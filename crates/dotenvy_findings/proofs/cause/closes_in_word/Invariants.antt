use Rattle.std.proofs.Common.{◌≡◌, length}
use Rattle.dotenvy_findings.specs.Causes.{closes_in_word, closes_in_word_after}
use Rattle.dotenvy_findings.proofs.cause.closes_in_word.Given as goal

-- what is left decides the result
abbrev pub invariant-characters : goal.invariant-characters
invariant-characters l = closes_in_word_after l.before l.rest ≡ closes_in_word l.value

abbrev pub decreases-characters : goal.decreases-characters
decreases-characters l = length l.rest
