-- Characters over which a reading or a walk goes on as it is.
use Rattle.std.specs.Prelude.{ℕ, Bool, false, not, ◌&&◌, ◌||◌, ◌==◌, nat_le, Option}
use Rattle.dotenvy_format.specs.declared.walk.LineMode.{LineMode}
use Rattle.dotenvy_format.specs.declared.walk.LineMode.TheVariants as mode
use Rattle.dotenvy_format.specs.Characters.{backslash, dollar, hash, is_quote, space}
use Rattle.dotenvy_findings.specs.declared.state.Before.TheVariants.{Text}
use Rattle.dotenvy_findings.specs.declared.state.State.{State}
use Rattle.dotenvy_findings.specs.declared.state.State.TheVariants.{Comment, Double, Outside, Single}
use Rattle.dotenvy_findings.specs.Marks.{is_after_return}

-- a character of ASCII that can be seen, but is no quote, backslash or dollar
abbrev pub is_plain : ℕ → Bool
is_plain c = (nat_le 33 c && nat_le c 126) && not (is_quote c || c == backslash || c == dollar)

-- such a character, or a space
abbrev pub is_plain_or_space : ℕ → Bool
is_plain_or_space c = is_plain c || c == space

-- a reading in this state and behind this character stays in the state over one more character, of
-- which nothing is told
abbrev pub stays : State → Option ℕ → ℕ → Bool
stays (Outside Text) before c = not (is_after_return before) && is_plain c
stays Single before c = is_plain_or_space c
stays Double before c = is_plain_or_space c
stays Comment before c = is_plain_or_space c
stays state before c = false

-- a walk over a line stays in this mode over a character, which is no line feed and begins no
-- comment
abbrev pub walks_on : LineMode → ℕ → Bool
walks_on mode.Outside c = is_plain c && not (c == hash)
walks_on (mode.Inside quote) c = is_plain_or_space c && not (c == quote)
walks_on other c = false
