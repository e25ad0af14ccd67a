-- The law of the words of the command line.
use Rattle.std.specs.Prelude.{◌≡◌, ℕ, List, Result}
use Rattle.dotenvy_command.specs.Words.{CommandLine, Usage, HasUsage}

-- any words have one answer: a command line, or a reason why they are refused
abbrev pub HasOneUsage : Type 0
HasOneUsage =
    (words : List (List ℕ)) → (answer : Result CommandLine Usage) × HasUsage words answer
    × ((other : Result CommandLine Usage) → HasUsage words other → other ≡ answer)
