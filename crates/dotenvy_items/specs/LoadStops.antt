-- Where a load stops: on which lines, and what it leaves.
use Rattle.std.specs.Prelude.{ℕ, ◌≡◌, ◌⊎◌, List, [], ◌∷◌, ◌++◌, Some, Result, Ok, Err}
use Rattle.dotenvy_base.specs.declared.errors.Error.{Error}
use Rattle.dotenvy_lines.specs.declared.lines.Stage.TheVariants.{Ended}
use Rattle.dotenvy_format.specs.Entries.{Entry}
use Rattle.dotenvy_format.specs.Decided.{HasDecided}
use Rattle.dotenvy_format.specs.Marks.{without_mark}
use Rattle.dotenvy_base.specs.Environment.{Texts}
use Rattle.dotenvy_base.specs.Source.{Ahead}
use Rattle.dotenvy_lines.specs.Lines.{GoesOn, FailsFor, no_line}
use Rattle.dotenvy_items.specs.Meaning.{values_of, recalled_of}
use Rattle.dotenvy_items.specs.Iter.{IterState, TellsLeft}
use Rattle.dotenvy_items.specs.NextItem.{UsesUpTo, StandsOn}
use Rattle.dotenvy_items.specs.LoadsRest.{IsAnswer, Rule}

-- what is told, without the byte order mark at its start
abbrev pub unmarked : Ahead → Ahead
unmarked a = record { bytes = without_mark a.bytes; fault = a.fault }

-- a load of these entries by this rule meets no error
abbrev pub LoadsAll : Rule → IterState → Texts → List Entry → Type 0
LoadsAll rule s old entries = (rule (values_of old) (recalled_of s.remembered) entries).answer ≡ Ok tt

-- a load by this rule meets no error in the first entries, and the result is its error in the next
abbrev pub StopsAtEntry : {A : Type 0} → Rule → IterState → Texts → List Entry → Entry →
    Result (Unit {0}) (Error A) → Type 0
StopsAtEntry rule s old done entry answer =
    LoadsAll rule s old done
    × IsAnswer (rule (values_of old) (recalled_of s.remembered) (done ++ entry ∷ [])).answer answer

-- a load stopped at an entry: t has the lines after it left, and tells the lines that it is on
pub record StopsInLine {A : Type 0} (rule : Rule) (a : Ahead) (s : IterState) (old : Texts)
    (answer : Result (Unit {0}) (Error A)) (t : IterState) : Type 0 where
  pub done : List Entry
  pub entry : Entry
  pub stops : StopsAtEntry rule s old done entry answer
  pub left : List ℕ
  pub uses : UsesUpTo s.dialect a done entry left
  pub is_left : t.lines.input.left ≡ Some (record { bytes = left; fault = a.fault })
  pub stands : StandsOn s uses.before uses.uses.count t
  pub goes_on : GoesOn t.lines

-- the bytes decide entries in which a load by this rule meets no error
abbrev pub DecideLoaded : Rule → IterState → Texts → List ℕ → Type 0
DecideLoaded rule s old bytes =
    (entries : List Entry) × HasDecided s.dialect (without_mark bytes) entries
    × LoadsAll rule s old entries

-- a load stopped at a final fault, on no line: what the bytes before it decide was loaded
abbrev pub StopsForGood : {A : Type 0} → Rule → Ahead → IterState → Texts →
    Result (Unit {0}) (Error A) → IterState → Type 0
StopsForGood rule a s old answer t =
    FailsFor a s.lines.input answer (DecideLoaded rule s old) t.lines × (t.item_lines ≡ no_line)

-- where a load of a stops: at its end; at an entry, with the later lines left; or at a final fault
abbrev pub StopsIn : {A : Type 0} → Rule → Ahead → IterState → Texts →
    Result (Unit {0}) (Error A) → IterState → Type 0
StopsIn rule a s old (Ok done) t = (t.lines.stage ≡ Ended) × (t.item_lines ≡ s.item_lines)
StopsIn rule a s old (Err e) t =
    StopsInLine rule (unmarked a) s old (Err e) t ⊎ StopsForGood rule a s old (Err e) t

-- where a load of what s has left stops, and that it leaves t
abbrev pub Stops : {A : Type 0} → Rule → IterState → Texts → Result (Unit {0}) (Error A) →
    IterState → Type 0
Stops rule s old answer t = (a : Ahead) → TellsLeft s a → StopsIn rule a s old answer t
