-- What comes of a source whose bytes and fault are specified, read to its end.
use Rattle.std.specs.Prelude.{List, ◌++◌, Result}
use Rattle.dotenvy.specs.Dialect.{Dialect}
use Rattle.dotenvy.specs.Entries.{Entry}
use Rattle.dotenvy.specs.Environment.{Texts}
use Rattle.dotenvy.specs.Error.{Error}
use Rattle.dotenvy.specs.Errors.{IsMemoryErr}
use Rattle.dotenvy.specs.Items.{items, no_values}
use Rattle.dotenvy.specs.Iteration.{IsReadable, SayItems}
use Rattle.dotenvy.specs.LoadsRest.{Leaves, Rule}
use Rattle.dotenvy.specs.Marks.{without_mark}
use Rattle.dotenvy.specs.Meaning.{values_of}
use Rattle.dotenvy.specs.NextItem.{Item}
use Rattle.dotenvy.specs.Reading.{HasEntriesLeft, told_fault}
use Rattle.dotenvy.specs.Source.{Ahead}

-- these are all its items, in order: those of its bytes, and then its fault
abbrev pub AreAllItems : {A : Type 0} → Dialect → Texts → Ahead → List (Item A) → Type 0
AreAllItems dialect names a given =
    IsReadable a → (entries : List Entry) → HasEntriesLeft dialect a.fault a.bytes entries →
    SayItems given (items (values_of names) (entries ++ told_fault a.fault))

-- a load by this rule, unless memory was refused, is that of all entries of its bytes without an
-- opening byte order mark, and then its fault
abbrev pub LoadsWhole : {A : Type 0} → Rule → Dialect → Ahead → Texts → Result (Unit {0}) (Error A) →
    Texts → Type 0
LoadsWhole rule dialect a old answer new =
    IsReadable a → ¬ (IsMemoryErr answer) → (entries : List Entry) →
    HasEntriesLeft dialect a.fault (without_mark a.bytes) entries →
    Leaves (rule (values_of old) no_values (entries ++ told_fault a.fault)) new answer
