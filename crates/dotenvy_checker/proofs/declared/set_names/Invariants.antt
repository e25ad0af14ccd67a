use Rattle.std.proofs.Common.{◌≡◌}
use Rattle.clap.specs.Words.{Text}
use Rattle.dotenvy_words.specs.Found.{texts}
use Rattle.dotenvy_checker.specs.Folders.{is_among}
use Rattle.dotenvy_checker.specs.Together.{is_declared, settable, with_empty}
use Rattle.dotenvy_checker.specs.inside.CheckedLines.{declared_of}
use Rattle.dotenvy_checker.proofs.declared.set_names.Given as goal

-- with what is left, all names are set
abbrev pub invariant-keys : goal.invariant-keys
invariant-keys g l = (name : Text) → with_empty l.env.names (settable (is_among (texts l.name-iterator))) name
    ≡ with_empty l.fn.env.names (settable (is_declared (declared_of l.declared))) name
