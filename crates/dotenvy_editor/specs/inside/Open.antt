-- Which lines stay open, as the code tells them.
use Rattle.std.specs.Prelude.{Bool, true, false}
use Rattle.dotenvy_editor.specs.declared.lines.Kind.{Kind}
use Rattle.dotenvy_editor.specs.declared.lines.Kind.TheVariants.{Text, Open, Broken}

-- a line of this kind stays open
abbrev pub stays_open : Kind → Bool
stays_open Text = false
stays_open Open = true
stays_open Broken = false
