-- What `clap` specifies of the command line.
use Rattle.std.proofs.Common.{◌≡◌, true, [], refl}
use Rattle.clap.specs.Words.{fault_of, is_simple, is_simple_and_free}
use Rattle.clap.proofs.OnLiterals.{clap_on_literals}
use Rattle.dotenvy_edit_command.specs.Words.{editor}

-- the command has none of the settings that `clap` does not specify
pub is_editor_simple : is_simple editor ≡ true
unfolding clap_on_literals editor
is_editor_simple = refl

-- and no argument of it has a rule on another
pub is_editor_free : is_simple_and_free editor ≡ true
unfolding clap_on_literals editor
is_editor_free = refl

-- an empty command line is taken
pub none_refused : fault_of editor [] ≡ []
unfolding clap_on_literals editor
none_refused = refl
