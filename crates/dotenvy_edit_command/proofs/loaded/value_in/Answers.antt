use Rattle.std.proofs.Common.{◌≡◌, ◌∙◌, None, Some, ap, refl, rules}
use Rattle.std.specs.FinMap as fin
use Rattle.std.specs.Option.{option_map}
use Rattle.std.specs.Str.{chars}
use Rattle.dotenvy_edit_command.specs.Edited.{bytes_of}
use Rattle.dotenvy_edit_command.proofs.LoadedValues.{lacks_value, value_given, value_named}
use Rattle.dotenvy_edit_command.proofs.loaded.value_in.Goals as goal

pub returns-in-Some-clause-loads : goal.returns-in-Some-clause-loads
returns-in-Some-clause-loads g c = λ short.
    let file = c.in-Ok.ensures.ok in
    let loads =
    rw (file, c.new-env.ensures.empty, c.new.ensures, c.bytes.ensures) at
    (c.load_rest-loaded.ensures.told (rw file refl)) in
    let found : fin.get c.load_rest-loaded.new.env.names c.args.name.now ≡ Some c.in-Some.value.now = search rules in
    value_given c.args.old.now.how.dialect (bytes_of c.args.old.now.bytes) (chars c.args.name.now) _
    c.load_rest-loaded.new.env.names c.load_rest-loaded.result short loads
    (value_named _ _ c.utf8.name ∙ ap (option_map chars) found ∙ rw c.in_ok-from_str-in-Some.ensures.ok refl)

pub returns-clause-loads : goal.returns-clause-loads
returns-clause-loads g c = λ short.
    let file = c.in-Ok.ensures.ok in
    let loads =
    rw (file, c.new-env.ensures.empty, c.new.ensures, c.bytes.ensures) at
    (c.load_rest-loaded.ensures.told (rw file refl)) in
    let stops =
    rw (file, c.new-env.ensures.empty, c.new.ensures, c.bytes.ensures) at
    (c.load_rest-loaded.ensures.stops (rw file refl)) in
    let found : fin.get c.load_rest-loaded.new.env.names c.args.name.now ≡ None = search rules in
    lacks_value c.args.old.now.how.dialect (bytes_of c.args.old.now.bytes) _ c.args.name.now
    c.load_rest-loaded.new.env.names c.load_rest-loaded.result c.load_rest-loaded.new.self _ _ short loads stops
    c.first_line.ensures
    (value_named _ _ c.utf8.name ∙ ap (option_map chars) found) c.in_ok-no_value-in-None.ensures
