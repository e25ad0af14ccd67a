use Rattle.std.proofs.Common.{◌∷◌, ◌++◌, []}
use Rattle.std.specs.Str.{chars}
use Rattle.std.proofs.lemmas.Str.{chars-nil, scalars-chars}
use Rattle.dotenvy_format.specs.Characters.{equals_sign}
use Rattle.dotenvy_editor.proofs.NewLines.{end_chars, writes_some}
use Rattle.dotenvy_editor.proofs.TriedLines.{equals_text, written_text}
use Rattle.dotenvy_editor.proofs.writing.Setting.new_line.Goals as goal

pub unreachable-requires : goal.unreachable-requires
unreachable-requires g c =
    let key = chars c.args.self.now.key.now in
    let value = c.args.self.now.value.now in
    let spelled = rw (equals_text, chars-nil) at c.in_ok-front.ensures in
    let front = written_text (key ++ equals_sign ∷ []) c.as_str.result.now _ c.as_str.utf8 c.as_str.ensures.value
    spelled in
    writes_some c.args.self.now.how key (chars value) c.args.end.now c.requires.key
    (scalars-chars value c.requires.utf8) c.requires.value c.requires.end
    (rw (c.in-None.is, front, chars-nil, end_chars c.args.end.now c.requires.end) at c.in_ok-line.ensures)

pub returns : goal.returns
returns g c =
    let spelled = rw (equals_text, chars-nil) at c.in_ok-front.ensures in
    let front = written_text (chars c.args.self.now.key.now ++ equals_sign ∷ []) c.as_str.result.now _ c.as_str.utf8
    c.as_str.ensures.value spelled in
    rw (c.in-Some.is, front, chars-nil, end_chars c.args.end.now c.requires.end) at c.in_ok-line.ensures
