use Rattle.std.proofs.Common.{◌∙◌}
use Rattle.std.specs.Str.{chars}
use Rattle.std.proofs.lemmas.Str.{encodes-chars}
use Rattle.dotenvy_format.specs.Outcome.{trimmed}
use Rattle.dotenvy_findings.specs.Readings.{marks_of}
use Rattle.dotenvy_checker.specs.Findings.{first_place, twice}
use Rattle.dotenvy_checker.specs.inside.CheckedLines.{declared_of, setting_at, KeepsMore}
use Rattle.dotenvy_checker.proofs.KeptLines.{declaration_kept, keeps_none}
use Rattle.dotenvy_checker.proofs.lines.Checker.check_declaration.Goals.{in-Some+in_ok-keep, in_default}
use Rattle.dotenvy_checker.proofs.lines.Checker.check_declaration.Goals as goal

pub returns : goal.returns
returns g c =
    let text = trimmed (chars c.args.text.now) in
    let setting = setting_at c.args.self.now c.args.line.is_guess in
    let declared = declared_of c.args.self.now.declared in
    let key = c.args.key.now in
    let place = first_place c.args.line.number text in
    let first : KeepsMore (twice setting place (declared key)) declared c.args.self.now.above c.args.self.now c.match-first_line.self =
    rw (← c.first_line.ensures) (elim c.match-first_line.branch [
      | in-Some+in_ok-keep w ↦ rw (w.self-is, w.in-Some.is) (rw (
        w.first_place.ensures,
        c.text-trimmed.ensures.text,
        c.text-trimmed.ensures.start,
        c.as_slice.ensures.value,
        c.in_ok-characters.ensures,
      ) at w.in_ok-keep.ensures)
      | in_default w ↦ rw (w.self-is, w.in_default.is) (keeps_none c.args.self.now)
    ]) in
    rw (encodes-chars key c.utf8.key) (declaration_kept c.args.line.is_guess c.args.line.number text key
    c.text-trimmed.result c.declare.new.self (marks_of c.in_ok-marks.marks.items) c.text-trimmed.ensures.dialect
    c.text-trimmed.ensures.start
    (c.text-trimmed.ensures.text ∙ c.as_slice.ensures.value ∙ c.in_ok-characters.ensures) first c.in_ok-marks.ensures
    c.in_ok-keep_marks.ensures c.in_ok-declare.ensures)
