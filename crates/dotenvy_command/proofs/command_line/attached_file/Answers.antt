use Rattle.std.proofs.Common.{arith, ap, ◌∙◌, sym}
use Rattle.std.specs.Prelude.{codes}
use Rattle.std.proofs.lemmas.Str.Pattern.{strip_prefix_char}
use Rattle.dotenvy_command.proofs.WordKinds.{stripped, assigned, behind_equals, joined}
use Rattle.dotenvy_command.proofs.command_line.attached_file.Goals as goal

pub returns-in-Some : goal.returns-in-Some
returns-in-Some c = λ more. assigned c.args.word.now c.in-Some.name
    (stripped (codes "--file=") c.args.word.now c.in-Some.name.now c.in-Some.ensures.cases)

pub returns : goal.returns
returns c = λ more.
    let front = strip_prefix_char 61 c.in_ok-name.name.now c.strip_prefix-3.result c.strip_prefix-3.ensures.cases
    (omega arith) in
    joined c.args.word.now c.in_ok-name.name.now c.unwrap_or.result
    (stripped (codes "-f") c.args.word.now c.in_ok-name.name.now c.in_ok-name.ensures.cases)
    (sym (ap (λ t. t.now) c.unwrap_or.ensures ∙ behind_equals c.in_ok-name.name c.strip_prefix-3.result front)) more
