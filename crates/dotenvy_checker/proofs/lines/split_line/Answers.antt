use Rattle.std.proofs.Common.{lit<}
use Rattle.std.proofs.lemmas.List.Splits.{slice_split_first}
use Rattle.std.proofs.lemmas.Str.Pattern.{split_once_first}
use Rattle.dotenvy_format.specs.Characters.{line_feed}
use Rattle.dotenvy_checker.proofs.Guesses.{cut_alone}
use Rattle.dotenvy_checker.proofs.lines.split_line.Goals as goal

pub returns-in-Some-clause-pieces : goal.returns-in-Some-clause-pieces
returns-in-Some-clause-pieces c =
    let found = rw c.in-Some.is at (split_once_first line_feed c.args.text.now c.split_once.result
    c.split_once.ensures.cases (lit< tt)) in
    rw (found.1, found.2) (slice_split_first _ c.args.text.now 0 found.0)

pub returns-in-None-clause-pieces : goal.returns-in-None-clause-pieces
returns-in-None-clause-pieces c =
    cut_alone c.args.text.now
    (rw c.in-None.is at (split_once_first line_feed c.args.text.now c.split_once.result
    c.split_once.ensures.cases (lit< tt)))
