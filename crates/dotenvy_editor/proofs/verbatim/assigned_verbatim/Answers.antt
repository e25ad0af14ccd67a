use Rattle.std.proofs.Common.{[], ap, sym}
use Rattle.std.specs.Str.{chars}
use Rattle.dotenvy_editor.specs.Warnings.{is_among}
use Rattle.dotenvy_editor.proofs.VerbatimLines.{fault_found, value_found}
use Rattle.dotenvy_editor.proofs.verbatim.assigned_verbatim.Goals as goal

pub returns-in_ok-verbatim-in-Some : goal.returns-in_ok-verbatim-in-Some
returns-in_ok-verbatim-in-Some g c =
    let tells = c.in-Some.ensures.pieces [] (λ name. ap (λ names. is_among names name) c.new-names.ensures) in
    value_found c.args.dialect (chars c.args.assigned.now) tells.0 _ (sym c.if-is_empty_or_comment.ensures) tells.1
    c.in_ok-verbatim-in-Some.ensures

pub returns-in-None : goal.returns-in-None
returns-in-None g c = fault_found c.args.dialect (chars c.args.assigned.now) c.in-None.ensures.part
