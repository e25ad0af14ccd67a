use Rattle.std.proofs.Common.{sym, ◌∙◌}
use Rattle.dotenvy_edit_command.specs.declared.step.Step.TheVariants as step
use Rattle.dotenvy_edit_command.proofs.Replacements.{is_ready, told_done}
use Rattle.dotenvy_edit_command.proofs.replacement.fill.Goals as goal

pub put-requires-clause-ready : goal.put-requires-clause-ready
put-requires-clause-ready g c =
    let w = told_done step.Write c.write.result _ (sym c.told.ensures ∙ c.in_ok-told.was) in
    let o = told_done step.Owner c.keep_owner.result _ (sym c.told-2.ensures ∙ c.in_ok-told-2.was) in
    let p = told_done step.Permissions c.keep_permissions.result _ (sym c.told-3.ensures ∙ c.in_ok-told-3.was) in
    let s = told_done step.Sync c.sync.result _ (sym c.told-4.ensures ∙ c.in_ok-told-4.was) in
    is_ready c.args.bytes.now (g.R.Replaceable.known c.args.file.now) (g.R.Replaceable.known c.write.new.self)
    (g.R.Replaceable.known c.keep_owner.new.self) (g.R.Replaceable.known c.keep_permissions.new.self)
    (g.R.Replaceable.known c.sync.new.self) c.requires.empty (rw w at c.write.ensures.leaves)
    (rw o at c.keep_owner.ensures.leaves) (rw p at c.keep_permissions.ensures.leaves) (rw s at c.sync.ensures.leaves)
