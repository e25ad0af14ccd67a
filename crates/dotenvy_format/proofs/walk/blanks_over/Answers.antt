use Rattle.std.proofs.Common.{◌≡◌, ◌++◌, ◌∷◌, [], rules}
use Rattle.dotenvy_format.proofs.lines.LineEnds.{last_tells, one_less}
use Rattle.dotenvy_format.proofs.walk.blanks_over.Goals as goal

pub row-preserved : goal.row-preserved
row-preserved c =
    let parts : c.row.front.now ≡ c.in-Some.before.now ++ c.in-Some.last.now ∷ [] = search rules in
    one_less c.args.blanks c.args.run.now c.in-Some.before.now c.in-Some.last.now c.row.is_one_more parts
    (rw c.is_space_or_tab.ensures at c.if-is_space_or_tab.true) c.row.invariant

pub returns-else-is_space_or_tab : goal.returns-else-is_space_or_tab
returns-else-is_space_or_tab c =
    let parts : c.row.front.now ≡ c.in-Some.before.now ++ c.in-Some.last.now ∷ [] = search rules in
    rw (c.with_one.ensures, c.after_byte.ensures) (last_tells c.args.blanks c.args.run.now c.in-Some.before.now
    c.in-Some.last.now c.row.is_one_more parts (rw c.is_space_or_tab.ensures at c.if-is_space_or_tab.false)
    c.row.invariant)
