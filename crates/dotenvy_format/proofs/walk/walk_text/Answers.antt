use Rattle.dotenvy_format.proofs.lines.LineTexts.{walking_start, walking_run, walking_step}
use Rattle.dotenvy_format.proofs.lines.LineTexts.{walking_ends, walking_done, run_smaller}
use Rattle.dotenvy_format.proofs.walk.walk_text.Goals as goal

pub walking-init : goal.walking-init
walking-init c = (walking_start c.utf8.text, c.utf8.text)

pub walking-preserved : goal.walking-preserved
walking-preserved c =
    let passed = walking_run c.pass_run.ensures c.pass_escapes-rest.ensures in
    let run = walking_run c.walking.invariant.0 passed in
    (walking_step run c.in-Some.ensures c.in-Some-next_mode.ensures, c.in-Some.ensures.follows)

pub walking-smaller : goal.walking-smaller
walking-smaller c = run_smaller (walking_run c.pass_run.ensures c.pass_escapes-rest.ensures) c.in-Some.ensures

pub returns-in-None : goal.returns-in-None
returns-in-None c =
    let passed = walking_run c.pass_run.ensures c.pass_escapes-rest.ensures in
    walking_ends (walking_run c.walking.invariant.0 passed) c.in-Some.ensures c.in-None.ensures

pub returns-in_default : goal.returns-in_default
returns-in_default c =
    let passed = walking_run c.pass_run.ensures c.pass_escapes-rest.ensures in
    walking_done (walking_run c.walking.invariant.0 passed) c.in_default.ensures
