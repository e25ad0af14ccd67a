use Rattle.test_witnesses.proofs.ScriptRuns.{runs_by_script}
use Rattle.test_witnesses.proofs.starts.run_script.Goals as goal

pub returns : goal.returns
returns g c = λ line asks. runs_by_script _ _ _ _ _ line.command _ (c.run.ensures.runs line asks)
