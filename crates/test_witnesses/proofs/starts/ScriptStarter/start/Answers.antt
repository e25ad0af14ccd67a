use Rattle.dotenvy_command.specs.Started.{made_of}
use Rattle.test_witnesses.proofs.ScriptRuns.{ends_by_script}
use Rattle.test_witnesses.proofs.starts.ScriptStarter.start.Goals as goal

pub returns : goal.returns
returns g c =
    ends_by_script c.environment.result.now.names (made_of c.args.prepared.command) c.args.self.now.name.now
    c.args.self.now.value.now c.args.self.now.given c.args.self.now.other c.end_with.result c.environment.ensures
    c.end_with.ensures
