use Rattle.std.proofs.Common.{◌≡◌, ◌≢◌, ◌≤◌}
use Rattle.dotenvy_base.specs.Environment.{KeepsNames}
use Rattle.dotenvy_lines.specs.declared.lines.Stage.TheVariants.{Open}
use Rattle.dotenvy_lines.specs.Lines.{lines_measure}
use Rattle.dotenvy_format.specs.Run.{Keep}
use Rattle.dotenvy_items.specs.LoadsRest.{ChangesOnlyKeys}
use Rattle.dotenvy_items.specs.inside.LoadStep.{mode_of}
use Rattle.dotenvy_items.specs.Remembered.{remembered_of}
use Rattle.dotenvy_items.specs.Iter.{items_measure, state_of, AsksBetween}
use Rattle.dotenvy_items.proofs.LoadSteps.{CameTo}
use Rattle.dotenvy_items.proofs.iter.Iter.load_each_line.Given as goal

-- some lines were loaded
abbrev pub invariant-loading : goal.invariant-loading
invariant-loading g l =
    let now =
    state_of l.reading-inside.lines.lines (remembered_of l.reading-inside.remembered.entries)
    l.reading-inside.dialect l.fn.self.item_lines in
    record {
      shut : l.fn.self.lines.stage ≢ Open → (now.lines ≡ l.fn.self.lines) × (l.env ≡ l.fn.env);
      came : CameTo (mode_of l.fn.mode) l.fn.self l.fn.env.names l.env.names now.lines;
      mode : mode_of l.mode ≡ mode_of l.fn.mode;
      keeps : mode_of l.fn.mode ≡ Keep → KeepsNames l.fn.env.names l.env.names;
      changes : ChangesOnlyKeys l.fn.env l.env;
      same : now ≡ record l.fn.self { lines = now.lines };
      falls : items_measure now ≤ items_measure l.fn.self;
      asks : AsksBetween l.fn.self now;
    }

abbrev pub decreases-loading : goal.decreases-loading
decreases-loading g l = lines_measure l.reading-inside.lines.lines
