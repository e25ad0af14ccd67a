use Rattle.std.proofs.Common.{◌≡◌, ◌≢◌, ◌≤◌}
use Rattle.dotenvy_lines.specs.declared.lines.Stage.TheVariants.{Open}
use Rattle.dotenvy_base.specs.Source.{Ahead}
use Rattle.dotenvy_lines.specs.Input.{AsksReads, IsTold}
use Rattle.dotenvy_lines.specs.Lines.{lines_measure}
use Rattle.dotenvy_items.proofs.NextItems.{Passed}
use Rattle.dotenvy_items.proofs.iter.Reading.next.Given as goal

-- lines that add nothing were passed
abbrev pub invariant-lines : goal.invariant-lines
invariant-lines g l = record {
  falls : lines_measure l.self.lines ≤ lines_measure l.fn.self.lines;
  shut : l.fn.self.lines.stage ≢ Open → l.self ≡ l.fn.self;
  passed : l.fn.self.lines.stage ≡ Open → (a : Ahead) → IsTold l.fn.self.lines.input.left a →
      Passed a l.fn.self.dialect l.fn.self.lines l.self.lines × (l.self.remembered ≡ l.fn.self.remembered);
  dialect : l.self.dialect ≡ l.fn.self.dialect;
  asks : AsksReads (l.self.lines.stage ≡ Open) l.fn.self.lines.input l.self.lines.input;
}

abbrev pub decreases-lines : goal.decreases-lines
decreases-lines g l = lines_measure l.self.lines
