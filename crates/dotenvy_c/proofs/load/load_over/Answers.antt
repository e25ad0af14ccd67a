use Rattle.std.proofs.Common.{refl, sym, true, false, ◌∙◌, rules}
use Rattle.dotenvy_c.specs.Load.{LoadsFile}
use Rattle.dotenvy_c.specs.Told.{told_of}
use Rattle.dotenvy_c.proofs.Answering.{loads_file, rule_by}
use Rattle.dotenvy_c.proofs.load.load_over.Goals.{then-has_option, else-has_option}
use Rattle.dotenvy_c.proofs.load.load_over.Goals as goal

pub returns-clause-ok : goal.returns-clause-ok
returns-clause-ok c =
    let fresh = c.in_ok-file.ensures.ok ∙ rw (c.new.ensures, c.dialect_of.ensures) refl in
    let loads : LoadsFile c.args.options c.args.file.now c.args.block.now c.if-has_option.environment.names
    (told_of c.in-Some.told) =
    elim c.if-has_option.branch [
      | then-has_option w ↦
          let rule = rule_by c.args.options true (sym w.if-has_option.true ∙ c.has_option.ensures) in
          rw w.environment-is (loads_file fresh c.in_ok-environment.ensures.names
          (rw (w.outcome-is, ← rule) w.load_override-outcome.ensures.told) w.load_override-outcome.ensures.changes.keys
          (rw w.environment-is at c.in_ok-bytes.ensures.fits) c.in-Some.ensures)
      | else-has_option w ↦
          let rule = rule_by c.args.options false (sym w.if-has_option.false ∙ c.has_option.ensures) in
          rw w.environment-is (loads_file fresh c.in_ok-environment.ensures.names
          (rw (w.outcome-is, ← rule) w.load-outcome.ensures.told) w.load-outcome.ensures.adds.changes.keys
          (rw w.environment-is at c.in_ok-bytes.ensures.fits) c.in-Some.ensures)
    ] in record {
      names = c.if-has_option.environment.names;
      told = told_of c.in-Some.told;
      loads = loads;
      bytes = rw c.in_ok-bytes.ensures.block at c.in_ok-extend_from_slice.ensures.items;
      block_len = search rules;
      text_len = refl;
      status = refl;
      index = refl;
    }
