use Rattle.std.proofs.Common.{refl, string_bytes}
use Rattle.dotenvy_checker.specs.declared.schema.Difference.TheVariants.{NotDeclared}
use Rattle.dotenvy_checker.specs.Schema.{names_of}
use Rattle.dotenvy_checker.proofs.Lacking.{comparison_told}
use Rattle.dotenvy_checker.proofs.schema.push_comparison.Goals as goal

pub returns-clause-text : goal.returns-clause-text
returns-clause-text g c =
    comparison_told (record {
      format = c.args.how.format;
      is_first = c.args.how.is_first;
      file = c.args.comparison.now.file;
      difference = NotDeclared;
    })
    c.then-extra.result (names_of c.args.comparison.now.schema.now) (names_of c.args.comparison.now.files.now)
    (string_bytes c.args.text.now) (string_bytes c.push_lacked.new.text) (string_bytes c.push_lacked-2.new.text)
    c.in_ok-faults.faults refl c.then-extra.ensures c.in_ok-faults.ensures.any c.in_ok-faults.ensures.text
    c.in_ok-warnings.ensures.text
