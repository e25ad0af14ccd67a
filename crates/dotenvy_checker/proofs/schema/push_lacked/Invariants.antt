use Rattle.std.proofs.Common.{◌≡◌, ◌++◌, string_bytes}
use Rattle.std.specs.Prelude.{◌||◌}
use Rattle.std.specs.List.{list_any}
use Rattle.dotenvy_words.specs.Found.{texts}
use Rattle.dotenvy_checker.specs.Report.{separated}
use Rattle.dotenvy_checker.specs.Schema.{is_lacking, lacked_texts, names_of}
use Rattle.dotenvy_checker.proofs.schema.push_lacked.Given as goal

-- with what is left, all is told
abbrev pub invariant-keys : goal.invariant-keys
invariant-keys g l = let told = l.telling in record {
  text : string_bytes l.text ++ separated told.format l.is_first
      (lacked_texts told.format told.difference told.file.now (texts l.name-iterator) (names_of l.others))
      ≡ string_bytes l.fn.text ++ separated told.format told.is_first
      (lacked_texts told.format told.difference told.file.now (names_of l.names) (names_of l.others));
  any : (l.is_any || list_any (is_lacking (names_of l.others)) (texts l.name-iterator))
      ≡ list_any (is_lacking (names_of l.others)) (names_of l.names);
}
