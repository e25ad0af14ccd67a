use Rattle.std.proofs.Common.{◌≡◌, ◌∷◌, ◌++◌, ◌∙◌, [], true, ap, rules, string_bytes, sym}
use Rattle.std.specs.Prelude.{not, if◌then◌else◌}
use Rattle.dotenvy_reports.specs.Formats.{separator}
use Rattle.dotenvy_words.specs.Found.{texts}
use Rattle.dotenvy_checker.specs.Folders.{is_among}
use Rattle.dotenvy_checker.specs.Schema.{difference_text, is_lacking, names_of}
use Rattle.dotenvy_checker.proofs.Lacking.{any_more, told_more}
use Rattle.dotenvy_checker.proofs.NamesAmong.{sorted_texts}
use Rattle.dotenvy_checker.proofs.schema.push_lacked.Goals as goal

pub returns-in_err-push_name-clause-order : goal.returns-in_err-push_name-clause-order
returns-in_err-push_name-clause-order g c =
    sorted_texts c.args.names.now.names.keys c.iter-name-items.ensures.ordered

pub keys-preserved : goal.keys-preserved
keys-preserved g c =
    let told = c.args.telling in
    let others = names_of c.args.others.now in
    let name = string_bytes c.in-Some.name.now in
    let old = string_bytes c.keys.text in
    let text = difference_text told.format told.difference told.file.now in
    let sign = if c.keys.is_first then [] else separator told.format in
    let is : c.keys.name-iterator ≡ c.in-Some.name.now ∷ c.next.new.self = search rules in
    let left : texts c.keys.name-iterator ≡ name ∷ texts c.next.new.self = ap texts is in
    let seen : is_lacking others name ≡ true =
    ap not (ap (is_among others) (sym c.as_str.ensures.value) ∙ sym c.has.ensures ∙ c.if-has.false) in record {
      text = told_more told.format c.keys.is_first text (is_lacking others) name (texts c.keys.name-iterator)
          (texts c.next.new.self) old (string_bytes c.push_name.new.text) _ left seen
          (c.in_ok-push_name.ensures ∙ ap (λ t. (old ++ sign) ++ text t) c.as_str-in-keys.ensures.value)
          c.keys.invariant.text;
      any = any_more (is_lacking others) name (texts c.keys.name-iterator) (texts c.next.new.self) c.keys.is_any _ left
          seen c.keys.invariant.any;
    }

pub returns-clause-order : goal.returns-clause-order
returns-clause-order g c = sorted_texts c.args.names.now.names.keys c.iter-name-items.ensures.ordered
