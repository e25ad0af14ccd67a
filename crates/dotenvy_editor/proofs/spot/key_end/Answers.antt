use Rattle.std.proofs.Common.{◌∙◌, ap, length, lit<}
use Rattle.std.specs.Prelude.{Some, None}
use Rattle.std.specs.Str.{encode_utf8_all}
use Rattle.std.proofs.lemmas.Str.Pattern.{strip_suffix_char}
use Rattle.dotenvy_editor.proofs.SpotParts.{before_equals, before_value, ends_equals, equals_cut_off, named_chars}
use Rattle.dotenvy_editor.proofs.SpotParts.{statement_cut, trimmed-before_equals}
use Rattle.dotenvy_editor.proofs.spot.key_end.Goals as goal

pub before_assigned-requires : goal.before_assigned-requires
before_assigned-requires c = (before_value c.requires, statement_cut c.requires)

pub returns-in-Some : goal.returns-in-Some
returns-in-Some c =
    let named = c.trim_end-named.result.now in
    let is =
    named_chars c.requires c.before_assigned.result.now named c.before_assigned.utf8
    (c.before_assigned.ensures (before_value c.requires) (statement_cut c.requires)) c.trim_end-named.ensures.trim in
    let cut = strip_suffix_char 61 named (Some c.in-Some.key) c.in-Some.ensures.cases (lit< tt) in
    let bytes =
    equals_cut_off named c.in-Some.key.now c.trim_end.result.now (before_equals c.requires) c.trim_end-named.utf8 is cut
    c.trim_end.ensures.trim in (
      c.requires,
      ap length (bytes ∙ ap encode_utf8_all (trimmed-before_equals c.requires)),
    )

pub returns-in-None : goal.returns-in-None
returns-in-None c =
    let named = c.trim_end-named.result.now in
    let is =
    named_chars c.requires c.before_assigned.result.now named c.before_assigned.utf8
    (c.before_assigned.ensures (before_value c.requires) (statement_cut c.requires)) c.trim_end-named.ensures.trim in
    let none = strip_suffix_char 61 named None c.in-None.ensures.cases (lit< tt) in
    absurd (none (encode_utf8_all (before_equals c.requires))
    (ends_equals named (before_equals c.requires) c.trim_end-named.utf8 is))
