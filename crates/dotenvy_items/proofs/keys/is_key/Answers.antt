use Rattle.std.proofs.Common.{rules, tests, ◌≡◌, ◌++◌, refl, sym, ◌∙◌}
use Rattle.std.specs.Prelude.{encode_utf8, true}
use Rattle.std.specs.List.{list_all}
use Rattle.std.specs.Str.{chars}
use Rattle.std.specs.Str.Iter.{chars_rest}
use Rattle.std.proofs.lemmas.Str.{chars_past_char, IsUtf8-past_char}
use Rattle.std.proofs.lemmas.Iterator.{YieldsList-from_chars}
use Rattle.std.proofs.lemmas.Iterator.Search.{all_from_yields_List}
use Rattle.dotenvy_format.specs.Characters.{begins_key, continues_key}
use Rattle.dotenvy_items.proofs.KeyBytes.{name_ok-key}
use Rattle.dotenvy_items.proofs.keys.is_key.Goals as goal

pub returns-then-begins_key-clause-key : goal.returns-then-begins_key-clause-key
returns-then-begins_key-clause-key c =
    let spelled : c.args.text.now ≡ encode_utf8 c.in-Some.first ++ chars_rest c.next.new.self = search rules in
    let others : c.all.result ≡ list_all continues_key (chars (chars_rest c.next.new.self)) =
    all_from_yields_List continues_key _ _ _ c.all.ensures.ran
    (YieldsList-from_chars _ (IsUtf8-past_char _ _ _ c.utf8.text spelled) refl)
    (λ x b q k. search (rules, tests)) in
    let first : begins_key c.in-Some.first ≡ true = search rules in
    rw (chars_past_char _ _ _ c.utf8.text spelled, first) others

pub returns-then-begins_key-clause-name : goal.returns-then-begins_key-clause-name
returns-then-begins_key-clause-name c = λ is.
    name_ok-key c.args.text.now c.utf8.text (sym (returns-then-begins_key-clause-key c) ∙ is)
