use Rattle.std.proofs.Common.{rules, tests, ◌≡◌, ◌++◌, refl}
use Rattle.std.specs.Prelude.{encode_utf8, true}
use Rattle.std.specs.List.{list_all}
use Rattle.std.specs.Str.{chars}
use Rattle.std.specs.Str.Iter.{chars_rest}
use Rattle.std.proofs.lemmas.Str.{chars_past_char, IsUtf8-past_char}
use Rattle.std.proofs.lemmas.Iterator.{YieldsList-from_chars}
use Rattle.std.proofs.lemmas.Iterator.Search.{all_from_yields_List}
use Rattle.dotenvy_exporter.specs.Kubernetes.{begins_entry, continues_entry}
use Rattle.dotenvy_exporter.proofs.kubernetes.has_entry_characters.Goals as goal

pub returns-then-begins_entry : goal.returns-then-begins_entry
returns-then-begins_entry c =
    let spelled : c.args.name.now ≡ encode_utf8 c.in-Some.first ++ chars_rest c.next.new.self = search rules in
    let others : c.all.result ≡ list_all continues_entry (chars (chars_rest c.next.new.self)) =
    all_from_yields_List continues_entry _ _ _ c.all.ensures.ran
    (YieldsList-from_chars _ (IsUtf8-past_char _ _ _ c.utf8.name spelled) refl)
    (λ x b q k. search (rules, tests)) in
    let first : begins_entry c.in-Some.first ≡ true = search rules in
    rw (chars_past_char _ _ _ c.utf8.name spelled, first) others
