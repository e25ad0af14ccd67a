use Rattle.std.proofs.Common.{rules, lit<, ◌≡◌, ◌∙◌, sym, true, length, string_bytes}
use Rattle.std.specs.Prelude.{string_len}
use Rattle.std.proofs.lemmas.Str.{IsUtf8-string_bytes}
use Rattle.std.proofs.lemmas.Str.Pattern.{ends_char}
use Rattle.dotenvy_format.proofs.lines.LineTexts.{chars_popped, chars_no_return}
use Rattle.dotenvy_lines.proofs.physical_line.drop_carriage_return.Goals as goal

pub returns-then-ends_with : goal.returns-then-ends_with
returns-then-ends_with g c =
    let ends =
    (ends_char 13 c.as_str.result.now c.ends_with.result c.ends_with.ensures.cases (lit< tt)).0
    c.if-ends_with.true in
    let byte = c.ends_with.ensures.byte (lit< tt) (lit< tt) (λ w o h. h) in
    let len : string_len c.args.text.now ≡ length (string_bytes c.args.text.now) = search rules in
    chars_popped (string_bytes c.args.text.now) c.as_str.result.now (string_bytes c.pop.new.self)
    (string_len c.args.text.now) c.ends_with.result c.as_str.ensures.value len c.if-ends_with.true byte ends
    c.pop.ensures.ascii_bytes (IsUtf8-string_bytes c.pop.new.self)

pub returns-else-ends_with : goal.returns-else-ends_with
returns-else-ends_with g c =
    let ends = (ends_char 13 c.as_str.result.now c.ends_with.result c.ends_with.ensures.cases (lit< tt)).1 in
    chars_no_return (string_bytes c.args.text.now) (IsUtf8-string_bytes c.args.text.now) (λ front e.
    let h : true ≡ c.ends_with.result = sym (ends front (c.as_str.ensures.value ∙ e)) in
    let k = c.if-ends_with.false in cc)
