use Rattle.std.proofs.Common.{◌≡◌, List, ℕ, ◌-◌, [], ◌∷◌, lit<, refl, sym, arith}
use Rattle.std.specs.Prelude.{◌==◌}
use Rattle.std.specs.Str.{chars}
use Rattle.std.specs.Char.{encode_utf8}
use Rattle.std.proofs.lemmas.List.{append-nil}
use Rattle.std.proofs.lemmas.Str.{chars-nil}
use Rattle.dotenvy_format.specs.declared.dialect.Dialect.{Dialect}
use Rattle.dotenvy_format.specs.declared.text.Quoting.{Quoting}
use Rattle.dotenvy_format.specs.Characters.{dollar, left_brace, right_brace, is_name_character}
use Rattle.dotenvy_format.specs.inside.ReadValue.{bracing, naming}
use Rattle.dotenvy_format.specs.inside.NextPiece.{IsReadTo}
use Rattle.dotenvy_format.specs.inside.Slices.{IsSpan}
use Rattle.dotenvy_format.proofs.bytes.Slices.{begins_with_first, characters_fail, cut_once, not_first, past_first, take_first}
use Rattle.dotenvy_format.proofs.values.Readings.{brace_begun, braced_read, braced_run, stop_open, name_run, read_then, stop_then, end_read, lacks_end}
use Rattle.dotenvy_format.proofs.values.Readings.{name_left, name_ended}
use Rattle.dotenvy_format.proofs.values.NextPiece.{no_brace_after, gives_name, ends_before, first_scalar}
use Rattle.dotenvy_format.proofs.bytes.AsciiRows.{row_boundary}
use Rattle.dotenvy_format.proofs.values.DollarRows.{gives_dollars}
use Rattle.dotenvy_format.proofs.value.substitution.Goals as goal

-- the longest run of name characters after a dollar is read as the name
name_span : {dialect : Dialect} {q : Quoting} {text name rest : List ℕ} →
    IsSpan (is_name_character dialect) text name rest →
    IsReadTo dialect (naming q []) text [] (naming q name) rest
name_span span = rw span.spelled (name_run _ _ span.pass)

-- a brace after the dollar begins a braced name
brace_read : (dialect : Dialect) (q : Quoting) {text inner : List ℕ} → text ≡ left_brace ∷ inner →
    IsReadTo dialect (naming q []) text [] (bracing q []) inner
brace_read dialect q is = rw is brace_begun

pub split_at-requires : goal.split_at-requires
split_at-requires c =
    row_boundary dollar c.args.left.now _ (omega arith) c.utf8.left (omega (arith, c.row_len-dollars.ensures))

pub returns-then-dollars-gt0 : goal.returns-then-dollars-gt0
returns-then-dollars-gt0 c =
    gives_dollars {dialect = c.args.dialect} {q = c.args.quoting} c.args.left.now (c.row_len-dollars.result - 1)
    {rest = c.split_at.result.1} c.utf8.left (omega (arith, c.row_len-dollars.ensures)) c.split_at.ensures.back

pub split_at-requires-in-Some-2 : goal.split_at-requires-in-Some-2
split_at-requires-in-Some-2 c =
    rw c.len_utf8.ensures.value
    (past_first _ _ c.in-Some-split_first.first c.split_while.ensures.texts.1 c.in-Some-split_first.ensures.bytes)

pub returns-in_default-split_once : goal.returns-in_default-split_once
returns-in_default-split_once c =
    let found = c.in-Some.ensures.cases in
    let inner = chars c.in-Some.inner.now in
    let first = begins_with_first c.args.left.now c.in-Some.inner.now left_brace c.utf8.left
    (rw found.2 found.1.split) in
    let none = c.in_default-split_once.ensures.cases in
    let fail = characters_fail (λ d. d == right_brace) c.in-Some.inner.now first.follows none in
    stop_then (brace_read c.args.dialect c.args.quoting first.characters)
    (stop_open inner (braced_run {q = c.args.quoting} inner [] fail) refl)

pub returns-in-Some : goal.returns-in-Some
returns-in-Some c =
    let found = c.in-Some.ensures.cases in
    let first = begins_with_first c.args.left.now c.in-Some.inner.now left_brace c.utf8.left
    (rw found.2 found.1.split) in
    let brace = c.in-Some-split_once.ensures.cases in
    let cut = cut_once right_brace c.in-Some.inner.now c.in-Some-split_once.name.now c.in-Some-split_once.rest.now brace.0
    brace.1 first.follows (lit< tt) brace.2.0 brace.2.1 brace.3 brace.4 in
    gives_name [] cut.rest_utf8 refl refl
    (read_then {left = chars c.in-Some.inner.now} (brace_read c.args.dialect c.args.quoting first.characters)
    (rw cut.spelled (braced_read _ _ cut.none_before)))

pub returns-in-Unquoted : goal.returns-in-Unquoted
returns-in-Unquoted c =
    rw c.in-Unquoted.is (gives_name [] c.split_while.ensures.texts.1 refl refl
    (read_then (name_span c.split_while.ensures.span) (rw (c.in-None.ensures, chars-nil) (end_read refl))))

pub returns-in-DoubleQuoted : goal.returns-in-DoubleQuoted
returns-in-DoubleQuoted c =
    stop_then (name_span c.split_while.ensures.span)
    (rw (c.in-DoubleQuoted.is, c.in-None.ensures, chars-nil) (lacks_end refl))

pub returns-in-Some-split_first : goal.returns-in-Some-split_first
returns-in-Some-split_first c =
    gives_name [] c.split_while.ensures.texts.1 refl refl
    (read_then (name_span c.split_while.ensures.span)
    (name_left (chars c.split_while.result.1.now)
    (rw (c.in-Some-split_first.ensures.characters, ← c.if-is_left_by_name.ensures))))

pub returns-in-Some-2 : goal.returns-in-Some-2
returns-in-Some-2 c =
    let first = c.in-Some-split_first.ensures in
    let texts = c.split_while.ensures.texts in
    let span = c.split_while.ensures.span in
    let bytes = rw (
      c.len_utf8.ensures.value,
      take_first _ _ c.in-Some-split_first.first first.bytes,
      ← append-nil (encode_utf8 c.in-Some-split_first.first),
    ) at c.split_at-in-Some-2.ensures.front in
    let no_brace = no_brace_after c.args.dialect (chars c.args.left.now) _ _ span
    (not_first left_brace c.args.left.now c.utf8.left c.in_default.ensures.cases) in
    gives_name (c.in-Some-split_first.first ∷ []) first.follows (first_scalar texts.1 first) bytes
    (read_then (name_span span) (rw first.characters (name_ended
    (ends_before c.args.dialect _ (chars c.split_while.result.0.now) c.in-Some-split_first.first
    (rw first.characters at span.longest) (rw first.characters at no_brace) (sym c.if-is_left_by_name.ensures)))))
