use Rattle.std.proofs.Common.{◌≡◌, ◌∙◌, ◌∷◌, ℕ, List, sym, ap, arith, length, length-append}
use Rattle.std.specs.Prelude.{not, true}
use Rattle.std.specs.Str.{chars}
use Rattle.std.proofs.lemmas.Bool.{ne_eqb}
use Rattle.dotenvy_format.specs.inside.Slices.{BeginsWith, IsSpan}
use Rattle.dotenvy_format.proofs.bytes.Slices.{begins_shorter, no_characters}
use Rattle.dotenvy_editor.specs.Forms.{closes}
use Rattle.dotenvy_editor.proofs.QuotedParts.{is_inside, last_opens, pair_closes, quote_closes, run_closes}
use Rattle.dotenvy_editor.proofs.TextTests.{nil_text}
use Rattle.dotenvy_editor.proofs.forms.ends_quoted.Goals as goal

-- a run is passed, up to the character after it
to_first : (quote : ℕ) (rest front left later : List ℕ) (c : ℕ) →
    IsSpan (is_inside quote) (chars rest) (chars front) (chars left) → BeginsWith left c later →
    closes quote (chars rest) ≡ closes quote (c ∷ chars later)
to_first quote rest front left later c span first =
    run_closes quote (chars rest) (chars front) (chars left) span ∙ ap (closes quote) first.characters

-- the character after a run isn't inside the quotes
first_ends : (quote : ℕ) (rest front left later : List ℕ) (c : ℕ) →
    IsSpan (is_inside quote) (chars rest) (chars front) (chars left) → BeginsWith left c later →
    not (is_inside quote c) ≡ true
first_ends quote rest front left later c span first = rw first.characters at span.longest

pub quoted-smaller : goal.quoted-smaller
quoted-smaller c =
    omega (
      arith,
      begins_shorter c.in-Some.ensures,
      begins_shorter c.in-Some-split_first.ensures,
      ap length c.split_while.ensures.bytes,
      length-append c.split_while.result.0.now c.split_while.result.1.now,
    )

pub quoted-preserved : goal.quoted-preserved
quoted-preserved c =
    let quote = c.args.quote in
    let first = c.in-Some.first in
    let next = chars c.in-Some-split_first.next.now in
    let other = ne_eqb first quote c.if-first-quote.false in
    let ends = first_ends quote _ _ _ _ _ c.split_while.ensures.span c.in-Some.ensures in
    record {
      utf8 = c.in-Some-split_first.ensures.follows;
      same =
          sym
          (to_first quote _ _ _ _ _ c.split_while.ensures.span c.in-Some.ensures
          ∙ ap (λ cs. closes quote (first ∷ cs)) c.in-Some-split_first.ensures.characters
          ∙ pair_closes quote first c.in-Some-split_first.field-0-0 next ends other)
          ∙ c.quoted.invariant.same;
    }

pub returns-in_default : goal.returns-in_default
returns-in_default c =
    sym
    (run_closes c.args.quote _ _ _ c.split_while.ensures.span
    ∙ ap (closes c.args.quote) (no_characters _ c.in_default.ensures))
    ∙ c.quoted.invariant.same

pub returns-then-first-quote : goal.returns-then-first-quote
returns-then-first-quote c =
    let quote = c.args.quote in
    let later = c.in-Some.later.now in
    c.is_empty.ensures
    ∙ sym (nil_text later c.in-Some.ensures.follows)
    ∙ sym (quote_closes quote (chars later))
    ∙ ap (λ d. closes quote (d ∷ chars later)) (sym c.if-first-quote.true)
    ∙ sym (to_first quote _ _ _ _ _ c.split_while.ensures.span c.in-Some.ensures)
    ∙ c.quoted.invariant.same

pub returns-in_default-split_first : goal.returns-in_default-split_first
returns-in_default-split_first c =
    let quote = c.args.quote in
    let first = c.in-Some.first in
    sym
    (to_first quote _ _ _ _ _ c.split_while.ensures.span c.in-Some.ensures
    ∙ ap (λ cs. closes quote (first ∷ cs)) (no_characters _ c.in_default-split_first.ensures)
    ∙ last_opens quote first (ne_eqb first quote c.if-first-quote.false))
    ∙ c.quoted.invariant.same
