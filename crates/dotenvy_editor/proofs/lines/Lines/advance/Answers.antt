use Rattle.std.proofs.Common.{◌∙◌, ap, sym}
use Rattle.dotenvy_editor.specs.TakenSlices.{LinesState, text_of}
use Rattle.dotenvy_editor.proofs.SplitterLines.{IsGiven, is_given, numbers_at, reads_nothing}
use Rattle.dotenvy_editor.proofs.lines.Lines.advance.Given.{Over}
use Rattle.dotenvy_editor.proofs.lines.Lines.advance.Goals as goal

pub invariant_of-self : goal.invariant_of-self
invariant_of-self g c =
    let e = rw c.in-Ok-None.field-0-is at c.in-Ok-None.ensures in
    let none = e.ok _ _ c.self.invariant.1 c.self.invariant.2 in (
      c.self.invariant.0,
      reads_nothing c.self.invariant.1.is_end none.0 none.1,
      λ some. none.0,
    )

pub returns-in-Ok-None-clause-gives : goal.returns-in-Ok-None-clause-gives
returns-in-Ok-None-clause-gives g c =
    let e = rw c.in-Ok-None.field-0-is at c.in-Ok-None.ensures in
    let none = e.ok _ _ c.self.invariant.1 c.self.invariant.2 in (
      ap (λ (state : LinesState). state.left) (sym c.self.view_is) ∙ none.0,
      none.0,
      ap (λ (state : LinesState). state.before) c.self.view_is,
    )

pub split_lines-requires : goal.split_lines-requires
split_lines-requires g c =
    let e = rw c.in-Ok-Some.field-0-is at c.in-Ok-Some.ensures in
    let k = e.ok _ _ c.self.invariant.1 c.self.invariant.2 in
    (numbers_at c.self.inside.bytes.now c.self.inside.place c.last_lines-first.result c.self.invariant.1 k c.self.told.1
    c.last_lines-first.ensures).ordered

-- the slice is given
slice_given : (g : Over) (c : goal.After-self-2-1 g) →
    IsGiven c.self.inside.bytes.now c.self.inside.place c.next_kind.new.splitter.lines c.next_kind.new.unclosed
    c.args.self.now (record {
      bytes = c.split_lines.result.0;
      first = c.last_lines-first.result.0;
      last = c.last_lines-first.result.1;
      kind = c.in-Ok-Some.kind;
    }) (text_of c.next_kind.new.unclosed c.next_kind.new.splitter.line)
slice_given g c =
    let e = rw c.in-Ok-Some.field-0-is at c.in-Ok-Some.ensures in
    let k = e.ok _ _ c.self.invariant.1 c.self.invariant.2 in
    let n =
    numbers_at c.self.inside.bytes.now c.self.inside.place c.last_lines-first.result c.self.invariant.1 k c.self.told.1
    c.last_lines-first.ensures in
    is_given c.self.inside.bytes.now c.self.inside.place c.args.self.now _ c.split_lines.result.1.now c.self.invariant.0
    (ap (λ (state : LinesState). state.before) (sym c.self.view_is))
    (ap (λ (state : LinesState). state.left) (sym c.self.view_is)) c.self.invariant.1 k n
    (rw c.split_at.ensures.back at c.split_lines.ensures.joins)
    (rw c.split_at.ensures.back at c.split_lines.ensures.skips)

pub invariant_of-self-2 : goal.invariant_of-self-2
invariant_of-self-2 g c =
    let given = slice_given g c in (given.within, given.reads, given.behind)

pub returns-clause-gives : goal.returns-clause-gives
returns-clause-gives g c = (slice_given g c).takes
