use Rattle.std.proofs.Common.{◌≡◌, ◌∙◌, ap, refl, sym}
use Rattle.std.specs.Str.{chars}
use Rattle.std.proofs.lemmas.Slice.Eq.{bytes_eq-Decides}
use Rattle.dotenvy_editor.specs.Told.{AreNames}
use Rattle.dotenvy_editor.specs.inside.Changing.{key_of}
use Rattle.dotenvy_editor.proofs.ReadTexts.{one_key}
use Rattle.dotenvy_editor.proofs.ToldLines.{other_statement, statement_entries}
use Rattle.dotenvy_editor.proofs.SliceTexts.{line_utf8}
use Rattle.dotenvy_editor.proofs.editing.Editing.read_statement.Goals as goal
use Rattle.dotenvy_editor.proofs.editing.Editing.read_statement.Goals.{then-gives, else-gives}

pub returns-then-not-is_same-clause-finds : goal.returns-then-not-is_same-clause-finds
returns-then-not-is_same-clause-finds g c =
    λ states.
    let key = chars c.args.statement.key.now in
    let one = one_key (chars c.args.text.now) key (key_of c.args.self.now.change)
    (c.requires.said.0, chars c.args.statement.rest.now, c.requires.said.1) states in
    let kept : c.if-gives.self.change ≡ c.args.self.now.change =
    elim c.if-gives.branch [
      | then-gives w ↦ ap (λ e. e.change) w.self-is
      | else-gives w ↦ ap (λ e. e.change) w.self-is
    ] in
    let same = c.is_same.ensures
    ∙ (bytes_eq-Decides key (chars c.key.result.now)).1 (one ∙ sym (c.key.ensures ∙ ap key_of kept)) in
    let other = c.if-not-is_same.true in
    let k = rw same at other in cc

pub returns-in-Err-clause-finds : goal.returns-in-Err-clause-finds
returns-in-Err-clause-finds g c =
    λ states.
    let valid = line_utf8 c.args.slice.bytes.now (chars c.args.text.now) c.requires.line in
    absurd (c.in-Err.ensures.cases.0 valid)

pub returns-then-not-is_same-clause-told : goal.returns-then-not-is_same-clause-told
returns-then-not-is_same-clause-told g c =
    λ names are.
    let change : c.if-gives.self.change ≡ c.args.self.now.change =
    elim c.if-gives.branch [
      | then-gives w ↦ ap (λ e. e.change) w.self-is
      | else-gives w ↦ ap (λ e. e.change) w.self-is
    ] in
    let telling : c.if-gives.self.telling ≡ c.args.self.now.telling =
    elim c.if-gives.branch [
      | then-gives w ↦ ap (λ e. e.telling) w.self-is
      | else-gives w ↦ ap (λ e. e.telling) w.self-is
    ] in
    let here : AreNames c.changed.result.now names = rw (c.changed.ensures, telling) are in
    let noted = c.in_ok-note_other.ensures in
    other_statement c.value_of-value.result c.requires.said.0 c.requires.said.1
    (rw (c.dialect.ensures, change) at (c.value_of-value.ensures.pieces names here)) (rw telling at noted.stop)
    (rw telling at noted.changed names are) (rw telling at noted.told)

pub returns-in-Ok-clause-told : goal.returns-in-Ok-clause-told
returns-in-Ok-clause-told g c =
    let change : c.if-gives.self.change ≡ c.args.self.now.change =
    elim c.if-gives.branch [
      | then-gives w ↦ ap (λ e. e.change) w.self-is
      | else-gives w ↦ ap (λ e. e.change) w.self-is
    ] in
    let telling : c.if-gives.self.telling ≡ c.args.self.now.telling =
    elim c.if-gives.branch [
      | then-gives w ↦ ap (λ e. e.telling) w.self-is
      | else-gives w ↦ ap (λ e. e.telling) w.self-is
    ] in
    let pieces = c.value_of-value.ensures.pieces c.changed.result.now (λ name. refl) in
    let e = statement_entries c.dialect.result c.changed.result.now (chars c.args.text.now)
    (chars c.args.statement.key.now) (chars c.args.statement.rest.now) c.value_of-value.result c.requires.said.0
    c.requires.said.1 pieces in
    (telling, record { entries = e.entries; gives = rw (← change, ← c.dialect.ensures) e.gives; is_fault = e.is_fault })

pub returns-in-Err-clause-told : goal.returns-in-Err-clause-told
returns-in-Err-clause-told g c =
    let valid = line_utf8 c.args.slice.bytes.now (chars c.args.text.now) c.requires.line in
    absurd (c.in-Err.ensures.cases.0 valid)
