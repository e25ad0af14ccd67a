use Rattle.std.proofs.Common.{◌≡◌, ◌∙◌, false, true, sym}
use Rattle.dotenvy_editor.proofs.WrittenAlone.{alone_written, not_alone, not_empty}
use Rattle.dotenvy_editor.proofs.writing.Setting.is_written.Goals as goal
use Rattle.dotenvy_editor.proofs.writing.Setting.is_written.Goals.{in_default-2, in_default-3, in_default}

-- what is false isn't true
none_true : {P : Type 0} → false ≡ true → P
none_true h = cc

pub returns-in-Some : goal.returns-in-Some
returns-in-Some g c =
    let takes = rw c.in-Some.is at c.in_ok-slice.ensures.gives in
    let written =
    alone_written c.args.self.now c.in_ok-lines.ensures takes (c.is_text.ensures.0 c.if-is_text.true)
    c.if-slice-bytes.true in
    let said = rw c.text.ensures at c.is_said_by.ensures in
    (λ h. written.0 (said.0 h), λ w. said.1 (written.1 w))

pub returns : goal.returns
returns g c =
    elim c.match-branch-3.branch [
      | in_default-2 w ↦
          let takes = rw w.in-Some.is at c.in_ok-slice.ensures.gives in
          rw w.result-is (
            none_true,
            λ written. absurd (not_alone c.in_ok-lines.ensures takes
                (λ both. w.if-slice-bytes.false both.1) written),
          )
      | in_default-3 w ↦
          let takes = rw w.in-Some.is at c.in_ok-slice.ensures.gives in
          rw w.result-is (
            none_true,
            λ written. absurd (not_alone c.in_ok-lines.ensures takes
                (λ both. none_true (sym w.if-is_text.false ∙ w.is_text.ensures.1 both.0)) written),
          )
      | in_default w ↦
          let none = rw w.in_default.is at c.in_ok-slice.ensures.gives in
          rw w.result-is (none_true, λ written. absurd (not_empty (sym c.in_ok-lines.ensures.1 ∙ none.0) written))
    ]
