use Rattle.std.proofs.Common.{◌≡◌, ◌∙◌, false, sym, true}
use Rattle.std.specs.Prelude.{option_map, string_bytes}
use Rattle.std.proofs.lemmas.Result.{IfOk-weaker}
use Rattle.dotenvy_editor.proofs.VerbatimLines.{empty_begins, other_begins, text_begins}
use Rattle.dotenvy_editor.proofs.verbatim.verbatim_value.Goals.{in_default-via-in-Some+else-is_text}
use Rattle.dotenvy_editor.proofs.verbatim.verbatim_value.Goals.{in_default-via-in_default}
use Rattle.dotenvy_editor.proofs.verbatim.verbatim_value.Goals as goal

pub returns-in-Some : goal.returns-in-Some
returns-in-Some g c =
    let takes = rw c.in-Some.is at c.in_ok-slice.ensures.gives in
    IfOk-weaker _ _ _ (λ found. text_begins c.args.dialect (option_map string_bytes found) c.in_ok-lines.ensures takes
    (c.is_text.ensures.0 c.if-is_text.true)) (rw c.text.ensures at c.said_verbatim.ensures)

pub returns-in_default : goal.returns-in_default
returns-in_default g c =
    elim c.in_default.branch [
      | in_default-via-in-Some+else-is_text w ↦
          let takes = rw w.in-Some.is at c.in_ok-slice.ensures.gives in
          other_begins c.args.dialect c.in_ok-lines.ensures takes
          (λ kind. let e : false ≡ true = sym w.if-is_text.false ∙ w.is_text.ensures.1 kind in cc)
      | in_default-via-in_default w ↦
          let none = rw w.in_default.is at c.in_ok-slice.ensures.gives in
          empty_begins c.args.dialect (sym c.in_ok-lines.ensures.1 ∙ none.0)
    ]
