-- The lines of warnings.
use Rattle.std.proofs.Common.{◌≡◌, ◌<◌, ◌+◌, ◌++◌, List, ℕ, append_assoc, codes, drop, get_or, length, refl, ◌∙◌}
use Rattle.std.proofs.lemmas.List.{drop_more}
use Rattle.clap.specs.Words.{Text}
use Rattle.dotenvy_editor.specs.declared.warning.Warning.{Warning}
use Rattle.dotenvy_edit_command.specs.Warnings.{warning_lines, warning_text}

-- a line after a text, in its parts
line_behind : (text front warning end rest : List ℕ) →
    (text ++ (front ++ (warning ++ end))) ++ rest ≡ text ++ (front ++ (warning ++ (end ++ rest)))
line_behind text front warning end rest =
    rw (
      append_assoc text (front ++ (warning ++ end)) rest,
      append_assoc front (warning ++ end) rest,
      append_assoc warning end rest,
    ) refl

-- the line of one warning more
pub line_said : {A : Type 0} (file name : Text) (warnings : List (Warning A)) (n : ℕ) (d : Warning A)
    (text line all : List ℕ) → n < length warnings →
    line ≡ codes "dotenvy_edit: warning: " ++ (warning_text file name (get_or warnings n d) ++ codes "\n") →
    text ++ warning_lines file name (drop n warnings) ≡ all →
    (text ++ line) ++ warning_lines file name (drop (n + 1) warnings) ≡ all
line_said file name warnings n d text line all inside is before =
    let told = warning_text file name (get_or warnings n d) in
    let rest = warning_lines file name (drop (n + 1) warnings) in
    rw is
    (line_behind text (codes "dotenvy_edit: warning: ") told (codes "\n") rest
    ∙ (rw (drop_more warnings n d inside) at before))
