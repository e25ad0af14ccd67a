-- Where the bytes of physical lines are in a file.
use Rattle.std.proofs.Common.{ℕ, ◌≡◌, ◌+◌, List, [], ◌∷◌, ◌++◌, length, take, drop, refl, sym, ap, ◌∙◌, inl}
use Rattle.std.proofs.Common.{append_assoc, length-append}
use Rattle.std.specs.List.{concat}
use Rattle.std.proofs.lemmas.List.{take-append-drop}
use Rattle.dotenvy.specs.PhysicalLines.{physical_lines}
use Rattle.dotenvy_format.proofs.lines.Cuts.{concat-lines}
use Rattle.dotenvy_editor.specs.TakenSlices.{SkipsLines}
use Rattle.dotenvy_c.specs.Places.{lines_len}

-- nothing is before all bytes
pub none_before : (file : List ℕ) → SkipsLines file 0 file
none_before file = record { front = []; spelled = refl; is_end = inl (inl refl); lines = refl }

-- rows of lines, one after the other
pub concat_both : (xs ys : List (List ℕ)) → concat (xs ++ ys) ≡ concat xs ++ concat ys
concat_both [] ys = refl
concat_both (x ∷ xs) ys = rw (concat_both xs ys) (sym (append_assoc x (concat xs) (concat ys)))

-- what comes before the rest are the lines that were skipped
pub front_len : {file rest : List ℕ} {count : ℕ} → SkipsLines file count rest →
    lines_len count file + length rest ≡ length file
front_len {file} {rest} {count} skips =
    let lines = physical_lines file in
    let joined : concat (take count lines) ++ concat (drop count lines) ≡ file =
    sym (concat_both (take count lines) (drop count lines)) ∙ ap concat (take-append-drop count lines)
    ∙ concat-lines file in
    let left : concat (drop count lines) ≡ rest = ap concat (sym skips.lines) ∙ concat-lines rest in
    sym (length-append (concat (take count lines)) rest) ∙ ap length (rw left at joined)
