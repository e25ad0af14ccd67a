-- What is written of pairs, a line each.
use Rattle.std.specs.Prelude.{ℕ, List, encode_utf8_all}
use Rattle.std.specs.List.{flat_map}
use Rattle.dotenvy_exporter.specs.Docker.{docker_line}
use Rattle.dotenvy_exporter.specs.Exec.{exec_line}
use Rattle.dotenvy_exporter.specs.Shell.{shell_line}
use Rattle.dotenvy_exporter.specs.Texts.{Pair}
use Rattle.dotenvy_exporter.specs.declared.lines.Form.{Form}
use Rattle.dotenvy_exporter.specs.declared.lines.Form.TheVariants as form

-- the line of a pair in this form
abbrev pub line_in : Form → Pair → List ℕ
line_in form.Docker (name, value) = docker_line name value
line_in form.Shell (name, value) = shell_line name value
line_in form.Exec (name, value) = exec_line name value

-- the bytes of the lines of pairs
abbrev pub lines_bytes : Form → List Pair → List ℕ
lines_bytes form pairs = encode_utf8_all (flat_map (line_in form) pairs)
