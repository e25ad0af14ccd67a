use Rattle.std.proofs.Common.{◌≡◌, ◌++◌, length}
use denote.Text.{Utf8}
use denote.Shadow.{shadow}
use Rattle.std.specs.Prelude.{string_bytes}
use Rattle.std.specs.Str.{chars}
use Rattle.dotenvy_reports.specs.OneLine.{on_one_line}
use Rattle.dotenvy_reports.proofs.one_line.push_one_line.Given as goal

-- with what is left of it the text is shown whole
abbrev pub invariant-characters : goal.invariant-characters
invariant-characters g l = record {
  utf8 : shadow (Utf8 l.rest);
  whole : string_bytes l.text ++ on_one_line (chars l.rest) ≡ string_bytes l.fn.text ++ on_one_line (chars l.fn.added);
}

abbrev pub decreases-characters : goal.decreases-characters
decreases-characters g l = length (chars l.rest)
