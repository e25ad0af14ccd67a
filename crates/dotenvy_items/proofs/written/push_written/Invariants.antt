use Rattle.std.proofs.Common.{◌≡◌, ◌≤◌, ◌++◌, ◌∷◌, [], length}
use denote.Text.{Utf8}
use denote.Shadow.{shadow}
use Rattle.std.specs.Prelude.{string_bytes}
use Rattle.std.specs.String.{string_capacity}
use Rattle.std.specs.Str.{chars}
use Rattle.dotenvy_format.specs.Written.{written_bytes}
use Rattle.dotenvy_items.proofs.WrittenBytes.{left_bytes}
use Rattle.dotenvy_items.proofs.written.push_written.Given as goal

-- with what is left of the value the written form is whole
abbrev pub invariant-parts : goal.invariant-parts
invariant-parts g l = record {
  utf8 : shadow (Utf8 l.rest);
  whole : string_bytes l.out ++ left_bytes (chars l.rest) ≡ string_bytes l.fn.out ++ written_bytes
      ((chars l.fn.key, chars l.fn.text) ∷ []);
  capacity : string_capacity l.fn.out ≤ string_capacity l.out;
}

abbrev pub decreases-parts : goal.decreases-parts
decreases-parts g l = length l.rest
