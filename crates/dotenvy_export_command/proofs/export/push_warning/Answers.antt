use Rattle.std.proofs.Common.{◌≡◌, ◌++◌, ℕ, List, append_assoc, refl}
use Rattle.dotenvy_export_command.proofs.export.push_warning.Goals as goal

-- three parts, one after another, are their text
joined : (old first line last one two three : List ℕ) → one ≡ old ++ first → two ≡ one ++ line → three ≡ two ++ last →
    three ≡ old ++ (first ++ (line ++ last))
joined old first line last one two three a b c =
    rw (c, b, a, append_assoc (old ++ first) line last, append_assoc old first (line ++ last)) refl

pub returns : goal.returns
returns g c =
    joined _ _ _ _ _ _ _ c.in_ok-push_str.ensures.bytes c.in_ok-push_one_line.ensures c.in_ok-push_str-2.ensures.bytes
