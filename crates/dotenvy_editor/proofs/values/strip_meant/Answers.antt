use Rattle.std.proofs.lemmas.Bool.Decides.{Decides-eqb}
use Rattle.std.proofs.lemmas.Slice.Eq.{strip_prefix_is}
use Rattle.dotenvy_editor.proofs.PieceReadings.{no_empty_names, no_name, text_stripped}
use Rattle.dotenvy_editor.proofs.values.strip_meant.Goals as goal

pub returns-in-Text : goal.returns-in-Text
returns-in-Text c =
    rw c.in-Text.is
    (text_stripped c.in-Text.meant c.as_bytes.result.now c.args.text.now c.strip_prefix.result c.as_bytes.ensures.value
    (strip_prefix_is Decides-eqb c.args.text.now c.as_bytes.result.now c.strip_prefix.result
    c.strip_prefix.ensures.cases))

pub returns-in-Name : goal.returns-in-Name
returns-in-Name c = rw c.in-Name.is (no_name c.in-Name.name c.in-Name.after c.args.text.now)

pub returns-in-EmptyNames : goal.returns-in-EmptyNames
returns-in-EmptyNames c = rw c.in-EmptyNames.is (no_empty_names c.in-EmptyNames.more c.args.text.now)
