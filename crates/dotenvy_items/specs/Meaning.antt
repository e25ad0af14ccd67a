-- What the names of a line stand for.
use Rattle.std.specs.Prelude.{ℕ, List, Option, option_map}
use Rattle.std.specs.Str.{chars, encode_utf8_all}
use Rattle.std.specs.FinMap as fin
use Rattle.dotenvy_items.specs.declared.meaning.Names.{Names}
use Rattle.dotenvy_format.specs.Items.{LookUp, or_else}
use Rattle.dotenvy_base.specs.Environment.{Texts}
use Rattle.dotenvy_items.specs.Remembered.{Remembered, remembered_of, recalled}

-- a look-up by bytes as one by characters
abbrev pub by_characters : (List ℕ → Option (List ℕ)) → LookUp
by_characters by_bytes name = option_map chars (by_bytes (encode_utf8_all name))

-- the values of an environment
abbrev pub values_of : Texts → LookUp
values_of names = by_characters (λ name. fin.get names name)

-- the texts that are remembered
abbrev pub recalled_of : Remembered → LookUp
recalled_of remembered = by_characters (λ name. recalled remembered name)

-- a name means the environment's value, else the remembered text
abbrev pub names_of : Texts → Remembered → LookUp
names_of names remembered = or_else (values_of names) (recalled_of remembered)

-- the same of what the code looks names up in
abbrev pub look_up_of : {A : Type 0} → Names A → LookUp
look_up_of names = names_of names.env.now.names (remembered_of names.remembered.now.entries)
