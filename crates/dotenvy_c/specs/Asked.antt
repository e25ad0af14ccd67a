-- How items are told where values are asked for as they are written.
use Rattle.std.specs.Prelude.{ℕ, ◌≡◌, ◌⊎◌, ◌+◌, ◌-◌, ◌==◌, Bool, true, false, ◌&&◌}
use Rattle.std.specs.Prelude.{List, [], ◌∷◌, drop}
use Rattle.std.specs.Prelude.{Ok, Err, IfOk, string_bytes}
use Rattle.std.specs.Str.{encode_utf8_all}
use Rattle.std.specs.declared.alloc.Global.{Global}
use Rattle.std.specs.declared.string.String.{String}
use Rattle.dotenvy.specs.Dialect.{Dialect}
use Rattle.dotenvy.specs.LogicalLine.{HasText, IsNext}
use Rattle.dotenvy.specs.NextItem.{Item}
use Rattle.dotenvy.specs.PhysicalLines.{line_texts}
use Rattle.dotenvy_editor.specs.Verbatim.{BeginsVerbatim, SaysVerbatim}
use Rattle.dotenvy_c.specs.Options.{bytes_asked, dialect_of, has_option}
use Rattle.dotenvy_c.specs.Told.{ToldItem, ToldResult}

-- of these bytes the physical lines with these numbers are one logical line, and what it assigns gives this text
abbrev pub LinesSayVerbatim : Dialect → List ℕ → ℕ × ℕ → List ℕ → Type 0
LinesSayVerbatim dialect bytes lines text =
    (line : List ℕ)
    × IsNext (drop (lines.0 - 1) (line_texts bytes)) (lines.1 + 1 - lines.0) (HasText line)
    × SaysVerbatim dialect line text

-- this is told of a pair, whose value is asked for as it is written: option 16 asks for it
abbrev pub asks_verbatim : ℕ → ToldResult → Bool
asks_verbatim options told = has_option options 16 && told.status == 0

-- an item with this text in the place of its own
abbrev pub with_text : List ℕ → ToldItem → ToldItem
with_text text item = (record item.0 { text = text }, item.1)

-- an item is told so: a pair with its value as it is written on its lines, if that is asked for; all else as it is
abbrev pub IsAsked : ℕ → List ℕ → ToldItem → ToldItem → Type 0
IsAsked options file item told =
    ((asks_verbatim options item.0 ≡ false) × (told ≡ item))
    ⊎ ((asks_verbatim options item.0 ≡ true)
    × (text : List ℕ)
    × LinesSayVerbatim (dialect_of options) (bytes_asked options file) item.1 text
    × (told ≡ with_text (encode_utf8_all text) item))

-- these items are told so: all, and in order
abbrev pub AreAsked : ℕ → List ℕ → List ToldItem → List ToldItem → Type 0
AreAsked options file [] told = told ≡ []
AreAsked options file (item ∷ items) told =
    (first : ToldItem) × (later : List ToldItem) × (told ≡ first ∷ later)
    × IsAsked options file item first × AreAsked options file items later

-- where these bytes begin with the line of a pair, what the line assigns gives a text
abbrev pub HasVerbatim : Dialect → List ℕ → Item Global → Type 0
HasVerbatim dialect bytes item =
    IfOk item (λ pair. (text : List ℕ) × BeginsVerbatim dialect bytes text)

-- the item that is asked for, where these bytes begin with its line: a pair has its value as it is written, if that is
-- asked for
abbrev pub IsAskedItem : Bool → Dialect → List ℕ → Item Global → Item Global → Type 0
IsAskedItem false dialect bytes item asked = asked ≡ item
IsAskedItem true dialect bytes (Err error) asked = asked ≡ Err error
IsAskedItem true dialect bytes (Ok pair) asked =
    (text : List ℕ) × BeginsVerbatim dialect bytes text
    × (value : String Global) × (string_bytes value ≡ encode_utf8_all text)
    × (asked ≡ Ok (pair.0, value))
