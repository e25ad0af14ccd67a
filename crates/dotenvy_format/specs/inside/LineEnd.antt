-- How the end of a line is searched for in its bytes. Contracts of private functions cite it.
-- proofs/lines/PlaceModes and proofs/lines/WholeLines lead from there to the walk over its characters.
use Rattle.std.specs.Prelude.{ℕ, ◌≡◌, ◌<◌, ◌==◌, nat_le, ◌&&◌, ◌||◌, Bool, true, false, List, []}
use Rattle.std.specs.Prelude.{◌∷◌, ◌++◌, length, Option, Some, None, if◌then◌else◌}
use Rattle.std.specs.Str.{IsUtf8}
use Rattle.dotenvy_format.specs.declared.walk.Blanks.{Blanks}
use Rattle.dotenvy_format.specs.declared.walk.Blanks.TheVariants.{Even, Odd, Unknown}
use Rattle.dotenvy_format.specs.Characters.{is_quote, is_space_or_tab, line_feed, backslash, hash}
use Rattle.dotenvy_format.specs.inside.Slices.{BeginsLine, is_ascii_in_line}

-- the blanks after a byte that is calm, and no space or tab: only visible ASCII is surely neither white space nor a
-- part of a blank
abbrev pub after_byte : ℕ → Blanks
after_byte b = if nat_le 33 b && nat_le b 126 then Even else Unknown

-- the blanks with one more in the row
abbrev pub one_more : Blanks → Blanks
one_more Even = Odd
one_more Odd = Even
one_more Unknown = Unknown

-- the same, if there is one more
abbrev pub with_one : Bool → Blanks → Blanks
with_one false blanks = blanks
with_one true blanks = one_more blanks

-- the blanks after one more calm byte
abbrev pub blanks_after : Blanks → ℕ → Blanks
blanks_after blanks b = if is_space_or_tab b then one_more blanks else after_byte b

-- those after some calm bytes
abbrev pub blanks_over : Blanks → List ℕ → Blanks
blanks_over blanks [] = blanks
blanks_over blanks (b ∷ bytes) = blanks_over (blanks_after blanks b) bytes

-- a comment may begin
abbrev pub is_odd : Blanks → Bool
is_odd Even = false
is_odd Odd = true
is_odd Unknown = false

-- where in a line a search is: outside quotes after these blanks, or after a backslash; in these quotes, or there
-- after a backslash
pub data Place : Type 0 where
  unquoted : Blanks → Place
  unquoted_escape : Place
  between : ℕ → Place
  between_escape : ℕ → Place

-- at its start
abbrev pub line_start : Place
line_start = unquoted Unknown

-- the logical line ends at the byte: a line feed, or the `#` of a comment
abbrev pub ends_line : Place → ℕ → Bool
ends_line (unquoted blanks) b = b == line_feed || (b == hash && is_odd blanks)
ends_line unquoted_escape b = false
ends_line (between quote) b = false
ends_line (between_escape quote) b = false

-- where a `#` leads that doesn't end the line: it is a part of a token, or this isn't known
abbrev pub hash_leads : Blanks → Option Place
hash_leads Even = Some (unquoted Even)
hash_leads Odd = None
hash_leads Unknown = None

-- where a byte leads, or `None` if the line or the search ends there
abbrev pub place_leads : Place → ℕ → Option Place
place_leads (unquoted blanks) b =
    if b == line_feed then None else
    if b == hash then hash_leads blanks else
    if b == backslash then Some unquoted_escape else
    if is_quote b then Some (between b) else Some (unquoted (blanks_after blanks b))
place_leads unquoted_escape b = if b == line_feed then None else Some (unquoted Even)
place_leads (between quote) b =
    if b == line_feed then None else
    if b == quote then Some (unquoted Even) else
    if b == backslash then Some (between_escape quote) else Some (between quote)
place_leads (between_escape quote) b = if b == line_feed then None else Some (between quote)

-- a search goes on from a place, if there is one
abbrev pub searched : Option Place → (Place → Option (List ℕ)) → Option (List ℕ)
searched None next = None
searched (Some place) next = next place

-- the bytes from the one on that ends the logical line, in a search from a place; `None` where none comes, or where the
-- search ends before: at a line feed in quotes or after a backslash, or at a `#` of which it isn't known what it is
abbrev pub from_line_end : Place → List ℕ → Option (List ℕ)
from_line_end place [] = None
from_line_end place (b ∷ bytes) =
    if ends_line place b then Some (b ∷ bytes) else
    searched (place_leads place b) (λ next. from_line_end next bytes)

-- a search from the place comes outside quotes, after a whole token, with this rest of the bytes before it
pub record LeadsOut (place : Place) (bytes rest : List ℕ) : Type 0 where
  pub same : from_line_end place bytes ≡ from_line_end (unquoted Even) rest
  pub shorter : length rest < length bytes

-- the bytes begin with what a logical line keeps, which is text, and with the rest of its line, which is a comment in
-- ASCII, or empty
pub record BeginsWhole (bytes kept rest : List ℕ) : Type 0 where
  pub text : IsUtf8 kept
  pub end : List ℕ
  pub begins : bytes ≡ kept ++ end
  pub ends : from_line_end line_start bytes ≡ Some end
  pub line : BeginsLine is_ascii_in_line end rest

-- the bytes from the line feed on that ends a line between such quotes; `None` where one closes before, or none comes
abbrev pub from_feed : ℕ → Bool → List ℕ → Option (List ℕ)
from_feed quote escaped [] = None
from_feed quote escaped (b ∷ bytes) =
    if b == line_feed then Some (b ∷ bytes) else
    if escaped then from_feed quote false bytes else
    if b == quote then None else from_feed quote (b == backslash) bytes

-- the bytes begin with a line, which is text, and over which such quotes stay open
pub record BeginsOpen (quote : ℕ) (bytes line : List ℕ) : Type 0 where
  pub text : IsUtf8 line
  pub end : List ℕ
  pub begins : bytes ≡ line ++ end
  pub ends : from_feed quote false bytes ≡ Some end
