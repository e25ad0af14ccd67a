-- How systemd (252) reads an EnvironmentFile=, by its bytes. What is written for it is the written form of pairs. It
-- reads the last assignment of each name, also of one that a unit leaves out, and nothing (None) of a text that systemd
-- refuses.
use Rattle.std.specs.Prelude.{ℕ, Bool, not, ◌&&◌, ◌||◌, ◌==◌, nat_le, ◌%◌, List, [], ◌∷◌, ◌++◌, map}
use Rattle.std.specs.Prelude.{if◌then◌else◌, Option, Some, None}
use Rattle.std.specs.List.{list_all, list_any}
use Rattle.std.specs.Str.{is_utf8, chars}
use Rattle.dotenvy_format.specs.Characters.{tab, line_feed, carriage_return, space, double_quote}
use Rattle.dotenvy_format.specs.Characters.{hash, dollar, single_quote, equals_sign, backslash}
use Rattle.dotenvy_exporter.specs.declared.refusal.Reason.{Reason}
use Rattle.dotenvy_exporter.specs.declared.refusal.Reason.TheVariants as reason
use Rattle.dotenvy_exporter.specs.Shell.{is_shell_name}
use Rattle.dotenvy_exporter.specs.Texts.{Pair, has, same, semicolon}

-- the grave accent
abbrev pub grave_accent : ℕ
grave_accent = 96

-- where it is: before a name or in it, before a value or a further part of it, in it, after a
-- backslash there, between quotes, after a backslash between double quotes, in a comment, or after a
-- backslash there
pub data Place : Type 0 where
  BeforeName : Place
  Name : Place
  BeforeValue : Place
  Value : Place
  Escaped : Place
  Single : Place
  Double : Place
  DoubleEscaped : Place
  Comment : Place
  CommentEscaped : Place

-- a line feed or a carriage return, which ends a line
abbrev pub is_end : ℕ → Bool
is_end c = c == line_feed || c == carriage_return

-- white space: what ends a line, a space or a tab
abbrev pub is_white : ℕ → Bool
is_white c = is_end c || (c == space || c == tab)

-- a backslash between double quotes goes before these alone
abbrev pub is_special : ℕ → Bool
is_special c = (c == double_quote || c == backslash) || (c == grave_accent || c == dollar)

-- the assignments of the rest of a file, with the name and the value so far, and white space that counts
-- only if more follows it
abbrev pub assignments : Place → List ℕ → List ℕ → List ℕ → List ℕ → List Pair
assignments BeforeName n v w [] = []
assignments Name n v w [] = []
assignments BeforeValue n v w [] = (n, v) ∷ []
assignments Value n v w [] = (n, v) ∷ []
assignments Escaped n v w [] = (n, v) ∷ []
assignments Single n v w [] = (n, v) ∷ []
assignments Double n v w [] = (n, v) ∷ []
assignments DoubleEscaped n v w [] = (n, v) ∷ []
assignments Comment n v w [] = []
assignments CommentEscaped n v w [] = []
assignments BeforeName n v w (c ∷ cs) =
    if c == hash || c == semicolon then assignments Comment [] [] [] cs else
    if is_white c then assignments BeforeName [] [] [] cs
    else assignments Name (c ∷ []) [] [] cs
assignments Name n v w (c ∷ cs) =
    if is_end c then assignments BeforeName [] [] [] cs else
    if c == equals_sign then assignments BeforeValue n [] [] cs else
    if is_white c then assignments Name n [] (w ++ c ∷ []) cs
    else assignments Name (n ++ (w ++ c ∷ [])) [] [] cs
assignments BeforeValue n v w (c ∷ cs) =
    if is_end c then (n, v) ∷ assignments BeforeName [] [] [] cs else
    if c == single_quote then assignments Single n v [] cs else
    if c == double_quote then assignments Double n v [] cs else
    if c == backslash then assignments Escaped n v [] cs else
    if is_white c then assignments BeforeValue n v [] cs
    else assignments Value n (v ++ c ∷ []) [] cs
assignments Value n v w (c ∷ cs) =
    if is_end c then (n, v) ∷ assignments BeforeName [] [] [] cs else
    if c == backslash then assignments Escaped n (v ++ w) [] cs else
    if is_white c then assignments Value n v (w ++ c ∷ []) cs
    else assignments Value n (v ++ (w ++ c ∷ [])) [] cs
assignments Escaped n v w (c ∷ cs) =
    assignments Value n (if is_end c then v else v ++ c ∷ []) [] cs
assignments Single n v w (c ∷ cs) =
    if c == single_quote then assignments BeforeValue n v [] cs
    else assignments Single n (v ++ c ∷ []) [] cs
assignments Double n v w (c ∷ cs) =
    if c == double_quote then assignments BeforeValue n v [] cs else
    if c == backslash then assignments DoubleEscaped n v [] cs
    else assignments Double n (v ++ c ∷ []) [] cs
assignments DoubleEscaped n v w (c ∷ cs) =
    assignments Double n
    (if is_special c then v ++ c ∷ [] else
    if c == line_feed then v else v ++ backslash ∷ c ∷ []) [] cs
assignments Comment n v w (c ∷ cs) =
    if c == backslash then assignments CommentEscaped [] [] [] cs else
    if is_end c then assignments BeforeName [] [] [] cs else assignments Comment [] [] [] cs
assignments CommentEscaped n v w (c ∷ cs) = assignments Comment [] [] [] cs

-- a name ends before an `=`, also before one that is its first byte: then it is empty
abbrev pub named : Pair → Pair
named ([], value) = ([], value)
named (c ∷ name, value) =
    if c == equals_sign then ([], name ++ equals_sign ∷ value) else (c ∷ name, value)

-- the pairs with this one: in the place of one of its name, or at the end
abbrev pub put : Pair → List Pair → List Pair
put pair [] = pair ∷ []
put (name, value) ((other, old) ∷ pairs) =
    if same other name then (name, value) ∷ pairs
    else (other, old) ∷ put (name, value) pairs

-- pairs, and then each assignment in turn
abbrev pub then_put : List Pair → List Pair → List Pair
then_put done [] = done
then_put done (pair ∷ pairs) = then_put (put (named pair) done) pairs

-- a noncharacter of Unicode: U+FDD0 to U+FDEF, and the last two code points of each plane
abbrev pub is_noncharacter : ℕ → Bool
is_noncharacter c = (nat_le 0xFDD0 c && nat_le c 0xFDEF) || nat_le 0xFFFE (c % 0x10000)

-- the text has a noncharacter
abbrev pub has_noncharacter : List ℕ → Bool
has_noncharacter text = list_any is_noncharacter text

-- systemd takes a name and a value that are UTF-8 without noncharacters
abbrev pub is_taken : List ℕ → Bool
is_taken bytes = is_utf8 bytes && not (has_noncharacter (chars bytes))

-- it takes each name and each value
abbrev pub are_taken : List Pair → Bool
are_taken pairs = list_all (λ pair. is_taken pair.0 && is_taken pair.1) pairs

-- a pair by its characters
abbrev pub characters_of : Pair → Pair
characters_of (name, value) = (chars name, chars value)

-- what systemd reads of assignments: pairs, or None where it refuses the file for one of them
abbrev pub assigned : List Pair → Option (List Pair)
assigned pairs = if are_taken pairs then Some (map characters_of (then_put [] pairs)) else None

-- what systemd reads of bytes: it refuses a NUL anywhere
abbrev pub systemd_reads_bytes : List ℕ → Option (List Pair)
systemd_reads_bytes bytes =
    if has 0 bytes then None else assigned (assignments BeforeName [] [] [] bytes)

-- why systemd can't be given this pair, if it can't
abbrev pub systemd_refusal : Pair → Option Reason
systemd_refusal (name, value) =
    if not (is_shell_name name) then Some reason.Name else
    if has 0 value then Some reason.Nul else
    if has_noncharacter value then Some reason.Noncharacter else None
