-- What each status says.
use Rattle.std.specs.Prelude.{ℕ, List, ◌==◌, codes, if◌then◌else◌}

-- what a status says; of numbers that are no status nothing is known
abbrev pub status_text : ℕ → List ℕ
status_text status =
    if status == 0 then codes "done" else
    if status == 1 then codes "a line is wrong" else
    if status == 2 then codes "a line, or a value to be written, is not UTF-8" else
    if status == 3 then codes "a value has a NUL" else
    if status == 4 then codes "too many reads" else
    if status == 5 then codes "an allocation failed" else
    if status == 6 then codes "an option that this call does not have" else
    if status == 7 then codes "this can't be a key" else
    if status == 8 then codes "no line assigns the key" else
    if status == 9 then codes "a quote stays open to the end of the file" else
    if status == 10 then codes "the file ends after a backslash or a blank" else
    if status == 11 then codes "a line that begins with the key can't be read" else
    if status == 12 then codes "a comment goes on over several lines" else
    if status == 13 then codes "not portable: the file begins with a byte order mark" else
    if status == 14 then codes "not portable: the value has a carriage return" else
    if status == 15
    then codes "not portable: the value has a single quote, and a double quote, a dollar or a backslash" else
    if status == 16
    then codes "not portable: the value has a line feed, and a double quote, a dollar or a backslash" else
    if status == 17 then codes "not portable: the value has two backslashes in a row" else
    if status == 18 then codes "not portable: the value ends with a backslash" else
    if status == 19 then codes "not portable: the value has a dollar and braces" else
    if status == 20 then codes "not portable: the comment has the quotes that the value needs" else
    if status == 21 then codes "a line assigns the new key" else
    if status == 22 then codes "not portable: the line has white space other than spaces" else
    codes "unknown"
