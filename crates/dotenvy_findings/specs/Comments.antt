-- Comments that allow kinds of findings: `# dotenvy_check: allow KIND KIND`.
use Rattle.std.specs.Prelude.{ℕ, ◌≡◌, Bool, true, false, ◌&&◌, ◌||◌, ◌==◌, List, [], ◌∷◌, ◌++◌}
use Rattle.std.specs.Prelude.{Option, Some, None, if◌then◌else◌, map, filter, codes}
use Rattle.std.specs.List.{filter_map, slice_split}
use Rattle.std.specs.Str.{bytes_eq, is_utf8}
use Rattle.std.specs.Borrow.{Bor}
use Rattle.dotenvy_format.specs.Characters.{carriage_return, hash, is_space_or_tab, line_feed}
use Rattle.dotenvy_format.specs.Marks.{without_mark}
use Rattle.dotenvy_findings.specs.declared.comments.AllowComment.{AllowComment}
use Rattle.dotenvy_findings.specs.declared.comments.AllowComments.{AllowComments}
use Rattle.dotenvy_findings.specs.declared.comments.LinePart.{LinePart}
use Rattle.dotenvy_findings.specs.declared.comments.LinePart.TheVariants as code
use Rattle.dotenvy_findings.specs.declared.kind.Kind.{Kind}
use Rattle.dotenvy_findings.specs.declared.kind.Kind.TheVariants as kind
use Rattle.dotenvy_findings.specs.Named.{kind_named}
use Rattle.dotenvy_findings.specs.Places.{one_more}

-- white space within a line: a blank, a tab, or the carriage return before a line feed
abbrev pub is_white : ℕ → Bool
is_white byte = is_space_or_tab byte || byte == carriage_return

-- the text from its first byte on that is no white space
abbrev pub without_white : List ℕ → List ℕ
without_white [] = []
without_white (byte ∷ bytes) = if is_white byte then without_white bytes else byte ∷ bytes

-- there is a byte
abbrev pub is_some_text : List ℕ → Bool
is_some_text [] = false
is_some_text (byte ∷ bytes) = true

-- the words of a text: what stands between white space
abbrev pub words : List ℕ → List (List ℕ)
words text = filter is_some_text (slice_split is_white text)

-- the kinds that these words name; words that name none are passed by
abbrev pub named : List (List ℕ) → List Kind
named words = filter_map kind_named words

-- these are the words `dotenvy_check:` and `allow`
abbrev pub is_order : List ℕ → List ℕ → Bool
is_order tool order = bytes_eq tool (codes "dotenvy_check:") && bytes_eq order (codes "allow")

-- the kinds that these words allow: those named behind the words `dotenvy_check:` and `allow`
abbrev pub allowed : List (List ℕ) → List Kind
allowed [] = []
allowed (tool ∷ []) = []
allowed (tool ∷ order ∷ names) = if is_order tool order then named names else []

-- the kinds that a comment allows, by the bytes behind its `#`: none if they are not UTF-8
abbrev pub comment_kinds : List ℕ → List Kind
comment_kinds text = if is_utf8 text then allowed (words text) else []

-- the kinds that a line allows, if it is a comment: if `#` is its first byte but for white space
abbrev pub line_kinds : List ℕ → List Kind
line_kinds [] = []
line_kinds (byte ∷ bytes) =
    if is_white byte then line_kinds bytes
    else if byte == hash then comment_kinds bytes else []

-- a comment that allows kinds, and its physical line
pub record Allow : Type 0 where
  pub line : ℕ
  pub kinds : List Kind

-- a comment on this line that allows these kinds
abbrev pub allow : ℕ → List Kind → Allow
allow line kinds = record { line = line; kinds = kinds }

-- the comment on this line, if it allows any of these kinds
abbrev pub listed : ℕ → List Kind → List Allow
listed line [] = []
listed line (kind ∷ kinds) = allow line (kind ∷ kinds) ∷ []

-- the comments of these lines, the first of which has this number
abbrev pub allows_from : ℕ → List (List ℕ) → List Allow
allows_from number [] = []
allows_from number (line ∷ lines) =
    listed number (line_kinds line) ++ allows_from (one_more number) lines

-- the physical lines of these bytes, without their line feeds
abbrev pub lines : List ℕ → List (List ℕ)
lines bytes = slice_split (λ byte. byte == line_feed) bytes

-- the comments of a file that allow kinds, in its order
abbrev pub allow_comments : List ℕ → List Allow
allow_comments file = allows_from 1 (lines (without_mark file))

-- what was read of a line: nothing of the file, one or two bytes of a byte order mark, white space
-- alone, a `#` and these bytes behind it, or something else
pub data Part : Type 0 where
  Start : Part
  MarkFirst : Part
  MarkSecond : Part
  White : Part
  Comment : List ℕ → Part
  Other : Part

-- what was read with one more byte of a line of which white space alone was read
abbrev pub begun : ℕ → Part
begun byte = if is_white byte then White else if byte == hash then Comment [] else Other

-- what was read with one more byte of a line
abbrev pub part_after : Part → ℕ → Part
part_after Start byte = if byte == 0xEF then MarkFirst else begun byte
part_after MarkFirst byte = if byte == 0xBB then MarkSecond else Other
part_after MarkSecond byte = if byte == 0xBF then White else Other
part_after White byte = begun byte
part_after (Comment text) byte = Comment (text ++ byte ∷ [])
part_after Other byte = Other

-- more bytes decide whether the line is a comment
abbrev pub is_open : Part → Bool
is_open Start = true
is_open MarkFirst = true
is_open MarkSecond = true
is_open White = true
is_open (Comment text) = false
is_open Other = false

-- what was read of a line, with the rest of it, where that decides nothing
abbrev pub with_rest : List ℕ → Part → Part
with_rest rest Start = Start
with_rest rest MarkFirst = MarkFirst
with_rest rest MarkSecond = MarkSecond
with_rest rest White = White
with_rest rest (Comment text) = Comment (text ++ rest)
with_rest rest Other = Other

-- the kinds that a line allows of which this was read
abbrev pub part_kinds : Part → List Kind
part_kinds Start = []
part_kinds MarkFirst = []
part_kinds MarkSecond = []
part_kinds White = []
part_kinds (Comment text) = comment_kinds text
part_kinds Other = []

-- how far a file was watched, and the comments that were found
pub record Watch : Type 0 where
  pub line : ℕ
  pub part : Part
  pub found : List Allow

-- a watch that begins with a file
abbrev pub fresh : Watch
fresh = record { line = 1; part = Start; found = [] }

-- the watch, with the comment on the line that ends here, if it allows any kind
abbrev pub with_line : Watch → Watch
with_line watch =
    record watch { found = watch.found ++ listed watch.line (part_kinds watch.part) }

-- the watch behind the end of a line
abbrev pub next_line : Watch → Watch
next_line watch = record (with_line watch) { line = one_more watch.line; part = White }

-- the watch behind one more byte
abbrev pub stepped : Watch → ℕ → Watch
stepped watch byte =
    if byte == line_feed then next_line watch
    else record watch { part = part_after watch.part byte }

-- the watch behind these bytes
abbrev pub watched : Watch → List ℕ → Watch
watched watch [] = watch
watched watch (byte ∷ bytes) = watched (stepped watch byte) bytes

-- the watch at the end of the file
abbrev pub with_end : Watch → Watch
with_end watch = record (with_line watch) { part = Other }

-- the part that the code keeps
abbrev pub part_of : {A : Type 0} → LinePart A → Part
part_of code.Start = Start
part_of code.MarkFirst = MarkFirst
part_of code.MarkSecond = MarkSecond
part_of code.White = White
part_of (code.Comment text) = Comment text.items
part_of code.Other = Other

-- the comment that the code keeps
abbrev pub allow_of : {A : Type 0} → AllowComment A → Allow
allow_of comment = allow comment.line comment.kinds.items

-- what the code keeps of a watch
abbrev pub watch_of : {A : Type 0} → AllowComments A → Watch
watch_of comments = record {
  line = comments.line;
  part = part_of comments.part;
  found = map allow_of comments.found.items;
}

-- the words that begin with the one that was cut off, if any was
abbrev pub words_of : Option (Bor (List ℕ) × Bor (List ℕ)) → List (List ℕ)
words_of None = []
words_of (Some parts) = parts.0.now ∷ words parts.1.now

-- the kinds that are named in a text, if there is one
abbrev pub named_in : Option (Bor (List ℕ)) → List Kind
named_in None = []
named_in (Some names) = named (words names.now)

-- to watch two parts one after the other is to watch both in one
abbrev pub CommentPartsJoin : Type 0
CommentPartsJoin =
    (watch : Watch) (first second : List ℕ) →
    watched watch (first ++ second) ≡ watched (watched watch first) second

-- what is found in a file are its comments that allow kinds
abbrev pub FindsComments : Type 0
FindsComments = (file : List ℕ) → (with_end (watched fresh file)).found ≡ allow_comments file

-- files, and their comments that allow kinds
abbrev pub HaveComments : Type 0
HaveComments =
    (allow_comments (codes "A=1\n# dotenvy_check: allow tilde\nB=~\n")
    ≡ allow 2 (kind.Tilde ∷ []) ∷ [])
    -- white space, and the line feed of the last line, are free
    × (allow_comments (codes "\t#dotenvy_check:  allow\ttilde x key-line \r")
    ≡ allow 1 (kind.Tilde ∷ kind.KeyLine ∷ []) ∷ [])
    × (allow_comments (0xEF ∷ 0xBB ∷ 0xBF ∷ codes "# dotenvy_check: allow tilde")
    ≡ allow 1 (kind.Tilde ∷ []) ∷ [])
    -- these allow nothing
    × (allow_comments (codes "# dotenvy_check: tilde") ≡ [])
    × (allow_comments (codes "# dotenvy_check: allow x") ≡ [])
    × (allow_comments (codes "# dotenvy_check allow tilde") ≡ [])
    × (allow_comments (codes "A=1 # dotenvy_check: allow tilde") ≡ [])
    × (allow_comments (codes "# dotenvy_check: allow tilde " ++ 0xFF ∷ []) ≡ [])
