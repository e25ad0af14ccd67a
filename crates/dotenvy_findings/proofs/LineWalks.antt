-- Walks over the text of a line: without a line feed it has no suspect quote, and most characters move a walk alone.
use Rattle.std.proofs.Common.{◌≡◌, ℕ, Bool, true, false, List, [], ◌∷◌, refl, ap, ◌∙◌, arith, not}
use Rattle.std.specs.Prelude.{◌==◌, ◌&&◌, if◌then◌else◌, Option, Some, None}
use Rattle.std.specs.Char.{is_whitespace}
use Rattle.std.specs.List.{list_any}
use Rattle.std.proofs.lemmas.Bool.{and_parts, not-true, or_parts}
use Rattle.std.proofs.lemmas.Bool.Decides.{nat_tests}
use Rattle.dotenvy_format.specs.declared.walk.LineMode.{LineMode}
use Rattle.dotenvy_format.specs.declared.walk.LineMode.TheVariants.{Inside, Outside}
use Rattle.dotenvy_format.specs.Characters.{backslash, double_quote, hash, line_feed, single_quote}
use Rattle.dotenvy_format.specs.inside.Walk.{leads}
use Rattle.dotenvy_findings.specs.declared.open.OpenCursor.{OpenCursor}
use Rattle.dotenvy_findings.specs.declared.open.Suspect.{Suspect}
use Rattle.dotenvy_findings.specs.Characters.{begins_declaration}
use Rattle.dotenvy_findings.specs.LineTexts.{walked}
use Rattle.dotenvy_findings.specs.Opens.{has_hash_after, is_inside, mode_or_outside, open_after, open_moved}
use Rattle.dotenvy_findings.specs.Opens.{suspect_after, suspect_or, suspected}
use Rattle.dotenvy_findings.specs.Places.{next_place}
use Rattle.dotenvy_findings.specs.Runs.{is_plain, is_plain_or_space, walks_on}

-- what is no suspect quote changes nothing
keeps_suspect : (suspect : Option Suspect) (next : Suspect) → suspect_or suspect false next ≡ suspect
keeps_suspect None next = refl
keeps_suspect (Some suspect) next = refl

-- a character that is no line feed makes no quote a suspect one
no_suspect_by : (cursor : OpenCursor) (c : ℕ) (rest : List ℕ) → (c == line_feed) ≡ false →
    suspect_after cursor c rest ≡ cursor.suspect
no_suspect_by cursor c rest inside =
    let next = suspected cursor.opened (next_place cursor.place c).line in
    ap (λ b. suspect_or cursor.suspect ((b && is_inside cursor.mode) && begins_declaration rest) next) inside
    ∙ keeps_suspect cursor.suspect next

-- a text without a line feed has no suspect quote
pub no_suspect : (text : List ℕ) (cursor : OpenCursor) → list_any (λ c. c == line_feed) text ≡ false →
    (walked text cursor).suspect ≡ cursor.suspect
no_suspect [] cursor none = refl
no_suspect (c ∷ cs) cursor none =
    let parts = or_parts (c == line_feed) (list_any (λ d. d == line_feed) cs) none in
    no_suspect cs (open_after cursor c cs) parts.1 ∙ no_suspect_by cursor c cs parts.0

-- the cursor behind a character that moves the walk alone
abbrev pub went_on : ℕ → OpenCursor → OpenCursor
went_on c cursor =
    record cursor { place = next_place cursor.place c; last = cursor.place; before = Some c }

-- the cursor in this mode
abbrev in_mode : LineMode → OpenCursor → OpenCursor
in_mode mode cursor = record cursor { mode = mode }

-- the cursor behind such a character, with this in place of what is known of comments and suspect quotes
abbrev with_parts : Bool → Option Suspect → OpenCursor → OpenCursor
with_parts has_hash suspect cursor = record cursor { has_hash = has_hash; suspect = suspect }

-- a character that begins no comment, and no line, changes nothing of what is known of them
joined : (mode : LineMode) (cursor : OpenCursor) (c : ℕ) (rest : List ℕ) → (c == line_feed) ≡ false →
    has_hash_after (in_mode mode cursor) c ≡ cursor.has_hash →
    with_parts (has_hash_after (in_mode mode cursor) c) (suspect_after (in_mode mode cursor) c rest)
    (went_on c (in_mode mode cursor))
    ≡ went_on c (in_mode mode cursor)
joined mode cursor c rest inside hashes =
    let now = in_mode mode cursor in
    ap (λ h. with_parts h (suspect_after now c rest) (went_on c now)) hashes
    ∙ ap (λ s. with_parts cursor.has_hash s (went_on c now)) (no_suspect_by now c rest inside)

-- a hash in quotes begins no comment
no_comment : (is_hash before after : Bool) → (if is_hash && false then before else after) ≡ after
no_comment true before after = refl
no_comment false before after = refl

-- by the mode
walks : (mode : LineMode) (cursor : OpenCursor) (c : ℕ) (rest : List ℕ) → walks_on mode c ≡ true →
    open_after (in_mode mode cursor) c rest ≡ went_on c (in_mode mode cursor)
walks Outside cursor c rest h =
    let parts = and_parts (is_plain c) (not (c == hash)) h in
    let plain = parts.0 in
    let no_hash = not-true (c == hash) parts.1 in
    let feed : (c == line_feed) ≡ false = grind (arith, nat_tests) in
    let slash : (c == backslash) ≡ false = grind (arith, nat_tests) in
    let single : (c == single_quote) ≡ false = grind (arith, nat_tests) in
    let double : (c == double_quote) ≡ false = grind (arith, nat_tests) in
    let white : is_whitespace c ≡ false = grind (arith, nat_tests) in
    let next : leads Outside c ≡ Some Outside = rw (white, feed, slash, single, double) refl in
    ap (λ m. open_moved (in_mode Outside cursor) c rest (mode_or_outside m)) next
    ∙ joined Outside cursor c rest feed (rw (feed, no_hash) refl)
walks (Inside quote) cursor c rest h =
    let parts = and_parts (is_plain_or_space c) (not (c == quote)) h in
    let plain = parts.0 in
    let other = not-true (c == quote) parts.1 in
    let feed : (c == line_feed) ≡ false = grind (arith, nat_tests) in
    let slash : (c == backslash) ≡ false = grind (arith, nat_tests) in
    let next : leads (Inside quote) c ≡ Some (Inside quote) = rw (other, slash) refl in
    ap (λ m. open_moved (in_mode (Inside quote) cursor) c rest (mode_or_outside m)) next
    ∙ joined (Inside quote) cursor c rest feed (rw feed (no_comment (c == hash) _ cursor.has_hash))
walks other cursor c rest h = absurd cc

-- a character over which a walk goes on moves the walk alone
pub walks_over : (cursor : OpenCursor) (c : ℕ) (rest : List ℕ) → walks_on cursor.mode c ≡ true →
    open_after cursor c rest ≡ went_on c cursor
walks_over cursor c rest h = walks cursor.mode cursor c rest h
