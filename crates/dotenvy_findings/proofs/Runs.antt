-- Readings that stay as they are over a character.
use Rattle.std.proofs.Common.{◌≡◌, ℕ, ◌<◌, true, false, List, refl, ap, ◌∙◌, arith}
use Rattle.std.specs.Prelude.{◌==◌, ◌&&◌, not, Option, Some, None}
use Rattle.std.proofs.lemmas.Bool.{and_parts, not-true}
use Rattle.std.proofs.lemmas.Bool.Decides.{nat_tests}
use Rattle.dotenvy_format.specs.Characters.{backslash, begins_passing, dollar, double_quote, is_quote}
use Rattle.dotenvy_format.specs.Characters.{single_quote, space, tab}
use Rattle.dotenvy_findings.specs.declared.kind.Kind.{Kind}
use Rattle.dotenvy_findings.specs.declared.state.Before.TheVariants.{Text}
use Rattle.dotenvy_findings.specs.declared.state.State.{State}
use Rattle.dotenvy_findings.specs.declared.state.State.TheVariants.{Comment, Double, Outside, Single}
use Rattle.dotenvy_findings.specs.Characters.{is_letter, is_odd_space, is_typographic}
use Rattle.dotenvy_findings.specs.Cursors.{moved, told_state}
use Rattle.dotenvy_findings.specs.Marks.{character_kind, is_after_return, look_alike, unless_nul}
use Rattle.dotenvy_findings.specs.Places.{next_place}
use Rattle.dotenvy_findings.specs.Readings.{Asked, ReadingState, moved_to, stepped}
use Rattle.dotenvy_findings.specs.Readings.{unless_quoted, with_character, with_step}
use Rattle.dotenvy_findings.specs.Runs.{is_plain, is_plain_or_space, stays}
use Rattle.dotenvy_findings.specs.States.{next_state}

-- a character of ASCII that is no control, quote, backslash or dollar
record IsCalm (c : ℕ) : Type 0 where
  pub above : 31 < c
  pub below : c < 127
  pub single : (c == single_quote) ≡ false
  pub double : (c == double_quote) ≡ false
  pub slash : (c == backslash) ≡ false
  pub sign : (c == dollar) ≡ false

-- a plain character is calm, and no space
plain_is_calm : (c : ℕ) → is_plain c ≡ true → (32 < c) × IsCalm c
plain_is_calm c h = (
  grind (arith, nat_tests),
  record {
    above = grind (arith, nat_tests);
    below = grind (arith, nat_tests);
    single = grind (arith, nat_tests);
    double = grind (arith, nat_tests);
    slash = grind (arith, nat_tests);
    sign = grind (arith, nat_tests);
  },
)

-- a plain character is calm, and so is a space
is_calm : (c : ℕ) → is_plain_or_space c ≡ true → IsCalm c
is_calm c h =
    record {
      above = grind (arith, nat_tests);
      below = grind (arith, nat_tests);
      single = grind (arith, nat_tests);
      double = grind (arith, nat_tests);
      slash = grind (arith, nat_tests);
      sign = grind (arith, nat_tests);
    }

-- a character of ASCII looks like no other
none_alike : (before : Option ℕ) (c : ℕ) → c < 127 → look_alike before c ≡ None
none_alike before c low =
    let typographic : is_typographic c ≡ false = grind (arith, nat_tests) in
    let odd : is_odd_space c ≡ false = grind (arith, nat_tests) in
    let apostrophe : (c == 0x2019) ≡ false = grind (arith, nat_tests) in
    rw (typographic, odd, apostrophe) refl

-- nothing is told of a calm character in quotes
none_in_quotes : (c : ℕ) → 31 < c → unless_nul c None ≡ None
none_in_quotes c above =
    let is_some : (c == 0) ≡ false = grind (arith, nat_tests) in rw is_some refl

-- nothing is told of a calm character outside quotes, but behind a carriage return
none_outside : (before : Option ℕ) (c : ℕ) (rest : List ℕ) → is_after_return before ≡ false → IsCalm c →
    character_kind (Outside Text) before c rest ≡ None
none_outside before c rest after calm =
    let is_some : (c == 0) ≡ false = grind (arith, nat_tests) in
    rw (is_some, after, calm.single, calm.double) (none_alike before c calm.below)

-- the reading behind a character that moves its place alone
abbrev pub moved_on : ℕ → ReadingState → ReadingState
moved_on c reading = record reading {
  cursor = record (reading.cursor) { place = next_place reading.cursor.place c; before = Some c };
}

-- the reading in this state
abbrev in_state : State → ReadingState → ReadingState
in_state state reading = record reading { cursor = record (reading.cursor) { state = state } }

-- the reading behind a character of which this is told
abbrev when_told : Asked → ℕ → List ℕ → ReadingState → Option Kind → ReadingState
when_told asked c left reading kind = stepped c asked.value left (with_character kind reading)

-- the reading behind a character, where the state would be this without what is told of a tail
abbrev when_next : Asked → ℕ → List ℕ → ReadingState → State → ReadingState
when_next asked c left reading next =
    let state = told_state reading.cursor.ended reading.cursor.state next asked.value left in
    moved_to (moved reading.cursor c state) c reading

-- what is told of a character, by the character before it and the value
abbrev unless_told : Option ℕ → List ℕ → Option Kind → Option Kind
unless_told before value kind = unless_quoted (begins_passing is_quote value && not (is_letter before)) kind

-- by the state
steps : (asked : Asked) (state : State) (c : ℕ) (left rest : List ℕ) (reading : ReadingState) →
    stays state reading.cursor.before c ≡ true →
    with_step asked c left rest (in_state state reading) ≡ moved_on c (in_state state reading)
steps asked (Outside Text) c left rest reading h =
    let before = reading.cursor.before in
    let parts = and_parts (not (is_after_return before)) (is_plain c) h in
    let plain = plain_is_calm c parts.1 in
    let none = none_outside before c rest (not-true (is_after_return before) parts.0) plain.1 in
    let is_space : (c == space) ≡ false = grind (arith, nat_tests) in
    let is_tab : (c == tab) ≡ false = grind (arith, nat_tests) in
    let next : next_state reading.cursor.dialect (Outside Text) c ≡ Outside Text =
    rw (plain.1.slash, plain.1.single, plain.1.double, plain.1.sign, is_space, is_tab) refl in
    ap (λ k. when_told asked c left (in_state (Outside Text) reading) (unless_told before asked.value k)) none
    ∙ ap (when_next asked c left (in_state (Outside Text) reading)) next
steps asked Single c left rest reading h =
    let calm = is_calm c h in
    let none = none_in_quotes c calm.above in
    let next : next_state reading.cursor.dialect Single c ≡ Single = rw calm.single refl in
    ap (λ k. when_told asked c left (in_state Single reading) (unless_told reading.cursor.before asked.value k)) none
    ∙ ap (when_next asked c left (in_state Single reading)) next
steps asked Double c left rest reading h =
    let calm = is_calm c h in
    let none = none_in_quotes c calm.above in
    let next : next_state reading.cursor.dialect Double c ≡ Double =
    rw (calm.slash, calm.double, calm.sign) refl in
    ap (λ k. when_told asked c left (in_state Double reading) (unless_told reading.cursor.before asked.value k)) none
    ∙ ap (when_next asked c left (in_state Double reading)) next
steps asked Comment c left rest reading h =
    let calm = is_calm c h in
    let next : next_state reading.cursor.dialect Comment c ≡ Comment = rw (calm.single, calm.double) refl in
    ap (when_next asked c left (in_state Comment reading)) next
steps asked state c left rest reading h = absurd cc

-- a character over which the reading stays as it is moves its place alone
pub stays_over : (asked : Asked) (c : ℕ) (left rest : List ℕ) (reading : ReadingState) →
    stays reading.cursor.state reading.cursor.before c ≡ true →
    with_step asked c left rest reading ≡ moved_on c reading
stays_over asked c left rest reading h = steps asked reading.cursor.state c left rest reading h
