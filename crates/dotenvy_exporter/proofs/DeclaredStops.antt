-- A load of bytes with an error stops at an entry, on its line.
use Rattle.std.proofs.Common.{◌≡◌, ◌+◌, ◌^◌, ◌<◌, ◌≤◌, ◌++◌, ◌∙◌, ℕ, suc, List, [], ◌∷◌, Option, inl, inr, refl}
use Rattle.std.proofs.Common.{Result, Err, ap, arith, drop, get_or, length, length-append, length-drop, map, sym, take}
use Rattle.std.proofs.Math.Seq.{drop-cons}
use Rattle.std.proofs.lemmas.Bool.{cases_Bool}
use Rattle.std.proofs.lemmas.List.{length-map, map-append, take-append-drop, take_more}
use Rattle.std.specs.List.{starts_with}
use Rattle.std.specs.Prelude.{◌==◌, nat_eq}
use Rattle.dotenvy_base.specs.Environment.{Texts}
use Rattle.dotenvy_base.specs.Errors.{IsIoOf}
use Rattle.dotenvy_base.specs.declared.errors.Error.{Error}
use Rattle.dotenvy_base.specs.declared.errors.Error.TheVariants as error
use Rattle.dotenvy_format.proofs.lines.NextLine.{broken_within}
use Rattle.dotenvy_format.specs.Characters.{line_feed}
use Rattle.dotenvy_format.specs.Entries.{AreFirstLines}
use Rattle.dotenvy_format.specs.LogicalLine.{Broken, HasText, IsNext, Logical, Skip, StaysOpen}
use Rattle.dotenvy_format.specs.Marks.{byte_order_mark, without_mark}
use Rattle.dotenvy_format.specs.PhysicalLines.{line_text, line_texts, onto_first, physical_lines}
use Rattle.dotenvy_format.specs.declared.dialect.Dialect.{Dialect}
use Rattle.dotenvy_items.specs.Iter.{IterState, fresh, remembering}
use Rattle.dotenvy_items.specs.LoadStops.{DecideLoaded, Stops}
use Rattle.dotenvy_items.specs.Meaning.{values_of}
use Rattle.dotenvy.specs.Input.{InputState, IsReadFault, most_reads}
use Rattle.env_layers.specs.Layers.{rule_of}
use Rattle.env_layers.specs.declared.layers.Mode.{Mode}
use Rattle.dotenvy_exporter.proofs.DeclaredReads.{recalls}
use Rattle.dotenvy_exporter.specs.Declarations.{IsTooLong, StopsFile, ahead_of, bytes_told}

-- the next logical line is no longer than all physical lines
next_within : (lines : List (Option (List ℕ))) (count : ℕ) (next : Logical) → IsNext lines count next →
    count ≤ length lines
next_within [] count Skip is = absurd is.0
next_within (line ∷ lines) count Skip is = let one = is.1 in omega (arith, one)
next_within lines count (HasText kept) is = let text = is.1 in text.within
next_within lines count (StaysOpen text index) is = let all = is.1 in omega (arith, all)
next_within lines count Broken is = broken_within lines count is.1

-- neither are the first logical lines
first_within : (lines : List (Option (List ℕ))) (count : ℕ) (logical : List Logical) →
    AreFirstLines lines count logical → count ≤ length lines
first_within lines count [] none = omega (arith, none)
first_within lines count (next ∷ others) (these, later, is, are, total) =
    let here = next_within lines these next is in
    let after = first_within (drop these lines) later others are in
    omega (arith, here, after, total, length-drop these lines)

-- a byte adds one line at most
onto_within : (c : ℕ) (lines : List (List ℕ)) → length (onto_first c lines) ≤ length lines + 1
onto_within c [] = omega arith
onto_within c (line ∷ lines) = omega arith

-- there are no more physical lines than bytes
lines_within : (bytes : List ℕ) → length (physical_lines bytes) ≤ length bytes
lines_within [] = omega arith
lines_within (c ∷ cs) =
    let later = lines_within cs in
    elim (cases_Bool (c == line_feed)) [
      | inl is ↦ rw is (omega (arith, later))
      | inr not ↦ rw not (omega (arith, later, onto_within c (physical_lines cs)))
    ]

-- without the byte order mark there are no more bytes
unmarked_within : (bytes : List ℕ) → length (without_mark bytes) ≤ length bytes
unmarked_within bytes =
    elim (cases_Bool (starts_with nat_eq bytes byte_order_mark)) [
      | inl is ↦ rw is (omega (arith, length-drop 3 bytes))
      | inr not ↦ rw not (omega arith)
    ]

-- the first logical lines of a file have no more physical lines than the file has bytes
taken_within : (bytes : List ℕ) (count : ℕ) (logical : List Logical) →
    AreFirstLines (line_texts (without_mark bytes)) count logical → count ≤ length bytes
taken_within bytes count logical are =
    let file = without_mark bytes in
    let within = first_within (line_texts file) count logical are in
    omega (arith, within, length-map (physical_lines file) line_text, lines_within file, unmarked_within bytes)

-- a fault of reading these bytes is that there are too many
too_long : {A : Type 0} (bytes : List ℕ) (begin end : InputState) (holds : List ℕ → Type 0) (failed : Error A) →
    begin.reads ≡ most_reads → IsIoOf (IsReadFault (ahead_of bytes) begin holds end) failed → IsTooLong bytes failed
too_long bytes begin end holds (error.Io fault) all (inl told) = let none = told.0 in cc
too_long bytes begin end holds (error.Io fault) all (inr (other, bound)) =
    let gave = bound.each_gave in
    let total = ap length bound.cut in
    (omega (arith, all, gave, total, length-append bound.front bound.later), other)
too_long bytes begin end holds other all is = absurd is

-- why a load of a file's bytes stops, and on which line
pub file_stops : {A : Type 0} (mode : Mode) (dialect : Dialect) (env old : Texts) (bytes : List ℕ)
    (answer : Result (Unit {0}) (Error A)) (failed : Error A) (end : IterState) → length bytes + 1 < 2 ^ 64 →
    answer ≡ Err failed →
    Stops (rule_of mode) (remembering env (fresh (bytes_told bytes) dialect)) old answer end → (line : ℕ) →
    line ≡ end.item_lines.0 → StopsFile mode dialect (values_of env) (values_of old) bytes line failed
file_stops mode dialect env old bytes answer failed end few fails stops line is_line =
    let begin = remembering env (fresh (bytes_told bytes) dialect) in
    let ways = rw fails at (stops (ahead_of bytes) (refl, λ told. cc)) in
    elim ways [
      | inl place ↦
          let within = taken_within bytes place.uses.before place.uses.lines place.uses.are_before in
          let counts = place.stands.0 (omega (arith, within, few)) in
          inl (record {
            done = place.done;
            entry = place.entry;
            loads = rw (recalls env bytes dialect) at place.stops.0;
            stops = rw (recalls env bytes dialect) at place.stops.1;
            left = place.left;
            uses = place.uses;
            begins = omega (arith, is_line, counts);
          })
      | inr final ↦
          let on_none = is_line ∙ ap (λ lines. lines.0) final.1 in
          elim final.0.1 [
            | inl memory ↦ inr (on_none, inl memory)
            | inr reading ↦
                let loaded = DecideLoaded (rule_of mode) begin old in
                inr (on_none, inr (too_long bytes begin.lines.input end.lines.input loaded failed refl reading))
          ]
    ]

-- of these values the one at this place is between those before and those after it
pub cut_at : {X : Type 0} (xs : List X) (value : X → List ℕ) (at : ℕ) (x : X) → at < length xs →
    x ≡ get_or xs at x → map value xs ≡ map value (take at xs) ++ value x ∷ map value (drop (at + 1) xs)
cut_at xs value at x within is =
    let next : suc at ≡ at + 1 = omega arith in
    let cut : drop at xs ≡ x ∷ drop (at + 1) xs =
    drop-cons xs at x within ∙ ap (λ n. get_or xs at x ∷ drop n xs) next
    ∙ ap (λ first. first ∷ drop (at + 1) xs) (sym is) in
    ap (map value) (sym (take-append-drop at xs)) ∙ map-append value (take at xs) (drop at xs)
    ∙ ap (λ rest. map value (take at xs) ++ map value rest) cut

-- the values up to this place and at it are those up to the next one
pub taken_more : {X : Type 0} (xs : List X) (value : X → List ℕ) (at : ℕ) (x : X) → at < length xs →
    x ≡ get_or xs at x → map value (take (at + 1) xs) ≡ map value (take at xs) ++ value x ∷ []
taken_more xs value at x within is =
    ap (map value) (take_more xs at x within ∙ ap (λ last. take at xs ++ last ∷ []) (sym is))
    ∙ map-append value (take at xs) (x ∷ [])
