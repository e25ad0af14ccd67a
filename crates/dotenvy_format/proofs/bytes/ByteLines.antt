-- The first line of bytes, found as the run of bytes before a line feed.
use Rattle.std.proofs.Common.{◌≡◌, ℕ, suc, ◌+◌, ◌∙◌, Bool, true, false, not, List, [], ◌∷◌, length, take, drop}
use Rattle.std.proofs.Common.{sym, refl, arith, Some, inl, inr}
use Rattle.std.specs.Prelude.{slice_get}
use Rattle.std.specs.List.{list_all, prefix_len}
use Rattle.std.proofs.lemmas.Bool.{cases_Bool}
use Rattle.std.proofs.Math.Seq.{take-append_seam, drop-append_seam}
use Rattle.std.proofs.lemmas.List.{take-append-drop}
use Rattle.dotenvy_format.specs.Characters.{begins_passing, line_feed}
use Rattle.dotenvy_format.specs.inside.Slices.{BeginsLine, IsSpan}
use Rattle.dotenvy_format.proofs.bytes.ByteRuns.{passed_over}

-- the run at the front passes
pub run_passes : (passes : ℕ → Bool) (bytes : List ℕ) → list_all passes (take (prefix_len passes bytes) bytes) ≡ true
run_passes passes [] = refl
run_passes passes (b ∷ bytes) =
    let step : 1 + prefix_len passes bytes ≡ suc (prefix_len passes bytes) = omega arith in
    elim (cases_Bool (passes b)) [
      | inl is ↦ rw (is, step, is) (run_passes passes bytes)
      | inr fails ↦ rw fails refl
    ]

-- no byte behind it does
run_longest : (passes : ℕ → Bool) (bytes : List ℕ)
    → not (begins_passing passes (drop (prefix_len passes bytes) bytes)) ≡ true
run_longest passes [] = refl
run_longest passes (b ∷ bytes) =
    let step : 1 + prefix_len passes bytes ≡ suc (prefix_len passes bytes) = omega arith in
    elim (cases_Bool (passes b)) [
      | inl is ↦ rw (is, step) (run_longest passes bytes)
      | inr fails ↦ rw (fails, fails) refl
    ]

-- so it and the bytes behind it are a span
pub run_span : {passes : ℕ → Bool} {bytes run rest : List ℕ} {n : ℕ} → n ≡ prefix_len passes bytes → run ≡ take n bytes
    → rest ≡ drop n bytes → IsSpan passes bytes run rest
run_span {passes} {bytes} e r d = record {
  spelled = rw (r, d, e) (sym (take-append-drop (prefix_len passes bytes) bytes));
  pass = rw (r, e) (run_passes passes bytes);
  longest = rw (d, e) (run_longest passes bytes);
}

-- where a line feed is behind the run at the front, the run is the first line
pub line_found : {passes : ℕ → Bool} {bytes front : List ℕ} (later : List ℕ)
    → front ≡ take (prefix_len passes bytes) bytes
    → drop (prefix_len passes bytes) bytes ≡ line_feed ∷ later → BeginsLine passes bytes front
line_found {passes} {bytes} later same rest = record {
  pass = rw same (run_passes passes bytes);
  later = later;
  begins = rw (same, ← rest) (sym (take-append-drop (prefix_len passes bytes) bytes));
}

-- no run begins with a byte that fails
none_at_once : (passes : ℕ → Bool) (b : ℕ) (bytes : List ℕ) → passes b ≡ false → prefix_len passes (b ∷ bytes) ≡ 0
none_at_once passes b bytes fails = rw fails refl

-- where a line feed fails, the run at the front of bytes that begin with a line is that line
line_is_run : {passes : ℕ → Bool} {bytes line : List ℕ} → passes line_feed ≡ false → BeginsLine passes bytes line
    → prefix_len passes bytes ≡ length line
line_is_run {passes} {line = line} fails is =
    rw is.begins (omega (
      arith,
      passed_over passes line (line_feed ∷ is.later) is.pass,
      none_at_once passes line_feed is.later fails,
    ))

-- so the run is the line, and a line feed is behind it
pub line_parts : {passes : ℕ → Bool} {bytes line : List ℕ} → passes line_feed ≡ false
    → (is : BeginsLine passes bytes line)
    → (take (prefix_len passes bytes) bytes ≡ line) × (drop (prefix_len passes bytes) bytes ≡ line_feed ∷ is.later)
line_parts {line = line} fails is =
    let rest = line_feed ∷ is.later in
    rw (line_is_run fails is, is.begins) (take-append_seam line rest, drop-append_seam line rest)

-- bytes begin with one line at most
pub one_line : {passes : ℕ → Bool} {bytes line other : List ℕ} → passes line_feed ≡ false → BeginsLine passes bytes line
    → BeginsLine passes bytes other → other ≡ line
one_line fails is others = sym (line_parts fails others).0 ∙ (line_parts fails is).0

-- what begins with a byte is that byte and the rest
pub first_is : (bytes : List ℕ) (n b : ℕ) → Some n ≡ slice_get bytes 0 → n ≡ b → bytes ≡ b ∷ drop 1 bytes
first_is [] n b h e = cc
first_is (c ∷ bytes) n b h e = cc
