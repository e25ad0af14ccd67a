-- Lines with the guesses behind them.
use Rattle.std.proofs.Common.{◌≡◌, ℕ, true, false, List, [], ◌∷◌, Some, None, refl}
use Rattle.std.specs.Prelude.{encode_utf8_all}
use Rattle.std.specs.declared.io.ErrorKind.TheVariants.{InvalidData}
use Rattle.std.specs.declared.string.String.{String}
use Rattle.dotenvy_base.specs.declared.errors.Error.{Error}
use Rattle.dotenvy_base.specs.declared.errors.Error.TheVariants as error
use Rattle.dotenvy_format.specs.Entries.{Fails, Io}
use Rattle.dotenvy_format.specs.LogicalLine.{Logical, Broken}
use Rattle.dotenvy_findings.specs.declared.kind.Kind.TheVariants.{NotUtf8}
use Rattle.dotenvy_checker.specs.declared.lines.Checker.{Checker}
use Rattle.dotenvy_checker.specs.declared.lines.Numbered.{Numbered}
use Rattle.dotenvy_checker.specs.Findings.{begins_at, cut, found, logical_text}
use Rattle.dotenvy_checker.specs.inside.CheckedLines.{declared_of, failed_as, setting_at, ChecksGuesses}
use Rattle.dotenvy_checker.specs.inside.CheckedLines.{ChecksPart, ChecksWhole, KeepsMore}
use Rattle.dotenvy_checker.proofs.KeptLines.{comes_on, keeps, keeps_last, same_setting}

-- a line behind which nothing is guessed
pub whole_alone : {A : Type 0} (logical : Logical) {old new : Checker A} (line : Numbered) (last : ℕ) →
    line.is_guess ≡ false → ChecksPart line last logical None old new → ChecksWhole line.number last logical old new
whole_alone logical line last no_guess (entries, gives, behind, comes) =
    (entries, [], gives, rw (← behind) refl, rw no_guess at comes)

-- a line and the guesses behind it
pub whole_guessed : {A : Type 0} (logical : Logical) {old now new : Checker A} (line : Numbered) (last from : ℕ)
    (text : List ℕ) → line.is_guess ≡ false → encode_utf8_all (logical_text logical) ≡ text →
    ChecksPart line last logical (Some from) old now → ChecksGuesses from false line.number (cut text) now new →
    ChecksWhole line.number last logical old new
whole_guessed logical line last from text no_guess is (entries, gives, behind, comes) (guesses, are, guessed) = (
  entries,
  guesses,
  gives,
  rw (← behind, is) (rw comes.dialect at are),
  comes_on comes (rw (same_setting true comes, comes.comes, no_guess) at guessed),
)

-- a line that is no text
pub whole_broken : {A : Type 0} {old new : Checker A} (line : Numbered) (last : ℕ) → line.is_guess ≡ false →
    KeepsMore (found (setting_at old line.is_guess) NotUtf8 (begins_at last) 0 ∷ []) (declared_of old.declared)
    old.above old new →
    ChecksWhole line.number last Broken old (record new { above = 0 })
whole_broken line last no_guess kept =
    (Fails (Io InvalidData) ∷ [], [], refl, refl, keeps (keeps_last 0 (rw no_guess at kept)))

-- a fault that is no line that stays open is a line that is no text
pub failed_broken : {A : Type 0} (e : Error A) →
    ((text : String A) (index : ℕ) → e ≡ error.LineParse text index → ⊥) → failed_as e ≡ Broken
failed_broken (error.LineParse text index) h = absurd (h text index refl)
failed_broken (error.Io e) h = refl
failed_broken (error.EnvVar e) h = refl
failed_broken (error.Nul key) h = refl
failed_broken (error.Memory e) h = refl
