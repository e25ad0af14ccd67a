-- Whether the text of a logical line gives a setting's key its value.
use Rattle.std.proofs.Common.{◌≡◌, ◌↔◌, ◌∙◌, ℕ, Bool, true, false, List, sym}
use Rattle.std.specs.Prelude.{IsTrue, bytes_eq, not}
use Rattle.std.specs.Str.{chars}
use Rattle.std.proofs.lemmas.Slice.Eq.{bytes_eq-Decides}
use Rattle.dotenvy.specs.Outcome.{is_nothing, trimmed}
use Rattle.dotenvy.specs.Statement.{IsStatement}
use Rattle.dotenvy_format.proofs.statements.Statements.{one_statement}
use Rattle.dotenvy_editor.specs.declared.writing.Setting.{Setting}
use Rattle.dotenvy_editor.specs.Lines.{AssignsText}
use Rattle.dotenvy_editor.specs.inside.Tried.{IsSaidBy}

module _ (setting : Setting) (text key rest : List ℕ) (is : IsStatement (trimmed text) key rest) where
  -- a statement of the key gives it the value if it assigns it
  pub said_if_means : (same means : Bool) → IsTrue (not (is_nothing (trimmed text))) →
      same ≡ bytes_eq key (chars setting.key.now) → same ≡ true →
      IsTrue means ↔ AssignsText setting.how.dialect rest (chars setting.value.now) →
      IsTrue means ↔ IsSaidBy setting text
  said_if_means same means some e h iff =
      let k : key ≡ chars setting.key.now = (bytes_eq-Decides key (chars setting.key.now)).0 (sym e ∙ h) in (
        λ yes. let given = iff.0 yes in (given.0, (some, rest, rw (← k) is, given.1), given.2),
        λ (pieces, (other, assigned, states, assigns), means).
            let one = one_statement (trimmed text) key rest (chars setting.key.now) assigned is states in
            iff.1 (pieces, rw one.1 assigns, means),
      )

  -- a statement of another key doesn't
  pub said_if_same : (same : Bool) → same ≡ bytes_eq key (chars setting.key.now) → same ≡ false →
      IsTrue same ↔ IsSaidBy setting text
  said_if_same same e h = (
    λ yes. absurd (let f : false ≡ true = sym h ∙ yes in cc),
    λ (pieces, (other, assigned, states, assigns), means).
        let one = one_statement (trimmed text) key rest (chars setting.key.now) assigned is states in
        e ∙ (bytes_eq-Decides key (chars setting.key.now)).1 one.0,
  )

-- nothing, and a comment, doesn't give a key its value
pub said_nothing : (setting : Setting) (text : List ℕ) → IsTrue (is_nothing (trimmed text)) →
    IsTrue false ↔ IsSaidBy setting text
said_nothing setting text nothing = (
  λ no. absurd (let f : false ≡ true = no in cc),
  λ (pieces, (other, assigned, states, assigns), means).
      let f : not true ≡ true = rw nothing at other in f,
)

-- neither does what is no statement
pub said_fault : (setting : Setting) (text : List ℕ) →
    ((key assigned : List ℕ) → ¬ (IsStatement (trimmed text) key assigned)) → IsTrue false ↔ IsSaidBy setting text
said_fault setting text none = (
  λ no. absurd (let f : false ≡ true = no in cc),
  λ (pieces, (other, assigned, states, assigns), means). absurd (none (chars setting.key.now) assigned states),
)
