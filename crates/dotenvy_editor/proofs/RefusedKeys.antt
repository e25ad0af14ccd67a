-- Why an edit is refused before a line is read.
use Rattle.std.proofs.Common.{◌≡◌, ℕ, Bool, true, false, not, List, Some, IsTrue, refl, arith}
use Rattle.std.specs.Prelude.{◌&&◌}
use Rattle.dotenvy.specs.Dialect.{Dialect}
use Rattle.dotenvy.specs.Keys.{is_key}
use Rattle.dotenvy_editor.specs.declared.refusal.Reason.{Reason}
use Rattle.dotenvy_editor.specs.declared.refusal.Reason.TheVariants.{Key, Unportable as no_form}
use Rattle.dotenvy_editor.specs.declared.refusal.Unportable.{Unportable}
use Rattle.dotenvy_editor.specs.declared.refusal.Unportable.TheVariants.{Mark, WhiteSpace, Comment}
use Rattle.dotenvy_editor.specs.declared.writing.How.{How}
use Rattle.dotenvy_editor.specs.Portable.{value_refusal}
use Rattle.dotenvy_editor.specs.Refusals.{RefusesRename, RefusesSet, RefusesUnset}

-- the name is no key, which is told on no line
abbrev pub NoKey : List ℕ → Reason → ℕ → Type 0
NoKey key reason line = (reason ≡ Key) × (line ≡ 0) × IsTrue (not (is_key key))

pub set_key : (how : How) (key value bytes : List ℕ) (reason : Reason) (line : ℕ) → NoKey key reason line →
    RefusesSet how key value bytes reason line
set_key how key value bytes reason line (is, zero, none) = rw is (none, zero)

pub unset_key : (dialect : Dialect) (key bytes : List ℕ) (reason : Reason) (line : ℕ) → NoKey key reason line →
    RefusesUnset dialect key bytes reason line
unset_key dialect key bytes reason line (is, zero, none) = rw is (none, zero)

-- where one of two isn't so, not both are
not_both : (b c : Bool) → not b ≡ true → not (b && c) ≡ true
not_both false c h = refl
not_both true c h = cc

nor_both : (b c : Bool) → not c ≡ true → not (b && c) ≡ true
nor_both false c h = refl
nor_both true c h = h

pub rename_old : (old new bytes : List ℕ) (reason : Reason) (line : ℕ) → NoKey old reason line →
    RefusesRename old new bytes reason line
rename_old old new bytes reason line (is, zero, none) = rw is (not_both (is_key old) (is_key new) none, zero)

pub rename_new : (old new bytes : List ℕ) (reason : Reason) (line : ℕ) → NoKey new reason line →
    RefusesRename old new bytes reason line
rename_new old new bytes reason line (is, zero, none) = rw is (nor_both (is_key old) (is_key new) none, zero)

-- a value is refused for no mark, no white space around it and no comment
no_mark : (value : List ℕ) → value_refusal value ≡ Some Mark → ⊥
no_mark value is = grind arith

no_white : (value : List ℕ) → value_refusal value ≡ Some WhiteSpace → ⊥
no_white value is = grind arith

no_comment : (value : List ℕ) → value_refusal value ≡ Some Comment → ⊥
no_comment value is = grind arith

-- why no form of a value is read alike
pub value_refused : (how : How) (key value bytes : List ℕ) (reason : Unportable) → how.is_portable ≡ true →
    value_refusal value ≡ Some reason → RefusesSet how key value bytes (no_form reason) 0
value_refused how key value bytes Mark portable is = absurd (no_mark value is)
value_refused how key value bytes WhiteSpace portable is = absurd (no_white value is)
value_refused how key value bytes Comment portable is = absurd (no_comment value is)
value_refused how key value bytes reason portable is = (portable, (is, refl))
