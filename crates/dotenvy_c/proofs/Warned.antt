-- The warnings that were told so far, and those that are left.
use Rattle.std.proofs.Common.{ℕ, suc, ◌≡◌, ◌<◌, ◌+◌, List, [], ◌∷◌, ◌++◌, length, drop, refl, sym, ap, ◌∙◌, arith}
use Rattle.std.proofs.Common.{length-append, append-nil, append_assoc, drop-cons}
use Rattle.std.specs.Prelude.{slice_index_or}
use Rattle.std.specs.declared.alloc.Global.{Global}
use Rattle.dotenvy_editor.specs.declared.warning.Warning.{Warning}
use Rattle.dotenvy_c.specs.declared.warnings.ToldWarning.{ToldWarning}
use Rattle.dotenvy_c.specs.Warnings.{told_at, told_from, warning_name, warning_names, warning_told}

-- with the warnings that are left, the bytes and the records are those of all
pub record ToldSoFar (left : List (Warning Global)) (bytes all_bytes : List ℕ)
    (told all_told : List ToldWarning) : Type 0 where
  pub written : bytes ++ warning_names left ≡ all_bytes
  pub recorded : told ++ told_from (length bytes) left ≡ all_told

-- none was told yet
pub none_told : (left : List (Warning Global)) (bytes : List ℕ) (told : List ToldWarning) → told ≡ [] →
    ToldSoFar left bytes (bytes ++ warning_names left) told (told_from (length bytes) left)
none_told left bytes told none = record { written = refl; recorded = rw none refl }

-- one more was told
pub one_told : {warning : Warning Global} {left all : List (Warning Global)} {bytes all_bytes new_bytes : List ℕ}
    {told all_told new_told : List ToldWarning} → all ≡ warning ∷ left →
    new_bytes ≡ bytes ++ warning_name warning →
    new_told ≡ told ++ told_at (length bytes) (warning_told warning) ∷ [] →
    ToldSoFar all bytes all_bytes told all_told → ToldSoFar left new_bytes all_bytes new_told all_told
one_told {warning = warning} {left = left} {bytes = bytes} {told = told} is more_bytes more_told before = record {
  written =
      rw more_bytes (append_assoc bytes (warning_name warning) (warning_names left) ∙ (rw is at before.written));
  recorded =
      rw (more_told, more_bytes, length-append bytes (warning_name warning))
      (append_assoc told (told_at (length bytes) (warning_told warning) ∷ []) _ ∙ (rw is at before.recorded));
}

-- all were told
pub all_told : {bytes all_bytes : List ℕ} {told all_told : List ToldWarning} →
    ToldSoFar [] bytes all_bytes told all_told → (bytes ≡ all_bytes) × (told ≡ all_told)
all_told {bytes = bytes} {told = told} before = (rw append-nil at before.written, rw append-nil at before.recorded)

-- what is left at an item is it, and what is left after it
pub left_at : {X : Type 0} (items : List X) (at : ℕ) (item : X) → at < length items →
    item ≡ slice_index_or items at item → drop at items ≡ item ∷ drop (at + 1) items
left_at items at item inside is =
    let next : suc at ≡ at + 1 = omega arith in
    drop-cons items at item inside
    ∙ ap (λ x. x ∷ drop (suc at) items) (sym is)
    ∙ ap (λ n. item ∷ drop n items) next

-- there are as many records as warnings
pub length-told_from : (at : ℕ) (warnings : List (Warning Global)) → length (told_from at warnings) ≡ length warnings
length-told_from at [] = refl
length-told_from at (warning ∷ later) = rw (length-told_from (at + length (warning_name warning)) later) refl
