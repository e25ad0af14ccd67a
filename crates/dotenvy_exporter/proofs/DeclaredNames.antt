-- The names that files declare, by loads over these names alone.
use Rattle.std.proofs.Common.{◌≡◌, ℕ, true, false, List, inl, inr, refl, sym, ◌∙◌}
use Rattle.std.proofs.Common.{Option, Some, None}
use Rattle.std.specs.Prelude.{is_some}
use Rattle.std.specs.Option.{option_or}
use Rattle.std.specs.Ordering.{nat_cmp}
use Rattle.std.specs.Str.{encode_utf8_all}
use Rattle.std.specs.Cmp.Lexicographic.{slice_cmp}
use Rattle.std.specs.FinMap as fin
use Rattle.std.proofs.lemmas.Bool.{cases_Bool}
use Rattle.dotenvy_base.specs.Environment.{Texts}
use Rattle.dotenvy_format.specs.declared.dialect.Dialect.{Dialect}
use Rattle.dotenvy_format.specs.Entries.{Entry}
use Rattle.dotenvy_items.specs.Meaning.{values_of}
use Rattle.env_layers.specs.declared.layers.Mode.{Mode}
use Rattle.env_layers.specs.declared.layers.Mode.TheVariants.{Keep, Override}
use Rattle.dotenvy_exporter.specs.Declarations.{HasDeclared, LoadsThrough, is_declared, kept_names}
use Rattle.dotenvy_exporter.proofs.DeclaredFiles.{Went, run_mode, same_lists, went, whole_loads}
use Rattle.dotenvy_exporter.proofs.DeclaredRuns.{Over}
use Rattle.dotenvy_exporter.proofs.KeptNames.{values_kept}

-- no name has a value in an empty environment
none_in_empty : (name : List ℕ) → values_of fin.empty name ≡ None
none_in_empty name = rw (fin.get-empty (slice_cmp nat_cmp) (encode_utf8_all name)) refl

-- a value, or else the same
or_itself : {T : Type 0} (value : Option T) → value ≡ option_or value value
or_itself None = refl
or_itself (Some x) = refl

-- a value that is there, or another
or_other : {T : Type 0} (value other : Option T) → is_some value ≡ true → value ≡ option_or value other
or_other None other there = cc
or_other (Some x) other there = refl

-- what is kept of an environment, for a load over it
kept_over : (mode : Mode) (env first : Texts) (lists : List (List Entry)) →
    Went lists (values_of fin.empty) (values_of first) →
    Over (run_mode mode) (values_of env) (is_declared lists) (values_of env) (values_of (kept_names mode env first))
kept_over Keep env first lists names = record {
  overlay = λ name. elim (cases_Bool (is_some (values_of first name))) [
    | inl there ↦ rw (values_kept env first name, there) (or_itself (values_of env name))
    | inr not ↦ rw (values_kept env first name, not) refl
  ];
  absent = λ keep name is none. rw (values_kept env first name, names.has name is) at none;
}
kept_over Override env first lists names = record {
  overlay = λ name. rw (none_in_empty name) refl;
  absent = λ keep name is none. cc;
}

-- what is kept has no name that no file declares
kept_declared : (mode : Mode) (env first : Texts) (lists : List (List Entry)) (name : List ℕ) →
    Went lists (values_of fin.empty) (values_of first) → is_declared lists name ≡ false →
    values_of (kept_names mode env first) name ≡ None
kept_declared Keep env first lists name names not =
    let none = names.others name not ∙ none_in_empty name in
    rw (values_kept env first name, none) refl
kept_declared Override env first lists name names not = none_in_empty name

-- loads over an empty environment tell the names, and loads over those that are kept have their values
pub has_declared : (mode : Mode) (dialect : Dialect) (env : Texts) (files : List (List ℕ)) (first kept final : Texts) →
    LoadsThrough mode dialect (values_of env) files (values_of fin.empty) (values_of first) →
    kept ≡ kept_names mode env first →
    LoadsThrough mode dialect (values_of env) files (values_of kept) (values_of final) →
    HasDeclared mode dialect env files final
has_declared mode dialect env files first kept final (lists, found) is (others, loads) =
    let same : lists ≡ others =
    same_lists mode dialect (values_of env) (values_of fin.empty) (values_of kept) files (values_of first)
    (values_of final) lists others found loads in
    let names : Went others (values_of fin.empty) (values_of first) =
    rw same at (went mode dialect (values_of env) (values_of fin.empty) files (values_of first) lists found) in
    let ends = went mode dialect (values_of env) (values_of kept) files (values_of final) others loads in
    let over = rw (← is) at (kept_over mode env first others names) in
    let (after, whole, left) =
    whole_loads mode dialect (values_of env) (is_declared others) (values_of env) (values_of kept) files
    (values_of final) others (λ name there. there) over loads in record {
      after = after;
      lists = others;
      loads = whole;
      holds = λ name. elim (cases_Bool (is_declared others name)) [
        | inl there ↦
            rw there (or_other (values_of final name) (values_of env name) (ends.has name there)
            ∙ sym (left.overlay name))
        | inr not ↦
            rw not (ends.others name not ∙ rw is (kept_declared mode env first others name names not))
      ];
    }
