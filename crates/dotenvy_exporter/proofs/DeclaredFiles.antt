-- Loads of files over their own names, and the loads of the same files over the whole environment.
use Rattle.std.proofs.Common.{◌≡◌, ℕ, Bool, true, false, List, [], ◌∷◌, ◌++◌, inl, inr, refl, sym, ◌∙◌, arith}
use Rattle.std.proofs.Common.{Option, Some, None, Ok}
use Rattle.std.proofs.Math.Path.{fun_ext}
use Rattle.std.specs.Prelude.{is_some}
use Rattle.std.specs.List.{list_any}
use Rattle.std.specs.Option.{option_or}
use Rattle.std.proofs.lemmas.Bool.{cases_Bool}
use Rattle.dotenvy_format.specs.declared.dialect.Dialect.{Dialect}
use Rattle.dotenvy_format.specs.Entries.{Entry}
use Rattle.dotenvy_format.specs.Items.{LookUp, no_values}
use Rattle.dotenvy_format.specs.Loads.{SameLoad}
use Rattle.dotenvy_format.specs.Marks.{without_mark}
use Rattle.dotenvy_format.specs.Run.{run}
use Rattle.dotenvy_format.specs.Run as runs
use Rattle.dotenvy_format.proofs.lines.EntriesOnce.{entries_once}
use Rattle.dotenvy_format.proofs.loads.LoadLaws.{run-keep, run-replace}
use Rattle.env_layers.specs.Layers.{rule_of}
use Rattle.env_layers.specs.declared.layers.Mode.{Mode}
use Rattle.env_layers.specs.declared.layers.Mode.TheVariants.{Keep, Override}
use Rattle.dotenvy_exporter.specs.Declarations.{LoadsFile, LoadsFiles, LoadsThrough, declares, is_declared}
use Rattle.dotenvy_exporter.proofs.DeclaredRuns.{Over, Ran, compare, ran}

-- the mode, as loads of one entry after another have it
abbrev pub run_mode : Mode → runs.Mode
run_mode Keep = runs.Keep
run_mode Override = runs.Replace

-- a load of one entry after another is the load by the rule
pub in_turn : (mode : Mode) (before remembered : LookUp) (entries : List Entry) →
    SameLoad (run (run_mode mode) before remembered entries) (rule_of mode before remembered entries)
in_turn Keep before remembered entries = run-keep before remembered entries
in_turn Override before remembered entries = run-replace before remembered entries

-- what the load of a file leaves is what a load of one entry after another does
left_in_turn : (mode : Mode) (dialect : Dialect) (outside before : LookUp) (file : List ℕ) (after : LookUp) →
    (load : LoadsFile mode dialect outside before file after) →
    (run (run_mode mode) before outside load.entries).env ≡ after
left_in_turn mode dialect outside before file after load =
    fun_ext (λ name. (in_turn mode before outside load.entries).env name ∙ sym (load.leaves name))

-- and it has no error
no_error_in_turn : (mode : Mode) (dialect : Dialect) (outside before : LookUp) (file : List ℕ) (after : LookUp) →
    (load : LoadsFile mode dialect outside before file after) →
    (run (run_mode mode) before outside load.entries).answer ≡ Ok tt
no_error_in_turn mode dialect outside before file after load =
    (in_turn mode before outside load.entries).answer ∙ load.no_error

-- loads without an error set or find each name that the files declare, and change no other
pub record Went (lists : List (List Entry)) (before after : LookUp) : Type 0 where
  pub has : (name : List ℕ) → is_declared lists name ≡ true → is_some (after name) ≡ true
  pub stays : (name : List ℕ) → is_some (before name) ≡ true → is_some (after name) ≡ true
  pub others : (name : List ℕ) → is_declared lists name ≡ false → after name ≡ before name

-- one more file in front
went_more : (entries : List Entry) (lists : List (List Entry)) (before between after : LookUp) →
    Ran entries before between → Went lists between after → Went (entries ∷ lists) before after
went_more entries lists before between after first rest = record {
  has = λ name is. elim (cases_Bool (list_any (declares name) entries)) [
    | inl here ↦ rest.stays name (first.has name here)
    | inr not ↦ rest.has name (rw not at is)
  ];
  stays = λ name is. rest.stays name (first.stays name is);
  others = λ name is. elim (cases_Bool (list_any (declares name) entries)) [
    | inl here ↦ let never : true ≡ false = rw here at is in cc
    | inr not ↦ rest.others name (rw not at is) ∙ first.others name not
  ];
}

-- what loads of files leave
pub went : (mode : Mode) (dialect : Dialect) (outside before : LookUp) (files : List (List ℕ)) (after : LookUp)
    (lists : List (List Entry)) → LoadsFiles mode dialect outside before files after lists → Went lists before after
went mode dialect outside before [] after lists (same, none) =
    rw none (record {
      has = λ name is. cc;
      stays = λ name is. rw (same name) is;
      others = λ name is. same name;
    })
went mode dialect outside before (file ∷ files) after lists (between, own, later, loads, is) =
    let first = ran (run_mode mode) before outside own.entries
    (no_error_in_turn mode dialect outside before file between own) in
    rw is (went_more own.entries later before between after
    (rw (left_in_turn mode dialect outside before file between own) at first)
    (went mode dialect outside between files after later loads))

-- a text, or else none
pub or_none : {T : Type 0} (value : Option T) → option_or value None ≡ value
or_none None = refl
or_none (Some x) = refl

-- loads of files over names are loads over the whole environment, which leave the same of these names
pub whole_loads : (mode : Mode) (dialect : Dialect) (outside : LookUp) (wanted : List ℕ → Bool) (whole own : LookUp)
    (files : List (List ℕ)) (after : LookUp) (lists : List (List Entry)) →
    ((name : List ℕ) → is_declared lists name ≡ true → wanted name ≡ true) →
    Over (run_mode mode) outside wanted whole own → LoadsFiles mode dialect outside own files after lists →
    (left : LookUp) × LoadsFiles mode dialect no_values whole files left lists
    × Over (run_mode mode) outside wanted left after
whole_loads mode dialect outside wanted whole own [] after lists wants over (same, none) =
    (whole, ((λ name. refl), none), rw (fun_ext same) over)
whole_loads mode dialect outside wanted whole own (file ∷ files) after lists wants over
    (between, load, later, loads, is) =
    let wants_both = rw is at wants in
    let both = compare (run_mode mode) whole own no_values outside load.entries
    (λ name here. wants_both name (rw here refl)) (λ name. or_none (whole name) ∙ over.overlay name) over
    (no_error_in_turn mode dialect outside own file between load) in
    let left = (run (run_mode mode) whole no_values load.entries).env in
    let turn = in_turn mode whole no_values load.entries in
    let own_load : LoadsFile mode dialect no_values whole file left = record {
      entries = load.entries;
      has_entries = load.has_entries;
      no_error = sym turn.answer ∙ both.0;
      leaves = turn.env;
    } in
    let (end, goes, stands) = whole_loads mode dialect outside wanted left between files after later
    (λ name there. wants_both name (rw there (grind arith)))
    (rw (left_in_turn mode dialect outside own file between load) at both.1) loads in
    (end, (left, own_load, later, goes, is), stands)

-- files are loaded, and then one more
pub loads_last : (mode : Mode) (dialect : Dialect) (outside before between after : LookUp) (front : List (List ℕ))
    (file : List ℕ) → LoadsThrough mode dialect outside front before between →
    LoadsFile mode dialect outside between file after →
    LoadsThrough mode dialect outside (front ++ file ∷ []) before after
loads_last mode dialect outside before between after [] file (lists, (same, none)) own =
    let first = rw (fun_ext same) at own in
    (first.entries ∷ [], (after, first, [], ((λ name. refl), refl), refl))
loads_last mode dialect outside before between after (one ∷ front) file (lists, (middle, load, later, loads, is)) own =
    let (others, goes) = loads_last mode dialect outside middle between after front file (later, loads) own in
    (load.entries ∷ others, (middle, load, others, goes, refl))

-- the entries of files are the same in all loads
pub same_lists : (mode : Mode) (dialect : Dialect) (outside before other : LookUp) (files : List (List ℕ))
    (after left : LookUp) (lists others : List (List Entry)) →
    LoadsFiles mode dialect outside before files after lists →
    LoadsFiles mode dialect outside other files left others → lists ≡ others
same_lists mode dialect outside before other [] after left lists others (same, none) (also, neither) =
    none ∙ sym neither
same_lists mode dialect outside before other (file ∷ files) after left lists others
    (between, own, later, loads, is) (middle, load, more, goes, are) =
    let first : own.entries ≡ load.entries =
    entries_once dialect (without_mark file) own.entries load.entries own.has_entries load.has_entries in
    let rest = same_lists mode dialect outside between middle files after left later more loads goes in
    is ∙ rw (first, rest) refl ∙ sym are
