-- The files that words name, in the order of the words.
use Rattle.std.specs.Prelude.{ℕ, ◌≡◌, ◌++◌, Bool, true, false, List, [], ◌∷◌, map, nat_lt, slice_get}
use Rattle.std.specs.Prelude.{codes, drop, string_bytes, take, unwrap_or}
use Rattle.std.specs.List.{prefix_len}
use Rattle.std.specs.Option.{option_map}
use Rattle.clap.specs.Words.{Row, Text, matched_of, rows_of}
use Rattle.clap.specs.declared.parser.matches.Found.{Found}
use Rattle.dotenvy_export_command.specs.declared.files.Named.{Named}
use Rattle.dotenvy_export_command.specs.declared.files.Placed.{Placed}
use Rattle.dotenvy_words.specs.Found.{values_of}

-- a name, and its place among the words
abbrev pub At : Type 0
At = ℕ × Text

-- the first of these places; where there is none, one behind all others
abbrev pub first_place : List ℕ → ℕ
first_place places = unwrap_or (slice_get places 0) 0xffff_ffff_ffff_ffff

-- names with their places
abbrev pub placed : List ℕ → List Text → List At
placed places [] = []
placed places (name ∷ names) = (first_place places, name) ∷ placed (drop 1 places) names

-- these files, with whether they may be absent
abbrev pub each : Bool → List At → List (Text × Bool)
each optional files = map (λ file. (file.1, optional)) files

-- a file is before a place
abbrev pub is_before : ℕ → At → Bool
is_before place file = nat_lt file.0 place

-- how many of the files are before a place, from the first one on
abbrev pub count_before : ℕ → List At → ℕ
count_before place files = prefix_len (is_before place) files

-- files, each behind the optional ones whose place is before its own; and the other optional ones
abbrev pub merged : List At → List At → List (Text × Bool)
merged [] optional = each true optional
merged (file ∷ files) optional =
    each true (take (count_before file.0 optional) optional)
    ++ (file.1, false) ∷ merged files (drop (count_before file.0 optional) optional)

-- the code's file, with its name as bytes
abbrev pub named_of : {A : Type 0} → Named A → Text × Bool
named_of file = (string_bytes file.name, file.optional)

-- the code's name at a place
abbrev pub placed_of : Placed → At
placed_of file = (file.place, file.name.now)

-- the places among the words that `clap` gives for the values of an option; it doesn't say which
abbrev pub places_of : Text → Found → List ℕ
places_of name found = unwrap_or (option_map (λ entry. entry.indices.items) (matched_of found name)) []

-- the files and the optional files that were found, merged by their places
abbrev pub files_of : Found → List (Text × Bool)
files_of found =
    merged (placed (places_of (codes "file") found) (values_of (codes "file") (rows_of found)))
    (placed (places_of (codes "optional") found) (values_of (codes "optional") (rows_of found)))

-- these are the files and the optional files that were found, merged by some places
abbrev pub AreFilesOf : List Row → List (Text × Bool) → Type 0
AreFilesOf rows files =
    (places others : List ℕ)
    × (files ≡ merged (placed places (values_of (codes "file") rows))
    (placed others (values_of (codes "optional") rows)))
