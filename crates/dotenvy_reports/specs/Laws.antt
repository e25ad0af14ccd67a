-- What a reader of JSON finds in reports.
use Rattle.std.specs.Prelude.{ℕ, ◌≡◌, ◌<◌, ◌^◌, List, [], ◌∷◌, ◌++◌, Option, Some, None, ⊤, codes}
use Rattle.std.specs.List.{flat_map, AllByRecursion}
use Rattle.json.specs.Lex.{tokens}
use Rattle.json.specs.Print.{print}
use Rattle.json.specs.Token.{Token, end_object, end_array}
use Rattle.dotenvy_format.specs.Characters.{line_feed}
use Rattle.dotenvy_findings.specs.declared.place.Place.{Place}
use Rattle.dotenvy_reports.specs.JsonLines.{json_tokens}
use Rattle.dotenvy_reports.specs.Sarif.{result_tokens, sarif_end, sarif_result, sarif_start}
use Rattle.dotenvy_reports.specs.Sarif.{start_tokens}
use Rattle.dotenvy_reports.specs.Told.{Told}

-- the line and the column are numbers of 64 bits
abbrev pub HasSmallPlace : Option Place → Type 0
HasSmallPlace None = ⊤
HasSmallPlace (Some place) = (place.line < 2 ^ 64) × (place.column < 2 ^ 64)

-- what is told has numbers of 64 bits, as all that the code tells
pub record HasSmallNumbers (told : Told) : Type 0 where
  pub place : HasSmallPlace told.place
  pub other : told.other < 2 ^ 64

-- a reader finds in the object of a report the tokens that were written, and no others
abbrev pub JsonReadsBack : Type 0
JsonReadsBack =
    (told : Told) → HasSmallNumbers told → tokens (print (json_tokens told)) ≡ json_tokens told

-- results, each behind a comma
abbrev pub results_behind : List Told → List ℕ
results_behind [] = []
results_behind (told ∷ rest) = codes "," ++ (sarif_result told ++ results_behind rest)

-- results, with a comma between two of them
abbrev pub results : List Told → List ℕ
results [] = []
results (told ∷ rest) = sarif_result told ++ results_behind rest

-- the document of these results, which this version made
abbrev pub document : List ℕ → List Told → List ℕ
document version all = sarif_start version ++ (results all ++ sarif_end)

-- the tokens of the ends of the results, of the run, of the runs and of the document
abbrev pub end_tokens : List Token
end_tokens = end_array ∷ end_object ∷ end_array ∷ end_object ∷ []

-- the tokens of the document
abbrev pub document_tokens : List ℕ → List Told → List Token
document_tokens version all =
    start_tokens version ++ (flat_map result_tokens all ++ end_tokens)

-- a document is its tokens as JSON, and a line feed
abbrev pub DocumentsArePrinted : Type 0
DocumentsArePrinted =
    (version : List ℕ) (all : List Told) →
    document version all ≡ print (document_tokens version all) ++ line_feed ∷ []

-- a reader finds in a document the tokens that were written, and no others
abbrev pub DocumentsReadBack : Type 0
DocumentsReadBack =
    (version : List ℕ) (all : List Told) → AllByRecursion HasSmallNumbers all →
    tokens (print (document_tokens version all)) ≡ document_tokens version all
