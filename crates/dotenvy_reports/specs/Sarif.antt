-- Reports as SARIF 2.1.0: the tokens of a result, and of what stands around the results.
use Rattle.std.specs.Prelude.{ℕ, List, [], ◌∷◌, ◌++◌, Option, Some, None, codes, unwrap_or}
use Rattle.std.specs.List.{flat_map}
use Rattle.json.specs.Print.{print}
use Rattle.json.specs.Token.{Token, begin_object, end_object, begin_array, end_array, key}
use Rattle.dotenvy_findings.specs.declared.kind.Kind.{Kind}
use Rattle.dotenvy_findings.specs.declared.place.Place.{Place}
use Rattle.dotenvy_findings.specs.Kinds.{kind_name, message}
use Rattle.dotenvy_findings.specs.Named.{kinds}
use Rattle.dotenvy_reports.specs.JsonLines.{number_member, text_member}
use Rattle.dotenvy_reports.specs.Severities.{severity_name}
use Rattle.dotenvy_reports.specs.Told.{Told, message_text}
use Rattle.dotenvy_reports.specs.Uris.{uri}

-- an object with these members
abbrev pub object : List Token → List Token
object members = begin_object ∷ (members ++ end_object ∷ [])

-- a member that is an object with one member, which is a text
abbrev pub text_object : List ℕ → List ℕ → List ℕ → List Token
text_object outer name text = key outer ∷ object (text_member name text)

-- the member that says where it is in the file
abbrev pub region_member : Option Place → List Token
region_member None = []
region_member (Some place) =
    key (codes "region") ∷ object (number_member (codes "startLine") place.line
    ++ number_member (codes "startColumn") place.column)

-- where it is: the file, and the place if there is one
abbrev pub location : Told → List Token
location told =
    object (key (codes "physicalLocation") ∷ object (
    text_object (codes "artifactLocation") (codes "uri") (uri told.file)
    ++ region_member told.place))

-- the member that lists where it is, which is one place
abbrev pub locations_member : Told → List Token
locations_member told = key (codes "locations") ∷ begin_array ∷ (location told ++ end_array ∷ [])

-- the rule of a kind; a report without one is of a file that was not read
abbrev pub rule_of : Option (List ℕ) → List ℕ
rule_of kind = unwrap_or kind (codes "unread-file")

-- the members that say what is found
abbrev pub found_members : Told → List Token
found_members told =
    text_member (codes "ruleId") (rule_of told.kind)
    ++ (text_member (codes "level") (severity_name told.severity)
    ++ text_object (codes "message") (codes "text") (message_text told))

-- the tokens of a result
abbrev pub result_tokens : Told → List Token
result_tokens told = object (found_members told ++ locations_member told)

-- a result, which a comma separates from the next
abbrev pub sarif_result : Told → List ℕ
sarif_result told = print (result_tokens told)

-- a rule with this name, of which this is said
abbrev pub rule : List ℕ → List ℕ → List Token
rule name said =
    object (text_member (codes "id") name
    ++ text_object (codes "shortDescription") (codes "text") said)

-- the rule of a kind of findings
abbrev pub kind_rule : Kind → List Token
kind_rule kind = rule (kind_name kind) (message kind)

-- the rules: one for each kind, and one for files that were not read
abbrev pub rules : List Token
rules = flat_map kind_rule kinds ++ rule (codes "unread-file") (codes "the file was not read")

-- the members that say what made the document
abbrev pub driver_members : List ℕ → List Token
driver_members version =
    text_member (codes "name") (codes "dotenvy_check")
    ++ (text_member (codes "version") version
    ++ key (codes "rules") ∷ begin_array ∷ (rules ++ end_array ∷ []))

-- the member that says what made the document, in this version
abbrev pub tool_member : List ℕ → List Token
tool_member version =
    key (codes "tool") ∷ object (key (codes "driver") ∷ object (driver_members version))

-- the members of the document before its only run
abbrev pub document_members : List Token
document_members =
    text_member (codes "$schema") (codes "https://json.schemastore.org/sarif-2.1.0.json")
    ++ text_member (codes "version") (codes "2.1.0")

-- the tokens before the first result
abbrev pub start_tokens : List ℕ → List Token
start_tokens version =
    begin_object ∷ (document_members
    ++ (key (codes "runs") ∷ begin_array ∷ begin_object ∷ (tool_member version
    ++ (text_member (codes "columnKind") (codes "unicodeCodePoints")
    ++ key (codes "results") ∷ begin_array ∷ []))))

-- what stands before the first result
abbrev pub sarif_start : List ℕ → List ℕ
sarif_start version = print (start_tokens version)

-- what stands behind the last result: the ends of the results, of the run, of the runs, and of the
-- document
abbrev pub sarif_end : List ℕ
sarif_end = codes "]}]}\n"
