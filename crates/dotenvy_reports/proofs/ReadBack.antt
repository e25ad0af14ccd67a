-- The tokens of reports can be printed, so a reader finds them.
use Rattle.std.proofs.Common.{ℕ, ◌<◌, Bool, true, false, List, [], ◌∷◌, ◌++◌, Option, Some, None}
use Rattle.std.specs.Prelude.{◌^◌, ◌==◌, codes, if◌then◌else◌}
use Rattle.std.specs.List.{flat_map, AllByRecursion}
use Rattle.json.specs.Print.{ArePrintable}
use Rattle.json.specs.Token.{Token, begin_array, end_object, end_array, key}
use Rattle.json.proofs.Printed.Decimals.{IsNumber-decimal}
use Rattle.json.proofs.Printed.Tokens.{tokens-print}
use Rattle.dotenvy_findings.specs.declared.kind.Kind.{Kind}
use Rattle.dotenvy_findings.specs.declared.place.Place.{Place}
use Rattle.dotenvy_findings.specs.Kinds.{kind_name, message}
use Rattle.dotenvy_findings.specs.Named.{kinds}
use Rattle.dotenvy_reports.specs.JsonLines.{front_members, guess_member, json_tokens, kind_member, other_member}
use Rattle.dotenvy_reports.specs.JsonLines.{number_member, place_members, said_members, text_member}
use Rattle.dotenvy_reports.specs.Laws.{DocumentsReadBack, HasSmallNumbers, HasSmallPlace, JsonReadsBack}
use Rattle.dotenvy_reports.specs.Laws.{document_tokens, end_tokens}
use Rattle.dotenvy_reports.specs.Sarif.{driver_members, found_members, kind_rule, location, locations_member, object}
use Rattle.dotenvy_reports.specs.Sarif.{region_member, result_tokens, rule, rules, start_tokens, text_object}
use Rattle.dotenvy_reports.specs.Sarif.{tool_member}
use Rattle.dotenvy_reports.specs.Severities.{severity_name}
use Rattle.dotenvy_reports.specs.Told.{Told}
use Rattle.dotenvy_reports.specs.Uris.{uri}

-- what can be printed can be printed behind what can be
both : (ts us : List Token) → ArePrintable ts → ArePrintable us → ArePrintable (ts ++ us)
unfolding ArePrintable
both [] us h k = k
both (t ∷ ts) us h k = (h.0, both ts us h.1 k)

-- one of two lists can be printed if both can be
choice : (b : Bool) (ts us : List Token) → ArePrintable ts → ArePrintable us → ArePrintable (if b then ts else us)
choice true ts us h k = h
choice false ts us h k = k

-- an object can be printed if its members can be
in_object : (members : List Token) → ArePrintable members → ArePrintable (object members)
unfolding ArePrintable
in_object members h = (tt, both members (end_object ∷ []) h (tt, tt))

place_printable : (place : Option Place) → HasSmallPlace place → ArePrintable (place_members place)
unfolding ArePrintable
place_printable None h = tt
place_printable (Some place) h =
    (tt, (IsNumber-decimal place.line h.0, (tt, (IsNumber-decimal place.column h.1, tt))))

kind_printable : (kind : Option (List ℕ)) → ArePrintable (kind_member kind)
unfolding ArePrintable
kind_printable None = tt
kind_printable (Some kind) = (tt, (tt, tt))

other_printable : (other : ℕ) → other < 2 ^ 64 → ArePrintable (other_member other)
unfolding ArePrintable
other_printable other h =
    choice (other == 0) [] (number_member (codes "other") other) tt (tt, (IsNumber-decimal other h, tt))

guess_printable : (is_guess : Bool) → ArePrintable (guess_member is_guess)
unfolding ArePrintable
guess_printable true = (tt, (tt, tt))
guess_printable false = tt

front_printable : (told : Told) → HasSmallNumbers told → ArePrintable (front_members told)
unfolding ArePrintable
front_printable told h =
    let severity = text_member (codes "severity") (severity_name told.severity) in
    (tt, (tt, both (place_members told.place) severity (place_printable told.place h.place) (tt, (tt, tt))))

said_printable : (told : Told) → HasSmallNumbers told → ArePrintable (said_members told)
unfolding ArePrintable
said_printable told h =
    let tail = other_member told.other ++ guess_member told.is_guess in
    let tail_printable = both (other_member told.other) (guess_member told.is_guess)
    (other_printable told.other h.other) (guess_printable told.is_guess) in
    both (kind_member told.kind) (text_member (codes "message") told.message ++ tail) (kind_printable told.kind)
    (tt, (tt, tail_printable))

json_printable : (told : Told) → HasSmallNumbers told → ArePrintable (json_tokens told)
unfolding ArePrintable
json_printable told h =
    let said = both (said_members told) (end_object ∷ []) (said_printable told h) (tt, tt) in
    (tt, both (front_members told) (said_members told ++ end_object ∷ []) (front_printable told h) said)

-- the line of a report is read back
pub json_reads_back : JsonReadsBack
json_reads_back told h = tokens-print (json_tokens told) (json_printable told h)

region_printable : (place : Option Place) → HasSmallPlace place → ArePrintable (region_member place)
unfolding ArePrintable
region_printable None h = tt
region_printable (Some place) h =
    let line = number_member (codes "startLine") place.line in
    let column = number_member (codes "startColumn") place.column in (
      tt,
      in_object (line ++ column)
          (tt, (IsNumber-decimal place.line h.0, (tt, (IsNumber-decimal place.column h.1, tt)))),
    )

location_printable : (told : Told) → HasSmallNumbers told → ArePrintable (location told)
unfolding ArePrintable
location_printable told h =
    let inner = text_object (codes "artifactLocation") (codes "uri") (uri told.file) ++ region_member told.place in
    in_object (key (codes "physicalLocation") ∷ object inner)
    (tt, in_object inner (tt, (tt, (tt, (tt, (tt, (region_printable told.place h.place)))))))

found_printable : (told : Told) → ArePrintable (found_members told)
unfolding ArePrintable
found_printable told = (tt, (tt, (tt, (tt, (tt, (tt, (tt, (tt, (tt, tt)))))))))

locations_printable : (told : Told) → HasSmallNumbers told → ArePrintable (locations_member told)
unfolding ArePrintable
locations_printable told h =
    (tt, (tt, both (location told) (end_array ∷ []) (location_printable told h) (tt, tt)))

result_printable : (told : Told) → HasSmallNumbers told → ArePrintable (result_tokens told)
result_printable told h =
    in_object (found_members told ++ locations_member told)
    (both (found_members told) (locations_member told) (found_printable told) (locations_printable told h))

results_printable : (all : List Told) → AllByRecursion HasSmallNumbers all → ArePrintable (flat_map result_tokens all)
unfolding ArePrintable
results_printable [] h = tt
results_printable (told ∷ rest) h =
    both (result_tokens told) (flat_map result_tokens rest) (result_printable told h.0) (results_printable rest h.1)

rule_printable : (name said : List ℕ) → ArePrintable (rule name said)
unfolding ArePrintable
rule_printable name said = (tt, (tt, (tt, (tt, (tt, (tt, (tt, (tt, (tt, tt)))))))))

kind_rules_printable : (kinds : List Kind) → ArePrintable (flat_map kind_rule kinds)
unfolding ArePrintable
kind_rules_printable [] = tt
kind_rules_printable (kind ∷ kinds) =
    both (kind_rule kind) (flat_map kind_rule kinds) (rule_printable (kind_name kind) (message kind))
    (kind_rules_printable kinds)

rules_printable : ArePrintable rules
rules_printable =
    both (flat_map kind_rule kinds) (rule (codes "unread-file") (codes "the file was not read"))
    (kind_rules_printable kinds) (rule_printable (codes "unread-file") (codes "the file was not read"))

driver_printable : (version : List ℕ) → ArePrintable (driver_members version)
unfolding ArePrintable
driver_printable version =
    let all = both rules (end_array ∷ []) rules_printable (tt, tt) in
    (tt, (tt, (tt, (tt, (tt, (tt, all))))))

tool_printable : (version : List ℕ) → ArePrintable (tool_member version)
unfolding ArePrintable
tool_printable version =
    let driver = driver_members version in
    (tt, in_object (key (codes "driver") ∷ object driver) (tt, in_object driver (driver_printable version)))

start_printable : (version : List ℕ) → ArePrintable (start_tokens version)
unfolding ArePrintable
start_printable version =
    let tail = text_member (codes "columnKind") (codes "unicodeCodePoints")
    ++ key (codes "results") ∷ begin_array ∷ [] in
    let all = both (tool_member version) tail (tool_printable version) (tt, (tt, (tt, (tt, tt)))) in
    (tt, (tt, (tt, (tt, (tt, (tt, (tt, (tt, all))))))))

ends_printable : ArePrintable end_tokens
unfolding ArePrintable
ends_printable = (tt, (tt, (tt, (tt, tt))))

-- a document is read back
pub documents_read_back : DocumentsReadBack
documents_read_back version all h =
    let behind = both (flat_map result_tokens all) end_tokens (results_printable all h) ends_printable in
    tokens-print (document_tokens version all)
    (both (start_tokens version) (flat_map result_tokens all ++ end_tokens) (start_printable version) behind)
