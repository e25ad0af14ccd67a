-- A document of SARIF is its tokens as JSON: what is appended before, between and behind the results.
use Rattle.std.proofs.Common.{◌≡◌, ℕ, true, false, List, [], ◌∷◌, ◌++◌, fold, refl, ap, ◌∙◌, append_assoc}
use Rattle.std.specs.Prelude.{codes}
use Rattle.std.specs.List.{flat_map}
use Rattle.std.proofs.lemmas.List.Sums.{fold-append}
use Rattle.json.specs.Print.{ends, print, print_from}
use Rattle.json.specs.Token.{begin_array, begin_object, end_object, key}
use Rattle.json.proofs.Printed.Tokens.{ends_push, print_from-append}
use Rattle.dotenvy_reports.specs.JsonLines.{text_member}
use Rattle.dotenvy_reports.specs.Laws.{DocumentsArePrinted, end_tokens, results, results_behind}
use Rattle.dotenvy_reports.specs.Sarif.{found_members, locations_member, result_tokens, sarif_result, start_tokens}
use Rattle.dotenvy_reports.specs.Sarif.{tool_member}
use Rattle.dotenvy_reports.specs.Told.{Told}

-- a result ends a value
ends_result : (told : Told) → fold (λ _ t. ends t) false (result_tokens told) ≡ true
ends_result told = ends_push false (begin_object ∷ (found_members told ++ locations_member told)) end_object

-- the same behind another one
ends_next : (told : Told) → fold (λ _ t. ends t) true (result_tokens told) ≡ true
ends_next told = ends_push true (begin_object ∷ (found_members told ++ locations_member told)) end_object

-- behind a value a result has a comma
next_result : (told : Told) → print_from true (result_tokens told) ≡ codes "," ++ sarif_result told
unfolding print_from
next_result told = refl

-- the ends, behind a value or behind none
ends_printed : print_from false end_tokens ≡ codes "]}]}"
unfolding print_from
ends_printed = refl

ends_behind : print_from true end_tokens ≡ codes "]}]}"
unfolding print_from
ends_behind = refl

-- results behind a value, and the ends
printed_behind : (all : List Told) →
    print_from true (flat_map result_tokens all ++ end_tokens) ≡ results_behind all ++ codes "]}]}"
printed_behind [] = ends_behind
printed_behind (told ∷ rest) =
    ap (print_from true) (append_assoc (result_tokens told) (flat_map result_tokens rest) end_tokens)
    ∙ print_from-append true (result_tokens told) (flat_map result_tokens rest ++ end_tokens)
    ∙ rw (ends_next told, next_result told, printed_behind rest) (simp append_assoc)

-- results, and the ends
printed_results : (all : List Told) →
    print_from false (flat_map result_tokens all ++ end_tokens) ≡ results all ++ codes "]}]}"
printed_results [] = ends_printed
printed_results (told ∷ rest) =
    ap (print_from false) (append_assoc (result_tokens told) (flat_map result_tokens rest) end_tokens)
    ∙ print_from-append false (result_tokens told) (flat_map result_tokens rest ++ end_tokens)
    ∙ rw (ends_result told, printed_behind rest) (simp append_assoc)

-- before the first result no value has ended
ends_start : (version : List ℕ) → fold (λ _ t. ends t) false (start_tokens version) ≡ false
ends_start version =
    let tail = text_member (codes "columnKind") (codes "unicodeCodePoints")
    ++ key (codes "results") ∷ begin_array ∷ [] in
    fold-append (λ _ t. ends t) false (tool_member version) tail

-- a document is its tokens as JSON, and a line feed
pub documents_are_printed : DocumentsArePrinted
documents_are_printed version all =
    let text : print (start_tokens version ++ (flat_map result_tokens all ++ end_tokens))
    ≡ print (start_tokens version) ++ (results all ++ codes "]}]}") =
    print_from-append false (start_tokens version) (flat_map result_tokens all ++ end_tokens)
    ∙ rw (ends_start version, printed_results all) refl
    in rw text (simp append_assoc)
