-- What is told of a file and written in parts, one after another.
use Rattle.std.proofs.Common.{◌≡◌, ℕ, Bool, false, List, [], ◌∷◌, ◌++◌, ◌∙◌, refl, sym, ap, inl, inr}
use Rattle.std.proofs.Common.{Result, Ok, Err, string_bytes}
use Rattle.std.specs.Prelude.{◌||◌, if◌then◌else◌}
use Rattle.std.specs.List.{concat, list_any, AllByRecursion}
use Rattle.std.proofs.Math.Bool.{or_assoc}
use Rattle.std.proofs.lemmas.List.{append-nil, append_assoc, map-append}
use Rattle.std.proofs.lemmas.List.Folds.{concat-append, list_any-append}
use Rattle.dotenvy_base.specs.declared.errors.Error.{Error}
use Rattle.dotenvy_base.specs.Source.{SinkTold}
use Rattle.dotenvy_findings.specs.Comments.{Allow}
use Rattle.dotenvy_findings.specs.declared.finding.Finding.{Finding}
use Rattle.dotenvy_findings.specs.declared.kind.Kind.{Kind}
use Rattle.dotenvy_reports.specs.declared.format.Format.{Format}
use Rattle.dotenvy_reports.specs.Formats.{separator}
use Rattle.dotenvy_checker.specs.declared.file_report.FileReport.{FileReport}
use Rattle.dotenvy_checker.specs.declared.report.Found.{Found}
use Rattle.dotenvy_checker.specs.Checks.{both, found_in}
use Rattle.dotenvy_checker.specs.Findings.{Remark, is_denied, is_error, is_warning, shown}
use Rattle.dotenvy_checker.specs.Parts.{AreParts, SendsEach}
use Rattle.dotenvy_checker.specs.Report.{remark_text, report}
use Rattle.dotenvy_checker.specs.inside.ToldLines.{is_first_behind, next_above, AreToldInTurn, CannotWrite, IsLong}
use Rattle.dotenvy_checker.specs.inside.ToldLines.{TellsMore, TellsParts}

-- texts joined in another order of steps
joined : (a b c d : List ℕ) → a ++ (b ++ (c ++ d)) ≡ (a ++ (b ++ c)) ++ d
joined a b c d = simp append_assoc

-- a report behind another is that of both, where something was reported before
report_behind : (format : Format) (file : List ℕ) (xs ys : List Remark) →
    report format false file (xs ++ ys) ≡ report format false file xs ++ report format false file ys
report_behind format file [] ys = refl
report_behind format file (x ∷ xs) ys =
    rw (report_behind format file xs ys) (joined (separator format) (remark_text format file x)
    (report format false file xs) (report format false file ys))

-- behind something nothing is the first
behind_not_first : (xs : List Remark) → is_first_behind xs false ≡ false
behind_not_first [] = refl
behind_not_first (x ∷ xs) = refl

-- a report behind another is that of both
report-append : (format : Format) (is_first : Bool) (file : List ℕ) (xs ys : List Remark) →
    report format is_first file (xs ++ ys)
    ≡ report format is_first file xs ++ report format (is_first_behind xs is_first) file ys
report-append format is_first file [] ys = refl
report-append format is_first file (x ∷ xs) ys =
    rw (report_behind format file xs ys) (joined (if is_first then [] else separator format)
    (remark_text format file x) (report format false file xs) (report format false file ys))

-- behind both nothing is the first where nothing is behind the second
first-append : (xs ys : List Remark) (is_first : Bool) →
    is_first_behind ys (is_first_behind xs is_first) ≡ is_first_behind (xs ++ ys) is_first
first-append [] ys is_first = refl
first-append (x ∷ xs) ys is_first = behind_not_first ys

-- what is told of both is told of one after the other
pub told-append : (allowed : List Kind) (start middle end : Allow) (xs ys told more : List Remark) →
    AreToldInTurn allowed start xs told middle → AreToldInTurn allowed middle ys more end →
    AreToldInTurn allowed start (xs ++ ys) (told ++ more) end
told-append allowed start middle end [] ys told more (is, same) are = rw is (rw same at are)
told-append allowed start middle end (x ∷ xs) ys told more (seen, bad, others, front, is) are = (
  seen,
  bad,
  others ++ more,
  told-append allowed (next_above x.above seen start) middle end xs ys others more front are,
  rw is (append_assoc _ others more),
)

-- findings that are counted one after another are counted in all
any_shown : (test : Finding → Bool) (xs ys : List Remark) →
    list_any test (shown (xs ++ ys)) ≡ (list_any test (shown xs) || list_any test (shown ys))
any_shown test xs ys = rw (map-append) (list_any-append test (shown xs) (shown ys))

-- the same of what they come to
found-append : (denied : List Kind) (old : Found) (xs ys : List Remark) →
    both (both old (found_in denied (shown xs))) (found_in denied (shown ys))
    ≡ both old (found_in denied (shown (xs ++ ys)))
found-append denied old xs ys =
    let counted = λ (test : Finding → Bool) (before : Bool).
    or_assoc before (list_any test (shown xs)) (list_any test (shown ys))
    ∙ ap (λ (any : Bool). before || any) (sym (any_shown test xs ys)) in
    let faults = counted is_error old.faults in
    let warnings = counted is_warning old.warnings in
    let denies = counted (is_denied denied) old.denied in
    λ i. record { faults = faults i; warnings = warnings i; denied = denies i }

-- parts that are sent, and then others, are all sent one after another
pub sends-append : {A W : Type 0} (told : W → SinkTold) (old middle new : W) (parts later : List (List ℕ))
    (answer : Result (Unit {0}) (Error A)) → SendsEach {A = A} told old parts (Ok tt) middle →
    SendsEach told middle later answer new → SendsEach told old (parts ++ later) answer new
sends-append told old middle new [] later answer (done, same) sends = rw same at sends
sends-append told old middle new (part ∷ parts) later answer (inl (fails, none, own)) sends = cc
sends-append told old middle new (part ∷ parts) later answer (inr (next, own, rest)) sends =
    inr (next, own, sends-append told next middle new parts later answer rest sends)

-- long parts, and then parts of which the last may be short, are such parts
pub parts-append : (long parts : List (List ℕ)) → AllByRecursion IsLong long → AreParts parts →
    AreParts (long ++ parts)
parts-append [] parts all are = are
parts-append (part ∷ long) parts (is, all) are = (inr is, parts-append long parts all are)

-- long parts, and then others, are all long
long-append : (xs ys : List (List ℕ)) → AllByRecursion IsLong xs → AllByRecursion IsLong ys →
    AllByRecursion IsLong (xs ++ ys)
long-append [] ys all long = long
long-append (x ∷ xs) ys (is, all) long = (is, long-append xs ys all long)

-- what is told is told, where nothing is written
pub tells_unwritten : {A W : Type 0} (told : W → SinkTold) {remarks : List Remark} {old new : FileReport A}
    (writer : W) → TellsMore remarks old new → TellsParts told remarks old writer new writer
tells_unwritten told writer k = record {
  file = k.file;
  how = k.how;
  found = k.found;
  parts = [];
  long = tt;
  cut = sym k.text;
  sends = (refl, refl);
}

-- a text that is cut into parts and a rest, which is cut with what follows, is cut with it
cut-append : (text own other : List ℕ) (parts later : List (List ℕ)) (left rest : List ℕ) →
    text ++ own ≡ concat parts ++ left → left ++ other ≡ concat later ++ rest →
    text ++ (own ++ other) ≡ concat (parts ++ later) ++ rest
cut-append text own other parts later left rest cut again =
    sym (append_assoc text own other) ∙ ap (λ (t : List ℕ). t ++ other) cut
    ∙ append_assoc (concat parts) left other ∙ ap (λ (t : List ℕ). concat parts ++ t) again
    ∙ sym (append_assoc (concat parts) (concat later) rest)
    ∙ ap (λ (t : List ℕ). t ++ rest) (sym (concat-append parts later))

-- what is told, and then more, is all told, and its parts are written
pub tells-append : {A W : Type 0} (told : W → SinkTold) {xs ys : List Remark} {a b c : FileReport A} {u v w : W} →
    TellsParts told xs a u b v → TellsParts told ys b v c w → TellsParts told (xs ++ ys) a u c w
tells-append told {xs} {ys} {a} {b} {c} {u} {v} {w} h k = record {
  file = k.file ∙ h.file;
  how = rw (k.how, h.how, ← first-append xs ys a.how.is_first) refl;
  found = rw (k.found, h.found, h.how) (found-append a.how.denied.now a.found xs ys);
  parts = h.parts ++ k.parts;
  long = long-append h.parts k.parts h.long k.long;
  cut =
      rw (report-append a.how.format a.how.is_first a.file.now xs ys) (cut-append (string_bytes a.text)
      (report a.how.format a.how.is_first a.file.now xs)
      (report a.how.format (is_first_behind xs a.how.is_first) a.file.now ys) h.parts k.parts (string_bytes b.text)
      (string_bytes c.text) h.cut (rw (h.how, h.file) at k.cut));
  sends = sends-append told u v w h.parts k.parts (Ok tt) h.sends k.sends;
}

-- what is told, and then more of which a part can't be written, is all told
pub cannot-append : {A W : Type 0} (told : W → SinkTold) {xs ys : List Remark} {a b : FileReport A} {u v w : W}
    {error : Error A} → TellsParts told xs a u b v → CannotWrite told ys b v error w →
    CannotWrite told (xs ++ ys) a u error w
cannot-append told {xs} {ys} {a} {b} {u} {v} {w} {error} h k = record {
  parts = h.parts ++ k.parts;
  are = parts-append h.parts k.parts h.long k.are;
  cut =
      rw (report-append a.how.format a.how.is_first a.file.now xs ys) (cut-append (string_bytes a.text)
      (report a.how.format a.how.is_first a.file.now xs)
      (report a.how.format (is_first_behind xs a.how.is_first) a.file.now ys) h.parts k.parts (string_bytes b.text) []
      h.cut ((rw (h.how, h.file) at k.cut) ∙ sym (append-nil (concat k.parts)))
      ∙ append-nil (concat (h.parts ++ k.parts)));
  sends = sends-append told u v w h.parts k.parts (Err error) h.sends k.sends;
}
