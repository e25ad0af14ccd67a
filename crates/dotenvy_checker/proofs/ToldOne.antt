-- One finding, which is told or allowed.
use Rattle.std.proofs.Common.{◌≡◌, true, false, List, [], ◌∷◌, ◌∙◌, ap, drop, refl, subst, sym, string_bytes}
use Rattle.std.proofs.Common.{Result, Ok, Err}
use Rattle.std.specs.Prelude.{◌||◌, OnErr}
use Rattle.std.proofs.Math.Bool.{or-false}
use Rattle.std.proofs.lemmas.List.{append-nil}
use Rattle.dotenvy_findings.specs.Comments.{Allow}
use Rattle.dotenvy_findings.specs.declared.bytes.BadByte.{BadByte}
use Rattle.dotenvy_findings.specs.declared.finding.Finding.{Finding}
use Rattle.dotenvy_findings.specs.declared.kind.Kind.{Kind}
use Rattle.dotenvy_checker.specs.declared.file_report.FileReport.{FileReport}
use Rattle.dotenvy_checker.specs.declared.lookup.Lookup.{Lookup}
use Rattle.dotenvy_checker.specs.declared.report.Found.{Found}
use Rattle.dotenvy_checker.specs.declared.report.LineAbove.{LineAbove}
use Rattle.dotenvy_checker.specs.declared.watched.Seen.{Seen}
use Rattle.dotenvy_checker.specs.Checks.{both, found_in, found_of}
use Rattle.dotenvy_checker.specs.Findings.{Remark, bad_from, is_denied, is_error, is_told, is_warning, placed_one}
use Rattle.dotenvy_checker.specs.Findings.{shown, told_one}
use Rattle.dotenvy_checker.specs.inside.CheckedLines.{allow_comments, bad_bytes}
use Rattle.dotenvy_checker.specs.inside.ToldLines.{above_of, last_above, next_above, KeepsTold, PushesOne, TellsMore}
use Rattle.dotenvy_checker.specs.inside.ToldLines.{TellsOne}
use Rattle.dotenvy_checker.proofs.ToldFronts.{nothing_more}

-- the line above the next finding, by the comments that were seen
abbrev pub moved : {A : Type 0} → Remark → Seen A → FileReport A → Allow
moved remark seen old =
    next_above remark.above (drop old.lookup.comments_before (allow_comments seen)) (last_above old)

-- the bytes that are no text at the next finding, of those that were seen
abbrev pub bad_at : {A : Type 0} → Remark → Seen A → FileReport A → List BadByte
bad_at remark seen old = bad_from remark.finding.place.line (drop old.lookup.bad_before (bad_bytes seen))

-- a finding that is allowed is not told
pub hidden_one : {A : Type 0} (old : FileReport A) (remark : Remark) (seen : Seen A) (lookup : Lookup A) →
    above_of lookup.above ≡ moved remark seen old →
    is_told old.how.allowed.now (above_of lookup.above ∷ []) remark.above remark.finding ≡ false →
    TellsOne remark seen old (record old { lookup = lookup })
hidden_one old remark seen lookup moves hidden = record {
  moves = moves;
  tells = rw hidden (record {
    file = refl;
    how = refl;
    found = nothing_more old.found;
    text = sym (append-nil (string_bytes old.text));
  });
}

-- one finding alone is counted
one_found : (denied : List Kind) (old : Found) (remark : Remark) →
    both old (found_of denied remark.finding) ≡ both old (found_in denied (shown (remark ∷ [])))
one_found denied old remark =
    let faults = ap (λ any. old.faults || any) (sym (or-false (is_error remark.finding))) in
    let warnings = ap (λ any. old.warnings || any) (sym (or-false (is_warning remark.finding))) in
    let denies = ap (λ any. old.denied || any) (sym (or-false (is_denied denied remark.finding))) in
    λ i. record { faults = faults i; warnings = warnings i; denied = denies i }

-- a finding that is appended at its place and counted is told
told_shown : {A : Type 0} {old now middle new : FileReport A} {placed : Finding} (allowed : List Kind)
    (comments : List Allow) (bad : List BadByte) (remark : Remark) (lookup : Lookup A) →
    is_told allowed comments remark.above remark.finding ≡ true → placed ≡ placed_one bad remark.finding →
    now ≡ record old { lookup = lookup } → PushesOne placed remark.said now middle →
    new ≡ record middle { found = new.found } → new.found ≡ both middle.found (found_of middle.how.denied.now placed) →
    TellsMore (told_one allowed comments bad remark) old new
told_shown {A = A} {old = old} allowed comments bad remark lookup shows is looks pushes same counts =
    let own : Remark = record remark { finding = placed_one bad remark.finding } in
    let file = ap (λ (r : FileReport A). r.file) looks in
    let how = ap (λ (r : FileReport A). r.how) looks in
    let found = ap (λ (r : FileReport A). r.found) looks in
    let text = ap (λ (r : FileReport A). string_bytes r.text) looks in rw shows (record {
      file = ap (λ (r : FileReport A). r.file) same ∙ pushes.file ∙ file;
      how = ap (λ (r : FileReport A). r.how) same ∙ (rw (pushes.how, how) refl);
      found = rw (counts, pushes.found, pushes.how, found, how, is) (one_found old.how.denied.now old.found own);
      text = ap (λ (r : FileReport A). string_bytes r.text) same
          ∙ (rw (pushes.text, text, how, file, is, append-nil) refl);
    })

-- a finding that is not allowed is told
pub shown_one : {A : Type 0} {old now middle new : FileReport A} {remark : Remark} {placed : Finding} (seen : Seen A)
    (one two : Lookup A) → above_of one.above ≡ moved remark seen old →
    is_told old.how.allowed.now (above_of one.above ∷ []) remark.above remark.finding ≡ true →
    two.above ≡ one.above → placed ≡ placed_one (bad_at remark seen old) remark.finding →
    now ≡ record old { lookup = two } → PushesOne placed remark.said now middle →
    new ≡ record middle { found = new.found } → new.found ≡ both middle.found (found_of middle.how.denied.now placed) →
    TellsOne remark seen old new
shown_one {A = A} {old = old} {new = new} {remark = remark} seen one two moves shows stays is looks pushes same counts =
    let line : last_above new ≡ above_of one.above =
    ap (λ (r : FileReport A). last_above r) same ∙ ap (λ (l : Lookup A). above_of l.above) pushes.lookup
    ∙ ap (λ (r : FileReport A). last_above r) looks ∙ ap (λ (a : LineAbove A). above_of a) stays in
    let Tells : Allow → Type 0 = λ last.
    TellsMore (told_one old.how.allowed.now (last ∷ []) (bad_at remark seen old) remark) old new in record {
      moves = line ∙ moves;
      tells = subst Tells (sym line) (told_shown old.how.allowed.now (above_of one.above ∷ []) (bad_at remark seen old)
          remark two shows is looks pushes same counts);
    }

-- nothing is told where something is looked up
pub keeps_looked : {A : Type 0} (old : FileReport A) (lookup : Lookup A) →
    KeepsTold old (record old { lookup = lookup })
keeps_looked old lookup = record { file = refl; how = refl; found = refl; text = refl }

-- nothing is told, and nothing after something was looked up
pub keeps_behind : {A : Type 0} {new : FileReport A} (old : FileReport A) (lookup : Lookup A) →
    KeepsTold (record old { lookup = lookup }) new → KeepsTold old new
keeps_behind old lookup k = record { file = k.file; how = k.how; found = k.found; text = k.text }

-- a fact holds of an error, too
pub on_err : {T E P : Type 0} (result : Result T E) → P → OnErr result P
on_err (Ok x) holds = tt
on_err (Err e) holds = holds
