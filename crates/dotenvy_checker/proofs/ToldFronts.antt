-- What a checker kept, told one after another.
use Rattle.std.proofs.Common.{◌≡◌, ℕ, Bool, false, List, [], ◌∷◌, ◌++◌, ◌∙◌, drop, map, refl, sym, ap}
use Rattle.std.proofs.Common.{arith, length, Option, Some, None, Result, Ok, Err, string_bytes}
use Rattle.std.specs.Prelude.{option_to_list, slice_index_or, IsErrAnd, IsSome}
use Rattle.std.specs.List.{concat, AllByRecursion}
use Rattle.std.proofs.Math.Bool.{or-false}
use Rattle.std.proofs.lemmas.List.{append-nil, append_assoc, map-append}
use Rattle.dotenvy_base.specs.declared.errors.Error.{Error}
use Rattle.dotenvy_base.specs.Source.{SinkTold}
use Rattle.dotenvy_findings.specs.Comments.{Allow}
use Rattle.dotenvy_findings.specs.declared.bytes.BadByte.{BadByte}
use Rattle.dotenvy_findings.specs.declared.finding.Finding.{Finding}
use Rattle.dotenvy_findings.specs.declared.kind.Kind.{Kind}
use Rattle.dotenvy_checker.specs.declared.failure.Stop.{Stop}
use Rattle.dotenvy_checker.specs.declared.failure.Stop.TheVariants as stop
use Rattle.dotenvy_checker.specs.declared.file_report.FileReport.{FileReport}
use Rattle.dotenvy_checker.specs.declared.lines.Checker.{Checker}
use Rattle.dotenvy_checker.specs.declared.lines.Pending.{Pending}
use Rattle.dotenvy_checker.specs.declared.report.Found.{Found}
use Rattle.dotenvy_checker.specs.declared.report.Reporting.{Reporting}
use Rattle.dotenvy_checker.specs.declared.watched.Seen.{Seen}
use Rattle.dotenvy_checker.specs.Checks.{both, found_in, IsMemoryStop}
use Rattle.dotenvy_checker.specs.Findings.{Declared, Remark, bad_from, is_unknown, resolved, settled, told_one}
use Rattle.dotenvy_checker.specs.inside.CheckedLines.{allow_comments, bad_bytes, declared_of, remark_of, so_far}
use Rattle.dotenvy_checker.specs.inside.ToldLines.{last_above, next_above, AreToldInTurn, CannotWrite}
use Rattle.dotenvy_checker.specs.inside.ToldLines.{IsSettled, KeepsNone, KeepsTold, TellsFront, TellsKept}
use Rattle.dotenvy_checker.specs.inside.ToldLines.{TellsOne, TellsParts, TellsSome, WritesPart}
use Rattle.dotenvy_checker.proofs.Told.{cannot-append, tells-append, tells_unwritten, told-append}

-- a front of what was kept is told, each of which passes a test, and parts are written
pub record ToldSoFar {A W : Type 0} (passes : Remark → Type 0) (told : W → SinkTold) (old : Checker A)
    (report : FileReport A) (writer : W) (now : Checker A) (later : FileReport A) (written : W) : Type 0 where
  pub front : List Remark
  pub remarks : List Remark
  pub tells : TellsFront report.how.allowed.now (last_above report) (last_above later) front remarks old now
  pub parts : TellsParts told remarks report writer later written
  pub passed : AllByRecursion passes front

-- nothing more is found
pub nothing_more : (found : Found) → found ≡ both found (found_in [] [])
nothing_more found =
    let faults = sym (or-false found.faults) in
    let warnings = sym (or-false found.warnings) in
    let denies = sym (or-false found.denied) in
    λ i. record { faults = faults i; warnings = warnings i; denied = denies i }

-- nothing is told, and nothing is written
pub tells_nothing : {A W : Type 0} (told : W → SinkTold) (report : FileReport A) (writer : W) →
    TellsParts told [] report writer report writer
tells_nothing told report writer = record {
  file = refl;
  how = refl;
  found = nothing_more report.found;
  parts = [];
  long = tt;
  cut = append-nil (string_bytes report.text);
  sends = (refl, refl);
}

-- nothing is told yet
pub told_none : {A W : Type 0} (passes : Remark → Type 0) (told : W → SinkTold) (old : Checker A)
    (report : FileReport A) (writer : W) → ToldSoFar passes told old report writer old report writer
told_none passes told old report writer = record {
  front = [];
  remarks = [];
  tells = record {
    are = (refl, refl);
    left = refl;
    declared = refl;
    above = refl;
    names = refl;
    dialect = refl;
    tells = refl;
  };
  parts = tells_nothing told report writer;
  passed = tt;
}

-- all of both pass a test
pub all-append : (passes : Remark → Type 0) (xs ys : List Remark) → AllByRecursion passes xs →
    AllByRecursion passes ys → AllByRecursion passes (xs ++ ys)
all-append passes [] ys none all = all
all-append passes (x ∷ xs) ys (one, front) all = (one, all-append passes xs ys front all)

-- one remark is told alone
told_alone : (allowed : List Kind) (declared : Declared) (remark : Remark) (seen : List Allow) (last : Allow)
    (bad : List BadByte) →
    AreToldInTurn allowed last (map (settled declared) (remark ∷ []))
    (told_one allowed (next_above remark.above seen last ∷ []) bad (settled declared remark))
    (next_above remark.above seen last)
told_alone allowed declared remark seen last bad = (seen, bad, [], (refl, refl), sym (append-nil _))

-- what is told of a front is told of it and of one more remark, which is looked up and told alone
told_next : {A : Type 0} (allowed : List Kind) (declared : Declared) (front remarks told : List Remark)
    (remark : Remark) (seen : Seen A) (start end : Allow) (later : FileReport A) →
    AreToldInTurn allowed start (map (settled declared) front) remarks (last_above later) →
    end ≡ next_above remark.above (drop later.lookup.comments_before (allow_comments seen)) (last_above later) →
    (bad : List BadByte) → told ≡ told_one allowed (end ∷ []) bad (settled declared remark) →
    AreToldInTurn allowed start (map (settled declared) (front ++ remark ∷ [])) (remarks ++ told) end
told_next allowed declared front remarks told remark seen start end later are moves bad is =
    let comments = drop later.lookup.comments_before (allow_comments seen) in
    let next = next_above remark.above comments (last_above later) in
    let own = told_one allowed (next ∷ []) bad (settled declared remark) in
    let same : told ≡ own =
    is ∙ ap (λ (last : Allow). told_one allowed (last ∷ []) bad (settled declared remark)) moves in
    rw (moves, same, map-append) (told-append allowed start (last_above later) next (map (settled declared) front)
    (map (settled declared) (remark ∷ [])) remarks own are
    (told_alone allowed declared remark comments (last_above later) bad))

-- the first of what is kept is told, too
pub told_more : {A W : Type 0} (passes : Remark → Type 0) (told : W → SinkTold) {old now new : Checker A}
    {report later next last : FileReport A} {writer written end : W} {first : Pending A} {rest : List (Pending A)}
    {finding : Finding} (seen : Seen A) → ToldSoFar passes told old report writer now later written →
    now.pending.items ≡ first ∷ rest → new ≡ record now { pending = new.pending } → new.pending.items ≡ rest →
    finding ≡ resolved (declared_of now.declared) (remark_of first) → passes (remark_of first) →
    TellsOne (record (remark_of first) { finding = finding }) seen later next →
    TellsParts told [] next written last end → last ≡ record next { text = last.text } →
    ToldSoFar passes told old report writer new last end
told_more {A = A} passes told {old} {now} {new} {report} {later} {next} {last} {writer} {written} {end} {first} {rest}
    {finding} seen k is same popped found one tells writes same_report =
    let remark = remark_of first in
    let declared = declared_of old.declared in
    let allowed = report.how.allowed.now in
    let bad = bad_from finding.place.line (drop later.lookup.bad_before (bad_bytes seen)) in
    let told_now =
    told_one later.how.allowed.now (last_above next ∷ []) bad (record remark { finding = finding }) in
    let is_finding = found ∙ ap (λ (d : Declared). resolved d remark) k.tells.declared in
    let line : last_above last ≡ last_above next = ap (λ (r : FileReport A). last_above r) same_report in
    let kinds : later.how.allowed.now ≡ allowed = ap (λ (h : Reporting). h.allowed.now) k.parts.how in
    let own : Remark = record remark { finding = finding } in
    let is_told : told_now ≡ told_one allowed (last_above last ∷ []) bad (settled declared remark) =
    ap (λ (a : List Kind). told_one a (last_above next ∷ []) bad own) kinds
    ∙ ap (λ (l : Allow). told_one allowed (l ∷ []) bad own) (sym line)
    ∙ ap (λ (f : Finding). told_one allowed (last_above last ∷ []) bad (record remark { finding = f })) is_finding in
    let joined : TellsParts told (told_now ++ []) later written last end =
    tells-append told (tells_unwritten told written tells.tells) writes in record {
      front = k.front ++ remark ∷ [];
      remarks = k.remarks ++ told_now;
      tells = record {
        are = told_next allowed declared k.front k.remarks told_now remark seen (last_above report) (last_above last)
            later k.tells.are (line ∙ tells.moves) bad is_told;
        left = k.tells.left ∙ (rw (is, popped) (sym (append_assoc k.front (remark ∷ []) (map remark_of rest))));
        declared = rw same k.tells.declared;
        above = rw same k.tells.above;
        names = rw same k.tells.names;
        dialect = rw same k.tells.dialect;
        tells = rw same k.tells.tells;
      };
      parts = tells-append told k.parts (rw (append-nil told_now) at joined);
      passed = all-append passes k.front (remark ∷ []) k.passed (one, tt);
    }

-- what was told up to some place, where no more is told
pub told_some : {A W : Type 0} {passes : Remark → Type 0} {told : W → SinkTold} {old now : Checker A}
    {report later : FileReport A} {writer written : W} (k : ToldSoFar passes told old report writer now later written) →
    TellsSome passes report.how.allowed.now (last_above report) k.remarks old
told_some {now = now} {later = later} k =
    let last = last_above later in record {
      front = k.front;
      later = (so_far now).remarks;
      end = last;
      left = k.tells.left;
      passed = k.passed;
      are = k.tells.are;
    }

-- what was told, of which the last part can't be written
pub stops_writing : {A W : Type 0} {passes : Remark → Type 0} (told : W → SinkTold) {old now : Checker A}
    {report later : FileReport A} {writer written end : W} {error : Error A}
    (k : ToldSoFar passes told old report writer now later written) → CannotWrite told [] later written error end →
    CannotWrite told k.remarks report writer error end
stops_writing told {report = report} {writer = writer} {end = end} {error = error} k cannot =
    let joined : CannotWrite told (k.remarks ++ []) report writer error end = cannot-append told k.parts cannot in
    rw (append-nil k.remarks) at joined

-- what was told stays told where nothing more is told
pub keeps_parts : {A W : Type 0} (told : W → SinkTold) {remarks : List Remark} {report later last : FileReport A}
    {writer written : W} → TellsParts told remarks report writer later written → KeepsTold later last →
    TellsParts told remarks report writer last written
keeps_parts told h k = record {
  file = k.file ∙ h.file;
  how = k.how ∙ h.how;
  found = k.found ∙ h.found;
  parts = h.parts;
  long = h.long;
  cut = h.cut ∙ ap (λ (t : List ℕ). concat h.parts ++ t) (sym k.text);
  sends = h.sends;
}

-- what is settled by the names that are declared now is settled by those that were
pub settled_one : (old now : Declared) (remark : Remark) (finding : Finding) (unknown : Bool) → now ≡ old →
    finding ≡ resolved now remark → unknown ≡ is_unknown finding.kind → unknown ≡ false → IsSettled old remark
settled_one old now remark finding unknown same is test known = rw (← same, ← is) (sym test ∙ known)

-- the first of a list, and what is left once it is taken
pub front_popped : {X : Type 0} (items left : List X) (first : X) (popped : Option X) →
    first ≡ slice_index_or items 0 first → IsSome popped → items ≡ option_to_list popped ++ left → items ≡ first ∷ left
front_popped items left first None is some cut = cc
front_popped {X = X} items left first (Some x) is some cut = cut ∙ ap (λ (y : X). y ∷ left) (sym (rw cut at is))

-- what was told is told up to a place of which P holds
pub told_kept : {A W : Type 0} {passes : Remark → Type 0} {told : W → SinkTold} {old now : Checker A}
    {report later : FileReport A} {writer written : W} (P : Checker A → Type 0) →
    ToldSoFar passes told old report writer now later written → P now →
    TellsKept passes P told old report writer (Ok tt) now later written
told_kept P k holds = (k.front, k.remarks, k.tells, k.passed, k.parts, holds)

-- memory was refused, where nothing more was told
pub told_refused : {A W : Type 0} {passes : Remark → Type 0} {told : W → SinkTold} {old now : Checker A}
    {report later last : FileReport A} {writer written : W} (P : Checker A → Type 0) (new : Checker A)
    (result : Result (Unit {0}) (Stop A)) → ToldSoFar passes told old report writer now later written →
    KeepsTold later last → IsErrAnd result IsMemoryStop →
    TellsKept passes P told old report writer result new last written
told_refused P new (Ok done) k keeps stops = absurd stops
told_refused P new (Err (stop.Read e)) k keeps stops = absurd stops
told_refused P new (Err (stop.Write e)) k keeps stops = absurd stops
told_refused {told = told} P new (Err (stop.Memory refused)) k keeps stops =
    (k.remarks, told_some k, keeps_parts told k.parts keeps)

-- a part could not be written of what was told
pub told_unwritten : {A W : Type 0} {passes : Remark → Type 0} {told : W → SinkTold} {old now : Checker A}
    {report later : FileReport A} {writer written : W} (P : Checker A → Type 0) (new : Checker A)
    (last : FileReport A) (end : W) (ending : Stop A) → ToldSoFar passes told old report writer now later written →
    WritesPart told later written (Err ending) last end →
    TellsKept passes P told old report writer (Err ending) new last end
told_unwritten P new last end (stop.Read e) k writes = absurd writes
told_unwritten {told = told} P new last end (stop.Write e) k writes =
    (k.remarks, told_some k, stops_writing told k writes)
told_unwritten P new last end (stop.Memory refused) k writes = absurd writes

-- what was told is all that was kept, where nothing is left
pub told_last : {A W : Type 0} {passes : Remark → Type 0} {told : W → SinkTold} {old now : Checker A}
    {report later : FileReport A} {writer written : W} (new : Checker A) →
    ToldSoFar passes told old report writer now later written → new ≡ record now { pending = new.pending } →
    now.pending.items ≡ new.pending.items → new.pending.items ≡ [] →
    TellsKept passes KeepsNone told old report writer (Ok tt) new later written
told_last {A = A} new k same items none = (
  k.front,
  k.remarks,
  record {
    are = k.tells.are;
    left = k.tells.left ∙ ap (λ (t : List (Pending A)). k.front ++ map remark_of t) items;
    declared = rw same k.tells.declared;
    above = rw same k.tells.above;
    names = rw same k.tells.names;
    dialect = rw same k.tells.dialect;
    tells = rw same k.tells.tells;
  },
  k.passed,
  k.parts,
  ap (λ (t : List (Pending A)). map remark_of t) none,
)

-- a list without length is empty
pub none_left : {X : Type 0} (items : List X) (len : ℕ) → len ≡ length items → len ≡ 0 → items ≡ []
none_left [] len is zero = refl
none_left (x ∷ items) len is zero = absurd (omega (arith, is, zero))
