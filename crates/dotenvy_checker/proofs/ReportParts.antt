-- The report of a file, as the parts that were written.
use Rattle.std.proofs.Common.{◌≡◌, ℕ, List, [], ◌∷◌, ◌++◌, ◌∙◌, ap, refl, sym, inl, inr, Option}
use Rattle.std.proofs.Common.{Result, Ok, Err, string_bytes, subst}
use Rattle.std.specs.Prelude.{IsErrAnd, OnOk}
use Rattle.std.specs.List.{concat}
use Rattle.std.proofs.lemmas.List.{append-nil}
use Rattle.std.proofs.lemmas.List.Folds.{concat-append}
use Rattle.dotenvy_base.specs.declared.errors.Error.{Error}
use Rattle.dotenvy_base.specs.Environment.{Env}
use Rattle.dotenvy_base.specs.Output.{Sends, most_writes}
use Rattle.dotenvy_base.specs.Source.{Ahead, SinkTold}
use Rattle.dotenvy_findings.specs.Comments.{allow, Allow}
use Rattle.dotenvy_findings.specs.declared.kind.Kind.{Kind}
use Rattle.dotenvy_findings.specs.Readings.{Known}
use Rattle.dotenvy_format.specs.declared.dialect.Dialect.{Dialect}
use Rattle.dotenvy_items.specs.Iter.{IterState}
use Rattle.dotenvy_checker.specs.declared.check.Checked.{Checked}
use Rattle.dotenvy_checker.specs.declared.failure.Stop.{Stop}
use Rattle.dotenvy_checker.specs.declared.failure.Stop.TheVariants as stop
use Rattle.dotenvy_checker.specs.declared.file_report.FileReport.{FileReport}
use Rattle.dotenvy_checker.specs.declared.lines.Checker.{Checker}
use Rattle.dotenvy_checker.specs.declared.report.Reporting.{Reporting}
use Rattle.dotenvy_checker.specs.Checks.{file_setting, names_in, FindsFirst, HasFindings, IsMemoryStop, Reports}
use Rattle.dotenvy_checker.specs.Checks.{ReportsFirst, ReportsFound, Tells}
use Rattle.dotenvy_checker.specs.Findings.{Remark, SoFar, nothing_yet, settled_all}
use Rattle.dotenvy_checker.specs.Parts.{SendsEach, SendsParts}
use Rattle.dotenvy_checker.specs.Report.{report}
use Rattle.dotenvy_checker.specs.inside.CheckedLines.{declared_of, IsNew}
use Rattle.dotenvy_checker.specs.inside.ToldLines.{last_above, led_by, AreToldInTurn, CannotWrite, EndsReport, IsUntold}
use Rattle.dotenvy_checker.specs.inside.ToldLines.{KeepsTold, TellsAll, TellsFirst, TellsParts, TellsRows}
use Rattle.dotenvy_checker.proofs.CheckedReads.{led_new}
use Rattle.dotenvy_checker.proofs.OneList.{one_list}
use Rattle.dotenvy_checker.proofs.Told.{parts-append, sends-append}

-- a text that is sent with this result is the last of the texts that are sent one after another
last_sent : {A W : Type 0} (told : W → SinkTold) (old new : W) (text : List ℕ) (answer : Result (Unit {0}) (Error A)) →
    Sends told most_writes old new text answer → SendsEach told old (text ∷ []) answer new
last_sent told old new text (Ok done) sends = inr (new, sends, (refl, refl))
last_sent told old new text (Err e) sends = inl (refl, refl, sends)

-- where nothing was left to write before, and what is left is sent, the report is sent in parts
parts_sent : {A W : Type 0} (told : W → SinkTold) {how : Reporting} {file : List ℕ} {remarks : List Remark}
    {old new : FileReport A} {before middle : W} (after : W) (answer : Result (Unit {0}) (Error A)) →
    TellsParts told remarks old before new middle → IsUntold file how old →
    Sends told most_writes middle after (string_bytes new.text) answer →
    SendsParts told before (report how.format how.is_first file remarks) answer after
parts_sent told {new = new} {before} {middle} after answer k untold sends =
    let text = string_bytes new.text in record {
      parts = k.parts ++ text ∷ [];
      cut = (rw (untold.empty, untold.how_is, untold.file_is) at k.cut)
          ∙ ap (λ (t : List ℕ). concat k.parts ++ t) (sym (append-nil text)) ∙ sym (concat-append k.parts (text ∷ []));
      are = parts-append k.parts (text ∷ []) k.long (inl refl, tt);
      sends = sends-append told before middle after k.parts (text ∷ []) answer k.sends
          (last_sent told middle after text answer sends);
    }

-- where nothing was left to write before, the report is sent in parts, of which the last can't be written
parts_unsent : {A W : Type 0} (told : W → SinkTold) {how : Reporting} {file : List ℕ} {remarks : List Remark}
    {old : FileReport A} {before after : W} {error : Error A} → CannotWrite told remarks old before error after →
    IsUntold file how old → SendsParts told before (report how.format how.is_first file remarks) (Err error) after
parts_unsent told k untold = record {
  parts = k.parts;
  cut = rw (untold.empty, untold.how_is, untold.file_is) at k.cut;
  are = k.are;
  sends = k.sends;
}

-- what is told in turn and sent in parts is reported
reports_found : {A W : Type 0} (told : W → SinkTold) {how : Reporting} {file : List ℕ} {old : FileReport A}
    {before after : W} {answer : Result (Unit {0}) (Error A)} (found remarks : List Remark) (end : Allow) →
    IsUntold file how old → AreToldInTurn old.how.allowed.now (last_above old) found remarks end →
    SendsParts told before (report how.format how.is_first file remarks) answer after →
    ReportsFound told how file found remarks before answer after
reports_found told {how = how} {old = old} found remarks end untold are sends =
    let Told : Allow → Type 0 = λ start. AreToldInTurn how.allowed.now start found remarks end in
    let own = subst Told untold.start (rw (untold.how_is) at are) in
    let (more, one) = one_list how.allowed.now (allow 0 []) end found remarks own in (allow 0 [] ∷ more, one, sends)

-- a new checker's rows, as they are found in the file
record IsFile {A : Type 0} (env : Env) (how : Reporting) (s : IterState) (checker : Checker A) : Type 0 where
  pub given : Dialect
  pub made : IsNew env given how.text checker
  pub in_dialect : given ≡ s.dialect

-- a new checker reads a file
file_of : {A : Type 0} {env : Env} {given : Dialect} {checker : Checker A} (how : Reporting) (s : IterState) →
    IsNew env given how.text checker → given ≡ s.dialect → IsFile env how s checker
file_of {given = given} how s made is = record { given = given; made = made; in_dialect = is }

-- the first findings of what a new checker reads are those of the file
finds_first : {A : Type 0} {env : Env} {how : Reporting} {s : IterState} {a : Ahead} {allowed : List Kind}
    {start : Allow} {remarks : List Remark} {checker : Checker A} → IsFile env how s checker →
    (k : TellsFirst s.lines a allowed start remarks checker) →
    FindsFirst A (file_setting (names_in env.names) s.dialect how.text) s.lines a k.front
finds_first is k =
    let dialect = is.made.in_dialect ∙ is.in_dialect in
    let led = led_new k.rows is.made is.in_dialect in
    let cut = ap (λ (t : SoFar). settled_all t) (sym led) ∙ k.cut in
    (k.rows, k.later, rw dialect at k.are_rows, cut, rw dialect at k.final)

-- all that a new checker finds is found in the file
has_findings : {A : Type 0} {env : Env} {how : Reporting} {s : IterState} {a : Ahead} {fault : Option (Error A)}
    {allowed : List Kind} {start : Allow} {remarks : List Remark} {checker new : Checker A} → IsFile env how s checker →
    (k : TellsRows s.lines a fault allowed start remarks checker new) →
    HasFindings (file_setting (names_in env.names) s.dialect how.text) s.lines a fault (led_by checker k.rows)
has_findings is k =
    let dialect = is.made.in_dialect ∙ is.in_dialect in
    (k.rows, rw dialect at k.reads, rw dialect at k.are_rows, led_new k.rows is.made is.in_dialect)

-- all that a new checker finds are the first findings of the file
finds_all : {A : Type 0} {env : Env} {how : Reporting} {s : IterState} {a : Ahead} {fault : Option (Error A)}
    {allowed : List Kind} {start : Allow} {remarks : List Remark} {checker new : Checker A} → IsFile env how s checker →
    (k : TellsRows s.lines a fault allowed start remarks checker new) →
    FindsFirst A (file_setting (names_in env.names) s.dialect how.text) s.lines a (settled_all (led_by checker k.rows))
finds_all {fault = fault} {checker = checker} is k =
    let dialect = is.made.in_dialect ∙ is.in_dialect in
    let led = led_new k.rows is.made is.in_dialect in (
      k.rows,
      [],
      rw dialect at k.are_rows,
      ap (λ (t : SoFar). settled_all t) (sym led) ∙ sym (append-nil (settled_all (led_by checker k.rows))),
      inr (fault, rw dialect at k.reads),
    )

-- the first findings are reported
reports_first : {A W : Type 0} (told : W → SinkTold) {env : Env} {how : Reporting} {file : List ℕ} {s : IterState}
    {a : Ahead} {old : Checker A} {file_report : FileReport A} {before after : W} {remarks : List Remark}
    {answer : Result (Unit {0}) (Error A)} → IsFile env how s old → IsUntold file how file_report →
    TellsFirst s.lines a file_report.how.allowed.now (last_above file_report) remarks old →
    SendsParts told before (report how.format how.is_first file remarks) answer after →
    ReportsFirst A told how file (file_setting (names_in env.names) s.dialect how.text) s.lines a before answer after
reports_first told {remarks = remarks} is untold k sends = (
  k.front,
  remarks,
  finds_first is k,
  reports_found told k.front remarks k.end untold k.are sends,
)

-- all that is found is reported, and then the rest can't be written
reports_rows : {A W : Type 0} (told : W → SinkTold) {env : Env} {how : Reporting} {file : List ℕ} {s : IterState}
    {a : Ahead} {fault : Option (Error A)} {old new : Checker A} {file_report : FileReport A} {before after : W}
    {remarks : List Remark} {answer : Result (Unit {0}) (Error A)} → IsFile env how s old →
    IsUntold file how file_report →
    TellsRows s.lines a fault file_report.how.allowed.now (last_above file_report) remarks old new →
    SendsParts told before (report how.format how.is_first file remarks) answer after →
    ReportsFirst A told how file (file_setting (names_in env.names) s.dialect how.text) s.lines a before answer after
reports_rows told {old = old} {remarks = remarks} is untold k sends =
    let found = settled_all (led_by old k.rows) in (
      found,
      remarks,
      finds_all is k,
      reports_found told found remarks k.end untold k.are sends,
    )

-- what a check returns of a report and of the names that were declared
abbrev pub checked_of : {A : Type 0} → FileReport A → Checker A → Checked A
checked_of ended checker = record { found = ended.found; declared = checker.declared }

-- the result of a check, once its report is written
abbrev pub end_of_check : {A : Type 0} → Checked A → Result (Unit {0}) (Stop A) → Result (Checked A) (Stop A)
end_of_check checked (Ok done) = Ok checked
end_of_check checked (Err ending) = Err ending

-- a check whose report is ended reports what is found
pub reports_end : {A W : Type 0} (told : W → SinkTold) {env : Env} {given : Dialect} {how : Reporting}
    {file : List ℕ} (a : Ahead) {file_report : FileReport A} (last : FileReport A) {old : Checker A} (new : Checker A)
    (before middle after : W) (s : IterState) (checked : Checked A) (read answer : Result (Unit {0}) (Stop A)) →
    IsNew env given how.text old → given ≡ s.dialect → IsUntold file how file_report →
    TellsAll told s.lines a old file_report before read new last middle →
    EndsReport told last middle read answer after → checked.found ≡ last.found →
    declared_of checked.declared ≡ declared_of new.declared →
    Reports told how file (names_in env.names) s a before (end_of_check checked answer) after
reports_end told {how = how} a last {old} new before middle after s checked (Ok done) answer made is untold
    (remarks, k, parts) (inl (ends, sends)) found declares =
    let is_file = file_of how s made is in
    let all = led_by old k.rows in
    rw ends (
      all,
      has_findings is_file k,
      (
        remarks,
        record {
          found = found ∙ (rw (parts.found, untold.nothing, untold.how_is) refl);
          declares = declares ∙ k.declared;
        },
        reports_found told (settled_all all) remarks k.end untold k.are
            (parts_sent told after (Ok tt) parts untold sends),
      ),
    )
reports_end told {how = how} a last {old} new before middle after s checked (Err (stop.Read e)) answer made is untold
    (remarks, k, parts) (inl (ends, sends)) found declares =
    let is_file = file_of how s made is in
    let all = led_by old k.rows in
    rw ends (
      all,
      has_findings is_file k,
      (
        remarks,
        reports_found told (settled_all all) remarks k.end untold k.are
            (parts_sent told after (Ok tt) parts untold sends),
      ),
    )
reports_end told {how = how} a last new before middle after s checked (Err (stop.Memory refused)) answer made is
    untold (remarks, k, parts) (inl (ends, sends)) found declares =
    let is_file = file_of how s made is in
    rw ends (reports_first told is_file untold k (parts_sent told after (Ok tt) parts untold sends))
reports_end told {how = how} a last new before middle after s checked (Err (stop.Write e)) answer made is untold
    (remarks, k, cannot) (ends, same) found declares =
    let is_file = file_of how s made is in
    rw (ends, same) (reports_first told is_file untold k (parts_unsent told cannot untold))
reports_end told {how = how} a last new before middle after s checked (Ok done) answer made is untold
    (remarks, k, parts) (inr (e, ends, sends)) found declares =
    let is_file = file_of how s made is in
    rw ends (reports_rows told is_file untold k (parts_sent told after (Err e) parts untold sends))
reports_end told {how = how} a last new before middle after s checked (Err (stop.Read fault)) answer made is untold
    (remarks, k, parts) (inr (e, ends, sends)) found declares =
    let is_file = file_of how s made is in
    rw ends (reports_rows told is_file untold k (parts_sent told after (Err e) parts untold sends))
reports_end told {how = how} a last new before middle after s checked (Err (stop.Memory refused)) answer made is
    untold (remarks, k, parts) (inr (e, ends, sends)) found declares =
    let is_file = file_of how s made is in
    rw ends (reports_first told is_file untold k (parts_sent told after (Err e) parts untold sends))

-- a check that read no line tells nothing, where its report is ended
pub shut_tells : {A W : Type 0} (told : W → SinkTold) {env : Env} {given : Dialect} {how : Reporting} {file : List ℕ}
    {file_report : FileReport A} (last : FileReport A) {old : Checker A} (new : Checker A) (before after : W)
    (checked : Checked A) (read : Result (Unit {0}) (Stop A)) → IsNew env given how.text old →
    IsUntold file how file_report →
    OnOk read (KeepsTold file_report last × (declared_of new.declared ≡ declared_of old.declared)) →
    EndsReport told last before read (Ok tt) after → checked.found ≡ last.found →
    declared_of checked.declared ≡ declared_of new.declared → Tells how [] nothing_yet checked
shut_tells told last new before after checked (Ok done) made untold (keeps, same) ends found declares = record {
  found = found ∙ keeps.found ∙ untold.nothing;
  declares = declares ∙ same ∙ ap (λ (s : SoFar). s.declared) made.nothing;
}
shut_tells told last new before after checked (Err (stop.Read e)) made untold keeps (inl (is, sends)) found
    declares = cc
shut_tells told last new before after checked (Err (stop.Read e)) made untold keeps (inr (error, is, sends)) found
    declares = cc
shut_tells told last new before after checked (Err (stop.Write e)) made untold keeps (is, same) found
    declares = cc
shut_tells told last new before after checked (Err (stop.Memory refused)) made untold keeps (inl (is, sends)) found
    declares = cc
shut_tells told last new before after checked (Err (stop.Memory refused)) made untold keeps (inr (error, is, sends))
    found declares = cc

-- a check that stops because an allocation failed before a line was read tells nothing
pub memory_tells_nothing : {A W : Type 0} (told : W → SinkTold) (how : Reporting) (file : List ℕ) (names : Known)
    (s : IterState) (a : Ahead) (old : W) (result : Result (Checked A) (Stop A)) → IsErrAnd result IsMemoryStop →
    Reports {A = A} told how file names s a old result old
memory_tells_nothing told how file names s a old (Ok checked) stops = absurd stops
memory_tells_nothing told how file names s a old (Err (stop.Read e)) stops = absurd stops
memory_tells_nothing told how file names s a old (Err (stop.Write e)) stops = absurd stops
memory_tells_nothing told how file names s a old (Err (stop.Memory refused)) stops = (
  [],
  [],
  ([], [], tt, refl, inl ((0, refl), tt)),
  ([], refl, record { parts = []; cut = refl; are = tt; sends = (refl, refl) }),
)
