-- A part of a report, which is written.
use Rattle.std.proofs.Common.{◌≡◌, true, false, [], ◌∷◌, ◌++◌, ◌∙◌, ap, refl, sym, inl, inr, string_bytes}
use Rattle.std.proofs.Common.{Result, Ok, Err}
use Rattle.std.proofs.lemmas.List.{append-nil}
use Rattle.dotenvy_base.specs.declared.errors.Error.{Error}
use Rattle.dotenvy_base.specs.Output.{Sends, most_writes}
use Rattle.dotenvy_base.specs.Source.{SinkTold}
use Rattle.dotenvy_checker.specs.declared.failure.Stop.{Stop}
use Rattle.dotenvy_checker.specs.declared.failure.Stop.TheVariants as stop
use Rattle.dotenvy_checker.specs.declared.file_report.FileReport.{FileReport}
use Rattle.dotenvy_checker.specs.inside.ToldLines.{is_unwritten, CannotWrite, EndsReport, IsLong, TellsParts}
use Rattle.dotenvy_checker.proofs.ToldFronts.{nothing_more}

-- all that was left is written, which is long enough for a part
pub writes_text : {A W : Type 0} (told : W → SinkTold) {report new : FileReport A} {writer written : W} →
    IsLong (string_bytes report.text) →
    Sends {A = A} told most_writes writer written (string_bytes report.text) (Ok tt) →
    new ≡ record report { text = new.text } → string_bytes new.text ≡ [] →
    TellsParts told [] report writer new written
writes_text {A = A} told {report = report} {written = written} long sends same empty = record {
  file = ap (λ (r : FileReport A). r.file) same;
  how = ap (λ (r : FileReport A). r.how) same;
  found = ap (λ (r : FileReport A). r.found) same ∙ nothing_more report.found;
  parts = string_bytes report.text ∷ [];
  long = (long, tt);
  cut = rw empty (sym (append-nil (string_bytes report.text ++ [])));
  sends = inr (written, sends, (refl, refl));
}

-- what was left can't be written
pub writes_not : {A W : Type 0} (told : W → SinkTold) {report : FileReport A} {writer written : W} {error : Error A} →
    Sends told most_writes writer written (string_bytes report.text) (Err error) →
    CannotWrite told [] report writer error written
writes_not told {report = report} sends = record {
  parts = string_bytes report.text ∷ [];
  are = (inl refl, tt);
  cut = refl;
  sends = inl (refl, refl, sends);
}

-- a report of which a part could not be written ends as reading did
pub ends_unwritten : {A W : Type 0} (told : W → SinkTold) (report : FileReport A) (writer : W)
    (read : Result (Unit {0}) (Stop A)) → is_unwritten read ≡ true → EndsReport told report writer read read writer
ends_unwritten told report writer (Ok done) is = cc
ends_unwritten told report writer (Err (stop.Read e)) is = cc
ends_unwritten told report writer (Err (stop.Write e)) is = (refl, refl)
ends_unwritten told report writer (Err (stop.Memory refused)) is = cc

-- a report of which the rest is sent ends as reading did
pub ends_sent : {A W : Type 0} (told : W → SinkTold) (report : FileReport A) (writer written : W)
    (read : Result (Unit {0}) (Stop A)) → is_unwritten read ≡ false →
    Sends {A = A} told most_writes writer written (string_bytes report.text) (Ok tt) →
    EndsReport told report writer read read written
ends_sent told report writer written (Ok done) is sends = inl (refl, sends)
ends_sent told report writer written (Err (stop.Read e)) is sends = inl (refl, sends)
ends_sent told report writer written (Err (stop.Write e)) is sends = cc
ends_sent told report writer written (Err (stop.Memory refused)) is sends = inl (refl, sends)

-- a report of which the rest can't be sent ends with that error
pub ends_unsent : {A W : Type 0} (told : W → SinkTold) (report : FileReport A) (writer written : W)
    (read : Result (Unit {0}) (Stop A)) (error : Error A) → is_unwritten read ≡ false →
    Sends told most_writes writer written (string_bytes report.text) (Err error) →
    EndsReport told report writer read (Err (stop.Write error)) written
ends_unsent told report writer written (Ok done) error is sends = inr (error, refl, sends)
ends_unsent told report writer written (Err (stop.Read e)) error is sends = inr (error, refl, sends)
ends_unsent told report writer written (Err (stop.Write e)) error is sends = cc
ends_unsent told report writer written (Err (stop.Memory refused)) error is sends = inr (error, refl, sends)
