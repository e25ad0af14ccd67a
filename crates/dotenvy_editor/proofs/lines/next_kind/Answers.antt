use Rattle.dotenvy.specs.Error.TheVariants.{Io, EnvVar, Nul}
use Rattle.dotenvy_editor.proofs.SplitterLines.{broken_taken, open_taken, text_taken, told_of, was_open}
use Rattle.dotenvy_editor.proofs.lines.next_kind.Goals as goal

pub returns-in-Some-Ok-clause-ok : goal.returns-in-Some-Ok-clause-ok
returns-in-Some-Ok-clause-ok g c =
    λ before left reads behind.
    let e = rw c.in-Some-Ok.field-0-is at c.in-Some-Ok.ensures in
    let is = was_open _ e.shut in text_taken c.args.unclosed.now is behind (told_of reads is e.told)

pub returns-in-Some-Err-LineParse-clause-ok : goal.returns-in-Some-Err-LineParse-clause-ok
returns-in-Some-Err-LineParse-clause-ok g c =
    λ before left reads behind.
    let e = rw (
      c.in-Some-Err-LineParse.field-0-is,
      c.in-Some-Err-LineParse.field-0-0-is,
    ) at c.in-Some-Err-LineParse.ensures in
    let is = was_open _ e.shut in
    open_taken c.in-Some-Err-LineParse.text c.in-Some-Err-LineParse._length is (told_of reads is e.told)

pub returns-in-Some-Err-Io-clause-ok : goal.returns-in-Some-Err-Io-clause-ok
returns-in-Some-Err-Io-clause-ok g c =
    λ before left reads behind.
    let e = rw (c.in-Some-Err-Io.field-0-is, c.in-Some-Err-Io.field-0-0-is) at c.in-Some-Err-Io.ensures in
    let is = was_open _ e.shut in
    broken_taken c.args.unclosed.now (Io c.in-Some-Err-Io._fault) reads is behind (λ text index no. cc) (λ no. no)
    (told_of reads is e.told)

pub returns-in-Some-Err-EnvVar-clause-ok : goal.returns-in-Some-Err-EnvVar-clause-ok
returns-in-Some-Err-EnvVar-clause-ok g c =
    λ before left reads behind.
    let e = rw (c.in-Some-Err-EnvVar.field-0-is, c.in-Some-Err-EnvVar.field-0-0-is) at c.in-Some-Err-EnvVar.ensures in
    let is = was_open _ e.shut in
    broken_taken c.args.unclosed.now (EnvVar c.in-Some-Err-EnvVar._fault) reads is behind (λ text index no. cc)
    (λ no. no) (told_of reads is e.told)

pub returns-in-Some-Err-Nul-clause-ok : goal.returns-in-Some-Err-Nul-clause-ok
returns-in-Some-Err-Nul-clause-ok g c =
    λ before left reads behind.
    let e = rw (c.in-Some-Err-Nul.field-0-is, c.in-Some-Err-Nul.field-0-0-is) at c.in-Some-Err-Nul.ensures in
    let is = was_open _ e.shut in
    broken_taken c.args.unclosed.now (Nul c.in-Some-Err-Nul._key) reads is behind (λ text index no. cc) (λ no. no)
    (told_of reads is e.told)
