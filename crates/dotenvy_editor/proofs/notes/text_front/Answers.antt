use Rattle.std.proofs.Common.{arith, length, take_all}
use Rattle.std.proofs.lemmas.Str.{utf8_valid_len-IsUtf8}
use Rattle.dotenvy_editor.proofs.notes.text_front.Goals as goal

pub returns-in-Ok : goal.returns-in-Ok
returns-in-Ok c =
    let bytes = c.args.bytes.now in
    let all = utf8_valid_len-IsUtf8 bytes c.in-Ok.ensures.cases.1 in
    rw (all, take_all (length bytes) bytes (omega arith)) c.in-Ok.ensures.cases.0
