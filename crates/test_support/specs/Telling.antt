-- What a reader or a writer of the tests tells of the calls that were made on it.
use Rattle.std.specs.Prelude.{List, map, Option, option_map}
use Rattle.std.specs.declared.vec.Vec.{Vec}
use Rattle.dotenvy.specs.Calls.{Call}
use Rattle.test_support.specs.declared.telling.Note.{Note}

-- the call that was noted
abbrev pub call_noted : Note → Call
call_noted note = record { len = note.len; answer = note.answer }

-- the calls that were noted, as long as they were
abbrev pub calls_noted : {A : Type 0} → Option (Vec Note A) → Option (List Call)
calls_noted = option_map (λ calls. map call_noted calls.items)
