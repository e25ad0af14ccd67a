-- What a sink of turns holds.
use Rattle.std.specs.Prelude.{ℕ, List, Some, None}
use Rattle.dotenvy.specs.Source.{SinkTold}
use Rattle.test_witnesses.specs.declared.sink.Turns.{Turns}

-- the bytes that it took
abbrev pub held_by : Turns → List ℕ
held_by s = s.held.items

-- what it tells: these bytes, and the kind of its last fault
abbrev pub told_by : Turns → SinkTold
told_by s = record { held = Some (held_by s); last_fault = s.last_fault; calls = None }
