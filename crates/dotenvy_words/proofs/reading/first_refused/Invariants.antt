use Rattle.std.proofs.Common.{◌≢◌, ◌≤◌, ◌-◌, [], false, length, true}
use Rattle.clap.specs.Words.{fault_of}
use Rattle.dotenvy_words.specs.Refused.{StayRefused}
use Rattle.dotenvy_words.specs.Found.{texts}
use Rattle.dotenvy_words.proofs.reading.first_refused.Given as goal

-- the words stay refused from one place on, and don't from the other, which is before it
abbrev pub invariant-halves : goal.invariant-halves
invariant-halves g l = record {
  order : l.taken ≤ l.refused;
  inside : l.refused ≤ length l.fn.words;
  taken : StayRefused g.L.CommandLine.described (texts l.fn.words) l.taken false;
  refused : fault_of g.L.CommandLine.described (texts l.fn.words) ≢ [] →
      StayRefused g.L.CommandLine.described (texts l.fn.words) l.refused true;
}

abbrev pub decreases-halves : goal.decreases-halves
decreases-halves g l = l.refused - l.taken
