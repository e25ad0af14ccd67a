use Rattle.std.specs.Option.{option_map}
use Rattle.std.specs.Path.{path_bytes}
use Rattle.dotenvy_base.proofs.Searching.{Asking, size_of}
use Rattle.dotenvy_base.proofs.search.find.Given as goal

-- the directories below were asked in turn, and none of them ended the search
abbrev pub invariant-directories : goal.invariant-directories
invariant-directories g l = record {
  callable : goal.F-IsAlwaysCallable g l.look;
  asking : Asking (goal.F-step g) l.fn.look (path_bytes l.fn.directory) (path_bytes l.fn.filename)
      (option_map path_bytes l.above) l.look;
}

abbrev pub decreases-directories : goal.decreases-directories
decreases-directories g l = size_of l.above
