-- What `clap` specifies of the command line.
use Rattle.std.proofs.Common.{◌≡◌, true, [], refl}
use Rattle.clap.specs.Words.{fault_of, is_simple, is_simple_and_free}
use Rattle.clap.proofs.OnLiterals.{clap_on_literals}
use Rattle.dotenvy_checker.specs.Words.{checker}

-- the command has none of the settings that `clap` does not specify
pub is_checker_simple : is_simple checker ≡ true
unfolding clap_on_literals checker
is_checker_simple = refl

-- and no argument of it has a rule on another
pub is_checker_free : is_simple_and_free checker ≡ true
unfolding clap_on_literals checker
is_checker_free = refl

-- an empty command line is taken
pub none_refused : fault_of checker [] ≡ []
unfolding clap_on_literals checker
none_refused = refl
