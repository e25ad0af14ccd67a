-- What a layer does to an environment.
use Rattle.std.specs.Prelude.{◌≡◌, Result, Ok, Err}
use Rattle.dotenvy.specs.Error.{Error}
use Rattle.dotenvy.specs.Environment.{Texts}
use Rattle.dotenvy.specs.Iter.{IterState}
use Rattle.dotenvy.specs.Loads.{load_result, override_result}
use Rattle.dotenvy.specs.LoadsRest.{Rule, LoadsRest}
use Rattle.env_layers.specs.declared.layers.Mode.{Mode}
use Rattle.env_layers.specs.declared.layers.Mode.TheVariants.{Keep, Override}

-- the closed rule of a mode
abbrev pub rule_of : Mode → Rule
rule_of Keep = load_result
rule_of Override = override_result

-- what a load left takes the place of what stood before it, where the load answered Ok
abbrev pub after_load : {E : Type 0} → Texts → Texts → Result (Unit {0}) E → Texts
after_load before loaded (Ok done) = loaded
after_load before loaded (Err error) = before

-- a load by the rule of the mode, over what the iterator has left and the environment so far, has this answer; what it
-- left counts where that is Ok, and nothing of it else
pub record AddsLayer {A : Type 0} (mode : Mode) (file : IterState) (old : Texts)
    (answer : Result (Unit {0}) (Error A)) (new : Texts) : Type 0 where
  pub loaded : Texts
  pub loads : LoadsRest (rule_of mode) file old answer loaded
  pub stands : new ≡ after_load old loaded answer
