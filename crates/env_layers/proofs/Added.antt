-- What a call of `add` adds: a load that was accepted, one that was refused, or nothing for want of memory.
use Rattle.std.proofs.Common.{◌≡◌, [], ◌∷◌, Option, Some, None, Err, refl, sym, inl, inr}
use Rattle.dotenvy.specs.Error.{Error}
use Rattle.dotenvy.specs.Entries.{Fails, Memory}
use Rattle.dotenvy.specs.Environment.{Texts}
use Rattle.dotenvy.specs.Errors.{IsMemory}
use Rattle.dotenvy.specs.Items.{LookUp}
use Rattle.dotenvy.specs.Iter.{IterState}
use Rattle.dotenvy.specs.LoadsRest.{Leaves}
use Rattle.dotenvy.specs.Meaning.{values_of, recalled_of}
use Rattle.std.specs.Option.{option_or}
use Rattle.env_layers.specs.declared.layers.Mode.{Mode}
use Rattle.env_layers.specs.declared.layers.Mode.TheVariants.{Keep, Override}
use Rattle.env_layers.specs.Layers.{AddsLayer, rule_of}

-- a value, or else none
or_none : {T : Type 0} (value : Option T) → option_or value None ≡ value
or_none None = refl
or_none (Some x) = refl

-- a load that is refused memory before the first entry leaves the environment as it was
left_by_none : {A : Type 0} (mode : Mode) (old : Texts) (remembered : LookUp) (error : Error A) → IsMemory error →
    Leaves (rule_of mode (values_of old) remembered (Fails Memory ∷ [])) old (Err error)
left_by_none Keep old remembered error is =
    record { values = λ name. sym (or_none (values_of old name)); is_answer = is }
left_by_none Override old remembered error is = record { values = λ name. refl; is_answer = is }

-- a call that is refused memory adds nothing
pub adds_none : {A : Type 0} (mode : Mode) (file : IterState) (old : Texts) (error : Error A) → IsMemory error →
    AddsLayer mode file old (Err error) old
adds_none mode file old error is = record {
  loaded = old;
  loads = λ a is_left entries left. (
    Fails Memory ∷ [],
    inr (inl (record { front = []; back = entries; cut = refl; ends = refl })),
    left_by_none mode old (recalled_of file.remembered) error is,
  );
  stands = refl;
}
