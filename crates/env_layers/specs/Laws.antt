-- Laws of layers: what calls of `add` come to.
use Rattle.std.specs.Prelude.{ℕ, ◌≡◌, ◌<◌, Bool, List, length, filter, Some, None}
use Rattle.std.specs.Prelude.{Result, Ok, is_ok}
use Rattle.std.specs.List.{FoldsTo}
use Rattle.dotenvy.specs.Dialect.TheVariants.{V15}
use Rattle.dotenvy.specs.Error.{Error}
use Rattle.dotenvy.specs.Entries.{Entry, HasEntries}
use Rattle.dotenvy.specs.Environment.{Texts}
use Rattle.dotenvy.specs.Errors.{IsMemoryErr}
use Rattle.dotenvy.specs.Input.{most_reads}
use Rattle.dotenvy.specs.Items.{LookUp, no_values}
use Rattle.dotenvy.specs.Iter.{fresh}
use Rattle.dotenvy.specs.Marks.{without_mark}
use Rattle.dotenvy.specs.Meaning.{values_of}
use Rattle.dotenvy.specs.Run.{Loaded}
use Rattle.dotenvy.specs.Source.{Told}
use Rattle.env_layers.specs.declared.layers.Mode.{Mode}
use Rattle.env_layers.specs.Layers.{AddsLayer, rule_of}

-- a layer: the bytes that its reader tells, its mode, and whether it was accepted
pub record Layer : Type 0 where
  pub bytes : List ℕ
  pub mode : Mode
  pub accepted : Bool

-- the reader tells these bytes, all of them, and no fault
abbrev pub TellsAll : Told → List ℕ → Type 0
TellsAll told bytes = told.ahead ≡ Some (record { bytes = bytes; fault = None })

-- one call of `add`, as its contract says, which was not refused memory
pub record IsAddCall (A : Type 0) (old : Texts) (layer : Layer) (new : Texts) : Type 0 where
  pub answer : Result (Unit {0}) (Error A)
  pub told : Told
  pub tells : TellsAll told layer.bytes
  pub adds : AddsLayer layer.mode (fresh told V15) old answer new
  pub few : length layer.bytes < most_reads
  pub not_refused : ¬ (IsMemoryErr answer)
  pub accepted : layer.accepted ≡ is_ok answer

-- these are the entries of the layer, without a byte order mark at its front
abbrev pub HasLayerEntries : Layer → List Entry → Type 0
HasLayerEntries layer entries = HasEntries V15 (without_mark layer.bytes) entries

-- the closed rule of the layer, over these entries and the environment so far
abbrev pub layer_result : Layer → LookUp → List Entry → Loaded
layer_result layer env entries = rule_of layer.mode env no_values entries

-- the rule of the layer answers Ok, and leaves this environment
pub record Applies (env : LookUp) (layer : Layer) (after : LookUp) : Type 0 where
  pub entries : List Entry
  pub has_entries : HasLayerEntries layer entries
  pub is_ok : (layer_result layer env entries).answer ≡ Ok tt
  pub leaves : (name : List ℕ) → after name ≡ (layer_result layer env entries).env name

-- calls of `add` one after another leave what the rules leave, applied in order to the layers that were accepted
abbrev pub LayersInOrder : Type 0 → Type 0
LayersInOrder A =
    (old new : Texts) (layers : List Layer) → FoldsTo (IsAddCall A) old layers new →
    FoldsTo Applies (values_of old) (filter (λ layer. layer.accepted) layers) (values_of new)

-- a layer is accepted exactly where its rule answers Ok
abbrev pub AcceptedExactly : Type 0 → Type 0
AcceptedExactly A =
    (old new : Texts) (layer : Layer) (entries : List Entry) → IsAddCall A old layer new →
    HasLayerEntries layer entries →
    layer.accepted ≡ is_ok ((layer_result layer (values_of old) entries).answer)
