-- What calls of `add` come to, one after another.
use Rattle.std.proofs.Common.{◌≡◌, true, false, List, [], ◌∷◌, append-nil, None}
use Rattle.std.proofs.Common.{Result, Ok, Err, refl, sym, ◌∙◌, arith}
use Rattle.std.proofs.Math.Path.{fun_ext}
use Rattle.std.proofs.lemmas.Bool.{cond_both}
use Rattle.std.specs.Prelude.{None, filter, is_ok, if◌then◌else◌}
use Rattle.std.specs.Cmp.Lexicographic.{slice_cmp}
use Rattle.std.specs.FinMap as fin
use Rattle.std.specs.List.{FoldsTo}
use Rattle.std.specs.Ordering.{nat_cmp}
use Rattle.std.specs.Str.{encode_utf8_all}
use Rattle.dotenvy.specs.Dialect.TheVariants.{V15}
use Rattle.dotenvy.specs.Error.{Error}
use Rattle.dotenvy.specs.Entries.{Failure, Entry}
use Rattle.dotenvy.specs.Environment.{Texts}
use Rattle.dotenvy.specs.Laws.{LoadsAllLeft, LoadsTakeAll}
use Rattle.dotenvy.specs.Iteration.{CanRead}
use Rattle.dotenvy.specs.Items.{no_values}
use Rattle.dotenvy.specs.Iter.{fresh}
use Rattle.dotenvy.specs.Laws.{HasOneReading}
use Rattle.dotenvy.specs.LoadsRest.{IsAnswer, Leaves}
use Rattle.dotenvy.specs.Marks.{without_mark}
use Rattle.dotenvy.specs.Meaning.{values_of, recalled_of}
use Rattle.env_layers.specs.declared.layers.Mode.{Mode}
use Rattle.env_layers.specs.declared.layers.Mode.TheVariants.{Keep, Override}
use Rattle.env_layers.specs.Layers.{after_load, rule_of}
use Rattle.env_layers.specs.Laws.{Layer, IsAddCall, HasLayerEntries, layer_result, Applies}
use Rattle.env_layers.specs.Laws.{LayersInOrder, AcceptedExactly}

-- a load in either mode that was not refused memory takes all that is left
takes_all : {A : Type 0} (mode : Mode) → LoadsTakeAll A → LoadsAllLeft (rule_of mode) A
takes_all Keep (keeping, overriding) = keeping
takes_all Override (keeping, overriding) = overriding

-- a fresh iterator remembers nothing
nothing_recalled : recalled_of fin.empty ≡ no_values
nothing_recalled = fun_ext
    (λ name. rw (fin.get-empty (slice_cmp nat_cmp) (encode_utf8_all name)) refl)

-- a fresh iterator over fewer than 2^32 bytes, which tells no fault, can read them all
can_read : {A : Type 0} (old : Texts) (layer : Layer) (new : Texts) (added : IsAddCall A old layer new) →
    CanRead (fresh added.told V15) (record { bytes = layer.bytes; fault = None })
can_read old layer new added = let few = added.few in
    record { is_open = refl; is_told = (added.tells, λ told. cc); few = omega (arith, few) }

-- the call's load leaves and answers what the closed rule of the layer says
leaves_rule : {A : Type 0} (old : Texts) (layer : Layer) (new : Texts) (entries : List Entry) → LoadsTakeAll A →
    (added : IsAddCall A old layer new) →
    HasLayerEntries layer entries → Leaves (layer_result layer (values_of old) entries) added.adds.loaded added.answer
leaves_rule old layer new entries all added has =
    let adds = added.adds in
    let whole =
    takes_all layer.mode all (fresh added.told V15)
    (record { bytes = layer.bytes; fault = None }) old adds.loaded added.answer entries
    (can_read old layer new added) has adds.loads added.not_refused in
    rw (nothing_recalled, append-nil) at whole

-- two answers that say the same are both Ok, or neither is
both_ok : {A : Type 0} (said : Result (Unit {0}) Failure) (answer : Result (Unit {0}) (Error A)) →
    IsAnswer said answer → is_ok answer ≡ is_ok said
both_ok (Ok done) (Ok r) is = refl
both_ok (Err failure) (Err e) is = refl
both_ok said answer is = absurd is

-- a layer is accepted exactly where its rule answers Ok
pub accepted_exactly : {A : Type 0} → LoadsTakeAll A → AcceptedExactly A
accepted_exactly all old new layer entries added has =
    let leaves = leaves_rule old layer new entries all added has in
    added.accepted ∙ both_ok (layer_result layer (values_of old) entries).answer added.answer leaves.is_answer

-- an answer that is Ok is the one value that Ok has
is_the_ok : {E : Type 0} (said : Result (Unit {0}) E) → is_ok said ≡ true → said ≡ Ok tt
is_the_ok (Ok done) ok = refl
is_the_ok (Err failure) ok = cc

-- what was loaded stands where the answer is Ok, and else what was there before
stands : {E : Type 0} (before loaded : Texts) (answer : Result (Unit {0}) E) →
    after_load before loaded answer ≡ (if is_ok answer then loaded else before)
stands before loaded (Ok done) = refl
stands before loaded (Err e) = refl

-- an accepted call applies the rule of its layer
accepted_applies : {A : Type 0} (old : Texts) (layer : Layer) (new : Texts) → HasOneReading → LoadsTakeAll A →
    IsAddCall A old layer new → layer.accepted ≡ true →
    Applies (values_of old) layer (values_of new)
accepted_applies old layer new one all added accepted =
    let reading = one V15 (without_mark layer.bytes) in
    let leaves = leaves_rule old layer new reading.0 all added reading.1 in
    let ok = sym added.accepted ∙ accepted in
    let stays = added.adds.stands ∙ stands old added.adds.loaded added.answer in
    record {
      entries = reading.0;
      has_entries = reading.1;
      is_ok = is_the_ok (layer_result layer (values_of old) reading.0).answer
          (sym (both_ok (layer_result layer (values_of old) reading.0).answer added.answer leaves.is_answer) ∙ ok);
      leaves = λ name. rw (stays, ok) (leaves.values name);
    }

-- a call that was not accepted changes nothing
refused_stays : {A : Type 0} (old : Texts) (layer : Layer) (new : Texts) → IsAddCall A old layer new →
    layer.accepted ≡ false → new ≡ old
refused_stays old layer new added refused = added.adds.stands
    ∙ rw (stands old added.adds.loaded added.answer, ← added.accepted, refused) refl

-- after any calls the rules of the accepted layers were applied, in order
pub layers_in_order : {A : Type 0} → HasOneReading → LoadsTakeAll A → LayersInOrder A
layers_in_order one all old new [] same = rw same refl
layers_in_order one all old new (layer ∷ layers) (next, added, later) =
    let accepted = filter (λ layer. layer.accepted) layers in
    let applied = layers_in_order one all next new layers later in
    cond_both layer.accepted (layer ∷ accepted) accepted
    (λ these. FoldsTo Applies (values_of old) these (values_of new))
    (λ is. (values_of next, accepted_applies old layer next one all added is, applied))
    (λ is. rw (refused_stays old layer next added is) at applied)
