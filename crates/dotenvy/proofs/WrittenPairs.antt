-- What was written of pairs comes back, over any source that tells it.
use Rattle.std.proofs.Common.{◌≡◌, ◌<◌, ℕ, true, false, cond, List, [], ◌∷◌, ◌++◌, map, refl, arith}
use Rattle.std.proofs.Common.{append-nil, append_assoc}
use Rattle.std.specs.Prelude.{None, Err, nat_eq}
use Rattle.std.specs.List.{list_all}
use Rattle.std.specs.FinMap as fin
use Rattle.std.specs.declared.io.ErrorKind.TheVariants.{Interrupted}
use Rattle.std.proofs.lemmas.Bool.{and_parts}
use Rattle.std.proofs.lemmas.Bool.Decides.{nat_tests}
use Rattle.std.proofs.lemmas.Option.{none-some}
use Rattle.std.proofs.lemmas.Str.{encodes-append, encode_ascii}
use Rattle.dotenvy_format.specs.declared.dialect.Dialect.{Dialect}
use Rattle.dotenvy_format.specs.Characters.{begins_key, continues_key}
use Rattle.dotenvy_format.specs.Entries.{Nul, HasEntries}
use Rattle.dotenvy_format.specs.Items.{LookUp}
use Rattle.dotenvy_format.specs.Loads.{Declared, declared_from, override_look_up, override_result}
use Rattle.dotenvy_format.specs.Marks.{without_mark}
use Rattle.dotenvy_format.specs.Run.{has_nul}
use Rattle.dotenvy_format.specs.Written.{AreWritable, written_bytes, written_pair, written_text}
use Rattle.dotenvy_format.proofs.lines.EntriesOnce.{reads_back_once}
use Rattle.dotenvy_format.proofs.writing.ReadBack.{meaning-characters}
use Rattle.dotenvy_format.proofs.writing.ReadBackLines.{AreKeys, pair_entry, written_entries}
use Rattle.dotenvy_format.proofs.writing.WrittenTexts.{keys_of, written_scalars}
use Rattle.dotenvy_base.specs.Source.{Ahead, Told}
use Rattle.dotenvy_items.specs.Iteration.{IsReadable}
use Rattle.dotenvy_items.specs.Meaning.{values_of, recalled_of}
use Rattle.dotenvy_items.proofs.Iterations.{items_in_order}
use Rattle.dotenvy_items.proofs.WholeLoads.{fresh_takes_all, override_takes_all}
use Rattle.dotenvy.specs.Laws.{GivesWritten, LoadsWritten, TellsWritten, until_nul, written_in_turn}

-- pairs that are written one after the other are written as all of them at once
in_turn : (pairs : List (List ℕ × List ℕ)) → written_in_turn pairs ≡ written_bytes pairs
in_turn [] = refl
in_turn (pair ∷ pairs) =
    rw (in_turn pairs, append-nil, encodes-append (written_pair pair) (written_text pairs))

-- what begins a key is an ASCII character, and no byte of a byte order mark
key_is_ascii : (c : ℕ) → begins_key c ≡ true → c < 128
key_is_ascii c h = grind (arith, nat_tests, h)

-- bytes that begin with an ASCII character begin with no byte order mark
unmarked : (c : ℕ) (bytes : List ℕ) → c < 128 → without_mark (c ∷ bytes) ≡ c ∷ bytes
unmarked c bytes ascii =
    let other : nat_eq 239 c ≡ false = grind (arith, nat_tests) in
    rw other refl

-- written pairs begin with no byte order mark
no_mark : (pairs : List (List ℕ × List ℕ)) → AreKeys pairs → without_mark (written_bytes pairs) ≡ written_bytes pairs
no_mark [] are = refl
no_mark (([], text) ∷ pairs) are = cc
no_mark ((c ∷ key, text) ∷ pairs) are =
    let first = (and_parts (begins_key c) (list_all continues_key key) are.0).0 in
    let ascii = key_is_ascii c first in
    rw (encode_ascii c ascii) (unmarked c _ ascii)

-- the entries of written pairs declare them up to a value with a NUL, whatever was declared before
declares : (env remembered : LookUp) (earlier pairs : List (List ℕ × List ℕ)) →
    declared_from (override_look_up env remembered) (λ before key. true) earlier (map pair_entry pairs)
    ≡ record { pairs = earlier ++ (until_nul pairs).pairs; stop = (until_nul pairs).stop }
declares env remembered earlier [] = rw append-nil
declares env remembered earlier ((key, text) ∷ pairs) =
    rw (meaning-characters (override_look_up env remembered earlier) text)
    (elim (has_nul text) as (λ b. cond b (record { pairs = earlier; stop = Err (Nul key) })
    (declared_from (override_look_up env remembered) (λ before key. true) (earlier ++ (key, text) ∷ [])
    (map pair_entry pairs))
    ≡ record {
      pairs = earlier ++ (Declared.pairs (cond b (record { pairs = []; stop = Err (Nul key) })
          (record { pairs = (key, text) ∷ (until_nul pairs).pairs; stop = (until_nul pairs).stop })));
      stop = Declared.stop (cond b (record { pairs = []; stop = Err (Nul key) })
          (record { pairs = (key, text) ∷ (until_nul pairs).pairs; stop = (until_nul pairs).stop }));
    }) [
      | true ↦ rw append-nil
      | false ↦ rw (declares env remembered (earlier ++ (key, text) ∷ []) pairs, append_assoc)
    ])

-- what a source tells of written pairs
told_ahead : List (List ℕ × List ℕ) → Ahead
told_ahead pairs = record { bytes = written_in_turn pairs; fault = None }

-- fewer than 2^32 bytes are readable
readable : (told : Told) (pairs : List (List ℕ × List ℕ)) → TellsWritten told pairs → IsReadable (told_ahead pairs)
unfolding told_ahead
readable told pairs tells = record { few = tells.few; not_interrupted = λ e. none-some Interrupted e }

-- what was written has the entries of the pairs
has_entries : (dialect : Dialect) (pairs : List (List ℕ × List ℕ)) → AreWritable pairs →
    HasEntries dialect (written_bytes pairs) (map pair_entry pairs)
has_entries dialect pairs are = written_entries dialect pairs (keys_of pairs are) (written_scalars pairs are)

-- a fresh iterator gives the pairs
gives_written : {A : Type 0} → GivesWritten A
unfolding told_ahead
gives_written {A = A} dialect told pairs names given tells gives granted =
    let has = has_entries dialect pairs tells.are_writable in
    rw (reads_back_once dialect (values_of names) pairs (map pair_entry pairs) tells.are_writable has) at
    (rw append-nil at (items_in_order dialect told (told_ahead pairs) names (map pair_entry pairs) given tells.is_told
    (readable told pairs tells) (rw (in_turn pairs) has) gives granted))

-- `load_override` gives each name its last value
loads_written : {A : Type 0} → LoadsWritten A
unfolding told_ahead
loads_written {A = A} dialect told pairs old new answer tells loads granted =
    let has = has_entries dialect pairs tells.are_writable in
    let unmarked = no_mark pairs (keys_of pairs tells.are_writable) in
    rw (declares (values_of old) (recalled_of fin.empty) [] pairs) at
    (rw append-nil at (fresh_takes_all {A = A} {rule = override_result} {dialect = dialect} {a = told_ahead pairs}
    {old = old} {new = new} {answer = answer} (map pair_entry pairs) override_takes_all (readable told pairs tells)
    (rw (in_turn pairs, unmarked) has)
    (record { told = told; is_told = tells.is_told; loads = loads; not_refused = granted })))

-- what was written of pairs comes back
pub written_comes_back : {A : Type 0} → GivesWritten A × LoadsWritten A
written_comes_back = (gives_written, loads_written)
