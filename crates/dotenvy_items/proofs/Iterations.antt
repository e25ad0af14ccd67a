-- The items that calls give one after another are those of the definition.
use Rattle.std.proofs.Common.{◌≡◌, ℕ, List, [], ◌∷◌, ◌++◌, length, length-append, append_assoc}
use Rattle.std.proofs.Common.{Some, None, Ok, Err, refl, sym, ◌∙◌, ap, inl, inr, arith}
use Rattle.std.specs.Prelude.{bytes_eq}
use Rattle.std.proofs.lemmas.Option.{none-some}
use Rattle.std.specs.Str.{encode_utf8_all}
use Rattle.std.specs.Ordering.{nat_cmp}
use Rattle.std.specs.Cmp.Lexicographic.{slice_cmp}
use Rattle.std.specs.FinMap.{empty, get-empty}
use Rattle.dotenvy_format.specs.declared.dialect.Dialect.{Dialect}
use Rattle.dotenvy_base.specs.declared.errors.Error.{Error}
use Rattle.dotenvy_base.specs.declared.errors.Error.TheVariants.{Io as io}
use Rattle.dotenvy_lines.specs.declared.lines.Stage.TheVariants.{Open}
use Rattle.dotenvy_format.specs.Entries.{Entry, Declares, Fails, Io, Memory}
use Rattle.dotenvy_format.specs.Items.{LookUp, no_values, meaning, or_else, with_value, items_from, items, text_of}
use Rattle.dotenvy_base.specs.Environment.{Texts}
use Rattle.dotenvy_items.specs.Meaning.{values_of, recalled_of}
use Rattle.std.specs.IoError.{error_kind}
use Rattle.dotenvy_format.specs.Decided.{HasDecided}
use Rattle.dotenvy_base.specs.Source.{Ahead, Told}
use Rattle.dotenvy_lines.specs.Input.{IsFinal, end_reads}
use Rattle.dotenvy_lines.specs.Lines.{FailsFor}
use Rattle.dotenvy_lines.specs.Reading.{HasEntriesLeft, told_fault, certain_bytes}
use Rattle.dotenvy_items.specs.Iter.{IterState, TellsLeft, fresh}
use Rattle.dotenvy_items.specs.NextItem.{Item, SaysItem, entry_item, RemembersEntry, TakesEntry}
use Rattle.dotenvy_items.specs.Iteration.{GivesItems, NoneRefused, IsReadable, CanRead, SayItems, SayTheSame}
use Rattle.dotenvy_items.specs.Iteration.{AreRead, EndsAtBound}
use Rattle.std.specs.declared.io.ErrorKind.TheVariants.{Other}
use Rattle.dotenvy_format.proofs.loads.LoadRuns.{meaning-text, or_else-text, with_value-text}
use Rattle.dotenvy_lines.proofs.Inputs.{ahead_of, the_bytes, the_fault}
use Rattle.dotenvy_lines.proofs.LineEntries.{left_once, left-none, left-fault, left_exists}

-- items are the same where what is remembered has the same texts
items_from-texts : (env a b : LookUp) (entries : List Entry) → ((n : List ℕ) → text_of a n ≡ text_of b n) →
    items_from env a entries ≡ items_from env b entries
items_from-texts env a b [] same = refl
items_from-texts env a b (Fails failure ∷ entries) same = rw (items_from-texts env a b entries same)
items_from-texts env a b (Declares key pieces ∷ entries) same =
    let w = meaning (or_else env b) pieces in
    rw (
      meaning-text (or_else env a) (or_else env b) pieces
          (λ n. or_else-text (env n) (env n) (a n) (b n) refl (λ absent. same n)),
      items_from-texts env (with_value a key w) (with_value b key w) entries
          (λ n. with_value-text w (a n) (b n) (bytes_eq key n) (same n)),
    )

-- an item that says an entry, before those of the later entries
says_first : {A : Type 0} (env earlier now : LookUp) (entry : Entry) (item : Item A) (given : List (Item A))
    (later : List Entry) → SaysItem item (entry_item (or_else env earlier) entry) →
    RemembersEntry (or_else env earlier) earlier now entry → SayItems given (items_from env now later) →
    SayItems (item ∷ given) (items_from env earlier (entry ∷ later))
says_first env earlier now (Declares key pieces) (Ok pair) given later is remembers say =
    let then = with_value earlier key (meaning (or_else env earlier) pieces) in
    (is, rw (items_from-texts env now then later remembers) at say)
says_first env earlier now (Fails failure) (Err e) given later is remembers say =
    (is, rw (items_from-texts env now earlier later remembers) at say)
says_first env earlier now _ _ given later is remembers say = absurd is

-- items that end with refused memory are not given where no call was refused any
no_refusal : {A : Type 0} (env earlier : LookUp) (front : List Entry) (given : List (Item A)) → NoneRefused given →
    SayItems given (items_from env earlier (front ++ Fails Memory ∷ [])) → ⊥
no_refusal env earlier [] (Err e ∷ given) granted say = granted.0 say.0
no_refusal env earlier (Declares key pieces ∷ front) (item ∷ given) granted say =
    no_refusal env (with_value earlier key (meaning (or_else env earlier) pieces)) front given granted.1 say.1
no_refusal env earlier (Fails failure ∷ front) (item ∷ given) granted say =
    no_refusal env earlier front given granted.1 say.1
no_refusal env earlier _ _ granted say = search

-- items that are given say those of what an iterator reads where these entries are left
abbrev GivesRead : {A : Type 0} → Texts → IterState → Ahead → List Entry → List (Item A) → Type 0
GivesRead names s a entries given =
    (read : List Entry) × AreRead s a entries read
    × SayItems given (items_from (values_of names) (recalled_of s.remembered) read)

-- an iterator that is not open gives nothing
shut_gives : {A : Type 0} (names : Texts) (s : IterState) (given : List (Item A)) → (s.lines.stage ≡ Open → ⊥) →
    GivesItems names s given → given ≡ []
shut_gives names s [] shut gives = refl
shut_gives names s (item ∷ given) shut (t, next, later) = absurd (none-some item (sym (next.1 shut).0))

-- where an entry was taken and these are read after it, it and these are read
reads_more : {names : Texts} {a : Ahead} {s t : IterState} {entries read : List Entry} {entry : Entry}
    (k : TakesEntry names a s entries entry t) →
    AreRead t (record { bytes = k.left; fault = a.fault }) k.later read →
    AreRead s a entries (entry ∷ read)
reads_more k (inl all) = inl (rw (all, k.first))
reads_more {entry = entry} k (inr (inl stops)) = inr (inl (record {
  front = entry ∷ stops.front;
  back = stops.back;
  cut = rw (k.first, stops.cut);
  ends = rw stops.ends;
}))
reads_more {entry = entry} k (inr (inr ends)) =
    let each = ends.each_gave in
    let reads = k.moves.reads in
    let all = simp length-append at (ap length k.moves.joins) in
    let left = simp length-append at (ap length ends.cut) in inr (inr (record {
      bytes = k.used ++ ends.bytes;
      later = ends.later;
      cut = rw (k.moves.joins, ends.cut, append_assoc);
      each_gave = omega (arith, each, reads, all, length-append k.used ends.bytes);
      decided = entry ∷ ends.decided;
      has_decided = elim k.stays [
        | inl ended ↦
            let read = ap end_reads ended.2 in
            let empty = ap length ended.1 in
            absurd (omega (arith, each, read, empty, left))
        | inr first ↦ first ends.bytes ends.decided (rw k.dialect at ends.has_decided)
      ];
      ends = rw ends.ends;
    }))

-- calls give the items of what is read, all and in order, up to a final fault
pub items_as_read : {A : Type 0} (s : IterState) (a : Ahead) (names : Texts) (entries : List Entry)
    (given : List (Item A)) → s.lines.stage ≡ Open → TellsLeft s a → HasEntriesLeft s.dialect a.fault a.bytes entries →
    GivesItems names s given → GivesRead names s a entries given
items_as_read s a names entries [] is_open told has gives =
    let none = gives.1.0 is_open a told entries has in ([], inl (rw (none.0, none.1)), tt)
items_as_read {A = A} s a names entries (item ∷ given) is_open told has (t, next, gives) =
    elim (next.0 is_open a told entries has) [
      | inl (entry, is, k) ↦
          let b : Ahead = ahead_of k.left a.fault in
          let later : GivesRead names t b k.later given = elim k.goes_on [
            | inl still ↦
                items_as_read t b names k.later given still (k.moves.is_left, told.1)
                (rw k.dialect k.has_left) gives
            | inr (ended, nothing) ↦
                let same : Some b ≡ Some (ahead_of [] None) = sym k.moves.is_left ∙ nothing in
                let none = the_fault _ _ same in
                let all = left_once s.dialect a.fault k.left k.later [] k.has_left
                (left-none s.dialect a.fault k.left (the_bytes _ _ same) none) in
                ([], inl (rw (all, none)), rw (shut_gives names t given (λ opened. cc) gives) tt)
          ] in (
            entry ∷ later.0,
            reads_more k later.1,
            says_first (values_of names) (recalled_of s.remembered) (recalled_of t.remembered) entry item given later.0
                is k.remembers later.2,
          )
      | inr (fails, on_none) ↦ at item fails
    ]
  where
    last : (e : Error A) → IsFinal a s.lines.input (λ bytes. HasDecided s.dialect bytes []) e t.lines.input →
        GivesRead names s a entries (Err e ∷ [])
    last e (inl memory) =
        (Fails Memory ∷ [], inr (inl (record { front = []; back = entries; cut = refl; ends = refl })), (memory, tt))
    last (io x) (inr (inl (told, none))) =
        let none_left = left-fault s.dialect a.fault (error_kind x) a.bytes entries told has none in
        (Fails (Io (error_kind x)) ∷ [], inl (rw (none_left, told)), (refl, tt))
    last (io x) (inr (inr (kind, met))) =
        let bound : EndsAtBound s.dialect a (certain_bytes s.lines.input) (Fails (Io Other) ∷ []) = record {
          bytes = met.front;
          later = met.later;
          cut = met.cut;
          each_gave = met.each_gave;
          decided = [];
          has_decided = met.holds;
          ends = refl;
        } in
        (Fails (Io Other) ∷ [], inr (inr bound), (kind, tt))
    last _ (inr is) = absurd is

    at : (i : Item A) → FailsFor a s.lines.input i (λ bytes. HasDecided s.dialect bytes []) t.lines →
        GivesRead names s a entries (i ∷ given)
    at (Ok pair) fails = absurd fails
    at (Err e) (failed, final) = rw (shut_gives names t given (λ opened. cc) gives) (last e final)

-- calls give the items of what is left, all and in order
pub items_go_on : {A : Type 0} (s : IterState) (a : Ahead) (names : Texts) (entries : List Entry)
    (given : List (Item A)) → CanRead s a → HasEntriesLeft s.dialect a.fault a.bytes entries →
    GivesItems names s given → NoneRefused given →
    SayItems given (items_from (values_of names) (recalled_of s.remembered) (entries ++ told_fault a.fault))
items_go_on s a names entries given can has gives granted =
    let (read, are, say) = items_as_read s a names entries given can.is_open can.is_told has gives in elim are [
      | inl all ↦ rw all at say
      | inr (inl stops) ↦
          absurd (no_refusal (values_of names) (recalled_of s.remembered) stops.front given granted
          (rw stops.ends at say))
      | inr (inr ends) ↦
          let few = can.few in
          let each = ends.each_gave in
          let all = simp length-append at (ap length ends.cut) in
          absurd (omega (arith, few, each, all))
    ]

-- a fresh iterator can read what its source tells
pub can_read_fresh : (dialect : Dialect) (told : Told) (a : Ahead) → told.ahead ≡ Some a → IsReadable a →
    CanRead (fresh told dialect) a
can_read_fresh dialect told a is can =
    record { is_open = refl; is_told = (is, can.not_interrupted); few = (let few = can.few in omega (arith, few)) }

-- a fresh iterator gives the items of what its source tells
pub items_in_order : {A : Type 0} (dialect : Dialect) (told : Told) (a : Ahead) (names : Texts)
    (entries : List Entry) (given : List (Item A)) → told.ahead ≡ Some a → IsReadable a →
    HasEntriesLeft dialect a.fault a.bytes entries →
    GivesItems names (fresh told dialect) given → NoneRefused given →
    SayItems given (items (values_of names) (entries ++ told_fault a.fault))
items_in_order dialect told a names entries given is can has gives granted =
    let none : (n : List ℕ) → text_of (recalled_of empty) n ≡ text_of no_values n =
    λ n. rw (get-empty (slice_cmp nat_cmp) (encode_utf8_all n)) refl in
    rw (items_from-texts (values_of names) (recalled_of empty) no_values (entries ++ told_fault a.fault) none)
    at (items_go_on (fresh told dialect) a names entries given (can_read_fresh dialect told a is can) has gives granted)

-- two runs over what a source tells give the same items
pub give_the_same : {A : Type 0} (dialect : Dialect) (told other : Told) (a : Ahead) (names : Texts)
    (given others : List (Item A)) → told.ahead ≡ Some a → other.ahead ≡ Some a → IsReadable a →
    GivesItems names (fresh told dialect) given → NoneRefused given →
    GivesItems names (fresh other dialect) others → NoneRefused others → SayTheSame given others
give_the_same dialect told other a names given others is is' can gives granted gives' granted' =
    let has = left_exists dialect a.fault a.bytes in (
      items (values_of names) (has.0 ++ told_fault a.fault),
      items_in_order dialect told a names has.0 given is can has.1 gives granted,
      items_in_order dialect other a names has.0 others is' can has.1 gives' granted',
    )
