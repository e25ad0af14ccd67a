-- One read after another, up to the end of a source.
use Rattle.std.proofs.Common.{◌≡◌, ◌<◌, ◌≤◌, ◌+◌, ◌⊎◌, ℕ, List, [], ◌++◌, Option, Some, Ok, Err, ap, arith, drop}
use Rattle.std.proofs.Common.{append-nil, append_assoc, inl, inr, length, length-append, refl, sym, take, ◌∙◌}
use Rattle.std.proofs.lemmas.List.{length-take-le, take-append-drop}
use Rattle.std.specs.IoError.{error_kind}
use Rattle.std.specs.declared.io.Error.{Error}
use Rattle.std.specs.declared.io.ErrorKind.TheVariants.{Interrupted}
use Rattle.dotenvy_base.specs.Source.{Ahead, ReadsAhead}
use Rattle.dotenvy_streams.specs.Reads.{IsWhole}

-- these bytes were read of a source, by so many reads at most, and the others are still to be read
abbrev pub IsReadUpTo : Ahead → ℕ → List ℕ → Option Ahead → Type 0
IsReadUpTo ahead reads front after =
    (rest : List ℕ) × (after ≡ Some (record { bytes = rest; fault = ahead.fault }))
    × (ahead.bytes ≡ front ++ rest) × (reads ≤ length front)

-- the same, or a read was interrupted
abbrev pub IsReadSoFar : Ahead → ℕ → List ℕ → Option Ahead → Type 0
IsReadSoFar ahead reads front after =
    IsReadUpTo ahead reads front after ⊎ (ahead.fault ≡ Some Interrupted)

-- nothing is read yet
pub read_start : (ahead : Ahead) (before : Option Ahead) → before ≡ Some ahead → IsReadSoFar ahead 0 [] before
read_start ahead before is = inl (ahead.bytes, is, refl, omega arith)

-- a read takes the next bytes
pub read_more : (ahead : Ahead) (reads : ℕ) (front : List ℕ) (before after : Option Ahead) (n : ℕ) (buffer : List ℕ) →
    IsReadSoFar ahead reads front before → ReadsAhead before after (Ok n) buffer → 0 < n → n ≤ length buffer →
    IsReadSoFar ahead (reads + 1) (front ++ take n buffer) after
read_more ahead reads front before after n buffer (inr interrupted) takes some bound = inr interrupted
read_more ahead reads front before after n buffer (inl (rest, is, cut, few)) takes some bound =
    let read = (rw is at takes).0 in
    let longer = length-append front (take n buffer) in
    let taken = length-take-le n buffer bound in
    inl (
      drop n rest,
      read.2,
      cut ∙ ap (λ bytes. front ++ bytes) (sym (take-append-drop n rest))
          ∙ ap (λ bytes. front ++ (bytes ++ drop n rest)) (sym read.0)
          ∙ sym (append_assoc front (take n buffer) (drop n rest)),
      omega (arith, few, some, longer, taken),
    )

-- a read of no bytes is the end
pub read_end : (ahead : Ahead) (reads : ℕ) (front : List ℕ) (before after : Option Ahead) (buffer : List ℕ) →
    IsReadSoFar ahead reads front before → ReadsAhead before after (Ok 0) buffer → 0 < length buffer →
    IsWhole ahead front
read_end ahead reads front before after buffer (inr interrupted) takes room = inr interrupted
read_end ahead reads front before after buffer (inl (rest, is, cut, few)) takes room =
    let ended = (rw is at takes).0.3 room refl in
    inl (sym (cut ∙ ap (λ bytes. front ++ bytes) ended.0 ∙ append-nil front), ended.1)

-- after a read that is interrupted nothing is known
pub read_again : (ahead : Ahead) (reads : ℕ) (front : List ℕ) (before after : Option Ahead) (e : Error)
    (buffer : List ℕ) → IsReadSoFar ahead reads front before → ReadsAhead before after (Err e) buffer →
    error_kind e ≡ Interrupted → IsReadSoFar ahead (reads + 1) front after
read_again ahead reads front before after e buffer (inr interrupted) takes kind = inr interrupted
read_again ahead reads front before after e buffer (inl (rest, is, cut, few)) takes kind =
    let fault = (rw is at takes).1 in
    inr (fault.1 ∙ ap Some kind)
