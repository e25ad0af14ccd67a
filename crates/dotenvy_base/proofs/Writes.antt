-- One write after another: what was appended, the calls that were made, and the last fault.
use Rattle.std.proofs.Common.{◌≡◌, ◌≢◌, ℕ, ◌+◌, ◌-◌, ◌<◌, ◌≤◌, Bool, true, false}
use Rattle.std.proofs.Common.{not, List, [], ◌∷◌, ◌++◌, length, take, drop, length-drop}
use Rattle.std.proofs.Common.{length-append, append_assoc, append-nil, Option, Some, None, Result, Ok, Err}
use Rattle.std.proofs.Common.{inl, inr, ◌⊎◌, refl, sym, ◌∙◌, ap, arith}
use Rattle.std.specs.Prelude.{OnOk, OnErr, IfErr}
use Rattle.std.specs.IoError.{error_kind}
use Rattle.std.specs.declared.io.Error.{Error}
use Rattle.std.specs.declared.io.ErrorKind.{ErrorKind}
use Rattle.std.specs.declared.io.ErrorKind.TheVariants.{Interrupted, Other, WriteZero}
use Rattle.std.proofs.lemmas.Bool.Decides.{nat_tests}
use Rattle.std.proofs.lemmas.List.{take-append-drop, take_all, length-take-le}
use Rattle.std.specs.contracts.io.ErrorKind.{the_type}
use denote.Enum.Bare.{sameb, differs_true, differs_false}
use Rattle.dotenvy_base.specs.declared.errors.Error.{Error as LoadError}
use Rattle.dotenvy_base.specs.declared.errors.Error.TheVariants.{Io}
use Rattle.dotenvy_base.specs.Errors.{IsIoOf}
use Rattle.dotenvy_base.specs.Calls.{Call, TellsCall, call_of, MayGoOn, AllMayGoOn, OnlyLastEnds}
use Rattle.dotenvy_base.specs.Source.{SinkTold, WriteAppends, fault_after}
use Rattle.dotenvy_base.specs.Output.{Appended, IsFaultOf, IsLastFault, IsWriteFault, MakesWrites, Sends}
use Rattle.dotenvy_base.proofs.CallLists.{all_of_both, ends_behind}

-- what is taken of the bytes after the first n, as many as are left, is all of those
pub slice_rest : (n : ℕ) (xs : List ℕ) → take (length xs - n) (drop n xs) ≡ drop n xs
slice_rest n xs = take_all (length xs - n) (drop n xs) (omega (arith, length-drop n xs))

-- what a write of what is left, with this result, specifies of its sink
pub record OneWrite (before after : SinkTold) (rest : List ℕ) (r : Result ℕ Error) : Type 0 where
  pub bytes : WriteAppends before.held after.held r rest
  pub fault : after.last_fault ≡ fault_after before.last_fault rest r
  pub calls : TellsCall before.calls after.calls (call_of (length rest) r)

-- after a write of some bytes the last fault is the same, whichever these are
told_of_some : (last : Option ErrorKind) (xs : List ℕ) (r : Result ℕ Error) → xs ≢ [] →
    fault_after last xs r ≡ fault_after last (0 ∷ []) r
told_of_some last xs r some = grind arith

-- after a write that took something, the last fault is the one that was last before it
fault_kept : (last : Option ErrorKind) {n : ℕ} (xs : List ℕ) → n ≢ 0 → fault_after last xs (Ok n) ≡ last
fault_kept last xs some = grind (arith, nat_tests)

-- nothing was appended yet
pub appended_none : (held : Option (List ℕ)) → Appended held held []
appended_none held = grind (arith, append-nil {A = ℕ})

-- a write that took some bytes appends them after what was appended
appended_more : (held mid after : Option (List ℕ)) (front rest : List ℕ) (n : ℕ) →
    Appended held mid front → WriteAppends mid after (Ok n) rest → Appended held after (front ++ take n rest)
appended_more held mid after front rest n before write = grind (arith, append_assoc {A = ℕ})

-- a write that failed leaves what was appended as it was
appended_same : (held mid after : Option (List ℕ)) (front rest : List ℕ) (e : Error) →
    Appended held mid front → WriteAppends mid after (Err e) rest → Appended held after front
appended_same held mid after front rest e before write = grind arith

-- so many writes were made, and another may follow each of them
abbrev pub AllMade : Option (List Call) → Option (List Call) → ℕ → Type 0
AllMade before after count =
    (all : List Call) → after ≡ Some all →
    (calls made : List Call) × (before ≡ Some calls) × (all ≡ calls ++ made) × (length made ≡ count) × AllMayGoOn made

-- with one call more, the calls are those before, and those made with it behind them
one_more : {all earlier : List Call} (calls made : List Call) (call : Call) → all ≡ earlier ++ call ∷ [] →
    earlier ≡ calls ++ made → all ≡ calls ++ (made ++ call ∷ [])
one_more calls made call is was = is ∙ rw was (simp append_assoc)

-- with one call more, which another may follow, one more was made, and another may follow each of them
made_more : {before mid after : Option (List Call)} {count : ℕ} {call : Call} → AllMade before mid count →
    TellsCall mid after call → MayGoOn call.answer → AllMade before after (count + 1)
made_more {call = call} made tells goes all is =
    let told = tells all is in
    let m = made told.0 told.1 in (
      m.0,
      m.1 ++ call ∷ [],
      m.2,
      one_more m.0 m.1 call told.2 m.3,
      (let l = m.4 in omega (arith, l, length-append m.1 (call ∷ []))),
      all_of_both (λ c. MayGoOn c.answer) m.1 (call ∷ []) m.5 (goes, tt),
    )

-- what was sent so far, in so many writes that did not end the call
pub record Sending (before now : SinkTold) (bytes rest : List ℕ) (count : ℕ) : Type 0 where
  pub front : List ℕ
  pub cut : bytes ≡ front ++ rest
  pub appended : Appended before.held now.held front
  pub taken :
      before.last_fault ≡ None →
      (now.last_fault ≡ Some Interrupted) ⊎ ((now.last_fault ≡ None) × (count ≤ length front))
  pub made : AllMade before.calls now.calls count

-- nothing was sent yet
pub sending_start : (told : SinkTold) (bytes : List ℕ) → Sending told told bytes bytes 0
sending_start told bytes = record {
  front = [];
  cut = refl;
  appended = appended_none told.held;
  taken = λ none. inr (none, omega arith);
  made = λ all is. (all, [], is, sym (append-nil all), refl, tt);
}

-- a write that took some bytes sends these, and leaves the others
pub sending_more : {before mid after : SinkTold} {bytes rest : List ℕ} {count n : ℕ} →
    Sending before mid bytes rest count → OneWrite mid after rest (Ok n) → n ≢ 0 → n ≤ length rest →
    Sending before after bytes (drop n rest) (count + 1)
sending_more {before} {mid} {after} {rest = rest} {n = n} s w some within =
    let same = w.fault ∙ fault_kept mid.last_fault rest some in record {
      front = s.front ++ take n rest;
      cut = rw (append_assoc, take-append-drop) s.cut;
      appended = appended_more before.held mid.held after.held s.front rest n s.appended w.bytes;
      taken = λ none. elim (s.taken none) [
        | inl interrupted ↦ inl (same ∙ interrupted)
        | inr h ↦ inr (
          same ∙ h.0,
          let c = h.1 in
              omega (arith, c, within, some, length-append s.front (take n rest), length-take-le n rest within),
        )
      ];
      made = made_more s.made w.calls some;
    }

-- a write that was interrupted sends nothing, and leaves all that was left
pub sending_again : {before mid after : SinkTold} {bytes rest : List ℕ} {count : ℕ} {e : Error} →
    Sending before mid bytes rest count → OneWrite mid after rest (Err e) → rest ≢ [] → error_kind e ≡ Interrupted →
    Sending before after bytes rest (count + 1)
sending_again {before} {mid} {after} {rest = rest} {e = e} s w some interrupted = record {
  front = s.front;
  cut = s.cut;
  appended = appended_same before.held mid.held after.held s.front rest e s.appended w.bytes;
  taken = λ none. inl (w.fault ∙ told_of_some mid.last_fault rest (Err e) some ∙ ap Some interrupted);
  made = made_more s.made w.calls interrupted;
}

-- where another call may follow each of these, another may follow each but the last
all_in_turn : (calls : List Call) → AllMayGoOn calls → OnlyLastEnds calls
all_in_turn [] all = tt
all_in_turn (call ∷ calls) all = grind (arith, all_in_turn calls)

-- The ways out: what was sent so far is what the call sends, with this answer.
module _ {A W : Type 0} (sink : W → SinkTold) {most : ℕ} {old : W} {bytes rest : List ℕ} {count : ℕ} where
  -- no write more was made
  ends : {new : W} {answer : Result (Unit {0}) (LoadError A)} → (s : Sending (sink old) (sink new) bytes rest count) →
      OnOk answer (rest ≡ []) → OnErr answer (rest ≢ []) →
      IfErr answer (IsIoOf (IsWriteFault most (length s.front) (sink old).last_fault (sink new).last_fault)) →
      ((made : List Call) → length made ≡ count → AllMayGoOn made → MakesWrites most made answer) →
      Sends sink most old new bytes answer
  ends s whole unsent fault writes = record {
    front = s.front;
    rest = rest;
    cut = s.cut;
    appended = s.appended;
    whole = whole;
    unsent = unsent;
    fault = fault;
    asks = λ all is. (let m = s.made all is in (m.0, m.1, m.2, m.3, writes m.1 m.4 m.5));
  }

  -- where all was sent, within the bound on writes, the call has sent its bytes
  pub sends_all : {new : W} → Sending (sink old) (sink new) bytes rest count → rest ≡ [] → count ≤ most →
      Sends {A = A} sink most old new bytes (Ok tt)
  sends_all s empty few = ends s empty tt tt (λ made l goes. record {
    few = omega (arith, l, few);
    in_turn = all_in_turn made goes;
    whole = goes;
    fault = tt;
  })

  -- where no write was left and some bytes were, the call returns an error of kind Other
  pub sends_none_left : {new : W} {e : Error} → Sending (sink old) (sink new) bytes rest count → count ≡ most →
      rest ≢ [] → error_kind e ≡ Other → Sends {A = A} sink most old new bytes (Err (Io e))
  sends_none_left s all some other = ends s tt some (λ none. inr (
    other,
    elim (s.taken none) [ inl interrupted ↦ inl interrupted | inr h ↦ inr (let c = h.1 in omega (arith, c, all)) ],
  )) (λ made l goes. record {
    few = omega (arith, l, all);
    in_turn = all_in_turn made goes;
    whole = tt;
    fault = inr (other, l ∙ all, goes);
  })

  -- a write ended the call
  sends_fault : {mid new : W} {r : Result ℕ Error} {e : Error} → (s : Sending (sink old) (sink mid) bytes rest count) →
      OneWrite (sink mid) (sink new) rest r → count < most → rest ≢ [] →
      Appended (sink old).held (sink new).held s.front → IsFaultOf (call_of (length rest) r).answer e →
      IsLastFault (sink new).last_fault e → Sends {A = A} sink most old new bytes (Err (Io e))
  sends_fault {r = r} s w few some appended fault last = let call = call_of (length rest) r in record {
    front = s.front;
    rest = rest;
    cut = s.cut;
    appended = appended;
    whole = tt;
    unsent = some;
    fault = λ none. inl last;
    asks = λ all is. (let told = w.calls all is in let m = s.made told.0 told.1 in (
      m.0,
      m.1 ++ call ∷ [],
      m.2,
      one_more m.0 m.1 call told.2 m.3,
      record {
        few = let l = m.4 in omega (arith, l, few, length-append m.1 (call ∷ []));
        in_turn = ends_behind m.1 (call ∷ []) m.5 tt;
        whole = tt;
        fault = inl (m.1, call, refl, fault);
      },
    ));
  }

  -- where a write failed and was not interrupted, the call returns that error
  pub sends_failed : {mid new : W} {e : Error} → Sending (sink old) (sink mid) bytes rest count →
      OneWrite (sink mid) (sink new) rest (Err e) → count < most → rest ≢ [] → error_kind e ≢ Interrupted →
      Sends {A = A} sink most old new bytes (Err (Io e))
  sends_failed {mid} {new} {e} s w few some differs =
      sends_fault s w few some (appended_same (sink old).held _ _ s.front rest e s.appended w.bytes) (differs, refl)
      (w.fault ∙ told_of_some (sink mid).last_fault rest (Err e) some, differs)

  -- where a write took nothing, the call answers WriteZero
  pub sends_zero : {mid new : W} {e : Error} → Sending (sink old) (sink mid) bytes rest count →
      OneWrite (sink mid) (sink new) rest (Ok 0) → count < most → rest ≢ [] → error_kind e ≡ WriteZero →
      Sends {A = A} sink most old new bytes (Err (Io e))
  sends_zero {mid} s w few some kind =
      sends_fault s w few some (rw append-nil at (appended_more (sink old).held _ _ s.front rest 0 s.appended w.bytes))
      (refl, kind) (
        w.fault ∙ told_of_some (sink mid).last_fault rest (Ok 0) some ∙ ap Some (sym kind),
        λ same. (let f : WriteZero ≡ Interrupted = sym kind ∙ same in cc),
      )

-- a fault whose kind was compared with an interruption
pub is_no_interruption : (e : Error) {kind : ErrorKind} {differs : Bool} → kind ≡ error_kind e →
    differs ≡ not (sameb the_type kind Interrupted) → differs ≡ true → error_kind e ≢ Interrupted
is_no_interruption e {kind} is test holds same = differs_true the_type kind Interrupted (sym test ∙ holds) (is ∙ same)

-- where the test that a fault's kind is no interruption fails, it is one
pub is_interruption : (e : Error) {kind : ErrorKind} {differs : Bool} → kind ≡ error_kind e →
    differs ≡ not (sameb the_type kind Interrupted) → differs ≡ false → error_kind e ≡ Interrupted
is_interruption e {kind} is test fails = sym is ∙ differs_false the_type tt kind Interrupted (sym test ∙ fails)
