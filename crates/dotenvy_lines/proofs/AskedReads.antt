-- The reads that an input asks of a source that tells its calls.
use Rattle.std.proofs.Common.{◌≡◌, ◌≢◌, ℕ, ◌-◌, Bool, true, false, List, [], ◌∷◌}
use Rattle.std.proofs.Common.{◌++◌, length-append, append_assoc, append-nil, arith, refl, sym}
use Rattle.std.proofs.Common.{◌∙◌, inl, inr}
use Rattle.std.specs.Prelude.{Result, Ok, Err, IsOk, IsErrAnd}
use Rattle.std.specs.Result.{result_unwrap_or}
use Rattle.std.proofs.lemmas.Bool.{cases_Bool, false_from_ne_true}
use Rattle.dotenvy_base.proofs.CallLists.{all_of_both, ends_behind, last_behind}
use Rattle.dotenvy_base.specs.declared.errors.Error.{Error}
use Rattle.dotenvy_base.specs.Calls.{Call, AllMayGoOn}
use Rattle.dotenvy_base.specs.Source.{Told}
use Rattle.dotenvy_lines.specs.declared.lines.Stage.{Stage}
use Rattle.dotenvy_lines.specs.declared.lines.Stage.TheVariants.{Open}
use Rattle.dotenvy_lines.specs.Lines.{LinesState}
use Rattle.dotenvy_lines.specs.Input.{InputState, MakesReads, AsksReads}
use Rattle.dotenvy_lines.specs.inside.InputSteps.{AsksOnce, used_up}
use Rattle.dotenvy_lines.proofs.Inputs.{input_of, IsOpen}

-- no read is made where neither the source, its calls nor the reads left change
pub asks_none : (goes_on : Type 0) (s t : InputState) → t.references ≡ s.references → t.calls ≡ s.calls →
    t.reads ≡ s.reads → t.at_end ≡ s.at_end → AsksReads goes_on s t
asks_none goes_on s t same calls reads at_end =
    let none : MakesReads s t [] =
    record {
      counted = omega arith;
      small = tt;
      in_turn = tt;
      ended = λ ended. (refl, at_end ∙ ended);
      meets_end = λ before after. cc;
    } in
    (same, λ all is. (all, [], sym calls ∙ is, sym (append-nil all), none, λ goes unended. tt))

-- one read is asked for where the end was not read; what it answers is whether the end is read then
pub asks_once : {A : Type 0} {s : InputState} {told : Told} {old : List ℕ} {reads : ℕ} {at_end : Bool}
    (after : Told) (new : List ℕ) (answer : Result Bool (Error A)) → IsOpen s told old reads at_end →
    AsksOnce told answer after →
    AsksReads (IsOk answer) s (input_of after new (reads - 1) (result_unwrap_or answer at_end))
asks_once after new answer i once = rw (i.is, i.unended) (
  once.0,
  λ all is.
      let one = once.1 all is in (
        one.0,
        one.1 ∷ [],
        one.2,
        one.3,
        record {
          counted = omega (arith, i.some);
          small = (one.4, tt);
          in_turn = tt;
          ended = λ ended. cc;
          meets_end = λ before ended. one.6 (grind (arith, ended));
        },
        λ ok goes. (one.5 (grind (arith, ok, goes)), tt),
      ),
)

-- reads behind which reading goes on and the reads behind them make up those of both
makes_both : {s t u : InputState} {xs ys : List Call} → MakesReads s t xs → MakesReads t u ys →
    (t.at_end ≡ false → AllMayGoOn xs) → MakesReads s u (xs ++ ys)
makes_both {t = t} {xs = xs} {ys = ys} a b goes = record {
  counted = rw length-append (omega arith);
  small = all_of_both _ xs ys a.small b.small;
  in_turn = elim (cases_Bool t.at_end) [
    | inl ended ↦ rw ((b.ended ended).0, append-nil) a.in_turn
    | inr open' ↦ ends_behind xs ys (goes open') b.in_turn
  ];
  ended = λ e. let first = a.ended e in let next = b.ended first.1 in (rw (first.0, next.0), next.1);
  meets_end = λ e f. elim (cases_Bool t.at_end) [
    | inl ended ↦ rw ((b.ended ended).0, append-nil) (a.meets_end e ended)
    | inr open' ↦ last_behind xs ys (b.meets_end open' f)
  ];
}

-- where reading goes on, reads and the reads behind them are asked as those of both
pub asks_more : (goes_on later : Type 0) (s t u : InputState) → AsksReads goes_on s t → goes_on →
    AsksReads later t u → AsksReads later s u
asks_more goes_on later s t u first goes second = (
  cc,
  λ all is.
      let two = second.1 all is in
      let one = first.1 two.0 two.2 in (
        one.0,
        one.1 ++ two.1,
        one.2,
        cc (two.3, one.3, append_assoc one.0 one.1 two.1),
        makes_both one.4 two.4 (one.5 goes),
        λ l unended.
            let open' = false_from_ne_true t.at_end (λ e. let f = (two.4.ended e).1 in cc) in
            all_of_both _ one.1 two.1 (one.5 goes open') (two.5 l unended),
      ),
)

-- less is said where reading goes on less often
pub asks_weaker : (goes_on less : Type 0) (s t : InputState) → (less → goes_on) → AsksReads goes_on s t →
    AsksReads less s t
asks_weaker goes_on less s t goes asks =
    (asks.0, λ all is. let a = asks.1 all is in (a.0, a.1, a.2, a.3, a.4, λ l. a.5 (goes l)))

-- reads behind which reading goes on, and the reads behind them, are asked as those of both
pub asks_then : {goes_on later : Type 0} {s t u : InputState} → AsksReads (Unit {0}) s t → AsksReads goes_on t u →
    (later → goes_on) → AsksReads later s u
asks_then first second goes = asks_weaker _ _ _ _ goes (asks_more _ _ _ _ _ first tt second)

-- to use what was read asks for no read
pub asks_used : {goes_on : Type 0} {s t v : InputState} (n : ℕ) → v ≡ used_up n t → AsksReads (Unit {0}) s t →
    AsksReads goes_on s v
asks_used n used asks = rw used (asks_then asks (asks_none (Unit {0}) _ _ refl refl refl refl) (λ goes. tt))

-- reads, and more reads behind them, where both go on, are asked as those of both
pub asks_on : (goes_on : Type 0) (s t u : InputState) → AsksReads (Unit {0}) s t → AsksReads (true ≡ true) t u →
    AsksReads goes_on s u
asks_on goes_on s t u first second = asks_then first second (λ goes. refl)

-- where reading fails, nothing is said of what may follow
pub asks_failed : {T E : Type 0} (P : E → Type 0) (goes_on : Type 0) (s t : InputState) (answer : Result T E) →
    IsErrAnd answer P → AsksReads goes_on s t → AsksReads (IsOk answer) s t
asks_failed P goes_on s t (Ok x) fails asks = absurd fails
asks_failed P goes_on s t (Err e) fails asks = asks_weaker _ _ _ _ (λ never. cc) asks

-- reads behind which reading goes on, and reads behind them that fail, are asked as those of both
pub asks_ends : {T E goes_on : Type 0} {s t u : InputState} (P : E → Type 0) (answer : Result T E) →
    IsErrAnd answer P → AsksReads (Unit {0}) s t → AsksReads goes_on t u → AsksReads (IsOk answer) s u
asks_ends P answer fails first second = asks_failed P _ _ _ answer fails (asks_more _ _ _ _ _ first tt second)

-- one more logical line, of lines that are open or closed
pub asks_line : (s : InputState) (l m : LinesState) → AsksReads (l.stage ≡ Open) s l.input → (l.stage ≢ Open →
    m ≡ l) →
    AsksReads (m.stage ≡ Open) l.input m.input → AsksReads (m.stage ≡ Open) s m.input
asks_line s l m first shut second = at l.stage refl
  where
    at : (stage : Stage) → l.stage ≡ stage → AsksReads (m.stage ≡ Open) s m.input
    at Open is = asks_more (l.stage ≡ Open) (m.stage ≡ Open) s l.input m.input first is second
    at _ is = rw (shut (λ opened. cc)) first
