use Rattle.std.proofs.Common.{◌∙◌, ap, refl, Some, inl, inr}
use Rattle.std.proofs.lemmas.Result.{err_from_is_err_and}
use Rattle.dotenvy_format.specs.Outcome.{Fault}
use Rattle.dotenvy_items.specs.Remembered.{remembered_of}
use Rattle.dotenvy_items.proofs.LinePasses.{pair_answer, pair_remembered}
use Rattle.dotenvy_items.proofs.parse.parse_line.Goals as goal
use Rattle.dotenvy_items.proofs.parse.parse_line.Goals.{in-None-value, in-Some-value+in_ok-clone-in-Some-value+in_ok-from_str-in-Some-value}

pub returns-in_err-declaration-clause-answer : goal.returns-in_err-declaration-clause-answer
returns-in_err-declaration-clause-answer g c =
    let p = err_from_is_err_and c.from_residual.result c.from_residual.ensures.1 in
    rw (p.1, p.2) (elim c.in_err-declaration.ensures.fault [
      | inl refused ↦ inl refused
      | inr (text, index, says, is) ↦ inr (Fault text index, says, (is, tt))
    ])

pub returns-clause-answer : goal.returns-clause-answer
returns-clause-answer g c =
    let is = rw c.in-Some.is at c.in_ok-declaration.ensures.declared in
    inr (pair_answer is (c.in_ok-key.ensures.pair is.rest is.pieces is.is_assigned))

pub returns-clause-remembers : goal.returns-clause-remembers
returns-clause-remembers g c =
    let is = rw c.in-Some.is at c.in_ok-declaration.ensures.declared in
    pair_remembered is (c.in_ok-key.ensures.pair is.rest is.pieces is.is_assigned)
    (remembered_of c.args.remembered.now.entries) (remembered_of c.remember.new.remembered.entries)
    (rw c.in_ok-remembered_key.ensures.ok at c.in_ok-remember.ensures.ok)
    (elim c.match-declaration.branch [
      | in-None-value w ↦ rw (w.remembered_value-is, w.in-None-value.is) refl
      | in-Some-value+in_ok-clone-in-Some-value+in_ok-from_str-in-Some-value w ↦
          rw (w.remembered_value-is, w.in-Some-value.is)
          (ap Some (w.in_ok-from_str-in-Some-value.ensures.ok ∙ w.as_str.ensures.value))
    ])

pub returns-clause-key : goal.returns-clause-key
returns-clause-key g c = (returns-clause-remembers g c).1.is_key
