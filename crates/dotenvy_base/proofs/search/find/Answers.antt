use Rattle.std.proofs.Common.{rules, of_calls, refl, sym, ◌∙◌}
use Rattle.dotenvy_base.proofs.Searching.{asking_on, finds_cut, finds_ended, finds_none}
use Rattle.dotenvy_base.proofs.Searching.{ends_by_test, answers_fault, parent_is_less}
use Rattle.dotenvy_base.proofs.search.find.Goals as goal
use Rattle.dotenvy_base.proofs.search.find.Goals.{in-Other, in-Fault+else-ne}

pub returns-in_err-clone : goal.returns-in_err-clone
returns-in_err-clone g c = finds_cut (rw c.in-Some.is at c.directories.invariant.asking) (search rules)

pub returns-in_err-path : goal.returns-in_err-path
returns-in_err-path g c = finds_cut (rw c.in-Some.is at c.directories.invariant.asking) (search rules)

pub returns-in-File : goal.returns-in-File
returns-in-File g c =
    finds_ended (rw c.in-Some.is at c.directories.invariant.asking) (c.as_path.ensures ∙ c.in_ok-path.ensures)
    c.in-File.ensures refl c.in_ok-path.ensures

pub returns-then-ne : goal.returns-then-ne
returns-then-ne g c =
    let ends = ends_by_test c.in-Fault.fault c.kind.result c.ne.result c.kind.ensures c.ne.ensures ∙ c.if-ne.true in
    finds_ended (rw c.in-Some.is at c.directories.invariant.asking) (c.as_path.ensures ∙ c.in_ok-path.ensures)
    c.in-Fault.ensures ends (answers_fault _ c.in-Fault.fault ends)

pub directories-smaller : goal.directories-smaller
directories-smaller g c =
    rw c.in-Some.is (parent_is_less c.in-Some.place c.parent_of-above.result c.parent_of-above.ensures)

pub directories-preserved : goal.directories-preserved
directories-preserved g c = record {
  callable = search of_calls;
  asking =
      let asking = rw c.in-Some.is at c.directories.invariant.asking in
      let path = c.as_path.ensures ∙ c.in_ok-path.ensures in
      elim c.match-look.branch [
        | in-Other w ↦ asking_on asking path w.in-Other.ensures (sym c.parent_of-above.ensures) refl
        | in-Fault+else-ne w ↦
            asking_on asking path w.in-Fault.ensures (sym c.parent_of-above.ensures)
            (ends_by_test w.in-Fault.fault w.kind.result w.ne.result w.kind.ensures w.ne.ensures ∙ w.if-ne.false)
      ];
}

pub returns : goal.returns
returns g c = finds_none (rw c.in_default.is at c.directories.invariant.asking) (search rules)
