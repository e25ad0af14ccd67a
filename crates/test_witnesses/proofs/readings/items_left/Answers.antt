use Rattle.test_witnesses.proofs.Taken.{none_taken, one_taken, all_taken}
use Rattle.test_witnesses.proofs.readings.items_left.Goals as goal

pub items-init : goal.items-init
items-init g c = none_taken _ _ _ c.new-given.ensures.items

pub items-preserved : goal.items-preserved
items-preserved g c =
    one_taken c.items.invariant c.in-Some.ensures.next
    (λ refused. let is = c.is_refused.ensures.1 refused in let not = c.if-is_refused.false in cc)
    c.in_ok-push.ensures.items

pub returns-clause-gives : goal.returns-clause-gives
returns-clause-gives g c = all_taken c.items.invariant c.in_default.ensures.next
