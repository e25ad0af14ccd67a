use Rattle.dotenvy_format.proofs.values.Values.{read-value}
use Rattle.dotenvy_items.proofs.parse.pair_of.Goals as goal

pub expand-requires : goal.expand-requires
expand-requires g c =
    let is = rw c.in-Some.is at c.requires.2 in
    rw (is.1, read-value c.args.dialect c.requires.0 c.requires.1 is.2) is.3

pub returns-in_ok-value-in-Some-clause-pair : goal.returns-in_ok-value-in-Some-clause-pair
returns-in_ok-value-in-Some-clause-pair g c = λ rest pieces assigned.
    let is = rw c.in-Some.is at assigned in record {
      key = c.in_ok-key.ensures.ok;
      value = rw (is.1, read-value c.args.dialect rest pieces is.2) at c.in_ok-value-in-Some.ensures;
    }
