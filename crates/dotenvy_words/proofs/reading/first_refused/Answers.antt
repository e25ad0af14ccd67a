use Rattle.std.proofs.Common.{◌<◌, arith, inl, length, refl, string_bytes}
use Rattle.std.proofs.lemmas.List.{length-map}
use Rattle.std.proofs.lemmas.Option.{slice_get-map, slice_get_read}
use Rattle.dotenvy_words.specs.Found.{texts}
use Rattle.dotenvy_words.proofs.Refusals.{first_at, stays_at_end}
use Rattle.dotenvy_words.proofs.reading.first_refused.Goals as goal

pub halves-init : goal.halves-init
halves-init g c =
    let words = c.args.words.now in record {
      order = omega arith;
      inside = omega arith;
      taken = inl g.met.L.CommandLine.none_refused;
      refused = stays_at_end g.L.CommandLine.described (texts words) (length words) (grind (arith, length-map));
    }

pub halves-preserved-then-branch : goal.halves-preserved-then-branch
halves-preserved-then-branch g c =
    let invariant = c.halves.invariant in record {
      order = omega (arith, invariant.order);
      inside = omega (arith, invariant.order, invariant.inside);
      taken = invariant.taken;
      refused = λ given. rw c.if-branch.true at c.in_ok-stay_refused.ensures;
    }

pub halves-preserved : goal.halves-preserved
halves-preserved g c =
    let invariant = c.halves.invariant in record {
      order = omega (arith, invariant.order);
      inside = invariant.inside;
      taken = rw c.if-branch.false at c.in_ok-stay_refused.ensures;
      refused = invariant.refused;
    }

pub returns-in-Some : goal.returns-in-Some
returns-in-Some g c = λ mistaken.
    let invariant = c.halves.invariant in
    let found = c.in-Some.ensures.lookup in
    let inside : c.halves.taken < length c.args.words.now = grind (arith, found.0) in
    let there = slice_get_read c.args.words.now (length c.args.words.now) c.halves.taken c.in-Some.word.now refl inside
    found.1 in
    first_at g.L.CommandLine.described (texts c.args.words.now) c.as_str.result.now c.halves.taken c.halves.refused
    invariant.order (omega (arith, c.halves-test.false)) invariant.taken (invariant.refused mistaken)
    (rw (slice_get-map string_bytes c.args.words.now c.halves.taken, there, c.as_str.ensures.value) refl)
