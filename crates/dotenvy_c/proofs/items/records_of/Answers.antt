use Rattle.std.proofs.Common.{◌≡◌, ◌∙◌, ◌+◌, ◌<◌, ap, arith, length, refl, rules, sym}
use Rattle.std.specs.Prelude.{◌-◌, ◌^◌}
use Rattle.dotenvy_c.specs.Options.{dialect_of}
use Rattle.dotenvy_c.proofs.AskedItems.{has_verbatim, told_for}
use Rattle.dotenvy_c.proofs.ItemLines.{all_left, goes_on}
use Rattle.dotenvy_c.proofs.Standing.{none_before}
use Rattle.dotenvy_c.proofs.Telling.{all_taken, none_taken, one_taken}
use Rattle.dotenvy_c.proofs.WholeFits.{asked_fits}
use Rattle.dotenvy_c.proofs.items.records_of.Goals as goal

pub items-init : goal.items-init
items-init c =
    let start = c.in_ok-items.ensures.ok ∙ rw (c.new.ensures, c.dialect_of.ensures) refl in record {
      taken = none_taken _ _ _ _ _ c.new-2.ensures.items c.new-3.ensures.items;
      place = none_before c.args.file.now;
      reads = rw start (all_left (dialect_of c.args.options) c.bytes_of-bytes.result.now);
    }

pub as_asked-requires : goal.as_asked-requires
as_asked-requires c =
    let bound : length c.args.file.now + 1 < 2 ^ 64 = omega arith in
    let same = c.bytes_of-bytes.ensures in
    let size = ap length same in
    let small : length c.bytes_of-bytes.result.now + 1 < 2 ^ 64 =
    omega (arith, bound, size, asked_fits c.args.options c.args.file.now) in
    let on = goes_on small c.items.invariant.reads (rw c.in_ok-environment.ensures.names at c.in-Some.ensures.next) in
    let lines : c.next_item.new.self.item_lines ≡ (c.first_line.result, c.last_line.result) =
    λ i. (sym c.first_line.ensures i, sym c.last_line.ensures i) in
    has_verbatim (dialect_of c.args.options) c.bytes_of-bytes.result.now c.after_mark.result.now
    (c.first_line.result, c.last_line.result) c.in-Some.item
    (c.after_mark.ensures c.args.options (c.first_line.result - 1) c.args.file.now same
    c.standing_on-standing.ensures.bytes) (rw lines at on.pair)

pub items-preserved : goal.items-preserved
items-preserved c =
    let bound : length c.args.file.now + 1 < 2 ^ 64 = omega arith in
    let same = c.bytes_of-bytes.ensures in
    let size = ap length same in
    let small : length c.bytes_of-bytes.result.now + 1 < 2 ^ 64 =
    omega (arith, bound, size, asked_fits c.args.options c.args.file.now) in
    let next = rw c.in_ok-environment.ensures.names at c.in-Some.ensures.next in
    let on = goes_on small c.items.invariant.reads next in
    let lines : c.next_item.new.self.item_lines ≡ (c.first_line.result, c.last_line.result) =
    λ i. (sym c.first_line.ensures i, sym c.last_line.ensures i) in
    let after =
    c.after_mark.ensures c.args.options (c.first_line.result - 1) c.args.file.now same
    c.standing_on-standing.ensures.bytes in
    let adds = c.in_ok-add_item.ensures.ok in
    let told =
    told_for c.args.options c.args.file.now c.after_mark.result.now (c.first_line.result, c.last_line.result)
    c.in-Some.item c.in_ok-asked.asked adds.told (rw same at after) (rw (lines, same) at on.pair)
    c.in_ok-asked.ensures.ok adds.tells in record {
      taken = one_taken c.items.invariant.taken next lines c.standing_on-standing.ensures.place adds told;
      place = c.standing_on-standing.ensures.after;
      reads = on.reads;
    }

pub returns-clause-ok : goal.returns-clause-ok
returns-clause-ok c =
    let start = c.in_ok-items.ensures.ok ∙ rw (c.new.ensures, c.dialect_of.ensures, c.bytes_of-bytes.ensures) refl in
    all_taken {u = c.next_item.new.self} (rw start at c.items.invariant.taken) (search rules)
