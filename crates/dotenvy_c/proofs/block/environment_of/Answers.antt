use Rattle.std.proofs.Common.{arith, ap, ◌∙◌, ◌-◌, length, take, drop}
use Rattle.std.proofs.lemmas.List.{take_all, length-drop, drop-drop}
use Rattle.dotenvy.specs.Environment.{text_entries}
use Rattle.dotenvy_c.specs.Block.{block_pairs}
use Rattle.dotenvy_c.proofs.Entries.{entry_added, last_added}
use Rattle.dotenvy_c.proofs.block.environment_of.Goals as goal

pub entries-preserved : goal.entries-preserved
entries-preserved c =
    entry_added (text_entries c.entries.pairs.items) c.entries.rest.now c.split_at.result.0.now
    (take (length c.split_at.result.1.now - 1) (drop 1 c.split_at.result.1.now)) c.in-Some.at
    c.in_ok-add_entry.ensures.ok c.split_at.ensures.front c.in-Some.ensures c.entries.invariant
    (take_all _ _ (let e = length-drop 1 c.split_at.result.1.now in omega (arith, e))
    ∙ ap (drop 1) c.split_at.ensures.back ∙ drop-drop 1 c.in-Some.at c.entries.rest.now)

pub returns-clause-names : goal.returns-clause-names
returns-clause-names c =
    let pairs = last_added (text_entries c.entries.pairs.items) (text_entries c.add_entry-2.new.pairs.items)
    (block_pairs c.args.block.now) c.entries.rest.now c.in_ok-add_entry-2.ensures.ok c.in_default.ensures
    c.entries.invariant in
    rw pairs at c.from_pairs.ensures.names
