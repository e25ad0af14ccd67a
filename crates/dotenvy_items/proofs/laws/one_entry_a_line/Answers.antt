use Rattle.dotenvy_lines.proofs.LineCounts.{entries_count, items_count}
use Rattle.dotenvy_items.proofs.laws.one_entry_a_line.Goals as goal

pub returns : goal.returns
returns c = (entries_count, items_count)
