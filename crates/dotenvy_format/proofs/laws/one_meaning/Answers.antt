use Rattle.dotenvy_format.proofs.values.Values.{one_list_of_pieces}
use Rattle.dotenvy_format.proofs.laws.one_meaning.Goals as goal

pub returns : goal.returns
returns c = one_list_of_pieces
