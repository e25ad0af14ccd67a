use Rattle.dotenvy_base.proofs.WorkedSearches as rows
use Rattle.dotenvy_base.proofs.laws.worked_searches.Goals as goal

pub returns : goal.returns
returns c = rows.searches
