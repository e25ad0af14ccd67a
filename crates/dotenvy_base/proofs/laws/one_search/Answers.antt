use Rattle.dotenvy_base.specs.Search.{search_answer}
use Rattle.dotenvy_base.proofs.SearchOnce as search
use Rattle.dotenvy_base.proofs.laws.one_search.Goals as goal

pub returns : goal.returns
returns c =
    λ directory name looks.
    let s = search.search_exists directory name looks in (
      s.0,
      search_answer s.0,
      s.1,
      s.2,
      λ others other is sees.
          search.one_search directory name looks s.0 others (search_answer s.0) other s.1 is s.2 sees,
    )
