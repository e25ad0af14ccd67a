use Rattle.std.proofs.Common.{string_bytes}
use Rattle.dotenvy_words.specs.Asked.{names_text}
use Rattle.dotenvy_words.proofs.TextNames.{all_before, as_many_before, before_found}
use Rattle.dotenvy_words.proofs.reading.before_text.Goals as goal

pub slice_bounds-result-end : goal.slice_bounds-result-end
slice_bounds-result-end g c =
    as_many_before (λ word. names_text c.args.kind (string_bytes word)) c.args.words.now c.in-Some.place
    (rw c.in-Some.is at c.name_place.ensures)

pub returns-in-Some : goal.returns-in-Some
returns-in-Some g c =
    before_found c.args.kind c.args.words.now c.in-Some.place (rw c.in-Some.is at c.name_place.ensures)

pub returns-in-None : goal.returns-in-None
returns-in-None g c = all_before c.args.kind c.args.words.now (rw c.in-None.is at c.name_place.ensures)
