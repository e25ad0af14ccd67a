use Rattle.dotenvy_items.proofs.Meanings.{empty_known}
use Rattle.dotenvy_items.proofs.meaning.Names.push_piece.Goals as goal

pub push_again-requires : goal.push_again-requires
push_again-requires g c =
    let found = c.look_up_after-found-in-EmptyNames in
    rw (c.in-EmptyNames.is, ← empty_known _ found.result found.ensures) at c.requires.room

pub returns-in-EmptyNames-clause-bytes : goal.returns-in-EmptyNames-clause-bytes
returns-in-EmptyNames-clause-bytes g c =
    let found = c.look_up_after-found-in-EmptyNames in
    rw (c.in-EmptyNames.is, ← empty_known _ found.result found.ensures) c.push_again.ensures.bytes
