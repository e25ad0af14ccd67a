use Rattle.std.proofs.Common.{inl, inr, refl}
use Rattle.std.proofs.lemmas.Result.{err_from_is_err_and}
use Rattle.dotenvy_items.specs.Iter.{fresh}
use Rattle.dotenvy_items.proofs.ListedLoads.{lists_failed, lists_written, refused_lists}
use Rattle.dotenvy_items.proofs.written.list_lent.Goals as goal

pub returns-in_err-remembering-clause-lists : goal.returns-in_err-remembering-clause-lists
returns-in_err-remembering-clause-lists g c =
    refused_lists (fresh (g.R.Source.told c.args.reader.now) c.args.options.dialect) _ _ _ c.from_residual.ensures.1

pub returns-in_err-clone-clause-lists : goal.returns-in_err-clone-clause-lists
returns-in_err-clone-clause-lists g c =
    refused_lists (fresh (g.R.Source.told c.args.reader.now) c.args.options.dialect) _ _ _
    c.from_residual-in_err-clone.ensures.1

pub returns-in_err-room-clause-lists : goal.returns-in_err-room-clause-lists
returns-in_err-room-clause-lists g c =
    let p = err_from_is_err_and c.from_residual-in_err-room.result c.from_residual-in_err-room.ensures.1 in
    rw (p.1, p.2)
    (refused_lists (fresh (g.R.Source.told c.args.reader.now) c.args.options.dialect) _ _ _ c.in_err-room.ensures)

pub returns-in_err-clone-2-clause-lists : goal.returns-in_err-clone-2-clause-lists
returns-in_err-clone-2-clause-lists g c =
    refused_lists (fresh (g.R.Source.told c.args.reader.now) c.args.options.dialect) _ _ _
    c.from_residual-in_err-clone-2.ensures.1

pub returns-in_err-loaded-clause-lists : goal.returns-in_err-loaded-clause-lists
returns-in_err-loaded-clause-lists g c =
    lists_failed (fresh (g.R.Source.told c.args.reader.now) c.args.options.dialect) _ _ _ _ c.new-env.ensures.empty
    ((rw (c.over_lines-file.ensures, c.in_room-lines.ensures) at c.load_rest-loaded.ensures.told) refl)
    c.in_err-loaded.was c.from_residual-in_err-loaded.ensures.1

pub returns-in_err-text-clause-lists : goal.returns-in_err-text-clause-lists
returns-in_err-text-clause-lists g c =
    let told = c.load_rest-loaded.ensures.told in
    lists_written (fresh (g.R.Source.told c.args.reader.now) c.args.options.dialect) _ _ c.new-env.ensures.empty
    ((rw (c.over_lines-file.ensures, c.in_room-lines.ensures, c.in_ok-loaded.was) at told) refl) (
      c.load_rest-loaded.ensures.adds.changes.keys,
      c.in_err-text.ensures.texts,
      inl (c.from_residual-in_err-text.ensures.1, refl),
    )

pub returns-clause-lists : goal.returns-clause-lists
returns-clause-lists g c =
    let told = c.load_rest-loaded.ensures.told in
    lists_written (fresh (g.R.Source.told c.args.reader.now) c.args.options.dialect) _ _ c.new-env.ensures.empty
    ((rw (c.over_lines-file.ensures, c.in_room-lines.ensures, c.in_ok-loaded.was) at told) refl) (
      c.load_rest-loaded.ensures.adds.changes.keys,
      c.in_ok-text.ensures.texts,
      inr (rw (c.as_bytes.ensures.value, c.in_ok-text.ensures.bytes) at c.write_all-written.ensures),
    )
