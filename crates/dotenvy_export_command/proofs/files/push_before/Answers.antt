use Rattle.std.proofs.Common.{◌≡◌, ◌∙◌, append-nil, arith, false, rules, sym, true}
use Rattle.std.proofs.lemmas.Grind.{common_steps}
use Rattle.dotenvy_export_command.specs.Files.{is_before, placed_of}
use Rattle.dotenvy_export_command.proofs.MergedFiles.{before_counts, before_joins, looked_up, none_before}
use Rattle.dotenvy_export_command.proofs.files.push_before.Goals as goal

pub returns-then-file-place-clause-next : goal.returns-then-file-place-clause-next
returns-then-file-place-clause-next g c =
    let file = placed_of c.in-Some.file.now in
    let there = looked_up placed_of c.args.optional.now _ _ c.in-Some.ensures.lookup.3 in
    let after : is_before c.args.place file ≡ false = first_of (search rules, grind (arith, common_steps)) in
    omega (arith, none_before c.args.place file _ _ there.0 there.1 after, c.optional.invariant.next)

pub returns-then-file-place-clause-named : goal.returns-then-file-place-clause-named
returns-then-file-place-clause-named g c =
    let file = placed_of c.in-Some.file.now in
    let there = looked_up placed_of c.args.optional.now _ _ c.in-Some.ensures.lookup.3 in
    let after : is_before c.args.place file ≡ false = first_of (search rules, grind (arith, common_steps)) in
    sym (append-nil _)
    ∙ (rw (none_before c.args.place file _ _ there.0 there.1 after) at c.optional.invariant.named)

pub optional-preserved : goal.optional-preserved
optional-preserved g c =
    let file = placed_of c.in-Some.file.now in
    let there = looked_up placed_of c.args.optional.now _ _ c.in-Some.ensures.lookup.3 in
    let before : is_before c.args.place file ≡ true = first_of (search rules, grind (arith, common_steps)) in
    record {
      bound = omega (arith, c.in-Some.ensures.lookup.3.0);
      next = sym (before_counts c.args.place file _ _ there.0 there.1 before) ∙ c.optional.invariant.next;
      named = rw c.in_ok-push_named.ensures
          (before_joins _ c.args.place file _ _ there.0 there.1 before ∙ c.optional.invariant.named);
    }
