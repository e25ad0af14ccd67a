use Rattle.std.proofs.Common.{lit<, refl, sym}
use Rattle.dotenvy_format.specs.Characters.{backslash, begins_with}
use Rattle.dotenvy_editor.proofs.TextTests.{cuts, cuts_none}
use Rattle.dotenvy_editor.proofs.portable.has_backslashes.Goals as goal

pub backslashes-smaller : goal.backslashes-smaller
backslashes-smaller c =
    (cuts backslash _ _ _ c.backslashes.invariant.utf8 (lit< tt) c.in-Some.ensures.cases).shorter

pub backslashes-preserved : goal.backslashes-preserved
backslashes-preserved c =
    let cut = cuts backslash _ _ _ c.backslashes.invariant.utf8 (lit< tt) c.in-Some.ensures.cases in
    record {
      utf8 = cut.utf8;
      same =
          rw (
            cut.follows (begins_with backslash),
            ← c.begins_with.ensures,
            c.if-begins_with.false,
          ) at c.backslashes.invariant.same;
    }

pub returns-then-begins_with : goal.returns-then-begins_with
returns-then-begins_with c =
    let cut = cuts backslash _ _ _ c.backslashes.invariant.utf8 (lit< tt) c.in-Some.ensures.cases in
    rw (
      ← c.backslashes.invariant.same,
      cut.follows (begins_with backslash),
      ← c.begins_with.ensures,
      c.if-begins_with.true,
    ) refl

pub returns : goal.returns
returns c =
    rw (← c.backslashes.invariant.same) (sym (cuts_none backslash (begins_with backslash) _
    c.backslashes.invariant.utf8 c.in_default.ensures.cases))
