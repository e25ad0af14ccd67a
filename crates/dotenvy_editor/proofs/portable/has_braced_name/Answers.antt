use Rattle.std.proofs.Common.{lit<, refl, sym}
use Rattle.dotenvy_format.specs.Characters.{dollar}
use Rattle.dotenvy_editor.specs.Portable.{begins_with_braces}
use Rattle.dotenvy_editor.proofs.TextTests.{cuts, cuts_none}
use Rattle.dotenvy_editor.proofs.portable.has_braced_name.Goals as goal

pub dollars-smaller : goal.dollars-smaller
dollars-smaller c =
    (cuts dollar _ _ _ c.dollars.invariant.utf8 (lit< tt) c.in-Some.ensures.cases).shorter

pub dollars-preserved : goal.dollars-preserved
dollars-preserved c =
    let cut = cuts dollar _ _ _ c.dollars.invariant.utf8 (lit< tt) c.in-Some.ensures.cases in
    record {
      utf8 = cut.utf8;
      same =
          rw (
            cut.follows begins_with_braces,
            ← c.begins_with_braces.ensures,
            c.if-begins_with_braces.false,
          ) at c.dollars.invariant.same;
    }

pub returns-then-begins_with_braces : goal.returns-then-begins_with_braces
returns-then-begins_with_braces c =
    let cut = cuts dollar _ _ _ c.dollars.invariant.utf8 (lit< tt) c.in-Some.ensures.cases in
    rw (
      ← c.dollars.invariant.same,
      cut.follows begins_with_braces,
      ← c.begins_with_braces.ensures,
      c.if-begins_with_braces.true,
    ) refl

pub returns : goal.returns
returns c =
    rw (← c.dollars.invariant.same) (sym (cuts_none dollar begins_with_braces _ c.dollars.invariant.utf8
    c.in_default.ensures.cases))
