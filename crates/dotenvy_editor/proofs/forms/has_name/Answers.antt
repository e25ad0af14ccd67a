use Rattle.std.proofs.Common.{lit<, refl, sym}
use Rattle.dotenvy_format.specs.Characters.{dollar}
use Rattle.dotenvy_editor.specs.Warnings.{begins_name}
use Rattle.dotenvy_editor.proofs.TextTests.{cuts, cuts_none}
use Rattle.dotenvy_editor.proofs.forms.has_name.Goals as goal

pub dollars-smaller : goal.dollars-smaller
dollars-smaller c =
    (cuts dollar _ _ _ c.dollars.invariant.utf8 (lit< tt) c.in-Some.ensures.cases).shorter

pub dollars-preserved : goal.dollars-preserved
dollars-preserved c =
    let cut = cuts dollar _ _ _ c.dollars.invariant.utf8 (lit< tt) c.in-Some.ensures.cases in
    record {
      utf8 = cut.utf8;
      same =
          rw (
            cut.follows (begins_name c.args.dialect),
            ← c.begins_name.ensures,
            c.if-begins_name.false,
          ) at c.dollars.invariant.same;
    }

pub returns-then-begins_name : goal.returns-then-begins_name
returns-then-begins_name c =
    let cut = cuts dollar _ _ _ c.dollars.invariant.utf8 (lit< tt) c.in-Some.ensures.cases in
    rw (
      ← c.dollars.invariant.same,
      cut.follows (begins_name c.args.dialect),
      ← c.begins_name.ensures,
      c.if-begins_name.true,
    ) refl

pub returns : goal.returns
returns c =
    rw (← c.dollars.invariant.same) (sym (cuts_none dollar (begins_name c.args.dialect) _ c.dollars.invariant.utf8
    c.in_default.ensures.cases))
