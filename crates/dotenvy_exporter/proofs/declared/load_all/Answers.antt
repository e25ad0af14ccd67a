use Rattle.std.proofs.Common.{◌+◌, ◌∙◌, ℕ, Vec, [], arith, drop, map, refl, sym, take}
use Rattle.std.proofs.lemmas.List.{length-map, length-take-le, take_all}
use Rattle.dotenvy_items.specs.Meaning.{values_of}
use Rattle.dotenvy_exporter.proofs.DeclaredFiles.{loads_last}
use Rattle.dotenvy_exporter.proofs.DeclaredStops.{cut_at, taken_more}
use Rattle.dotenvy_exporter.proofs.declared.load_all.Goals as goal

pub files-init : goal.files-init
files-init g c = ([], ((λ name. refl), refl))

pub files-preserved : goal.files-preserved
files-preserved g c =
    let contents = λ (file : Vec ℕ g.row.A.Denot). file.items in
    let at = c.files.index in
    let file = c.index-files-index.result in
    let own = rw c.as_slice.ensures.value at c.in_default.ensures.loads in
    rw (taken_more c.args.files.now contents at file c.files-test.true c.index-files-index.is)
    (loads_last c.args.how.now.mode c.args.how.now.dialect (values_of c.args.how.now.env.now.names)
    (values_of c.args.names.now.names) (values_of c.files.names.names) (values_of c.load_file.new.names.names)
    (map contents (take at c.args.files.now)) file.items c.files.invariant own)

pub returns-clause-loads : goal.returns-clause-loads
returns-clause-loads g c = rw (take_all c.files.index c.args.files.now c.files-test.false) at c.files.invariant

pub returns-in-Err-clause-stopped : goal.returns-in-Err-clause-stopped
returns-in-Err-clause-stopped g c =
    let contents = λ (file : Vec ℕ g.row.A.Denot). file.items in
    let at = c.files.index in
    let file = c.index-files-index.result in
    let front = take at c.args.files.now in record {
      front = map contents front;
      file = file.items;
      back = map contents (drop (at + 1) c.args.files.now);
      cut = cut_at c.args.files.now contents at file c.files-test.true c.index-files-index.is;
      number = sym (length-map front contents ∙ length-take-le at c.args.files.now (omega arith));
      between = values_of c.files.names.names;
      loads = c.files.invariant;
      stops = rw c.as_slice.ensures.value at c.in-Err.ensures.stopped;
    }
