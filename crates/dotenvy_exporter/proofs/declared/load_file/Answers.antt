use Rattle.std.proofs.Common.{◌+◌, ◌<◌, ◌^◌, ◌∙◌, arith, length, refl, sym}
use Rattle.env_layers.specs.declared.layers.Mode.TheVariants.{Keep, Override}
use Rattle.dotenvy_exporter.proofs.DeclaredReads.{file_loads}
use Rattle.dotenvy_exporter.proofs.DeclaredStops.{file_stops}
use Rattle.dotenvy_exporter.proofs.declared.load_file.Goals as goal
use Rattle.dotenvy_exporter.proofs.declared.load_file.Goals.{in-Keep, in-Override}

pub returns-in-Ok-clause-loads : goal.returns-in-Ok-clause-loads
returns-in-Ok-clause-loads g c =
    let is = c.in_ok-file.ensures.file in
    elim c.match-how.branch [
      | in-Keep w ↦
          let loads = rw is at (w.load_rest-loaded.ensures.told (rw is refl)) in
          rw (w.names-is, w.in-Keep.is)
          (file_loads Keep c.args.how.now.dialect c.args.how.now.env.now.names c.args.names.now.names
          w.load_rest-loaded.new.env.names c.args.bytes.now w.load_rest-loaded.result
          (sym w.loaded-is ∙ c.in-Ok.is) loads)
      | in-Override w ↦
          let loads = rw is at (w.load_rest_override-loaded.ensures.told (rw is refl)) in
          rw (w.names-is, w.in-Override.is)
          (file_loads Override c.args.how.now.dialect c.args.how.now.env.now.names c.args.names.now.names
          w.load_rest_override-loaded.new.env.names c.args.bytes.now w.load_rest_override-loaded.result
          (sym w.loaded-is ∙ c.in-Ok.is) loads)
    ]

pub returns-clause-stopped : goal.returns-clause-stopped
returns-clause-stopped g c =
    let is = c.in_ok-file.ensures.file in
    let few : length c.args.bytes.now + 1 < 2 ^ 64 = omega arith in
    elim c.match-how.branch [
      | in-Keep w ↦
          let stops = rw is at (w.load_rest-loaded.ensures.stops (rw is refl)) in
          rw w.in-Keep.is
          (file_stops Keep c.args.how.now.dialect c.args.how.now.env.now.names c.args.names.now.names c.args.bytes.now
          w.load_rest-loaded.result c.in-Err.error w.load_rest-loaded.new.self few (sym w.loaded-is ∙ c.in-Err.is)
          stops _ (cc))
      | in-Override w ↦
          let stops = rw is at (w.load_rest_override-loaded.ensures.stops (rw is refl)) in
          rw w.in-Override.is
          (file_stops Override c.args.how.now.dialect c.args.how.now.env.now.names c.args.names.now.names
          c.args.bytes.now w.load_rest_override-loaded.result c.in-Err.error w.load_rest_override-loaded.new.self few
          (sym w.loaded-is ∙ c.in-Err.is) stops _ (cc))
    ]
