use Rattle.std.proofs.Common.{◌≡◌, ◌∙◌, refl, sym}
use Rattle.std.proofs.lemmas.Result.{err_from_is_err_and}
use Rattle.env_layers.specs.declared.layers.Mode.TheVariants.{Keep, Override}
use Rattle.env_layers.proofs.Added.{adds_none}
use Rattle.env_layers.proofs.layers.Layers.add_rest.Goals.{in-Keep+in_ok-load-in-Keep}
use Rattle.env_layers.proofs.layers.Layers.add_rest.Goals.{in-Override+in_ok-load_override-in-Override}
use Rattle.env_layers.proofs.layers.Layers.add_rest.Goals as goal

pub returns-in_err-layered-clause-told : goal.returns-in_err-layered-clause-told
returns-in_err-layered-clause-told g c =
    let p = err_from_is_err_and c.from_residual.result c.from_residual.ensures.1 in
    rw (p.1, p.2)
    (adds_none c.args.mode c.args.file c.args.self.now.names c.in_err-layered.field-0.0
    c.in_err-layered.ensures.memory)

pub returns-in_err-load-in-Keep-clause-told : goal.returns-in_err-load-in-Keep-clause-told
returns-in_err-load-in-Keep-clause-told g c =
    let p = err_from_is_err_and c.from_residual-in_err-load-in-Keep.result
    c.from_residual-in_err-load-in-Keep.ensures.1 in
    let told = rw (c.in_ok-layered.ensures.ok ∙ c.self.view_is) at (c.in_err-load-in-Keep.ensures.told c.requires) in
    rw (p.1, p.2) (record { loaded = c.load.new.env.names; loads = rw c.in-Keep.is told; stands = refl })

pub returns-in_err-load_override-in-Override-clause-told :
    goal.returns-in_err-load_override-in-Override-clause-told
returns-in_err-load_override-in-Override-clause-told g c =
    let p = err_from_is_err_and c.from_residual-in_err-load_override-in-Override.result
    c.from_residual-in_err-load_override-in-Override.ensures.1 in
    let told =
    rw (c.in_ok-layered.ensures.ok ∙ c.self.view_is)
    at (c.in_err-load_override-in-Override.ensures.told c.requires) in
    rw (p.1, p.2)
    (record { loaded = c.load_override.new.env.names; loads = rw c.in-Override.is told; stands = refl })

pub returns-clause-told : goal.returns-clause-told
returns-clause-told g c =
    let copied = c.in_ok-layered.ensures.ok ∙ c.self.view_is in
    elim c.match-mode.branch [
      | in-Keep+in_ok-load-in-Keep w ↦
          let told = rw copied at (w.in_ok-load-in-Keep.ensures.told c.requires) in
          rw w.layered-is (record { loaded = w.load.new.env.names; loads = rw w.in-Keep.is told; stands = refl })
      | in-Override+in_ok-load_override-in-Override w ↦
          let told = rw copied at (w.in_ok-load_override-in-Override.ensures.told c.requires) in
          rw w.layered-is
          (record { loaded = w.load_override.new.env.names; loads = rw w.in-Override.is told; stands = refl })
    ]

pub returns-clause-keeps : goal.returns-clause-keeps
returns-clause-keeps g c = λ keep.
    let copied = c.in_ok-layered.ensures.ok ∙ c.self.view_is in
    elim c.match-mode.branch [
      | in-Keep+in_ok-load-in-Keep w ↦
          rw w.layered-is (rw copied at w.load.ensures.adds.keeps)
      | in-Override+in_ok-load_override-in-Override w ↦
          absurd (let both : Keep ≡ Override = sym keep ∙ w.in-Override.is in cc)
    ]

pub returns-clause-changes : goal.returns-clause-changes
returns-clause-changes g c =
    let copied = c.in_ok-layered.ensures.ok ∙ c.self.view_is in
    elim c.match-mode.branch [
      | in-Keep+in_ok-load-in-Keep w ↦
          rw w.layered-is (rw copied at w.load.ensures.adds.changes)
      | in-Override+in_ok-load_override-in-Override w ↦
          rw w.layered-is (rw copied at w.load_override.ensures.changes)
    ]
