use Rattle.std.proofs.Common.{ap, sym, ◌∙◌}
use Rattle.dotenvy_findings.specs.declared.place.Place.{Place}
use Rattle.dotenvy_findings.specs.Readings.{ReadingState, asked_of, reading_of, stepped, told_character}
use Rattle.dotenvy_findings.proofs.Runs.{moved_on, stays_over}
use Rattle.dotenvy_findings.proofs.reading.Reading.step.Goals as goal

pub returns-then-stays-clause-reads : goal.returns-then-stays-clause-reads
returns-then-stays-clause-reads g c =
    let now = c.args.self.now in
    let moved : ReadingState → Place → ReadingState =
    λ reading place. record (moved_on c.args.c reading) {
      cursor = record ((moved_on c.args.c reading).cursor) { place = place };
    } in
    ap (moved (reading_of now)) c.after-self.ensures
    ∙ sym (stays_over (asked_of g.N.Names.has_value now) c.args.c c.args.left.now c.args.rest.now (reading_of now)
    (sym c.stays.ensures ∙ c.if-stays.true))

pub returns-clause-reads : goal.returns-clause-reads
returns-clause-reads g c =
    let value = c.args.self.now.value.now in
    let ended = c.in_ok-tell_ended.ensures in
    let told = rw ended.same.2 at c.in_ok-tell_character.ensures.reads
    ∙ ap (told_character c.args.c value c.args.rest.now) ended.reads in
    ap (λ (r : ReadingState). record r { cursor = c.after-after.result }) c.in_ok-keep_name.ensures.reads
    ∙ rw (c.after-after.ensures, c.in_ok-tell_character.ensures.same.2, ended.same.2)
    (ap (stepped c.args.c value c.args.left.now) told)
