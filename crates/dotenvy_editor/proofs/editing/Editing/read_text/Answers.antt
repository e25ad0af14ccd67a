use Rattle.std.specs.Str.{chars}
use Rattle.dotenvy_editor.specs.inside.Changing.{dialect_of, key_of}
use Rattle.dotenvy_editor.proofs.ReadTexts.{assigns_stated, fault_noted, noted_if_ok, nothing_noted, text_line}
use Rattle.dotenvy_editor.proofs.ToldLines.{fault_told}
use Rattle.dotenvy_editor.proofs.editing.Editing.read_text.Goals as goal

pub returns-in-Nothing-clause-notes : goal.returns-in-Nothing-clause-notes
returns-in-Nothing-clause-notes g c = λ line is.
    nothing_noted c.args.self.now.change (chars c.args.text.now) line c.args.slice.first c.args.self.now.notes
    (text_line c.args.slice (chars c.args.text.now) line c.requires.kind is) (rw c.in-Nothing.is at c.said_by.ensures)

pub returns-in-Fault-clause-notes : goal.returns-in-Fault-clause-notes
returns-in-Fault-clause-notes g c = λ line is.
    let (some, none) = rw c.in-Fault.is at c.said_by.ensures in
    rw c.fault_last-self.ensures (fault_noted c.args.self.now.change (chars c.args.text.now) line c.args.slice.first
    c.args.self.now.notes (text_line c.args.slice (chars c.args.text.now) line c.requires.kind is) some none)

pub returns-in-Fault-clause-finds : goal.returns-in-Fault-clause-finds
returns-in-Fault-clause-finds g c = λ line is assigns.
    let (some, none) = rw c.in-Fault.is at c.said_by.ensures in
    let key = key_of c.args.self.now.change in
    let states = assigns_stated key (text_line c.args.slice (chars c.args.text.now) line c.requires.kind is) assigns in
    none key states.1 states.2

pub returns-in-Statement-clause-notes : goal.returns-in-Statement-clause-notes
returns-in-Statement-clause-notes g c =
    let (some, states) = rw c.in-Statement.is at c.said_by.ensures in
    noted_if_ok c.read_statement.result c.args.self.now.change (chars c.args.text.now)
    (chars c.in-Statement.statement.key.now) c.args.slice c.args.self.now.notes c.read_statement.new.self.notes
    c.requires.kind (some, chars c.in-Statement.statement.rest.now, states) c.read_statement.ensures.notes

pub returns-in-Fault-clause-told : goal.returns-in-Fault-clause-told
returns-in-Fault-clause-told g c = λ line is names are.
    let (some, none) = rw c.in-Fault.is at c.said_by.ensures in
    fault_told (dialect_of c.args.self.now.change) (chars c.args.text.now) line
    (text_line c.args.slice (chars c.args.text.now) line c.requires.kind is) some none c.stops_at.ensures are
