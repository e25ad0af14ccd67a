use Rattle.dotenvy_reports.proofs.Documents.{documents_are_printed}
use Rattle.dotenvy_reports.proofs.ReadBack.{documents_read_back}
use Rattle.dotenvy_reports.proofs.laws.documents_read_back.Goals as goal

pub returns-clause-printed : goal.returns-clause-printed
returns-clause-printed c = documents_are_printed

pub returns-clause-read : goal.returns-clause-read
returns-clause-read c = documents_read_back
