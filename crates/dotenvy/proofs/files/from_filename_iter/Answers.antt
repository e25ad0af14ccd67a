use Rattle.dotenvy.proofs.files.from_filename_iter.Goals as goal

pub returns-clause-ok : goal.returns-clause-ok
returns-clause-ok g c = c.in_ok-file.ensures.file
