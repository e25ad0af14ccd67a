use Rattle.dotenvy_c.proofs.MarkLines.{all_after, shorter_after}
use Rattle.dotenvy_c.proofs.asked.after_mark.Goals as goal

pub returns-then-rest-bytes : goal.returns-then-rest-bytes
returns-then-rest-bytes c =
    λ options count file is skips. shorter_after options file is count skips c.if-rest-bytes.true

pub returns-else-rest-bytes : goal.returns-else-rest-bytes
returns-else-rest-bytes c =
    λ options count file is skips. all_after options file is count skips c.if-rest-bytes.false
