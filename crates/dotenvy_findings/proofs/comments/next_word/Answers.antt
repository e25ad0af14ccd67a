use Rattle.std.proofs.Common.{rules, ◌<◌, length, not}
use Rattle.std.proofs.lemmas.List.Sums.{prefix_len-le-length}
use Rattle.dotenvy_findings.specs.Comments.{is_white}
use Rattle.dotenvy_findings.proofs.CommentWords.{next_word, no_word}
use Rattle.dotenvy_findings.proofs.comments.next_word.Goals as goal

pub returns-then-is_empty-clause-words : goal.returns-then-is_empty-clause-words
returns-then-is_empty-clause-words c =
    no_word c.args.text.now c.skip_white-rest.result.now c.skip_white-rest.ensures (search rules)

pub split_at-requires : goal.split_at-requires
split_at-requires c =
    rw c.word_len.ensures (prefix_len-le-length (λ b. not (is_white b)) c.skip_white-rest.result.now)

pub returns-clause-words : goal.returns-clause-words
returns-clause-words c =
    let some : 0 < length c.skip_white-rest.result.now = search rules in
    (next_word c.args.text.now c.skip_white-rest.result.now c.skip_white-rest.ensures some c.word_len.ensures
    c.split_at.ensures.front c.split_at.ensures.back).0

pub returns-clause-shorter : goal.returns-clause-shorter
returns-clause-shorter c =
    let some : 0 < length c.skip_white-rest.result.now = search rules in
    (next_word c.args.text.now c.skip_white-rest.result.now c.skip_white-rest.ensures some c.word_len.ensures
    c.split_at.ensures.front c.split_at.ensures.back).1
