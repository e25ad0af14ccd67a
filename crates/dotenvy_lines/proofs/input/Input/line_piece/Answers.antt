use Rattle.std.proofs.Common.{◌+◌, arith}
use Rattle.std.proofs.lemmas.List.{take-take, length-take-le}
use Rattle.dotenvy_lines.proofs.Inputs.{found_line}
use Rattle.dotenvy_lines.proofs.input.Input.line_piece.Goals as goal

pub returns-in-Some : goal.returns-in-Some
returns-in-Some g c =
    let unread = c.unread-unread in
    let line = rw c.in-Some.is at (found_line unread.result.now c.memchr.result c.memchr.ensures) in
    let n = c.in-Some.place + 1 in
    let long = length-take-le n unread.result.now (omega (arith, line.0)) in record {
      within = omega (arith, unread.ensures.len);
      is_line = line.1;
      told = λ a left.
          rw (long, unread.ensures.told a left)
          (take-take n c.args.self.now.unread a.bytes (omega (arith, line.0, unread.ensures.len)));
    }

pub returns-in-None : goal.returns-in-None
returns-in-None g c =
    let unread = c.unread-unread in
    let none = rw c.in-None.is at (found_line unread.result.now c.memchr.result c.memchr.ensures) in record {
      within = omega (arith, unread.ensures.len);
      is_line = (none, unread.ensures.len);
      told = λ a left. rw unread.ensures.len (unread.ensures.told a left);
    }
