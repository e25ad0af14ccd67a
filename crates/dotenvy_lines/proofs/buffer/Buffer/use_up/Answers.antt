use Rattle.std.proofs.Common.{rules, ◌≡◌, length, ap, arith, vec_len}
use Rattle.dotenvy_format.proofs.bytes.Buffers.{unread-used, unread-len}
use Rattle.dotenvy_lines.proofs.buffer.Buffer.use_up.Goals as goal

pub returns : goal.returns
returns g c =
    let s = c.self.inside in
    let holds = c.self.invariant in
    let size : length s.bytes.items ≡ vec_len s.bytes = search rules in
    let long = unread-len s.bytes.items s.used s.filled holds.0 (omega (arith, holds.1, holds.2, size)) in
    rw (← c.self.view_is) (unread-used s.bytes.items s.used s.filled c.args.n
    (omega (arith, long, ap length c.self.view_is, c.requires, holds.0)))
