use Rattle.dotenvy_checker.proofs.Guesses.{guessed_all, guessed_more}
use Rattle.dotenvy_checker.proofs.lines.Checker.check_guesses.Goals as goal

pub lines-preserved : goal.lines-preserved
lines-preserved g c = record {
  guessed = rw (c.saturating_add.ensures, c.in_ok-is_open.ensures.open)
      (guessed_more c.split_line.result.0.now
      (rw (c.in-Some.is, c.split_line.ensures.pieces) at c.lines.invariant.guessed)
      c.in_ok-is_open.ensures.checks);
  is_guess = c.lines.invariant.is_guess;
}

pub returns : goal.returns
returns g c = guessed_all (rw c.in_default.is at c.lines.invariant.guessed)
