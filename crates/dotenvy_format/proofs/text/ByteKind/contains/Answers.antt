use Rattle.std.proofs.Common.{ℕ, Bool, refl, arith, get_or, nat_eq, bit_and, not}
use Rattle.std.proofs.lemmas.Bool.{agree_below_at}
use Rattle.dotenvy_format.specs.declared.text.TheConstants.{KINDS}
use Rattle.dotenvy_format.specs.Characters.{continues_key}
use Rattle.dotenvy_format.specs.Value.{is_plain_outside}
use Rattle.dotenvy_format.specs.inside.Slices.{is_token_byte}
use Rattle.dotenvy_format.proofs.text.ByteKind.contains.Goals as goal

-- the table has this bit of the byte
abbrev has_bit : ℕ → ℕ → Bool
has_bit bit b = not (nat_eq (bit_and (get_or KINDS b 0) bit) 0)

pub returns-in-Plain : goal.returns-in-Plain
returns-in-Plain c = rw c.in-Plain.is (agree_below_at (has_bit 1) is_plain_outside 256 c.args.byte refl (omega arith))

pub returns-in-Token : goal.returns-in-Token
returns-in-Token c = rw c.in-Token.is (agree_below_at (has_bit 2) is_token_byte 256 c.args.byte refl (omega arith))

pub returns-in-Key : goal.returns-in-Key
returns-in-Key c = rw c.in-Key.is (agree_below_at (has_bit 4) continues_key 256 c.args.byte refl (omega arith))
