-- Facts on tests that many proofs use.
use Rattle.std.proofs.Common.{◌≡◌, Bool, true, ◌&&◌}
use Rattle.std.proofs.lemmas.Bool.{and_parts}
pub use Rattle.std.proofs.lemmas.Bool.{not-true as not_is}

-- where two tests both hold, the first holds
pub and_left : (a b : Bool) → (a && b) ≡ true → a ≡ true
and_left a b h = (and_parts a b h).0

-- where two tests both hold, the second holds
pub and_right : (a b : Bool) → (a && b) ≡ true → b ≡ true
and_right a b h = (and_parts a b h).1
