-- What calls that write leave, one after another.
use Rattle.std.proofs.Common.{◌≡◌, List, [], ◌∷◌, ◌++◌, Result, Ok, Err, append_assoc, ◌∙◌}
use Rattle.json.specs.Token.{Token}
use Rattle.json.specs.Written.{Written, Writes}
use Rattle.dotenvy_reports.specs.inside.Writing.{Adds, HasMore}

-- what is written after something stands behind it
pub then : {old middle new : Written} {xs ys : List Token} → HasMore old middle xs → HasMore middle new ys →
    HasMore old new (xs ++ ys)
then {ys = ys} h k = record {
  tokens = k.tokens ∙ rw h.tokens (simp append_assoc);
  before = k.before ∙ h.before;
}

-- a token that was written stands behind what was there
pub wrote : {E : Type 0} {result : Result (Unit {0}) E} {old new : Written} {t : Token} → Writes result old new t →
    new.tokens ≡ old.tokens ++ t ∷ [] → HasMore old new (t ∷ [])
wrote w ok = record { tokens = ok; before = w.room.0 }

-- what is written last stands behind what was written
pub last : {E : Type 0} (result : Result (Unit {0}) E) {old middle : Written} (new : Written) {xs : List Token}
    (ys : List Token) → HasMore old middle xs → Adds result middle new ys → Adds result old new (xs ++ ys)
last (Ok x) new ys h k = then h k
last (Err e) new ys h k = tt

-- the token that is written last stands behind what was written
pub last_token : {E : Type 0} {result : Result (Unit {0}) E} {old middle new : Written} {xs : List Token} {t : Token} →
    HasMore old middle xs → Writes result middle new t → Adds result old new (xs ++ t ∷ [])
last_token {result = Ok x} h w = then h (wrote w w.ok)
last_token {result = Err e} h w = tt
