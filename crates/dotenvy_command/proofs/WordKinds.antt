-- What a word is by itself, from the tests of its front.
use Rattle.std.proofs.Common.{◌≡◌, ◌≢◌, ℕ, List, [], ◌∷◌, ◌++◌, Option, Some}
use Rattle.std.proofs.Common.{None, refl, sym, ap}
use Rattle.std.specs.Prelude.{◌==◌, codes, MatchOption, unwrap_or}
use Rattle.std.specs.Str.Pattern.{FindsTextPrefix, StripsPrefix}
use Rattle.std.proofs.lemmas.Bool.{cond_both, eqb-true}
use denote.Ref.{Bor}
use Rattle.dotenvy.specs.Characters.{equals_sign}
use Rattle.dotenvy_command.specs.declared.command_line.Group.TheVariants as found
use Rattle.dotenvy_command.specs.Words.{joined_file, assigned_file, without_equals}
use Rattle.dotenvy_command.specs.inside.FirstGroup.{IsAlone}

-- a text whose front was stripped is that front, and then what is left
pub stripped : (front text rest : List ℕ) → StripsPrefix (FindsTextPrefix front) text rest → text ≡ front ++ rest
stripped front text rest (n, (is_length, joins, boundary), is_rest, fits) = rw is_rest joins

-- a file after `--file=`
pub assigned : (text : List ℕ) (name : Bor (List ℕ)) → text ≡ codes "--file=" ++ name.now →
    IsAlone text (found.File name)
assigned text name is = (assigned_file name.now, tt, rw is refl, (refl, refl, refl))

-- a file after `-f`
pub joined : (text tail : List ℕ) (name : Bor (List ℕ)) → text ≡ codes "-f" ++ tail →
    without_equals tail ≡ name.now → text ≢ codes "-f" →
    IsAlone text (found.File name)
joined text tail name is file more =
    (joined_file tail, (λ none. more (rw none at is)), rw is refl, (rw file refl, refl, refl))

-- what is after a first `=`, or else the whole text
pub behind_equals : (text : Bor (List ℕ)) (rest : Option (Bor (List ℕ))) →
    MatchOption rest ((later : List ℕ) → text.now ≢ equals_sign ∷ later) (λ x. text.now ≡ equals_sign ∷ x.now) →
    (unwrap_or rest text).now ≡ without_equals text.now
behind_equals text None none = kept text.now none
  where
    kept : (t : List ℕ) → ((later : List ℕ) → t ≢ equals_sign ∷ later) → t ≡ without_equals t
    kept [] none = refl
    kept (c ∷ cs) none = cond_both (c == equals_sign) cs (c ∷ cs) (λ r. c ∷ cs ≡ r)
        (λ is. absurd (none cs (rw (eqb-true c equals_sign is) refl))) (λ is. refl)
behind_equals text (Some x) is = sym (ap without_equals is)
