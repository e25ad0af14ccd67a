-- What is told of findings one after another is told by one list of comments.
use Rattle.std.proofs.Common.{◌≡◌, ℕ, true, false, List, [], ◌∷◌, ◌++◌, refl, subst, sym, inl, inr}
use Rattle.std.specs.Prelude.{nat_lt}
use Rattle.std.proofs.lemmas.Bool.{cases_Bool, le-ltb}
use Rattle.std.proofs.Math.Nat.{le_refl}
use Rattle.dotenvy_findings.specs.Comments.{Allow}
use Rattle.dotenvy_findings.specs.declared.kind.Kind.{Kind}
use Rattle.dotenvy_checker.specs.Findings.{Remark, comments_from, told_one, AreTold}
use Rattle.dotenvy_checker.specs.inside.ToldLines.{next_above, AreToldInTurn}

-- after the last line above a finding the comments begin with that on the next one
behind_last : (line : ℕ) (seen : List Allow) (last : Allow) (more : List Allow) → nat_lt last.line line ≡ true →
    comments_from line (last ∷ next_above line seen last ∷ more) ≡ next_above line seen last ∷ more
behind_last line seen last more behind = rw (behind, le-ltb line line (le_refl line)) refl

-- up to the last line above a finding the comments begin with that on it, which is the next one
up_to_last : (line : ℕ) (seen : List Allow) (last : Allow) (more : List Allow) → nat_lt last.line line ≡ false →
    comments_from line (last ∷ more) ≡ next_above line seen last ∷ more
up_to_last line seen last more before = rw before refl

-- what is told in turn is told by the comment on the last line above a finding, and by later ones
pub one_list : (allowed : List Kind) (start end : Allow) (remarks told : List Remark) →
    AreToldInTurn allowed start remarks told end → (more : List Allow) × AreTold allowed (start ∷ more) remarks told
one_list allowed start end [] told (none, same) = ([], none)
one_list allowed start end (remark ∷ remarks) told (seen, bad, others, later, is) =
    let next = next_above remark.above seen start in
    let (more, are) = one_list allowed next end remarks others later in
    let Are : List Allow → Type 0 = λ left. AreTold allowed left remarks others in
    let Is : List Allow → Type 0 = λ left. told ≡ told_one allowed left bad remark ++ others in
    elim (cases_Bool (nat_lt start.line remark.above)) [
      | inl behind ↦
          let same = sym (behind_last remark.above seen start more behind) in
          (next ∷ more, (bad, others, subst Are same are, subst Is same is))
      | inr before ↦
          let same = sym (up_to_last remark.above seen start more before) in
          (more, (bad, others, subst Are same are, subst Is same is))
    ]
