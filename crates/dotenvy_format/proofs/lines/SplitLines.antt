-- The next logical line, from what a loop over physical lines has read: a theorem for each way out of the loop.
-- Such a loop keeps: the lines are texts `taken` and those that are left, and `IsGoing` holds of the texts joined.
use Rattle.std.proofs.lemmas.List.{take_at}
use Rattle.std.proofs.Common.{◌≡◌, ℕ, suc, ◌+◌, Bool, true, false, List, [], ◌∷◌, ◌++◌}
use Rattle.std.proofs.Common.{map, Some, None, refl, sym, ◌∙◌, arith, add-one, zero-add}
use Rattle.std.proofs.Common.{length, length-append, ⊎_elim}
use Rattle.std.specs.Prelude.{◌≢◌, ◌⊎◌}
use Rattle.std.specs.List.{concat}
use Rattle.std.specs.Str.{skip_leading_whitespace}
use Rattle.std.proofs.lemmas.List.{append-nil, length-map}
use Rattle.std.proofs.lemmas.List.{map-append, append_assoc}
use Rattle.std.proofs.lemmas.List.Folds.{concat-append}
use Rattle.std.proofs.Math.Nat.{add-zero}
use Rattle.dotenvy_format.specs.Characters.{hash, byte_len, begins_with}
use Rattle.dotenvy_format.specs.PhysicalLines.{AreCut, is_last_line}
use Rattle.dotenvy_format.specs.LogicalLine.{input_end, IsOneLine, IsWhole}
use Rattle.dotenvy_format.specs.LogicalLine.{IsSkipped, IsFirstBroken, Logical, Skip, HasText, StaysOpen}
use Rattle.dotenvy_format.specs.LogicalLine.{Broken, IsNext}
use Rattle.dotenvy_format.specs.declared.walk.LineMode.{LineMode}
use Rattle.dotenvy_format.specs.declared.walk.LineMode.TheVariants.{Outside}
use Rattle.dotenvy_format.specs.inside.Walk.{going, ended, walk}
use Rattle.dotenvy_format.proofs.lines.Cuts.{joined-texts}
use Rattle.dotenvy_format.proofs.lines.Splitting.{IsGoing, going_start, IsWalked, walk-is}
use Rattle.dotenvy_format.proofs.lines.Splitting.{outside_tokens}
use Rattle.dotenvy_format.proofs.lines.NextLine.{Lines, whole_last, cut_after, at_input_end, mode_ends, one_more}
use Rattle.dotenvy_format.proofs.lines.NextLine.{after_walk, next_from, text_kind, one_next}

-- a line that may lack its line feed has no line feed but at its end
one_of_last : (t : List ℕ) → is_last_line t ≡ true → IsOneLine t
one_of_last [] h = tt
one_of_last (c ∷ t) h = grind (arith, one_of_last t)

-- a physical line that is a text is one line
pub line_is_one : (front : Lines) (t : List ℕ) (lines : Lines) → AreCut (front ++ Some t ∷ lines) → IsOneLine t
line_is_one front t lines cut =
    let own = cut_after front (Some t ∷ lines) cut in one_of_last t (grind (arith, whole_last t))

-- the broken line after the texts taken is the first broken one, and its number is one more than theirs
broken_at : (taken : List (List ℕ)) (lines : Lines) →
    IsFirstBroken (suc (length taken)) (map Some taken ++ None ∷ lines)
broken_at [] lines = refl
broken_at (t ∷ taken) lines = (suc (length taken), refl, broken_at taken lines)

-- a comment as the first line is the next logical line, which is skipped
pub next-skip : (text : List ℕ) (lines : Lines) → begins_with hash (skip_leading_whitespace text) ≡ true →
    IsNext (Some text ∷ lines) 1 Skip
next-skip text lines h = (h, refl)

-- where the texts taken are a whole logical line, and no comment is skipped, they are the next logical line
pub next-text : (taken : List (List ℕ)) (lines : Lines) (kept : List ℕ) → ¬ (IsSkipped (map Some taken ++ lines)) →
    IsWhole (concat taken) kept (length taken ≡ length (map Some taken ++ lines)) →
    IsNext (map Some taken ++ lines) (length taken) (HasText kept)
next-text taken lines kept shown whole = (
  shown,
  record {
    text = concat taken;
    within = omega (arith, length-append (map Some taken) lines, length-map taken Some);
    joins = rw (take_at (map Some taken) lines (length taken) (length-map taken Some)) (joined-texts taken);
    whole = whole;
  },
)

-- where the input ends after the texts taken, anywhere but outside, the next logical line is an open end
pub next-open : (taken : List (List ℕ)) (m : LineMode) → map Some taken ≢ [] → AreCut (map Some taken) →
    ¬ (IsSkipped (map Some taken)) → IsGoing (concat taken) m → m ≢ Outside →
    IsNext (map Some taken) (length taken) (StaysOpen (concat taken) (byte_len (concat taken)))
next-open taken m some cut shown g differs = (
  shown,
  sym (length-map taken Some),
  joined-texts taken,
  λ j kept is.
      let e : HasText kept ≡ at_input_end m (concat taken) =
      text_kind taken [] m j kept g (rw append-nil cut) (rw append-nil is) in
      ⊎_elim (λ h. differs h.0) (λ h. let f = h.1 in cc) (mode_ends m (concat taken)),
  refl,
)

-- where the line after texts that go on is broken, so is the next logical line
pub next-broken : (taken : List (List ℕ)) (lines : Lines) (m : LineMode) → AreCut (map Some taken ++ None ∷ lines) →
    ¬ (IsSkipped (map Some taken ++ None ∷ lines)) → IsGoing (concat taken) m →
    IsNext (map Some taken ++ None ∷ lines) (suc (length taken)) Broken
next-broken taken lines m cut shown g = (
  shown,
  broken_at taken lines,
  λ j kept below is. let e : HasText kept ≡ Broken = text_kind taken (None ∷ lines) m j kept g cut is in cc,
)

-- The next logical line as one function: a comment as a whole line is skipped, else the loop tells it.
-- the test whether the first line is a comment as a whole
abbrev pub is_skipped : Lines → Bool
is_skipped [] = false
is_skipped (None ∷ lines) = false
is_skipped (Some text ∷ lines) = begins_with hash (skip_leading_whitespace text)

-- how many physical lines the next logical line takes, and what it is
abbrev pub next_of : Lines → ℕ × Logical
next_of lines = elim (is_skipped lines) [ true ↦ (1, Skip) | false ↦ next_from Outside [] lines ]

-- the first n lines, and as many more as this says, make this next logical line
abbrev IsNextOf : Lines → ℕ → ℕ × Logical → Type 0
IsNextOf lines n (k, next) = IsNext lines (n + k) next

-- the texts taken and one more, joined, are those joined and then the one
pub concat_more : (taken : List (List ℕ)) (t : List ℕ) → concat (taken ++ t ∷ []) ≡ concat taken ++ t
concat_more taken t = simp (concat-append, append-nil)

-- a text that stands next, after the texts taken, is one more text taken before the same lines
pub lines_more : (taken : List (List ℕ)) (t : List ℕ) (lines : Lines) →
    map Some taken ++ Some t ∷ lines ≡ map Some (taken ++ t ∷ []) ++ lines
lines_more taken t lines = simp (map-append, append_assoc)

-- where all lines were taken, they are the next logical line that the input's end makes of the mode reached
pub at_end : (taken : List (List ℕ)) (m : LineMode) → map Some taken ≢ [] → AreCut (map Some taken) →
    ¬ (IsSkipped (map Some taken)) → IsGoing (concat taken) m →
    IsNext (map Some taken) (length taken) (at_input_end m (concat taken))
at_end taken m some cut shown g =
    ⊎_elim
    (λ h.
    let t = outside_tokens (concat taken) (rw h.0 at g) in
    rw h.1 (rw append-nil at (next-text taken [] (concat taken) (rw append-nil shown) (record {
      tokens = t.0;
      ending = input_end;
      are_tokens = t.1;
      is_ending = rw append-nil (sym (length-map taken Some));
      spelled = rw append-nil t.2;
      cut = t.2;
    }))))
    (λ h. rw h.1 (next-open taken m some cut shown g h.0)) (mode_ends m (concat taken))

-- counted from before a line more, the next logical line takes one line more
shift : (lines : Lines) (n k : ℕ) (r : ℕ × Logical) → k ≡ suc n → IsNextOf lines k r → IsNextOf lines n (one_more r)
shift lines n k (i, next) e h = let f : n + suc i ≡ k + i = omega (arith, e) in rw f h

-- after the texts taken, which lead to a mode, what the loop gives from there on is the next logical line
next_from-is : (m : LineMode) (all : Lines) (taken : List (List ℕ)) (lines : Lines) → all ≡ map Some taken ++ lines →
    all ≢ [] → AreCut all → ¬ (IsSkipped all) → IsGoing (concat taken) m →
    IsNextOf all (length taken) (next_from m (concat taken) lines)
next_from-is m all taken [] e some cut shown g =
    let f : all ≡ map Some taken = e ∙ append-nil (map Some taken) in
    rw (f, add-zero) (at_end taken m (rw f at some) (rw f at cut) (rw f at shown) g)
next_from-is m all taken (None ∷ lines) e some cut shown g =
    rw (e, add-one) (next-broken taken lines m (rw e at cut) (rw e at shown) g)
next_from-is m all taken (Some t ∷ lines) e some cut shown g =
    let more = taken ++ t ∷ [] in
    let f : all ≡ map Some more ++ lines = e ∙ lines_more taken t lines in
    let n : length more ≡ suc (length taken) = omega (arith, length-append taken (t ∷ [])) in
    (elim (walk m (concat taken) t) as (λ w.
    IsWalked (length more ≡ length (map Some more ++ lines)) (concat taken) t w →
    IsNextOf all (length taken) (after_walk w (λ n. next_from n (concat taken ++ t) lines))) [
      | going k ↦
          λ h.
          shift all (length taken) (length more) (next_from k (concat taken ++ t) lines) n (rw concat_more at
          (next_from-is k all more lines f some cut shown (rw concat_more h)))
      | ended text ↦
          λ h. rw (f, add-one, ← n) (next-text more lines text (rw f at shown) (rw concat_more h))
    ]) (walk-is _ m (concat taken) t g (line_is_one (map Some taken) t lines (rw e at cut)))

-- the first line is a comment as a whole, or it isn't
pub skipped_or_not : (lines : Lines) →
    (IsSkipped lines × (is_skipped lines ≡ true)) ⊎ ((¬ (IsSkipped lines)) × (is_skipped lines ≡ false))
skipped_or_not lines = grind arith

-- where the first line is a comment as a whole, it is skipped
pub next_skipped : (lines : Lines) → is_skipped lines ≡ true → next_of lines ≡ (1, Skip)
next_skipped lines h = rw (h, next_of) refl

-- where the first line is no comment as a whole, the loop begins with it
pub next_shown : (lines : Lines) → is_skipped lines ≡ false → next_of lines ≡ next_from Outside [] lines
next_shown lines h = rw (h, next_of) refl

-- what the function says is the next logical line
pub next_of-is : (lines : Lines) → lines ≢ [] → AreCut lines → IsNext lines (next_of lines).0 (next_of lines).1
next_of-is lines some cut =
    ⊎_elim (λ h. rw (next_skipped lines h.1) (h.0, refl))
    (λ h.
    rw (next_shown lines h.1) (rw zero-add at (next_from-is Outside lines [] lines refl some cut h.0 going_start)))
    (skipped_or_not lines)

-- the next logical line is what the function says
pub next_once : (lines : Lines) (k : ℕ) (o : Logical) → lines ≢ [] → AreCut lines → IsNext lines k o →
    next_of lines ≡ (k, o)
next_once lines k o some cut is =
    let e = one_next lines (next_of lines).0 k (next_of lines).1 o some cut (next_of-is lines some cut) is in
    rw (← e.0, ← e.1) refl
