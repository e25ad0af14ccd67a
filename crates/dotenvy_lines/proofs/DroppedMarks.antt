-- What a byte order mark at the front of bytes decides, and what is used up with it.
use Rattle.std.proofs.Common.{◌≡◌, ℕ, true, false, List, [], ◌∷◌, ◌++◌, Ok, refl, ap, arith, inl, inr}
use Rattle.std.proofs.lemmas.Bool.{cases_Bool}
use Rattle.std.proofs.lemmas.Bool.Decides.{nat_tests}
use Rattle.std.specs.Prelude.{nat_eq}
use Rattle.std.specs.List.{starts_with}
use Rattle.dotenvy_format.specs.declared.dialect.Dialect.{Dialect}
use Rattle.dotenvy_format.specs.Decided.{up_to_last_line_feed, HasDecided}
use Rattle.dotenvy_format.specs.Marks.{byte_order_mark, without_mark}
use Rattle.dotenvy_base.specs.declared.errors.Error.{Error}
use Rattle.dotenvy_base.specs.Source.{Ahead}
use Rattle.dotenvy_lines.specs.declared.lines.Stage.TheVariants.{Open}
use Rattle.dotenvy_lines.specs.Input.{InputState, Moves, IsFinal, DropsMark, begins_mark}
use Rattle.dotenvy_lines.specs.Lines.{LinesState}
use Rattle.dotenvy_lines.specs.inside.NextLine.{IsUndecided}
use Rattle.dotenvy_lines.proofs.Inputs.{ahead_of, final_behind}
use Rattle.dotenvy_format.specs.PhysicalLines.{line_texts}
use Rattle.dotenvy_lines.proofs.LineEntries.{decided-none}

-- bytes that are a front of a byte order mark, but not all of it, have no line feed once a mark is off
mark_undecided : (bytes : List ℕ) → begins_mark bytes ≡ true → up_to_last_line_feed (without_mark bytes) ≡ []
mark_undecided [] h = refl
mark_undecided (b ∷ []) h = grind (arith, nat_tests)
mark_undecided (b ∷ c ∷ []) h = grind (arith, nat_tests)
mark_undecided (b ∷ c ∷ d ∷ bytes) h = absurd (grind (arith, nat_tests))

-- the front of a mark has no complete line
pub mark_incomplete : (bytes : List ℕ) → begins_mark bytes ≡ true → IsUndecided (without_mark bytes)
mark_incomplete bytes begins count next some is = absurd (some (ap line_texts (mark_undecided bytes begins)))

-- the front of a mark decides no entry
pub mark_decides : (dialect : Dialect) (bytes : List ℕ) → begins_mark bytes ≡ true →
    HasDecided dialect (without_mark bytes) []
mark_decides dialect bytes begins = decided-none dialect (without_mark bytes) (mark_incomplete bytes begins)

-- what is used of bytes that may begin with a mark
pub record Marked (bytes : List ℕ) : Type 0 where
  pub used : List ℕ
  pub joins : bytes ≡ used ++ without_mark bytes
  pub stays : (more rest : List ℕ) → without_mark bytes ≡ more ++ rest → without_mark (used ++ more) ≡ more

-- where bytes begin with no byte order mark, none is dropped from a front of them
no_mark : (bytes more rest : List ℕ) → starts_with nat_eq bytes byte_order_mark ≡ false → bytes ≡ more ++ rest →
    without_mark more ≡ more
no_mark bytes [] rest h e = refl
no_mark bytes (b ∷ []) rest h e = grind (arith, nat_tests)
no_mark bytes (b ∷ c ∷ []) rest h e = grind (arith, nat_tests)
no_mark bytes (b ∷ c ∷ d ∷ more) rest h e = rw (rw e at h)

-- of bytes that begin with a mark it is dropped, and the same from before any front of the others
with_mark : (bytes : List ℕ) → starts_with nat_eq bytes byte_order_mark ≡ true → Marked bytes
with_mark [] h = cc
with_mark (b ∷ []) h = absurd (grind (arith, nat_tests))
with_mark (b ∷ c ∷ []) h = absurd (grind (arith, nat_tests))
with_mark (b ∷ c ∷ d ∷ bytes) h = record { used = b ∷ c ∷ d ∷ []; joins = rw h; stays = λ more rest e. rw h }

-- any bytes are what dropping a mark uses and what it leaves, and it uses the same before any front of that
pub marked : (bytes : List ℕ) → Marked bytes
marked bytes = elim (cases_Bool (starts_with nat_eq bytes byte_order_mark)) [
  | inl is ↦ with_mark bytes is
  | inr none ↦ record { used = []; joins = rw none; stays = λ more rest e. no_mark bytes more rest none (rw none at e) }
]

-- a byte order mark was dropped on the way from s to t, if one stood next, and no line was taken
pub record Unmarks (a : Ahead) (s t : LinesState) : Type 0 where
  pub moves : Moves a s.input (marked a.bytes).used (without_mark a.bytes) t.input
  pub is_open : t.stage ≡ Open
  pub taken : t.lines_taken ≡ s.lines_taken

-- what dropping a mark comes to
pub unmarks : (A : Type 0) {a : Ahead} {s t : LinesState} → t.stage ≡ Open → t.lines_taken ≡ s.lines_taken →
    DropsMark {A = A} a s.input (Ok tt) t.input → Unmarks a s t
unmarks A {a = a} is_open taken drops = record {
  moves = record { joins = (marked a.bytes).joins; is_left = drops.0; reads = drops.1 };
  is_open = is_open;
  taken = taken;
}

-- a final fault behind the mark comes after the mark and the bytes before it
pub final_marked : {A : Type 0} {a : Ahead} {s t : LinesState} (P : List ℕ → Type 0) (e : Error A) (m : InputState) →
    Unmarks a s t → IsFinal (ahead_of (without_mark a.bytes) a.fault) t.input P e m →
    IsFinal a s.input (λ bytes. P (without_mark bytes)) e m
final_marked {a = a} P e m dropped =
    final_behind m P (λ bytes. P (without_mark bytes)) e dropped.moves
    (λ front later cut holds. rw ((marked a.bytes).stays front later cut) holds)
