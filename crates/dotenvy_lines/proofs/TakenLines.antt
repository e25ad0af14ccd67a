-- A physical line that is taken in pieces: what was taken of it, and a theorem for each way out.
use Rattle.std.proofs.Common.{◌≡◌, ◌≢◌, ℕ, ◌<◌, Bool, true, false, List, [], ◌++◌}
use Rattle.std.proofs.Common.{length, sym, ap, append-nil, length-append, refl, Some, inl, inr, arith}
use Rattle.std.specs.Prelude.{IsUtf8}
use Rattle.std.specs.Str.{chars}
use Rattle.std.proofs.lemmas.Str.{IsUtf8-nil, IsUtf8-append, chars-append, chars-nil}
use Rattle.dotenvy_format.specs.declared.walk.LineMode.{LineMode}
use Rattle.dotenvy_lines.specs.declared.physical_line.Progress.{Progress}
use Rattle.dotenvy_lines.specs.declared.physical_line.Progress.TheVariants.{Blank, Going, Ended, Comment}
use Rattle.dotenvy_lines.specs.declared.physical_line.After.{After}
use Rattle.dotenvy_lines.specs.declared.physical_line.After.TheVariants.{LineEnd, InputEnd, Broken, Unread}
use Rattle.dotenvy_lines.specs.declared.physical_line.Taken.TheVariants.{Broken as taken_broken}
use Rattle.dotenvy_format.specs.Characters.{begins_with, hash}
use Rattle.dotenvy_base.specs.Source.{Ahead}
use Rattle.dotenvy_base.proofs.Basics.{nil_of}
use Rattle.dotenvy_lines.specs.Input.{InputState, IsTold, Moves}
use Rattle.dotenvy_lines.specs.inside.InputSteps.{TakesLine}
use Rattle.dotenvy_lines.specs.inside.TakenLine.{Walks, WalksOn, Stands, TakesPiece, TakesTextLine}
use Rattle.dotenvy_lines.specs.inside.TakenLine.{LineMakes, at_line_end, starting}
use Rattle.dotenvy_lines.proofs.Inputs.{LineSoFar, moves_piece, moves_both, told_behind}
use Rattle.dotenvy_lines.proofs.Inputs.{none_after, whole_after}
use Rattle.dotenvy_lines.proofs.LinePieces.{text-behind, none-chars, some_line}

-- the front of a physical line was taken, which has no line feed
pub record InLine (m : LineMode) (seen : List ℕ) (a : Ahead) (s : InputState) (p : Progress) (text : List ℕ)
    (t : InputState) : Type 0 where
  pub so_far : LineSoFar a s t
  pub is_text : IsUtf8 so_far.line
  pub walks : Walks m seen p (chars so_far.line) text
  pub waits : so_far.line ≡ [] → 0 < t.unread

-- a line of which nothing was taken was walked from its start on, and leaves the text as it was
pub starts_blank : (m : LineMode) (seen : List ℕ) (first : Bool) → (first ≡ true → seen ≡ []) →
    (first ≡ false → seen ≢ []) →
    Walks m seen (starting m first) (chars []) seen
starts_blank m seen true none some = rw chars-nil (none refl, refl, refl, none refl)
starts_blank m seen false none some = rw chars-nil (λ empty. absurd (some refl empty), refl, sym (append-nil seen))

-- the front of a physical line was taken, and this stands behind it
pub record Pieced (m : LineMode) (seen : List ℕ) (a : Ahead) (s : InputState) (p : Progress) (text : List ℕ)
    (after : After) (t : InputState) : Type 0 where
  pub line : List ℕ
  pub left : List ℕ
  pub moves : Moves a s line left t
  pub is_text : IsUtf8 line
  pub walks : Walks m seen p (chars line) text
  pub waits : line ≡ [] → 0 < t.unread
  pub stands : Stands after line left a.fault t

-- where the line was taken as text, it makes what was walked
made : {a : Ahead} {s t : InputState} {line : List ℕ} (m : LineMode) (seen : List ℕ) (p : Progress) (text : List ℕ) →
    TakesTextLine a s line t → Walks m seen p (chars line) text → LineMakes m seen a s (at_line_end p) text t
made {line = line} m seen (Blank n) text takes (empty, blank, walks, is) =
    (line, takes, λ e. ap (begins_with hash) blank, walks, rw empty is)
made {line = line} m seen (Going n) text takes (other, walks, is) = (line, takes, λ e. (other e).0, walks, is)
made {line = line} m seen Ended text takes (other, walks) = (line, takes, λ e. (other e).0, walks)
made {line = line} m seen Comment text takes (empty, begins) = (line, takes, empty, begins)

module _ {m : LineMode} {seen : List ℕ} {a : Ahead} {s : InputState} where
  -- the front of a line and one more piece, taken and walked, are together a text that was walked
  pub pieced : {t u : InputState} {p q : Progress} {text new : List ℕ} {after : After} → InLine m seen a s p text t →
      ((b : Ahead) → t.left ≡ Some b → (piece : List ℕ) × TakesPiece b t piece after u × WalksOn p text (chars
      piece) new q) →
      Pieced m seen a s q new after u
  pieced {u = u} {after = after} i taken =
      let f = i.so_far in
      let k = taken _ f.moves.is_left in
      let part = k.1 in record {
        line = f.line ++ k.0;
        left = part.left;
        moves = moves_both f.moves (moves_piece part.joins part.is_left part.unread part.reads part.at_end);
        is_text = IsUtf8-append f.line k.0 i.is_text part.text;
        walks = rw (chars-append f.line k.0 i.is_text)
            (k.2 m seen (chars f.line) (none-chars f.line i.is_text f.none) i.walks);
        waits = λ e.
            let size = ap length e in
            let split = length-append f.line k.0 in
            let some = i.waits (nil_of f.line (omega arith)) in
            omega (arith, part.unread);
        stands = behind k.0 part.left after part.stands;
      }
    where
      behind : (piece left : List ℕ) (after : After) → Stands after piece left a.fault u →
          Stands after (i.so_far.line ++ piece) left a.fault u
      behind piece left LineEnd stands = whole_after i.so_far.line piece i.so_far.none stands
      behind piece left InputEnd stands =
          (none_after i.so_far.line piece i.so_far.none stands.0, stands.1, stands.2, stands.3, stands.4)
      behind piece left Broken (none, breaks) = (none_after i.so_far.line piece i.so_far.none none, breaks)
      behind piece left Unread (none, unread) = (none_after i.so_far.line piece i.so_far.none none, unread)

module _ {m : LineMode} {seen : List ℕ} {a : Ahead} {s u : InputState} {q : Progress} {new : List ℕ} where
  -- where the line feed of a line was met, the line makes what was walked
  pub in_line-ends : Pieced m seen a s q new LineEnd u → LineMakes m seen a s (at_line_end q) new u
  in_line-ends k = made m seen q new (record {
    some = some_line k.line k.stands;
    text = k.is_text;
    takes = record { left = k.left; moves = k.moves; is_line = inl k.stands };
  }) k.walks

  -- where the input ended in a line, the line makes what was walked
  pub in_line-input-ends : Pieced m seen a s q new InputEnd u → LineMakes m seen a s (at_line_end q) new u
  in_line-input-ends k =
      let ends = k.stands in made m seen q new (record {
        some = λ e. let w = k.waits e in absurd (omega (arith, ends.4));
        text = k.is_text;
        takes = record { left = k.left; moves = k.moves; is_line = inr (ends.0, ends.1, ends.2, ends.3) };
      }) k.walks

  -- where a line is broken and was passed by up to its end, it makes a broken one
  pub in_line-breaks : {v : InputState} → IsTold s.left a → Pieced m seen a s q new Broken u →
      ((b : Ahead) → IsTold u.left b → (line : List ℕ) × TakesLine b u line v) → LineMakes m seen a s taken_broken new v
  in_line-breaks told k skips =
      let rest = skips _ (told_behind told k.moves) in
      let after = rest.1 in
      let none = k.stands.0 in
      let broken : ¬ (IsUtf8 rest.0) = k.stands.1 rest.0 after.left after.moves.joins (elim after.is_line [
        | inl whole ↦ inl whole
        | inr last ↦ inr (last.0, last.1)
      ]) in
      let all_broken : ¬ (IsUtf8 (k.line ++ rest.0)) = λ text. broken (text-behind k.line rest.0 k.is_text text) in (
        k.line ++ rest.0,
        λ e. all_broken (rw e IsUtf8-nil),
        all_broken,
        record {
          left = after.left;
          moves = moves_both k.moves after.moves;
          is_line = elim after.is_line [
            | inl whole ↦ inl (whole_after k.line rest.0 none whole)
            | inr last ↦ inr (none_after k.line rest.0 none last.0, last.1, last.2, last.3)
          ];
        },
      )
