-- Reads, and the first lines of bytes.
use Rattle.std.proofs.Common.{◌≡◌, ℕ, ◌+◌, ◌-◌, ◌<◌, ◌≤◌, Bool, true, false, not, List}
use Rattle.std.proofs.Common.{[], ◌∷◌, ◌++◌, length, take, drop, refl, sym, ap, inl, inr}
use Rattle.std.proofs.Common.{append-nil, append_assoc, ◌⊎◌, arith, length-append}
use Rattle.std.proofs.Common.{length-drop}
use Rattle.std.specs.Prelude.{Option, Some, None, ◌==◌, nat_eq, MatchBool, MatchOption}
use Rattle.std.specs.IoError.{error_kind}
use Rattle.std.proofs.Math.Seq.{take-append_seam}
use Rattle.std.proofs.lemmas.Option.{none-some}
use Rattle.std.specs.List.{position_or_len, starts_with}
use Rattle.memchr.specs.Find.{IsFirstByte, is_byte}
use Rattle.std.proofs.lemmas.List.Sums.{position_or_len_is}
use Rattle.std.proofs.lemmas.List.Folds.{list_all-append}
use Rattle.std.proofs.lemmas.Grind.{common_steps}
use Rattle.std.proofs.lemmas.Bool.{and_parts, false_from_ne_true}
use Rattle.std.proofs.lemmas.Bool.Decides.{nat_tests}
use Rattle.std.proofs.lemmas.List.{take-append-drop, take_all}
use Rattle.std.specs.declared.io.ErrorKind.{ErrorKind}
use Rattle.std.specs.declared.io.Error.{Error as IoError}
use Rattle.dotenvy_base.specs.declared.errors.Error.{Error}
use Rattle.dotenvy_base.specs.declared.errors.Error.TheVariants.{Io}
use Rattle.dotenvy_format.specs.PhysicalLines.{no_line_feed, is_whole_line}
use Rattle.dotenvy_format.specs.Marks.{byte_order_mark, without_mark}
use Rattle.dotenvy_base.specs.Source.{Ahead, Told}
use Rattle.dotenvy_base.specs.Errors.{IsMemory, IsIoOf}
use Rattle.dotenvy_lines.specs.Input.{InputState, IsTold, ReadsFit, BoundIsMet, IsReadFault}
use Rattle.dotenvy_lines.specs.Input.{IsFinal, end_reads, Moves, begins_mark}
use Rattle.dotenvy_lines.specs.inside.InputSteps.{left_of, IsAllRead, FaultIsNext, Takes}
use Rattle.dotenvy_lines.specs.inside.InputSteps.{used_up, IsLinePiece}

-- Lines.
-- the byte is a line feed
abbrev is_lf : ℕ → Bool
is_lf b = b == 10

-- where the place of the first line feed is within the bytes, those up to and with it are a whole line
pub at_place : (xs : List ℕ) → position_or_len is_lf xs < length xs →
    is_whole_line (take (position_or_len is_lf xs + 1) xs) ≡ true
at_place [] h = absurd (omega arith)
at_place (x ∷ xs) h = let later = at_place xs in grind (arith, common_steps, nat_tests, later)

-- where the place of the first line feed is not within the bytes, they have no line feed
pub no_place : (xs : List ℕ) → length xs ≤ position_or_len is_lf xs → no_line_feed xs ≡ true
no_place [] h = refl
no_place (x ∷ xs) h = let later = no_place xs in grind (arith, common_steps, later)

-- the bytes up to what was found as their first line feed are a whole line; where none was found they have none
pub found_line : (bytes : List ℕ) (found : Option ℕ) → IsFirstByte (is_byte 10) bytes found →
    MatchOption found (no_line_feed bytes ≡ true)
    (λ n. (n < length bytes) × (is_whole_line (take (n + 1) bytes) ≡ true))
found_line bytes None none =
    let place = position_or_len_is is_lf bytes (length bytes) 0 (omega arith)
    (λ k below. false_from_ne_true _ (none k (omega arith) below)) (λ h. absurd (omega arith)) in
    no_place bytes (omega (arith, place))
found_line bytes (Some n) (first, here) =
    let place = position_or_len_is is_lf bytes n 0 (omega arith)
    (λ k below. false_from_ne_true _ (first.before k (omega arith) below)) (λ h. here) in
    (first.high, rw place at (at_place bytes (omega (arith, place, first.high))))

-- bytes without a line feed and a whole line behind them are a whole line
pub whole_after : (xs line : List ℕ) → no_line_feed xs ≡ true → is_whole_line line ≡ true →
    is_whole_line (xs ++ line) ≡ true
whole_after [] line h w = w
whole_after (x ∷ xs) line h w = let later = whole_after xs line in grind (arith, later)

-- where neither of two rows of bytes has a line feed, nor have both joined
pub none_after : (xs ys : List ℕ) → no_line_feed xs ≡ true → no_line_feed ys ≡ true → no_line_feed (xs ++ ys) ≡ true
none_after xs ys h k = rw (list_all-append, h, k)

-- where bytes have no line feed, neither their front nor their back has one
pub none_parts : (xs ys : List ℕ) → no_line_feed (xs ++ ys) ≡ true → (no_line_feed xs ≡ true) × (no_line_feed ys ≡ true)
none_parts xs ys h = and_parts (no_line_feed xs) (no_line_feed ys) (rw list_all-append at h)

-- What is left of an input.
-- what is told, from its parts
abbrev pub ahead_of : List ℕ → Option ErrorKind → Ahead
ahead_of bytes fault = record { bytes = bytes; fault = fault }

-- where the same is told, the bytes are the same
pub the_bytes : (a b : Ahead) → Some a ≡ Some b → a.bytes ≡ b.bytes
the_bytes a b h = cc

-- where the same is told, the fault that follows is the same, or none
pub the_fault : (a b : Ahead) → Some a ≡ Some b → a.fault ≡ b.fault
the_fault a b h = cc

-- at first nothing is used, and all is left
pub moves_none : (a : Ahead) (s : InputState) → s.left ≡ Some a → Moves a s [] a.bytes s
moves_none a s left = record { joins = refl; is_left = left; reads = omega arith }

-- unread bytes are used without a read
pub moves_piece : {a : Ahead} {s t : InputState} {piece left : List ℕ} → a.bytes ≡ piece ++ left →
    t.left ≡ Some (ahead_of left a.fault) → t.unread + length piece ≡ s.unread → t.reads ≡ s.reads →
    t.at_end ≡ s.at_end → Moves a s piece left t
moves_piece joins is_left unread reads ends =
    record { joins = joins; is_left = is_left; reads = rw (joins, reads, ends, length-append) (omega arith) }

-- what is used in one step and in the next is used in both
pub moves_both : {a : Ahead} {s t v : InputState} {used more left later : List ℕ} → Moves a s used left t →
    Moves (ahead_of left a.fault) t more later v → Moves a s (used ++ more) later v
moves_both first next = record {
  joins = rw (first.joins, next.joins, append_assoc);
  is_left = next.is_left;
  reads = omega arith;
}

-- a wait behind some steps leaves what these used as it is
pub moves_still : {a : Ahead} {s t : InputState} {used left : List ℕ} (v : InputState) → Moves a s used left t →
    v.left ≡ Some (ahead_of left a.fault) → ReadsFit (ahead_of left a.fault) t (ahead_of left a.fault) v →
    Moves a s used left v
moves_still v first is_left fits =
    record { joins = first.joins; is_left = is_left; reads = omega arith }

-- where it was told what is left, it is told what is left behind what was used of it
pub told_behind : {a : Ahead} {s t : InputState} {used left : List ℕ} → IsTold s.left a → Moves a s used left t →
    IsTold t.left (ahead_of left a.fault)
told_behind told moves = (moves.is_left, told.1)

-- a read behind some steps leaves what these used as it is
pub moves_read : {a : Ahead} {s t v : InputState} {used left : List ℕ} → IsTold s.left a → Moves a s used left t →
    ((b : Ahead) → IsTold t.left b → (v.left ≡ Some b) × ReadsFit b t b v) → Moves a s used left v
moves_read told moves more =
    let m = more _ (told_behind told moves) in moves_still _ moves m.0 m.1

-- where a fact of each fault makes another, refused memory or such a fault is that or one of the other
io_weaker : {A : Type 0} (P Q : IoError → Type 0) (e : Error A) → ((x : IoError) → P x → Q x) →
    IsMemory e ⊎ IsIoOf P e → IsMemory e ⊎ IsIoOf Q e
io_weaker P Q e f (inl m) = inl m
io_weaker P Q (Io x) f (inr i) = inr (f x i)
io_weaker P Q e f (inr i) = inr (absurd i)

-- a final fault after some bytes were used is one of all bytes, where P of those after them makes Q of all
pub final_before : {A : Type 0} (a : Ahead) (s t v : InputState) (P Q : List ℕ → Type 0) (used left : List ℕ)
    (e : Error A) → a.bytes ≡ used ++ left → ReadsFit a s (ahead_of left a.fault) t →
    ((kind : ErrorKind) (front later : List ℕ) → left ≡ front ++ later → (a.fault
    ≡ Some kind) ⊎ (t.reads + t.unread + end_reads t.at_end
    ≤ length front) → P front → Q (used ++ front)) → IsFinal (ahead_of left a.fault) t P e v → IsFinal a s Q e v
final_before a s t v P Q used left e joins fits weaker =
    io_weaker (IsReadFault (ahead_of left a.fault) t P v) (IsReadFault a s Q v) e (λ x fault. elim fault [
      | inl f ↦ inl (f.0, rw joins (weaker (error_kind x) left [] (sym (append-nil left)) (inl f.0) f.1))
      | inr f ↦ (let met = f.1 in
          let each = met.each_gave in
          let all = ap length joins in
          let bound : BoundIsMet a s Q v =
          record {
            front = used ++ met.front;
            later = met.later;
            cut = rw (joins, met.cut, append_assoc);
            holds = weaker (error_kind x) met.front met.later met.cut (inr each) met.holds;
            none_left = met.none_left;
            each_gave = omega (arith, length-append used left, length-append used met.front);
          } in
          inr (f.0, bound))
    ])

-- a final fault before which one thing holds is one before which all holds that it says
pub final_weaker : {A : Type 0} (a : Ahead) (s v : InputState) (P Q : List ℕ → Type 0) (e : Error A) →
    ((bytes : List ℕ) → P bytes → Q bytes) → IsFinal a s P e v → IsFinal a s Q e v
final_weaker a s v P Q e weaker final =
    final_before a s s v P Q [] a.bytes e refl (omega arith) (λ kind front later cut why. weaker front) final

-- the same, where the bytes were used in such steps
pub final_behind : {A : Type 0} {a : Ahead} {s t : InputState} {used left : List ℕ} (v : InputState)
    (P Q : List ℕ → Type 0) (e : Error A) → Moves a s used left t →
    ((front later : List ℕ) → left ≡ front ++ later → P front → Q (used ++ front)) →
    IsFinal (ahead_of left a.fault) t P e v → IsFinal a s Q e v
final_behind v P Q e moves weaker =
    final_before _ _ _ v P Q _ _ e moves.joins moves.reads (λ kind front later cut why. weaker front later cut)

-- bytes of which so many are unread are those that stand first
pub read_front : (left front later : List ℕ) (n : ℕ) → left ≡ front ++ later → length front ≡ n → take n left ≡ front
read_front left front later n cut read = rw (cut, ← read) (take-append_seam front later)

-- Reads.
-- the input over a source that tells this, with these unread bytes
abbrev pub input_of : Told → List ℕ → ℕ → Bool → InputState
input_of told unread reads at_end = record {
  left = left_of at_end told.ahead unread;
  unread = length unread;
  reads = reads;
  at_end = at_end;
  calls = told.calls;
  references = told.references;
}

-- the end was not read, and so many reads may be made of a source that tells this, behind these unread bytes
pub record IsOpen (s : InputState) (told : Told) (unread : List ℕ) (reads : ℕ) (at_end : Bool) : Type 0 where
  pub is : s ≡ input_of told unread reads at_end
  pub unended : at_end ≡ false
  pub some : 0 < reads

-- an input of which the end was not read is open as long as a read is left
pub open_input : {s : InputState} {told : Told} {unread : List ℕ} {reads : ℕ} {at_end : Bool} →
    input_of told unread reads at_end ≡ s → s.at_end ≡ false → 0 < reads → IsOpen s told unread reads at_end
open_input is unended some = record { is = sym is; unended = cc; some = some }

-- where the end was not read, what is left is told as the unread bytes, then what the source tells
told_next : {a : Ahead} {P : Type 0} (o : Option Ahead) (unread : List ℕ) → IsTold (left_of false o unread) a →
    ((b : Ahead) → IsTold o b → a ≡ ahead_of (unread ++ b.bytes) b.fault → P) → P
told_next None unread left next = absurd (none-some _ left.0)
told_next (Some b) unread left next = next b (refl, λ i. left.1 (cc)) (cc)

-- a read that fails is a final fault, met behind as many bytes as are unread
pub read_more_fails : {A : Type 0} {a : Ahead} {s : InputState} {told : Told} {unread : List ℕ} {reads : ℕ}
    {at_end : Bool} (v : InputState) (e : Error A) → IsOpen s told unread reads at_end → IsTold s.left a →
    ((b : Ahead) → IsTold told.ahead b → IsMemory e ⊎ IsIoOf (FaultIsNext b) e) →
    IsFinal a s (λ bytes. length bytes ≡ s.unread) e v
read_more_fails {a = a} {s = s} {told = told} {unread = unread} v e i left once =
    told_next told.ahead unread (rw (i.is, i.unended) at left) (λ b is_told is.
    io_weaker (FaultIsNext b) (IsReadFault a s (λ bytes. length bytes ≡ s.unread) v) e
    (λ y f. inl (rw is f.1, rw (is, f.0, append-nil, i.is))) (once b is_told))

-- what is left stays the same when a read puts bytes of the source behind the unread ones, or meets the end
left_at : (e : Bool) {after : Option Ahead} {b : Ahead} {old new : List ℕ} → Takes b old e after new →
    left_of e after new ≡ Some (ahead_of (old ++ b.bytes) b.fault)
left_at true k = let ends = k.ends refl in cc (k.appends, k.cut, ends.0, ends.1, append-nil k.some)
left_at false {old = old} k = rw (k.left, k.appends, k.cut, append_assoc)

-- a read that gives something, or the end, leaves what is told as it was, and fits the bytes that are left
pub read_more_gives : {a : Ahead} {s : InputState} {told : Told} {old new : List ℕ} {reads : ℕ}
    {before at_end : Bool} (after : Told) → IsOpen s told old reads before → IsTold s.left a →
    ((b : Ahead) → IsTold told.ahead b → Takes b old at_end after.ahead new) →
    ((input_of after new (reads - 1) at_end).left ≡ Some a) × ReadsFit a s a (input_of after new (reads - 1) at_end)
read_more_gives {told = told} {old = old} {at_end = at_end} after i left once =
    told_next told.ahead old (rw (i.is, i.unended) at left) (λ b is_told is.
    let k = once b is_told in
    let lens = ap length k.appends in
    (rw is (left_at at_end k), rw (i.is, i.unended) (omega (arith, i.some, k.goes_on, length-append old k.some))))

-- Lines that are read.
-- what holds where a test holds, and what holds where it fails, each make another such thing
either_way : {P Q R S : Type 0} (b : Bool) → (P → R) → (Q → S) → MatchBool b P Q → MatchBool b R S
either_way true f g h = f h
either_way false f g h = g h

-- a line that is being read: no line feed was met
pub record LineSoFar (a : Ahead) (s t : InputState) : Type 0 where
  pub line : List ℕ
  pub left : List ℕ
  pub moves : Moves a s line left t
  pub none : no_line_feed line ≡ true

-- at first nothing of a line was read
abbrev pub so_far_none : {a : Ahead} {s : InputState} → IsTold s.left a → LineSoFar a s s
so_far_none {a = a} told = record { line = []; left = a.bytes; moves = moves_none a _ told.0; none = refl }

-- a read behind what was read of a line leaves that as it is
abbrev pub so_far_more : {a : Ahead} {s t v : InputState} {line left : List ℕ} → IsTold s.left a →
    Moves a s line left t → no_line_feed line ≡ true →
    ((b : Ahead) → IsTold t.left b → (v.left ≡ Some b) × ReadsFit b t b v) → LineSoFar a s v
so_far_more {line = line} {left = left} told moves none more =
    record { line = line; left = left; moves = moves_read told moves more; none = none }

-- a line, of which these unread bytes are used too: it is whole, or all unread bytes are used and it goes on
pub record ReadOn (a : Ahead) (s : InputState) (whole : Bool) (t : InputState) : Type 0 where
  pub line : List ℕ
  pub left : List ℕ
  pub moves : Moves a s line left t
  pub is_line : MatchBool whole (is_whole_line line ≡ true) ((no_line_feed line ≡ true) × (t.unread ≡ 0))

-- the unread bytes of a line that is being read are used with what was read of it
pub read_on : {a : Ahead} {s t v : InputState} {piece : List ℕ} {whole : Bool} → LineSoFar a s t →
    IsLinePiece t piece whole → v ≡ used_up (length piece) t → ReadOn a s whole v
read_on {piece = piece} {whole = whole} r is used =
    let left = drop (length piece) r.left in
    let joins : r.left ≡ piece ++ left =
    cc (is.told _ r.moves.is_left, take-append-drop (length piece) r.left) in
    rw used (record {
      line = r.line ++ piece;
      left = left;
      moves = moves_both r.moves (moves_piece joins (rw r.moves.is_left) (omega (arith, is.within)) refl refl);
      is_line = either_way whole (whole_after r.line piece r.none)
          (λ k. (none_after r.line piece r.none k.0, omega (arith, k.1))) is.is_line;
    })

-- Byte order marks.
-- bytes that are no unfinished byte order mark tell whether a mark is at the front, whatever follows them
mark_decided : (unread later : List ℕ) → begins_mark unread ≡ false →
    starts_with nat_eq (unread ++ later) byte_order_mark ≡ starts_with nat_eq unread byte_order_mark
mark_decided [] later h = cc
mark_decided (b ∷ []) later h = grind (arith, nat_tests)
mark_decided (b ∷ c ∷ []) later h = grind (arith, nat_tests)
mark_decided (b ∷ c ∷ d ∷ unread) later h = refl

-- once a mark is decided, all the bytes begin with one just where the unread bytes do
pub mark_test : (unread : ℕ) (a : Ahead) → IsAllRead a unread ⊎ (begins_mark (take unread a.bytes) ≡ false) →
    starts_with nat_eq a.bytes byte_order_mark ≡ starts_with nat_eq (take unread a.bytes) byte_order_mark
mark_test unread a (inl all) = rw (take_all unread a.bytes (omega (arith, all.0)))
mark_test unread a (inr differs) =
    rw take-append-drop at (mark_decided (take unread a.bytes) (drop unread a.bytes) differs)

-- bytes that begin with a byte order mark are three or more
mark_long : (bytes : List ℕ) → starts_with nat_eq bytes byte_order_mark ≡ true → 3 ≤ length bytes
mark_long [] h = cc
mark_long (b ∷ []) h = grind (arith, nat_tests)
mark_long (b ∷ c ∷ []) h = grind (arith, nat_tests)
mark_long (b ∷ c ∷ d ∷ bytes) h = omega arith

-- with a byte order mark dropped from the front of what is left, the bytes without a mark are left
pub mark_dropped : {a : Ahead} {s t : InputState} → Moves a s [] a.bytes t →
    starts_with nat_eq a.bytes byte_order_mark ≡ true → 3 ≤ t.unread →
    ((used_up 3 t).left ≡ Some (ahead_of (without_mark a.bytes) a.fault))
    × ReadsFit a s (ahead_of (without_mark a.bytes) a.fault) (used_up 3 t)
mark_dropped {a = a} moves is wide =
    let long = mark_long a.bytes is in
    rw is (rw moves.is_left, rw length-drop (omega arith))

-- Tests.
-- either a byte is unread, or what holds where none is
pub some-or-none : {n len : ℕ} {P : Type 0} (empty : Bool) → empty ≡ (len == 0) → len ≡ n → (n ≡ 0 → P) →
    MatchBool (not empty) (0 < n) P
some-or-none true test is none = none (grind (arith, nat_tests))
some-or-none false test is none = grind (arith, nat_tests)
