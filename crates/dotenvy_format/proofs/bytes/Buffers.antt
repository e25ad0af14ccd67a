-- The unread bytes of a buffer, as a part of all its bytes.
use Rattle.std.proofs.Common.{◌≡◌, ℕ, ◌+◌, ◌-◌, ◌≤◌, List, ◌++◌, length, take, drop, length-drop, zero-add, arith}
use Rattle.std.specs.List.{copy_within}
use Rattle.std.proofs.Math.Seq.{take-append-add}
use Rattle.std.proofs.lemmas.List.{drop-take, drop-drop, take-append-le, length-take-le}
use Rattle.std.proofs.lemmas.List.Edits.{take-paste}
use borrow.Rule.Slice.PartMut.{put_mid, post_of}

-- with n more bytes used, the unread ones are those after the first n that were unread
pub unread-used : (bytes : List ℕ) (used filled n : ℕ) → used + n ≤ filled →
    take (filled - (used + n)) (drop (used + n) bytes) ≡ drop n (take (filled - used) (drop used bytes))
unread-used bytes used filled n within =
    let e : filled - used ≡ n + (filled - (used + n)) = omega arith in rw (e, drop-take, drop-drop)

-- as many bytes are unread as were filled and not used
pub unread-len : (bytes : List ℕ) (used filled : ℕ) → used ≤ filled → filled ≤ length bytes →
    length (take (filled - used) (drop used bytes)) ≡ filled - used
unread-len bytes used filled below within =
    length-take-le (filled - used) (drop used bytes) (omega (arith, length-drop used bytes))

-- the unread bytes stay the same where they are moved to the front
pub unread-moved : (bytes : List ℕ) (used filled : ℕ) → used ≤ filled → filled ≤ length bytes →
    take (filled - used) (copy_within bytes used filled 0) ≡ take (filled - used) (drop used bytes)
unread-moved bytes used filled below within =
    let within_drop = length-drop used bytes in
    cc (zero-add (filled - used), take-paste bytes 0 (drop used bytes) (filled - used) (omega arith) (omega arith))

-- with n bytes put after those that are filled, these and then the n are unread
pub unread-more : (bytes given : List ℕ) (filled room n : ℕ) → filled ≤ length bytes → n ≤ length given →
    take (filled + n - 0) (put_mid filled room bytes given) ≡ take filled bytes ++ take n given
unread-more bytes given filled room n within some =
    let e : filled + n - 0 ≡ length (take filled bytes) + n = omega (arith, length-take-le filled bytes within) in
    rw (e, take-append-add (take filled bytes) (given ++ post_of filled room bytes) n, take-append-le)
