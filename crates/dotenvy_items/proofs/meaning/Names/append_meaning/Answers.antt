use Rattle.std.proofs.Common.{[], ◌++◌, refl, sym, ap, arith, length, length-append, append_assoc}
use Rattle.std.specs.Str.{chars}
use Rattle.std.specs.Prelude.{string_bytes, string_len}
use Rattle.std.specs.String.{string_capacity}
use Rattle.std.proofs.lemmas.List.{append-nil}
use Rattle.dotenvy_items.specs.Meaning.{look_up_of}
use Rattle.dotenvy_format.proofs.values.Readings.{none_read, read_then}
use Rattle.dotenvy_items.proofs.Meanings.{all_appended, four_parts, room_for, one_more}
use Rattle.dotenvy_items.proofs.meaning.Names.append_meaning.Goals as goal

pub pieces-init : goal.pieces-init
pieces-init g c = (
  c.written-rest.utf8,
  c.requires.known,
  ([], rw c.written-rest.ensures (none_read _ _ _), sym (append-nil _), omega arith),
)

pub push_texts-at-requires : goal.push_texts-at-requires
push_texts-at-requires g c =
    let i = c.pieces.invariant.2 in
    let look_up = look_up_of c.args.self.now in
    let old = c.args.text.now.bytes.ok.0 in
    let now = c.pieces.text.bytes.ok.0 in
    let total = simp length-append at (ap length i.2) in (
      c.args.dialect,
      λ meant quoting rest read.
          let fits = room_for look_up (string_len c.args.text.now) (string_capacity c.args.text.now) c.requires.room i.1
          read.is_read in
          let bytes = ap length (read.means look_up) in
          omega (arith, fits, total, bytes, old, now, i.3),
    )

pub push_piece-known-requires-clause-room : goal.push_piece-known-requires-clause-room
push_piece-known-requires-clause-room g c =
    let i = c.pieces.invariant.2 in
    let pushed = c.push_texts-at.ensures in
    let read = pushed.texts.reads c.args.dialect in
    let next = c.in-Piece.ensures.next in
    let look_up = look_up_of c.args.self.now in
    let old = c.args.text.now.bytes.ok.0 in
    let now = c.push_texts-at.new.out.bytes.ok.0 in
    let fits = room_for look_up (string_len c.args.text.now) (string_capacity c.args.text.now) c.requires.room
    (read_then i.1 read.is_read) next.is_read in
    let both = simp length-append at (ap length (one_more look_up i.0 read.pieces)) in
    let total = simp length-append at (ap length i.2) in
    let more = simp length-append at (ap length pushed.texts.bytes) in
    let texts = ap length (read.means look_up) in
    let bytes = ap length (next.means look_up) in
    omega (arith, fits, both, total, more, texts, bytes, old, now, i.3, pushed.capacity)

pub push_piece-known-requires-clause-known : goal.push_piece-known-requires-clause-known
push_piece-known-requires-clause-known g c = c.pieces.invariant.1

pub pieces-preserved : goal.pieces-preserved
pieces-preserved g c =
    let i = c.pieces.invariant.2 in
    let texts = c.push_texts-at.ensures in
    let read = texts.texts.reads c.args.dialect in
    let next = c.in-Piece.ensures.next in
    let pushed = c.push_piece-known.ensures in
    let look_up = look_up_of c.args.self.now in (
      next.follows,
      pushed.known,
      (
        (i.0 ++ read.pieces) ++ next.pieces,
        read_then (read_then i.1 read.is_read) next.is_read,
        rw (
          pushed.bytes,
          texts.texts.bytes,
          i.2,
          next.means look_up,
          one_more look_up (i.0 ++ read.pieces) next.pieces,
          one_more look_up i.0 read.pieces,
          read.means look_up,
        ) (four_parts (string_bytes c.args.text.now) _ _ _),
        (let k = pushed.capacity in omega (arith, k, i.3, texts.capacity)),
      ),
    )

pub pieces-smaller : goal.pieces-smaller
pieces-smaller g c =
    let read = c.push_texts-at.ensures.texts.reads c.args.dialect in
    omega (
      arith,
      c.in-Piece.ensures.shorter,
      ap length read.is_read.spelled,
      length-append read.is_read.front (chars c.push_texts-at.result.0.now),
    )

pub returns-in_default : goal.returns-in_default
returns-in_default g c =
    let i = c.pieces.invariant.2 in
    let texts = c.push_texts-at.ensures.texts in
    let read = texts.reads c.args.dialect in
    let look_up = look_up_of c.args.self.now in
    all_appended (string_bytes c.args.text.now) look_up (string_len c.args.text.now) (string_capacity c.args.text.now) c.next_piece.result
    c.in_default.not-Piece c.requires.room (read_then i.1 read.is_read) c.next_piece.ensures.next (rw (
      texts.bytes,
      i.2,
      one_more look_up i.0 read.pieces,
      read.means look_up,
      append_assoc,
    ) refl)
