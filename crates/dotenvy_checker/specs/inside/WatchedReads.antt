-- What a read of a watched source gives: bytes that are watched, or the end of the file.
use Rattle.std.specs.Prelude.{ℕ, ◌==◌, Bool, List, [], ◌∷◌, length, take, if◌then◌else◌}
use Rattle.dotenvy_findings.specs.Bytes as no_text
use Rattle.dotenvy_findings.specs.Comments as allowing

-- the watch for bytes that are no text, behind what a read gave: no bytes end the file, unless
-- nothing was asked for
abbrev pub no_text_given : no_text.Watch → Bool → List ℕ → no_text.Watch
no_text_given watch asks_nothing [] = if asks_nothing then watch else no_text.with_end watch
no_text_given watch asks_nothing (byte ∷ bytes) = no_text.watched watch (byte ∷ bytes)

-- the same behind a read of so many bytes to the start of these
abbrev pub no_text_read : no_text.Watch → ℕ → List ℕ → no_text.Watch
no_text_read watch n read = no_text_given watch (length read == 0) (take n read)

-- the watch for comments, behind what a read gave
abbrev pub allowing_given : allowing.Watch → Bool → List ℕ → allowing.Watch
allowing_given watch asks_nothing [] = if asks_nothing then watch else allowing.with_end watch
allowing_given watch asks_nothing (byte ∷ bytes) = allowing.watched watch (byte ∷ bytes)

-- the same behind a read of so many bytes to the start of these
abbrev pub allowing_read : allowing.Watch → ℕ → List ℕ → allowing.Watch
allowing_read watch n read = allowing_given watch (length read == 0) (take n read)
