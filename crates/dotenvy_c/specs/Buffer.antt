-- The caller's buffer.
use Rattle.std.specs.Prelude.{Bool, List, ◌++◌, length, drop, if◌then◌else◌}

-- the buffer with these at its front; what is after them stays
abbrev pub with_front : {X : Type 0} → List X → List X → List X
with_front front buffer = front ++ drop (length front) buffer

-- these were written to the front of the buffer where that was told, and nothing was written else
abbrev pub written_if : {X : Type 0} → Bool → List X → List X → List X
written_if told front buffer = if told then with_front front buffer else buffer
