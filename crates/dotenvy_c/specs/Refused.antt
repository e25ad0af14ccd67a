-- Which status tells C why an edit is refused.
use Rattle.std.specs.Prelude.{ℕ}
use Rattle.dotenvy_editor.specs.declared.refusal.Reason.{Reason}
use Rattle.dotenvy_editor.specs.declared.refusal.Reason.TheVariants.{Key, Nul, Absent, Present}
use Rattle.dotenvy_editor.specs.declared.refusal.Reason.TheVariants.{QuoteOpen, EndOpen}
use Rattle.dotenvy_editor.specs.declared.refusal.Reason.TheVariants.{Unreadable, LongComment}
use Rattle.dotenvy_editor.specs.declared.refusal.Reason.TheVariants.{Unportable as no_form}
use Rattle.dotenvy_editor.specs.declared.refusal.Unportable.{Unportable}
use Rattle.dotenvy_editor.specs.declared.refusal.Unportable.TheVariants.{Mark, CarriageReturn}
use Rattle.dotenvy_editor.specs.declared.refusal.Unportable.TheVariants.{Apostrophe, LineFeed}
use Rattle.dotenvy_editor.specs.declared.refusal.Unportable.TheVariants.{Backslashes, LastBackslash}
use Rattle.dotenvy_editor.specs.declared.refusal.Unportable.TheVariants.{Substitution, WhiteSpace}
use Rattle.dotenvy_editor.specs.declared.refusal.Unportable.TheVariants.{Comment}

-- the status of a file, a value or a line that has no portable form
abbrev pub unportable_status : Unportable → ℕ
unportable_status Mark = 13
unportable_status CarriageReturn = 14
unportable_status Apostrophe = 15
unportable_status LineFeed = 16
unportable_status Backslashes = 17
unportable_status LastBackslash = 18
unportable_status Substitution = 19
unportable_status WhiteSpace = 22
unportable_status Comment = 20

-- the status of an edit that is refused: no two reasons have the same
abbrev pub reason_status : Reason → ℕ
reason_status Key = 7
reason_status Nul = 3
reason_status Absent = 8
reason_status Present = 21
reason_status QuoteOpen = 9
reason_status EndOpen = 10
reason_status Unreadable = 11
reason_status LongComment = 12
reason_status (no_form reason) = unportable_status reason
