use Rattle.std.proofs.Common.{◌≡◌, ◌+◌, ◌-◌, ◌≤◌, ◌++◌}
use Rattle.std.specs.Prelude.{◌^◌, string_bytes}
use Rattle.std.specs.String.{string_capacity}
use Rattle.dotenvy_format.specs.Characters.{byte_len}
use Rattle.dotenvy_format.specs.Written.{written_text, written_bytes}
use Rattle.dotenvy_items.specs.inside.ValuePasses.{saturated}
use Rattle.dotenvy_items.specs.Listed.{pairs_of}
use Rattle.dotenvy_items.proofs.WrittenBytes.{texts}
use Rattle.dotenvy_items.proofs.written.listing.Given as goal

-- what was counted and what is left are the whole
abbrev pub invariant-lens : goal.invariant-lens
invariant-lens g l = record {
  whole : saturated (l.len + byte_len (written_text (texts l.key-iterator))) ≡ saturated (byte_len (written_text
      (pairs_of l.env.names)));
  fits : l.len ≤ 2 ^ 64 - 1;
}

-- with the pairs that are left the listing is whole, and there is room for it
abbrev pub invariant-pairs : goal.invariant-pairs
invariant-pairs g l = record {
  whole : string_bytes l.out ++ written_bytes (texts l.key-iterator) ≡ written_bytes (pairs_of l.env.names);
  capacity : byte_len (written_text (pairs_of l.env.names)) ≤ string_capacity l.out;
}
