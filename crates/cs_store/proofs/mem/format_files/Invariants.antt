use Rattle.std.proofs.Common.{◌≡◌, ℕ, ◌<◌, length, slice_index_or}
use Rattle.cs_store.specs.Images.{quiet, formatted_bytes}
use Rattle.cs_store.specs.MemFile.{nothing}
use Rattle.cs_store.proofs.mem.format_files.Given as goal

abbrev pub invariant-loop-number : goal.invariant-loop-number
invariant-loop-number l = record {
  len : length l.files.items ≡ l.number;
  each : (k : ℕ) → k < l.number → (slice_index_or l.files.items k nothing).images ≡ quiet (formatted_bytes k);
}
