use Rattle.std.proofs.Common.{◌≡◌, ℕ, ◌<◌, ◌≤◌, slice_index_or}
use Rattle.cs_store.specs.Images.{settled}
use Rattle.cs_store.specs.MemFile.{nothing}
use Rattle.cs_store.proofs.mem.settle_each.Given as goal

abbrev pub invariant-loop-file : goal.invariant-loop-file
invariant-loop-file l = record {
  done : (k : ℕ) → k < l.file-index → (slice_index_or l.files k nothing).images ≡ settled l.outcome (slice_index_or l.fn.files k nothing).images;
  room : (k : ℕ) → (slice_index_or l.fn.files k nothing).room ≤ (slice_index_or l.files k nothing).room;
  left : (k : ℕ) → l.file-index ≤ k → slice_index_or l.files k nothing ≡ slice_index_or l.fn.files k nothing;
}
