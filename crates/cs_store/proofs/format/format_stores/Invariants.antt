use Rattle.std.proofs.Common.{◌≡◌, ℕ, ◌<◌, length, slice_index_or, None, false, is_none}
use Rattle.cs_store.specs.Images.{formatted_bytes}
use Rattle.cs_store.specs.MemStores.{seen_in}
use Rattle.cs_store.proofs.format.format_stores.Given as goal

abbrev pub invariant-loop : goal.invariant-loop
invariant-loop l = record {
  len : length l.stores.items ≡ l.counter;
  files : (n k : ℕ) → n < l.counter → seen_in (slice_index_or l.stores.items n None) k ≡ formatted_bytes k;
  there : (n : ℕ) → n < l.counter → is_none (slice_index_or l.stores.items n None) ≡ false;
}
