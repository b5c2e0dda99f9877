-- Bytes that begin with a time compare by the time, and then by what follows it.
use Rattle.std.proofs.Common.{◌≡◌, ℕ, ◌<◌, ◌^◌, List, ◌++◌, arith}
use Rattle.std.specs.Int.{w64, to_be_bytes}
use Rattle.std.specs.Ordering.{nat_cmp, ordering_then}
use Rattle.std.specs.Cmp.Lexicographic.{slice_cmp}
use Rattle.cql_values.proofs.Comparing.{word_cmp-append, word_cmp-bytes}

pub by_time : (s t : ℕ) (a b : List ℕ) → s < 2 ^ 64 → t < 2 ^ 64
    → slice_cmp nat_cmp (to_be_bytes w64 s ++ a) (to_be_bytes w64 t ++ b) ≡ ordering_then (nat_cmp s t) (slice_cmp nat_cmp a b)
by_time s t a b small_s small_t =
    word_cmp-append (to_be_bytes w64 s) (to_be_bytes w64 t) a b (nat_cmp s t) (word_cmp-bytes 8 s t (omega arith) (omega arith))
