-- The token of a partition key as Cassandra's Murmur3Partitioner gives it: the first half of MurmurHash3_x64_128 with
-- seed 0 (Austin Appleby, MurmurHash3.cpp), but for the tail's bytes, which are sign-extended (Cassandra's MurmurHash.java).
use Rattle.std.specs.Prelude.{ℕ, zero, suc, ◌+◌, ◌-◌, ◌*◌, ◌/◌, ◌%◌, ◌^◌, nat_lt, ◌==◌, if◌then◌else◌, bit_xor, ℤ, pos, negsuc, List, [], ◌∷◌, length, take, drop, slice_index}
use Rattle.std.specs.Int.{w64, cast_signed, rotate_left, from_le_bytes}
use Rattle.token_ring.specs.declared.murmur.Halves.{Halves}

-- 64-bit arithmetic, which wraps
abbrev pub plus : ℕ → ℕ → ℕ
plus a b = (a + b) % 2 ^ 64

abbrev pub times : ℕ → ℕ → ℕ
times a b = (a * b) % 2 ^ 64

-- ---- a word of the key, before it goes into its half

unfoldable pub mixed_first : ℕ → ℕ
mixed_first k = times (rotate_left w64 (times k 0x87c37b91114253d5) 31) 0x4cf5ad432745937f

unfoldable pub mixed_second : ℕ → ℕ
mixed_second k = times (rotate_left w64 (times k 0x4cf5ad432745937f) 33) 0x87c37b91114253d5

-- ---- the blocks of 16 bytes

unfoldable pub first_after : ℕ → ℕ → ℕ → ℕ
first_after first second k = plus (times (plus (rotate_left w64 (bit_xor first (mixed_first k)) 27) second) 5) 0x52dce729

unfoldable pub second_after : ℕ → ℕ → ℕ → ℕ
second_after first second k = plus (times (plus (rotate_left w64 (bit_xor second (mixed_second k)) 31) first) 5) 0x38495ab5

-- the halves after a block, whose words are little-endian
abbrev pub with_block : Halves → List ℕ → Halves
with_block h block =
    let first = first_after h.first h.second (from_le_bytes w64 (take 8 block)) in
    record { first = first; second = second_after first h.second (from_le_bytes w64 (drop 8 block)) }

-- block i of the key
abbrev pub block_at : List ℕ → ℕ → List ℕ
block_at key i = take 16 (drop (16 * i) key)

-- the halves after the first blocks of the key; both begin with the seed, 0
unfoldable pub after_blocks : List ℕ → ℕ → Halves
after_blocks key zero = record { first = 0; second = 0 }
after_blocks key (suc i) = with_block (after_blocks key i) (block_at key i)

-- ---- the tail, the bytes behind the last whole block

-- a byte as a signed number in the two's complement of 64 bits
abbrev pub sign_extended : ℕ → ℕ
sign_extended b = if nat_lt b 128 then b else b + (2 ^ 64 - 2 ^ 8)

-- the exclusive or of the first bytes, each shifted to its place in a word
unfoldable pub tail_word : List ℕ → ℕ → ℕ
tail_word bytes zero = 0
tail_word bytes (suc i) = bit_xor (tail_word bytes i) ((sign_extended (slice_index bytes i) * 2 ^ (8 * i)) % 2 ^ 64)

-- the halves after a tail: where it has at most 8 bytes, the second half stays, since 0 is mixed to 0
abbrev pub with_tail : Halves → List ℕ → Halves
with_tail h tail =
    let low = take 8 tail in
    let high = drop 8 tail in
    record {
      first = bit_xor h.first (mixed_first (tail_word low (length low)));
      second = bit_xor h.second (mixed_second (tail_word high (length high)));
    }

-- ---- the end

-- `fmix64`
unfoldable pub scrambled : ℕ → ℕ
scrambled k =
    let once = times (bit_xor k (k / 2 ^ 33)) 0xff51afd7ed558ccd in
    let twice = times (bit_xor once (once / 2 ^ 33)) 0xc4ceb9fe1a85ec53 in
    bit_xor twice (twice / 2 ^ 33)

-- the first half of the hash of a key of this length
unfoldable pub finished : Halves → ℕ → ℕ
finished h len =
    let first = plus (bit_xor h.first len) (bit_xor h.second len) in
    let second = plus (bit_xor h.second len) first in
    plus (scrambled first) (scrambled second)

abbrev pub hash_of : List ℕ → ℕ
hash_of key =
    let blocks = length key / 16 in
    finished (with_tail (after_blocks key blocks) (drop (16 * blocks) key)) (length key)

-- -2 ^ 63 is the empty key's alone
abbrev pub token_of : List ℕ → ℤ
token_of [] = negsuc (2 ^ 63 - 1)
token_of (b ∷ bs) = let hash = hash_of (b ∷ bs) in if hash == 2 ^ 63 then pos (2 ^ 63 - 1) else cast_signed w64 hash
