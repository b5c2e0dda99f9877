-- The parts of a partition key. Of a key of several columns each part has its length before it in two bytes, the high
-- one first, and a zero byte behind it ("CompositeType").
use Rattle.std.specs.Prelude.{ℕ, zero, suc, ◌+◌, ◌==◌, ◌&&◌, nat_lt, List, [], ◌∷◌, Option, Some, None, if◌then◌else◌, length, slice_index, take, drop}
use Rattle.std.specs.Int.{w16, from_be_bytes}

-- how many bytes the part has, where so many follow, and a zero byte behind them
abbrev pub ended : ℕ → List ℕ → Option ℕ
ended n rest = if nat_lt n (length rest) && slice_index rest n == 0 then Some n else None

-- how many bytes the part at the front has, where a framed part stands there
abbrev pub part_length : List ℕ → Option ℕ
part_length [] = None
part_length (high ∷ []) = None
part_length (high ∷ low ∷ rest) = ended (from_be_bytes w16 (high ∷ low ∷ [])) rest

abbrev pub part_in : List ℕ → Option ℕ → Option (List ℕ)
part_in bytes None = None
part_in bytes (Some n) = Some (take n (drop 2 bytes))

-- what no part stands in front of leaves nothing, so that no later part stands there either
abbrev pub behind_in : List ℕ → Option ℕ → List ℕ
behind_in bytes None = []
behind_in bytes (Some n) = drop (n + 3) bytes

-- the part at the front, and the bytes behind it
abbrev pub first_part : List ℕ → Option (List ℕ)
first_part bytes = part_in bytes (part_length bytes)

abbrev pub behind_part : List ℕ → List ℕ
behind_part bytes = behind_in bytes (part_length bytes)

-- so many framed parts, one behind another
abbrev pub framed_parts : ℕ → List ℕ → List (Option (List ℕ))
framed_parts zero bytes = []
framed_parts (suc n) bytes = first_part bytes ∷ framed_parts n (behind_part bytes)

-- the parts of the key of so many columns; one column's is the whole key
abbrev pub key_parts : ℕ → List ℕ → List (Option (List ℕ))
key_parts count key = if count == 1 then Some key ∷ [] else framed_parts count key
