-- What a source that tells what it has left gives, and what a memory form keeps.
use Rattle.std.specs.Prelude.{◌≡◌, ℕ, ◌+◌, ◌-◌, ◌^◌, ◌≤◌, ◌<◌, min, max, Bool, ◌==◌, List, [], ◌++◌, length, take, drop, Option, Some}
use Rattle.std.specs.List.{list_any}

-- A read of n bytes takes a beginning of what is left. Nothing for a buffer with room is the end
pub record Takes (n : ℕ) (left buffer buffer' : List ℕ) (left' : Option (List ℕ)) : Type 0 where
  pub within : n ≤ length left
  pub bytes : buffer' ≡ take n left ++ drop n buffer
  pub rest : left' ≡ Some (drop n left)
  pub end : n ≡ 0 → 0 < length buffer → left ≡ []

-- a stream in memory: its bytes (left to be read, or written), how many of them a call takes at most, the calls that are
-- to fail, by their number from 1 on, how many calls there were, and how many faults
pub record MemStream : Type 0 where
  pub bytes : List ℕ
  pub most : ℕ
  pub failing : List ℕ
  pub calls : ℕ
  pub faults : ℕ

-- the number of the next call
abbrev pub next_call : MemStream → ℕ
next_call s = min (s.calls + 1) (2 ^ 64 - 1)

-- the next call is listed
abbrev pub fails : MemStream → Bool
fails s = list_any (λ call. call == next_call s) s.failing

-- how much a read into a buffer of n bytes gives: at least one byte where some are left
abbrev pub given_of : MemStream → ℕ → ℕ
given_of s n = min (min (length s.bytes) n) (max s.most 1)
