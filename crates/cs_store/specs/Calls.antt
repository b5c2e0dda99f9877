-- The counted calls of a store on one of its files.
use Rattle.std.specs.Prelude.{ℕ, List}

-- what a call does: it looks at the file, writes bytes at an offset, cuts the file to a length, or syncs it
pub data Call : Type 0 where
  looks : Call
  writes : ℕ → List ℕ → Call
  cuts : ℕ → Call
  syncs : Call
