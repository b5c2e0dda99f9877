use Rattle.std.proofs.Common.{◌≡◌, ◌<◌, ◌≤◌, ℕ, vec_len, get_or}
use Rattle.sha2.specs.declared.Sha256.{Sha256}
use Rattle.merkle_tree.specs.Hashing.{AreDigestsFrom}
use Rattle.merkle_tree.proofs.builder.finalize.Given as goal

-- the hashers that are left are the first ones, and the digests of the others are there
abbrev pub invariant-loop-hasher : goal.invariant-loop-hasher
invariant-loop-hasher l =
    record {
      left : (k : ℕ) (d : Sha256) → k < vec_len l.left → get_or l.left.items k d ≡ get_or l.fn.hashers.items k d;
      few : vec_len l.left ≤ vec_len l.digests;
      room : vec_len l.digests ≡ vec_len l.fn.room;
      done : AreDigestsFrom (vec_len l.left) l.fn.hashers.items l.digests.items;
    }

abbrev pub decreases-loop-hasher : goal.decreases-loop-hasher
decreases-loop-hasher l = vec_len l.left
