use Rattle.std.proofs.Common.{◌≡◌, ℕ, ◌+◌, ◌-◌, ◌^◌, ◌∷◌, drop, min}
use Rattle.mutation_drafts.specs.Counted.{counted, counted_after}
use Rattle.mutation_drafts.proofs.length.counted_from.Given as goal

-- the bytes of the places behind, and the longest of this place so far
abbrev pub invariant-loop-draft : goal.invariant-loop-draft
invariant-loop-draft l =
    (done : ℕ) × (most : ℕ) × (l.before ≡ min done (2 ^ 64 - 1)) × (l.longest ≡ min most (2 ^ 64 - 1))
    × (done + counted_after most l.last.place (drop l.draft-index l.drafts) ≡ counted (l.first ∷ l.drafts))
