-- What a pass stands for.
use Rattle.std.specs.Prelude.{ℕ, ◌+◌, ◌-◌, List, [], ◌++◌}
use Rattle.node_lock.specs.Histories.{longer}

pub record PassView (E : Type 0) : Type 0 where
  pub number : ℕ
  -- how many numbers it owns, from its own on
  pub owned : ℕ
  pub seats : ℕ
  -- the beginning of the history that it has seen
  pub seen : List (ℕ × E)
  -- the entries of its calls and of those of the passes that were joined into it
  pub mine : List (ℕ × E)

module _ {E : Type 0} where
  -- the pass with all numbers and seats, which has seen nothing
  abbrev pub opening_view : ℕ → PassView E
  opening_view seats = record { number = 0; owned = seats; seats = seats; seen = []; mine = [] }

  -- what is left of a pass that hands over its last numbers and as many seats
  abbrev pub kept_view : PassView E → ℕ → PassView E
  kept_view v seats = record { number = v.number; owned = v.owned - seats; seats = v.seats - seats; seen = v.seen; mine = v.mine }

  -- the pass that takes them over. It has the first of these numbers, and has seen as much.
  abbrev pub given_view : PassView E → ℕ → PassView E
  given_view v seats = record { number = v.number + (v.owned - seats); owned = seats; seats = seats; seen = v.seen; mine = [] }

  -- a pass into which another was joined: it takes the other's seats, and not its numbers
  abbrev pub joined_view : PassView E → PassView E → PassView E
  joined_view v other = record { number = v.number; owned = v.owned; seats = v.seats + other.seats; seen = longer v.seen other.seen; mine = v.mine ++ other.mine }
