-- What a request makes of the changes that a statement asks for: each gets the request's id and start time, and its
-- timestamp is the statement's, or else the start time (the CQL reference, USING TIMESTAMP). Of two changes of one place the
-- one that beats the other is made, and they stand in the order of places.
use Rattle.std.specs.Prelude.{ℕ, ℤ, pos, List, [], ◌∷◌, Option, Some, None, map}
use Rattle.std.specs.declared.cmp.Ordering.{Ordering}
use Rattle.std.specs.declared.cmp.Ordering.TheVariants.{Less, Equal, Greater}
use Rattle.cs_base.specs.declared.ids.ReqId.{ReqId}
use Rattle.changes.specs.declared.Held.{Held}
use Rattle.changes.specs.declared.Draft.{Draft}
use Rattle.changes.specs.declared.DraftMutation.{DraftMutation}
use Rattle.changes.specs.declared.Mutation.{Mutation}
use Rattle.changes.specs.Order.{rank_cmp}
use Rattle.changes.specs.Places.{stored_cmp}

abbrev pub timestamp_of : Option ℤ → ℕ → ℤ
timestamp_of (Some timestamp) time = timestamp
timestamp_of None time = pos time

abbrev pub held_of : ReqId → Draft → Held
held_of request draft =
    record { place = draft.place; value = draft.value; timestamp = timestamp_of draft.timestamp request.time; submitted = request.time; request = request }

-- the one that beats the other
abbrev pub better_by : Ordering → Held → Held → Held
better_by Less x y = y
better_by Equal x y = x
better_by Greater x y = x

abbrev pub better : Held → Held → Held
better x y = better_by (rank_cmp x y) x y

-- x before the changes that stand behind it, in place of one that it beats, or behind y
abbrev pub placed_by : Ordering → Held → Held → List Held → List Held → List Held
placed_by Less x y rest behind = x ∷ y ∷ rest
placed_by Equal x y rest behind = better x y ∷ rest
placed_by Greater x y rest behind = y ∷ behind

abbrev pub placed : Held → List Held → List Held
placed x [] = x ∷ []
placed x (y ∷ rest) = placed_by (stored_cmp x y) x y rest (placed x rest)

-- in the order of places, and of each place the one that beats the others
abbrev pub one_of_each_place : List Held → List Held
one_of_each_place [] = []
one_of_each_place (x ∷ rest) = placed x (one_of_each_place rest)

abbrev pub mutation_of : ReqId → DraftMutation → Mutation
mutation_of request draft = record { partition = draft.partition; changes = one_of_each_place (map (held_of request) draft.changes) }
