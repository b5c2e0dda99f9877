-- How many bytes are counted for a mutation. Of drafts of one place one change stays, which one is seen when the request
-- starts: so drafts of one place that stand together count once, by the longest.
use Rattle.std.specs.Prelude.{◌≡◌, ◌≤◌, ℕ, ◌+◌, Bool, List, [], ◌∷◌, max, nat_lt, sum_by, if◌then◌else◌}
use Rattle.std.specs.Ordering.{eq_by_cmp}
use Rattle.cs_base.specs.declared.ids.ReqId.{ReqId}
use Rattle.changes.specs.declared.Draft.{Draft}
use Rattle.changes.specs.declared.DraftMutation.{DraftMutation}
use Rattle.changes.specs.declared.Place.{Place}
use Rattle.changes.specs.Drafts.{mutation_of}
use Rattle.changes.specs.Lengths.{change_length, mutation_length, partition_length}
use Rattle.changes.specs.Places.{place_cmp}

-- the bytes of the change that any request makes of it
abbrev pub draft_length : Draft → ℕ
draft_length d = change_length d.place d.value

-- behind drafts of the place of which the longest has so many bytes
abbrev pub counted_after : ℕ → Place → List Draft → ℕ
counted_after longest place [] = longest
counted_after longest place (d ∷ rest) =
    if eq_by_cmp place_cmp place d.place
    then counted_after (max longest (draft_length d)) place rest
    else longest + counted_after (draft_length d) d.place rest

abbrev pub counted : List Draft → ℕ
counted [] = 0
counted (d ∷ rest) = counted_after (draft_length d) d.place rest

-- the bytes of all drafts
abbrev pub all_length : DraftMutation → ℕ
all_length m = partition_length m.partition + 4 + sum_by draft_length m.changes

abbrev pub counted_length : DraftMutation → ℕ
counted_length m = partition_length m.partition + 4 + counted m.changes

-- 4 MiB
abbrev pub most_mutation_bytes : ℕ
most_mutation_bytes = 4194304

abbrev pub is_long_mutation : DraftMutation → Bool
is_long_mutation m = nat_lt most_mutation_bytes (counted_length m)

-- whatever request makes a mutation of it, its length is allowed
abbrev pub FitsAlways : DraftMutation → Type 0
FitsAlways m = (request : ReqId) → mutation_length (mutation_of request m) ≤ most_mutation_bytes
