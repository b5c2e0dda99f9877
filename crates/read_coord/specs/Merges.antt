-- The merge of a read's replies, which is mostly the content of the first.
use Rattle.std.specs.Prelude.{◌≡◌, Bool, true, false, List, [], ◌∷◌, Option, Some, None}
use Rattle.std.specs.List.{list_all}
use Rattle.changes.specs.declared.Held.{Held}
use Rattle.node_steps.specs.State.{Replied}
use Rattle.node_steps.specs.Reads.{is_same}

abbrev pub first_content : List Replied → List Held
first_content [] = []
first_content (x ∷ xs) = x.content

-- the first reply, if there is one, is this content
abbrev pub begins_with : List Replied → List Held → Bool
begins_with [] content = true
begins_with (x ∷ xs) content = is_same x.content content

abbrev pub merged_of : Option (List Held) → List Replied → List Held
merged_of None replies = first_content replies
merged_of (Some merged) replies = merged

-- each reply is this content
abbrev pub agrees : List Replied → List Held → Bool
agrees replies content = list_all (λ (x : Replied). is_same x.content content) replies

-- a merge of its own is kept where the replies are not all the same
abbrev pub IsKept : Option (List Held) → List Replied → Type 0
IsKept None replies = agrees replies (first_content replies) ≡ true
IsKept (Some merged) replies = (content : List Held) → agrees replies content ≡ false
