-- The laws of what is kept, stated.
use Rattle.std.specs.Prelude.{◌≡◌, ◌↔◌, ℕ, List, ◌∷◌, ◌++◌, map}
use Rattle.changes.specs.declared.Mutation.{Mutation}
use Rattle.row_change.specs.declared.entry.LogItem.{LogItem}
use Rattle.row_change.specs.declared.entry.LogItem.TheVariants.{Data}
use Rattle.durable_state.specs.State.{Durable, IsSameKept, changes_of}
use Rattle.durable_state.specs.Taking.{HasOneArrival, TakesAll, ArriveAt}
use Rattle.durable_state.specs.Keeping.{Commits}

-- Items one after another make one state, but for its order, of what is kept; and each change goes on to have one arrival
abbrev pub WhatIsKeptIsOne : Type 0
WhatIsKeptIsOne =
    (items : List LogItem) (a b a' b' : Durable) → IsSameKept a b → HasOneArrival a.content → Commits items a a' → Commits items b b' → IsSameKept a' b' × HasOneArrival a'.content

-- items one after another are the first ones and then the others
abbrev pub EntriesFollow : Type 0
EntriesFollow = (xs ys : List LogItem) (a c : Durable) → Commits (xs ++ ys) a c ↔ ((b : Durable) × Commits xs a b × Commits ys b c)

-- whatever is kept, items make some state of it
abbrev pub EachEntryMakesAState : Type 0
EachEntryMakesAState = (items : List LogItem) (d : Durable) → (d' : Durable) × Commits items d d'

abbrev pub data_item : ℕ → Mutation → LogItem
data_item time m = Data time m

-- mutations that came at one time are taken in one after another where they are taken in together
abbrev pub DataIsTakenTogether : Type 0
DataIsTakenTogether =
    (time : ℕ) (m : Mutation) (ms : List Mutation) (d d' : Durable) → HasOneArrival d.content
    → TakesAll (changes_of d.content) (m ∷ ms) (changes_of d'.content) → ArriveAt time d.content d'.content → d' ≡ record d { content = d'.content }
    → Commits (map (data_item time) (m ∷ ms)) d d'

abbrev pub KeptIsItself : Type 0
KeptIsItself = (d : Durable) → IsSameKept d d

abbrev pub KeptIsMutual : Type 0
KeptIsMutual = (a b : Durable) → IsSameKept a b → IsSameKept b a

abbrev pub KeptIsPassedOn : Type 0
KeptIsPassedOn = (a b c : Durable) → IsSameKept a b → IsSameKept b c → IsSameKept a c
