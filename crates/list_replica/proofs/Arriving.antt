-- When the changes of an entry come.
use Rattle.std.proofs.Common.{◌≡◌, ℕ, List, [], ◌∷◌, ◌++◌, subst}
use Rattle.std.specs.List.{AllByRecursion}
use Rattle.row_change.specs.declared.entry.LogItem.{LogItem}
use Rattle.replica.specs.Kept.{ArrivesAt, ArriveAllAt}

-- whatever the time, it comes then
abbrev pub ComesAnyTime : LogItem → Type 0
ComesAnyTime item = (time : ℕ) → ArrivesAt time item

abbrev pub NoneArrives : List LogItem → Type 0
NoneArrives items = AllByRecursion ComesAnyTime items

pub none_more : (items : List LogItem) (item : LogItem) → NoneArrives items → ComesAnyTime item → NoneArrives (items ++ item ∷ [])
none_more [] item so_far any = (any, tt)
none_more (i ∷ items) item so_far any = (so_far.0, none_more items item so_far.1 any)

pub none_at : (items : List LogItem) (time : ℕ) → NoneArrives items → ArriveAllAt time items
none_at [] time none = tt
none_at (i ∷ items) time none = (none.0 time, none_at items time none.1)

pub arrive_from : (front : List LogItem) (item : LogItem) (rest : List LogItem) (time at : ℕ) → (ArrivesAt time item → time ≡ at) → ArriveAllAt time (front ++ item ∷ rest) → ArriveAllAt at (front ++ item ∷ rest)
arrive_from front item rest time at is all = subst (λ (t : ℕ). ArriveAllAt t (front ++ item ∷ rest)) (is (found front all)) all
  where
    found : (front : List LogItem) → ArriveAllAt time (front ++ item ∷ rest) → ArrivesAt time item
    found [] all = all.0
    found (i ∷ front) all = found front all.1
