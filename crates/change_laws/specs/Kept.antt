-- What a content tells of the set that it was made of, and what merging, slicing and purging leave of it.
use Rattle.std.specs.Prelude.{◌≡◌, ◌⊎◌, ◌↔◌, Bool, IsTrue, List, Contains}
use Rattle.changes.specs.declared.Bound.{Bound}
use Rattle.changes.specs.declared.Held.{Held}
use Rattle.changes.specs.Order.{IsDeletion, Covers, Outranks}
use Rattle.changes.specs.Places.{AreInOrder}
use Rattle.changes.specs.Contents.{Either, AreApart, IsReachedBy, IsContent, IsMergeOf, AreSame}
use Rattle.changes.specs.Shown.{IsTop}
use Rattle.changes.specs.Queries.{MeetsBounds, IsSlice}

-- A law of any set is stated of the sets that a test tells
abbrev pub In : (Held → Bool) → Held → Type 0
In test x = IsTrue (test x)

-- of the set, what meets the bounds
abbrev pub Within : Bound → Bound → (Held → Type 0) → Held → Type 0
Within from upto S x = S x × MeetsBounds from upto x.place

-- ---- contents

-- a set has one content, but for its order: so the order of its changes, and how often each comes, don't matter
abbrev pub ContentIsOne : (Held → Type 0) → Type 0
ContentIsOne S = (a b : List Held) → IsContent a S → IsContent b S → AreSame a b

-- the content has just the changes that nothing in the set outranks
abbrev pub ContentIsTops : (Held → Type 0) → Type 0
ContentIsTops S = (kept : List Held) → IsContent kept S → (x : Held) → Contains kept x ↔ IsTop S x

-- merging two contents gives the content of both sets, however they were made
abbrev pub MergeIsOfBoth : (Held → Type 0) → (Held → Type 0) → Type 0
MergeIsOfBoth S T = (a b kept : List Held) → IsContent a S → IsContent b T → IsMergeOf kept a b → IsContent kept (Either S T)

abbrev pub MergeCommutes : Type 0
MergeCommutes = (a b kept : List Held) → IsMergeOf kept a b → IsMergeOf kept b a

-- a content merged with itself is itself
abbrev pub MergeRepeats : Type 0
MergeRepeats = (a : List Held) → AreApart a → IsMergeOf a a a

-- it does not matter which two of three are merged first
abbrev pub MergeAssociates : Type 0
MergeAssociates = (a b c ab bc kept : List Held) → IsMergeOf ab a b → IsMergeOf kept ab c → IsMergeOf bc b c → IsMergeOf kept a bc

-- nothing of the list outranks x
abbrev pub IsNotOutranked : List Held → Held → Type 0
IsNotOutranked kept x = (y : Held) → Contains kept y → Outranks y x → ⊥

-- merging two contents keeps of each the changes that nothing of the other outranks
abbrev pub MergeKeeps : Type 0
MergeKeeps =
    (a b kept : List Held) → AreApart a → AreApart b → IsMergeOf kept a b
    → (x : Held) → Contains kept x ↔ ((Contains a x × IsNotOutranked b x) ⊎ (Contains b x × IsNotOutranked a x))

-- ---- in order

-- a set has one content in the order of places
abbrev pub ContentInOrderIsOne : (Held → Type 0) → Type 0
ContentInOrderIsOne S = (a b : List Held) → IsContent a S → IsContent b S → AreInOrder a → AreInOrder b → a ≡ b

-- lists in order have the same changes exactly where they are equal
abbrev pub SameInOrderAreEqual : Type 0
SameInOrderAreEqual = (a b : List Held) → AreInOrder a → AreInOrder b → AreSame a b ↔ (a ≡ b)

-- two contents have one merge in order
abbrev pub MergeInOrderIsOne : Type 0
MergeInOrderIsOne = (a b kept other : List Held) → IsMergeOf kept a b → IsMergeOf other a b → AreInOrder kept → AreInOrder other → kept ≡ other

-- and a content one slice in order
abbrev pub SliceInOrderIsOne : Type 0
SliceInOrderIsOne =
    (from upto : Bound) (content part other : List Held) → IsSlice from upto content part → IsSlice from upto content other
    → AreInOrder part → AreInOrder other → part ≡ other

-- ---- slices

-- what outranks a change that meets the bounds meets them too
abbrev pub BoundsAreMetAbove : Type 0
BoundsAreMetAbove = (from upto : Bound) (x y : Held) → Outranks x y → MeetsBounds from upto y.place → MeetsBounds from upto x.place

-- the slice of a content is the content of the slice
abbrev pub SliceIsContent : (Held → Type 0) → Type 0
SliceIsContent S = (from upto : Bound) (kept part : List Held) → IsContent kept S → IsSlice from upto kept part → IsContent part (Within from upto S)

-- ---- purges

-- kept are changes of S, apart, which reach each change of S that isn't gone
pub record StandsFor (kept : List Held) (S gone : Held → Type 0) : Type 0 where
  pub within : (x : Held) → Contains kept x → S x
  pub reached : (x : Held) → S x → IsReachedBy kept x ⊎ gone x
  pub apart : AreApart kept

-- left has the changes of kept, but maybe not x
abbrev pub LeavesAllBut : Held → List Held → List Held → Type 0
LeavesAllBut x kept left = ((y : Held) → Contains left y → Contains kept y) × ((y : Held) → Contains kept y → Contains left y ⊎ (y ≡ x))

-- a content stands for its set, with nothing gone, and whatever stands for a set so is its content
abbrev pub ContentStands : (Held → Type 0) → Type 0
ContentStands S = (kept : List Held) → IsContent kept S ↔ StandsFor kept S (λ x. ⊥)

-- for the same set, where more is gone
abbrev pub StandsForSame : (Held → Type 0) → (Held → Type 0) → (Held → Type 0) → (Held → Type 0) → Type 0
StandsForSame S T gone more = (kept : List Held) → ((x : Held) → S x ↔ T x) → ((x : Held) → gone x → more x) → StandsFor kept S gone → StandsFor kept T more

-- with the changes of a further set
abbrev pub StandsForOnto : (Held → Type 0) → (Held → Type 0) → (Held → Type 0) → Type 0
StandsForOnto S T gone = (a kept : List Held) → StandsFor a S gone → IsContent kept (Either (Contains a) T) → StandsFor kept (Either S T) gone

abbrev pub StandsForMerge : (Held → Type 0) → (Held → Type 0) → (Held → Type 0) → Type 0
StandsForMerge S T gone = (a b kept : List Held) → StandsFor a S gone → StandsFor b T gone → IsMergeOf kept a b → StandsFor kept (Either S T) gone

abbrev pub StandsForSlice : (Held → Type 0) → (Held → Type 0) → Type 0
StandsForSlice S gone = (from upto : Bound) (kept part : List Held) → StandsFor kept S gone → IsSlice from upto kept part → StandsFor part (Within from upto S) gone

-- without one deletion, where what it covers is gone
abbrev pub StandsForPurged : (Held → Type 0) → (Held → Type 0) → (Held → Type 0) → Type 0
StandsForPurged S gone more =
    (kept left : List Held) (x : Held) → IsDeletion x → LeavesAllBut x kept left
    → ((y : Held) → gone y → more y) → ((y : Held) → Covers x y → more y) → StandsFor kept S gone → StandsFor left S more
