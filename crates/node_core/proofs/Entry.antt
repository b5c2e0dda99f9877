-- The entry of a step: it can be written, its changes came at one time, and what it makes of what is kept.
use Rattle.std.proofs.Common.{◌≡◌, inl, ℕ, zero, suc, ◌<◌, ◌≤◌, ◌^◌, Bool, true, false, List, [], ◌∷◌, ◌++◌, length, get_or, refl, sym, ap, subst, arith}
use Rattle.std.specs.Prelude.{◌==◌, if◌then◌else◌}
use Rattle.std.specs.List.{AllByRecursion}
use Rattle.changes.specs.declared.Partition.{Partition}
use Rattle.cs_store.specs.Disk.{Disk}
use Rattle.row_change.specs.declared.entry.LogEntry.{LogEntry}
use Rattle.row_change.specs.declared.entry.LogItem.{LogItem}
use Rattle.row_change.specs.declared.entry.LogItem.TheVariants.{Data, Paxos, HintAdd, HintGone, Ceiling, Mark, Purge}
use Rattle.row_change.specs.Grammar.{kind_of, AreByKind}
use Rattle.row_change.specs.Spelling.{EntryFits, ItemFits}
use Rattle.durable_state.specs.State.{Durable, IsSameKept}
use Rattle.durable_state.specs.Keeping.{Commits, IsWithOrWithout}
use Rattle.node_steps.specs.Keeping.{ceiling_in}
use Rattle.replica.specs.Kept.{ArriveAllAt, ArrivesAt, IsNoPurge, PurgeNothing}
use Rattle.replica.specs.Finding.{AlwaysLeaves, IsSafe}
use Rattle.replica.specs.Lengths.{IsFirstTooLarge}
use Rattle.replica.proofs.Fronts.{leaves_more, leaves_still}
use Rattle.node_core.specs.declared.base.Base.{Base}
use Rattle.node_core.specs.declared.work.Work.{Work}
use Rattle.node_core.specs.Memory.{entry_made}
use Rattle.node_core.specs.Nodes.{HasRoom, OverflowsLog}
use Rattle.node_core.specs.Working.{IsDataAt, IsGone, IsMade, IsSound}

-- ---- by kind: changes, hints that come, hints that go, and then a ceiling

abbrev ceiling_if : Bool → ℕ → List LogItem
ceiling_if same n = if same then [] else Ceiling n ∷ []

all_join : {X : Type 0} (P : X → Type 0) (xs ys : List X) → AllByRecursion P xs → AllByRecursion P ys → AllByRecursion P (xs ++ ys)
all_join {X} P [] ys a b = b
all_join {X} P (x ∷ xs) ys a b = (a.0, all_join P xs ys a.1 b)

all_as : (P Q : LogItem → Type 0) (xs : List LogItem) → ((x : LogItem) → P x → Q x) → AllByRecursion P xs → AllByRecursion Q xs
all_as P Q [] to all = tt
all_as P Q (x ∷ xs) to all = (to x all.0, all_as P Q xs to all.1)

all_ceiling : (P : LogItem → Type 0) (same : Bool) (n : ℕ) → P (Ceiling n) → AllByRecursion P (ceiling_if same n)
all_ceiling P true n last = tt
all_ceiling P false n last = (last, tt)

-- what holds of each kind
entry_all : (P : LogItem → Type 0) (b : Base) (w : Work) (before : ℕ) → ((x : LogItem) → IsDataAt w.time x → P x) → ((x : LogItem) → IsMade x → P x) → ((x : LogItem) → IsGone x → P x) → P (Ceiling w.ceiling) → IsSound b w
    → AllByRecursion P (entry_made before w)
entry_all P b w before came made gone last s =
    all_join P w.taken _ (all_as (IsDataAt w.time) P w.taken came s.taken)
    (all_join P (w.made ++ w.gone) _ (all_join P w.made w.gone (all_as IsMade P w.made made s.made) (all_as IsGone P w.gone gone s.gone)) (all_ceiling P (before == w.ceiling) w.ceiling last))

data_fits : (t : ℕ) (x : LogItem) → IsDataAt t x → ItemFits x
data_fits t (Data arrival m) h = h.1
data_fits t (Paxos p row) h = absurd h
data_fits t (HintAdd hint) h = absurd h
data_fits t (HintGone peer number) h = absurd h
data_fits t (Ceiling n) h = absurd h
data_fits t (Mark m) h = absurd h
data_fits t (Purge x) h = absurd h

data_arrives : (t : ℕ) (x : LogItem) → IsDataAt t x → ArrivesAt t x
data_arrives t (Data arrival m) h = h.0
data_arrives t (Paxos p row) h = absurd h
data_arrives t (HintAdd hint) h = absurd h
data_arrives t (HintGone peer number) h = absurd h
data_arrives t (Ceiling n) h = absurd h
data_arrives t (Mark m) h = absurd h
data_arrives t (Purge x) h = absurd h

data_stays : (t : ℕ) (x : LogItem) → IsDataAt t x → IsNoPurge x
data_stays t (Data arrival m) h = tt
data_stays t (Paxos p row) h = absurd h
data_stays t (HintAdd hint) h = absurd h
data_stays t (HintGone peer number) h = absurd h
data_stays t (Ceiling n) h = absurd h
data_stays t (Mark m) h = absurd h
data_stays t (Purge x) h = absurd h

data_kind : (t : ℕ) (x : LogItem) → IsDataAt t x → kind_of x ≡ 1
data_kind t (Data arrival m) h = refl
data_kind t (Paxos p row) h = absurd h
data_kind t (HintAdd hint) h = absurd h
data_kind t (HintGone peer number) h = absurd h
data_kind t (Ceiling n) h = absurd h
data_kind t (Mark m) h = absurd h
data_kind t (Purge x) h = absurd h

-- of hints, what stands in the entry
record Stands (t n : ℕ) (x : LogItem) : Type 0 where
  pub fits : ItemFits x
  pub arrives : ArrivesAt t x
  pub stays : IsNoPurge x
  pub kind : kind_of x ≡ n

made_stands : (t : ℕ) (x : LogItem) → IsMade x → Stands t 3 x
made_stands t (Data arrival m) h = absurd h
made_stands t (Paxos p row) h = absurd h
made_stands t (HintAdd hint) h = record { fits = h; arrives = tt; stays = tt; kind = refl }
made_stands t (HintGone peer number) h = absurd h
made_stands t (Ceiling n) h = absurd h
made_stands t (Mark m) h = absurd h
made_stands t (Purge x) h = absurd h

gone_stands : (t : ℕ) (x : LogItem) → IsGone x → Stands t 4 x
gone_stands t (Data arrival m) h = absurd h
gone_stands t (Paxos p row) h = absurd h
gone_stands t (HintAdd hint) h = absurd h
gone_stands t (HintGone peer number) h = record { fits = tt; arrives = tt; stays = tt; kind = refl }
gone_stands t (Ceiling n) h = absurd h
gone_stands t (Mark m) h = absurd h
gone_stands t (Purge x) h = absurd h

pub entry_arrives : (b : Base) (w : Work) (entry : List LogItem) (before : ℕ) → entry ≡ entry_made before w → IsSound b w → ArriveAllAt w.time entry
entry_arrives b w entry before is s =
    subst (λ (ys : List LogItem). ArriveAllAt w.time ys) (sym is)
    (entry_all (ArrivesAt w.time) b w before (data_arrives w.time) (λ x h. (made_stands w.time x h).arrives) (λ x h. (gone_stands w.time x h).arrives) tt s)

pub entry_purges : (b : Base) (w : Work) (entry : List LogItem) (before : ℕ) → entry ≡ entry_made before w → IsSound b w → PurgeNothing entry
entry_purges b w entry before is s =
    subst (λ (ys : List LogItem). PurgeNothing ys) (sym is) (entry_all IsNoPurge b w before (data_stays w.time) (λ x h. (made_stands w.time x h).stays) (λ x h. (gone_stands w.time x h).stays) tt s)

-- ---- in the order of kinds

abbrev AreOf : ℕ → List LogItem → Type 0
AreOf n xs = AllByRecursion (λ x. kind_of x ≡ n) xs

-- the kinds rise from here
abbrev Rise : ℕ → List LogItem → Type 0
Rise n [] = Unit {0}
Rise n (x ∷ xs) = (n ≤ kind_of x) × Rise (kind_of x) xs

rise_from : (m n : ℕ) (xs : List LogItem) → m ≤ n → Rise n xs → Rise m xs
rise_from m n [] le h = tt
rise_from m n (x ∷ xs) le h = let above = h.0 in (omega (arith, le, above), h.1)

then_rise : (m n : ℕ) (xs ys : List LogItem) → m ≤ n → AreOf n xs → Rise n ys → Rise m (xs ++ ys)
then_rise m n [] ys le of h = rise_from m n ys le h
then_rise m n (x ∷ xs) ys le of h = let is = of.0 in (omega (arith, le, is), then_rise (kind_of x) n xs ys (omega (arith, is)) of.1 h)

ceiling_rises : (b : Bool) (n : ℕ) → Rise 4 (ceiling_if b n)
ceiling_rises true n = tt
ceiling_rises false n = (omega arith, tt)

above_first : (n : ℕ) (xs : List LogItem) → Rise n xs → (i : ℕ) (d : LogItem) → i < length xs → n ≤ kind_of (get_or xs i d)
above_first n [] h i d lt = absurd (omega (arith, lt))
above_first n (x ∷ xs) h zero d lt = h.0
above_first n (x ∷ xs) h (suc i) d lt = let first = h.0 in let rest = above_first (kind_of x) xs h.1 i d (omega (arith, lt)) in omega (arith, first, rest)

in_order : (n : ℕ) (xs : List LogItem) → Rise n xs → (i j : ℕ) (d : LogItem) → i ≤ j → j < length xs → kind_of (get_or xs i d) ≤ kind_of (get_or xs j d)
in_order n [] h i j d le lt = absurd (omega (arith, lt))
in_order n (x ∷ xs) h zero zero d le lt = omega arith
in_order n (x ∷ xs) h zero (suc j) d le lt = above_first (kind_of x) xs h.1 j d (omega (arith, lt))
in_order n (x ∷ xs) h (suc i) zero d le lt = absurd (omega (arith, le))
in_order n (x ∷ xs) h (suc i) (suc j) d le lt = in_order (kind_of x) xs h.1 i j d (omega (arith, le)) (omega (arith, lt))

append_both : {X : Type 0} (xs ys zs : List X) → xs ++ (ys ++ zs) ≡ (xs ++ ys) ++ zs
append_both {X} [] ys zs = refl
append_both {X} (x ∷ xs) ys zs = ap (λ (rest : List X). x ∷ rest) (append_both xs ys zs)

by_kind : (b : Base) (w : Work) (before : ℕ) → IsSound b w → AreByKind (entry_made before w)
by_kind b w before s =
    let last : Rise 3 (w.gone ++ ceiling_in before w.ceiling) =
    then_rise 3 4 w.gone _ (omega arith) (all_as IsGone (λ x. kind_of x ≡ 4) w.gone (λ x h. (gone_stands w.time x h).kind) s.gone) (ceiling_rises (before == w.ceiling) w.ceiling) in
    let hints : Rise 1 (w.made ++ (w.gone ++ ceiling_in before w.ceiling)) = then_rise 1 3 w.made _ (omega arith) (all_as IsMade (λ x. kind_of x ≡ 3) w.made (λ x h. (made_stands w.time x h).kind) s.made) last in
    let grouped : Rise 1 ((w.made ++ w.gone) ++ ceiling_in before w.ceiling) = subst (λ (xs : List LogItem). Rise 1 xs) (append_both w.made w.gone (ceiling_in before w.ceiling)) hints in
    in_order 1 (entry_made before w) (then_rise 1 1 w.taken _ (omega arith) (all_as (IsDataAt w.time) (λ x. kind_of x ≡ 1) w.taken (data_kind w.time) s.taken) grouped)

pub entry_fits : (b : Base) (w : Work) (entry : LogEntry) (before : ℕ) → entry.items ≡ entry_made before w → length entry.items < 2 ^ 32 → IsSound b w → EntryFits entry
entry_fits b w entry before is few s = record {
  count = few;
  each = subst (λ (ys : List LogItem). AllByRecursion ItemFits ys) (sym is) (entry_all ItemFits b w before (data_fits w.time) (λ x h. (made_stands w.time x h).fits) (λ x h. (gone_stands w.time x h).fits) tt s);
  order = subst (λ (ys : List LogItem). AreByKind ys) (sym is) (by_kind b w before s);
}

-- ---- under the entry's own name

pub commits_as : (xs ys : List LogItem) (d d' : Durable) → xs ≡ ys → Commits xs d d' → Commits ys d d'
commits_as xs ys d d' is h = subst (λ (zs : List LogItem). Commits zs d d') is h

pub moment_as : (st : (ℕ → List ℕ) → Durable → Type 0) (xs ys : List LogItem) (d : Durable) (old new : Disk) → xs ≡ ys → AlwaysLeaves st (IsWithOrWithout xs d) old new → AlwaysLeaves st (IsWithOrWithout ys d) old new
moment_as st xs ys d old new is h = subst (λ (zs : List LogItem). AlwaysLeaves st (IsWithOrWithout zs d) old new) is h

pub large_as : (xs ys : List LogItem) (d : Durable) (p : Partition) → xs ≡ ys → IsFirstTooLarge xs d p → IsFirstTooLarge ys d p
large_as xs ys d p is h = subst (λ (zs : List LogItem). IsFirstTooLarge zs d p) is h

pub overflow_as : (n : ℕ) (d : Durable) (xs ys : List LogItem) → xs ≡ ys → OverflowsLog n d xs → OverflowsLog n d ys
overflow_as n d xs ys is h = subst (λ (zs : List LogItem). OverflowsLog n d zs) is h

pub room_as : (n : ℕ) (d : Durable) (xs ys : List LogItem) → xs ≡ ys → HasRoom n d xs → HasRoom n d ys
room_as n d xs ys is h = subst (λ (zs : List LogItem). HasRoom n d zs) is h

-- where nothing was called
pub still_with : (st : (ℕ → List ℕ) → Durable → Type 0) (xs : List LogItem) (d : Durable) (disk : Disk) → IsSafe st d disk → AlwaysLeaves st (IsWithOrWithout xs d) disk disk
still_with st xs d disk safe = leaves_more st (IsSameKept d) (IsWithOrWithout xs d) disk disk (λ x same. inl same) (leaves_still st d disk safe)
