-- The items of a step's log entry stand in the order of their kinds.
use Rattle.std.proofs.Common.{◌≡◌, ℕ, zero, suc, ◌≤◌, ◌<◌, Bool, true, false, List, [], ◌∷◌, ◌++◌, length, get_or, refl, subst, arith}
use Rattle.std.specs.Prelude.{◌==◌, if◌then◌else◌, map, flat_map}
use Rattle.std.specs.List.{AllByRecursion}
use Rattle.row_change.specs.declared.entry.Hint as hint
use Rattle.row_change.specs.declared.entry.LogItem.{LogItem}
use Rattle.changes.specs.declared.Mutation.{Mutation}
use Rattle.row_change.specs.declared.entry.LogItem.TheVariants.{Data, Ceiling}
use Rattle.row_change.specs.Grammar.{kind_of, AreByKind}
use Rattle.peer_messages.specs.declared.message.Body.{Body}
use Rattle.peer_messages.specs.declared.message.Body.TheVariants.{Write, WriteAck, Read, ReadReply, Mend, MendAck, Hint, HintAck}
use Rattle.peer_messages.specs.declared.setting.Setting.{Setting}
use Rattle.node_steps.specs.State.{NodeState}
use Rattle.node_steps.specs.Fitting.{write_fits}
use Rattle.node_steps.specs.Acts.{Act, Rises, Hears, Asks, Marks, DeadlineComes, HintExpires, Deed, is_old}
use Rattle.node_steps.specs.Keeping.{Gone, data_of, data_by, data_in, hints_made, hints_gone, add_item, gone_item, ceiling_in, entry_of}
use Rattle.node_steps.proofs.HintLists.{append_both}

-- ---- lists of one kind

abbrev AreOf : ℕ → List LogItem → Type 0
AreOf n xs = AllByRecursion (λ x. kind_of x ≡ n) xs

both_of : (n : ℕ) (xs ys : List LogItem) → AreOf n xs → AreOf n ys → AreOf n (xs ++ ys)
both_of n [] ys first second = second
both_of n (x ∷ xs) ys first second = (first.0, both_of n xs ys first.1 second)

mend_data : (fits : Bool) (t : ℕ) (m : Mutation) → AreOf 1 (if fits then Data t m ∷ [] else [])
mend_data true t m = (refl, tt)
mend_data false t m = tt

body_data : (c : Setting) (t : ℕ) (b : Body) → AreOf 1 (data_of c t b)
body_data c t (Write m) = (refl, tt)
body_data c t WriteAck = tt
body_data c t (Read q) = tt
body_data c t (ReadReply content) = tt
body_data c t (Mend m) = mend_data (write_fits c m) t m
body_data c t MendAck = tt
body_data c t (Hint number m) = (refl, tt)
body_data c t (HintAck number) = tt

heard_data : (c : Setting) (t : ℕ) (b : Body) (old : Bool) → AreOf 1 (if old then [] else data_of c t b)
heard_data c t b true = tt
heard_data c t b false = body_data c t b

act_data : (c : Setting) (t : ℕ) (a : Act) → AreOf 1 (data_by c t a)
act_data c t (Rises time) = tt
act_data c t (Hears m) = heard_data c t m.body (is_old c t m.born)
act_data c t (Asks ask) = tt
act_data c t (Marks peer up) = tt
act_data c t (DeadlineComes id) = tt
act_data c t (HintExpires peer number) = tt

all_data : (c : Setting) (deeds : List Deed) → AreOf 1 (flat_map (data_in c) deeds)
all_data c [] = tt
all_data c (d ∷ deeds) = both_of 1 (data_in c d) (flat_map (data_in c) deeds) (act_data c d.before.risen d.act) (all_data c deeds)

all_made : (hs : List hint.Hint) → AreOf 3 (map add_item hs)
all_made [] = tt
all_made (h ∷ hs) = (refl, all_made hs)

all_gone : (xs : List Gone) → AreOf 4 (map gone_item xs)
all_gone [] = tt
all_gone (x ∷ xs) = (refl, all_gone xs)

-- ---- one kind behind the other

-- the kinds rise from here
abbrev Rise : ℕ → List LogItem → Type 0
Rise n [] = Unit {0}
Rise n (x ∷ xs) = (n ≤ kind_of x) × Rise (kind_of x) xs

rise_from : (m n : ℕ) (xs : List LogItem) → m ≤ n → Rise n xs → Rise m xs
rise_from m n [] le h = tt
rise_from m n (x ∷ xs) le h = let above = h.0 in (omega (arith, le, above), h.1)

then_rise : (m n : ℕ) (xs ys : List LogItem) → m ≤ n → AreOf n xs → Rise n ys → Rise m (xs ++ ys)
then_rise m n [] ys le of h = rise_from m n ys le h
then_rise m n (x ∷ xs) ys le of h = let is = of.0 in (omega (arith, le, is), then_rise (kind_of x) n xs ys (omega (arith, is)) of.1 h)

ceiling_rises : (b : Bool) (n : ℕ) → Rise 4 (if b then [] else Ceiling n ∷ [])
ceiling_rises true n = tt
ceiling_rises false n = (omega arith, tt)

above_first : (n : ℕ) (xs : List LogItem) → Rise n xs → (i : ℕ) (d : LogItem) → i < length xs → n ≤ kind_of (get_or xs i d)
above_first n [] h i d lt = absurd (omega (arith, lt))
above_first n (x ∷ xs) h zero d lt = h.0
above_first n (x ∷ xs) h (suc i) d lt = let first = h.0 in let rest = above_first (kind_of x) xs h.1 i d (omega (arith, lt)) in omega (arith, first, rest)

in_order : (n : ℕ) (xs : List LogItem) → Rise n xs → (i j : ℕ) (d : LogItem) → i ≤ j → j < length xs → kind_of (get_or xs i d) ≤ kind_of (get_or xs j d)
in_order n [] h i j d le lt = absurd (omega (arith, lt))
in_order n (x ∷ xs) h zero zero d le lt = omega arith
in_order n (x ∷ xs) h zero (suc j) d le lt = above_first (kind_of x) xs h.1 j d (omega (arith, lt))
in_order n (x ∷ xs) h (suc i) zero d le lt = absurd (omega (arith, le))
in_order n (x ∷ xs) h (suc i) (suc j) d le lt = in_order (kind_of x) xs h.1 i j d (omega (arith, le)) (omega (arith, lt))

pub by_kind : (c : Setting) (s : NodeState) (deeds : List Deed) (s' : NodeState) → AreByKind (entry_of c s deeds s')
by_kind c s deeds s' =
    let made = flat_map (hints_made c) deeds in
    let gone = flat_map (hints_gone c) deeds in
    let last : Rise 3 (map gone_item gone ++ ceiling_in s.ceiling s'.ceiling) = then_rise 3 4 (map gone_item gone) _ (omega arith) (all_gone gone) (ceiling_rises (s.ceiling == s'.ceiling) s'.ceiling) in
    let hints : Rise 1 (map add_item made ++ (map gone_item gone ++ ceiling_in s.ceiling s'.ceiling)) = then_rise 1 3 (map add_item made) _ (omega arith) (all_made made) last in
    let grouped : Rise 1 ((map add_item made ++ map gone_item gone) ++ ceiling_in s.ceiling s'.ceiling) = subst (λ (xs : List LogItem). Rise 1 xs) (append_both (map add_item made) (map gone_item gone) (ceiling_in s.ceiling s'.ceiling)) hints in
    in_order 1 (entry_of c s deeds s') (then_rise 1 1 (flat_map (data_in c) deeds) _ (omega arith) (all_data c deeds) grouped)
