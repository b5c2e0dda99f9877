-- The racing inserts: each event is allowed by those before it.
use Rattle.std.proofs.Common.{◌≡◌, ◌⊎◌, inl, inr, ℕ, ◌+◌, ◌*◌, ◌<◌, ◌≤◌, ◌==◌, ◌||◌, Bool, true, false, List, [], ◌∷◌, refl, sym, ap, subst, arith, ◌∙◌, Contains, eqb-true, eq-eqb}
use Rattle.std.specs.Prelude.{Option, Some, None, pos, map, count_by, cond, nat_lt, if◌then◌else◌}
use Rattle.std.proofs.lemmas.List.Sums.{sum_by-cons}
use Rattle.cs_base.specs.declared.ids.ReqId.{ReqId}
use Rattle.cs_base.specs.Requests.{is_request}
use Rattle.cs_base.proofs.Members.{contains_nil, contains_cases, contains_one, contains_from_map}
use Rattle.changes.specs.declared.Place.TheVariants.{Cell, Marker}
use Rattle.changes.specs.declared.Held.{Held}
use Rattle.changes.specs.Order.{Outranks}
use Rattle.changes.specs.Contents.{AreApart, IsContent}
use Rattle.change_laws.proofs.Outranking.{Outranks_irrefl}
use Rattle.single_copy.specs.Maps.{empty_map, Slot, InCell, AtMarker, seen, IsMapOf}
use Rattle.single_copy.specs.Example.{row, column, insert, read, is_row, map_with}
use Rattle.single_copy.proofs.ContentMaps.{map_of, content_map}
use Rattle.single_copy.proofs.SameMaps.{map_same}
use Rattle.single_copy.proofs.Example.{a_row_is_inserted_once}
use Rattle.paxos_history.specs.Protocol.{Event, Asked, Promised, Proposed, ProposedAgain, Accepted, Refused, Committed, Told, Result, Ever, Member, IsQuorum, IsPromise, IsProposal, IsOwnProposal, IsAcceptance, IsRefusal, Chosen, Taken, Gathered, Lawful, proposed_at}
use Rattle.paxos_history.specs.Serial.{accepts, is_chosen, carried, with_chosen, chosen_requests}
use Rattle.paxos_history.specs.Example.{setup, first, second, third, first_result, second_result, third_result, content, race, first_told, second_told, example, RacingInserts}
use Rattle.paxos_history.proofs.Histories.{quorums_meet}
use Rattle.paxos_history.proofs.ChosenOrder.{accepts_from, is_request_from}

-- ---- what a list of events has not, and what all such events of it have

abbrev proposes : ℕ → List Event → Bool
proposes b [] = false
proposes b (Proposed x c r y t ∷ h) = (x == b) || proposes b h
proposes b (ProposedAgain x a ∷ h) = (x == b) || proposes b h
proposes b (_ ∷ h) = proposes b h

or_false : (a b : Bool) → (a || b) ≡ false → (a ≡ false) × (b ≡ false)
or_false true b e = cc
or_false false b e = (refl, e)

not_true : (a : Bool) → a ≡ true → a ≡ false → ⊥
not_true a t f = let e = sym t ∙ f in cc

not_proposed : (b : ℕ) (h : List Event) → proposes b h ≡ false → Ever (IsProposal b) h → ⊥
not_proposed b [] e was = was
not_proposed b (Proposed x c r y t ∷ h) e (inl is) = not_true (x == b) (eq-eqb x b is) (or_false (x == b) (proposes b h) e).0
not_proposed b (Proposed x c r y t ∷ h) e (inr was) = not_proposed b h (or_false (x == b) (proposes b h) e).1 was
not_proposed b (ProposedAgain x a ∷ h) e (inl is) = not_true (x == b) (eq-eqb x b is) (or_false (x == b) (proposes b h) e).0
not_proposed b (ProposedAgain x a ∷ h) e (inr was) = not_proposed b h (or_false (x == b) (proposes b h) e).1 was
not_proposed b (_ ∷ h) e (inl is) = elim is [ ]
not_proposed b (_ ∷ h) e (inr was) = not_proposed b h e was

abbrev proposes_for : ReqId → List Event → Bool
proposes_for r [] = false
proposes_for r (Proposed x c q y t ∷ h) = is_request q r || proposes_for r h
proposes_for r (_ ∷ h) = proposes_for r h

not_proposed_for : (r : ReqId) (h : List Event) → proposes_for r h ≡ false → (b c : ℕ) (y : Result) (t : List ℕ) → Ever (IsOwnProposal b c r y t) h → ⊥
not_proposed_for r [] e b c y t was = was
not_proposed_for r (Proposed x d q z u ∷ h) e b c y t (inl is) = not_true (is_request q r) (is_request_from q r is.2) (or_false (is_request q r) (proposes_for r h) e).0
not_proposed_for r (Proposed x d q z u ∷ h) e b c y t (inr was) = not_proposed_for r h (or_false (is_request q r) (proposes_for r h) e).1 b c y t was
not_proposed_for r (_ ∷ h) e b c y t (inl is) = elim is [ ]
not_proposed_for r (_ ∷ h) e b c y t (inr was) = not_proposed_for r h e b c y t was

-- so no earlier proposal of it has to be refused
none_to_refuse : (r : ReqId) (h : List Event) → proposes_for r h ≡ false → (b c : ℕ) (y : Result) (t : List ℕ) → Ever (IsOwnProposal b c r y t) h → (n : ℕ) → Member n t → Ever (IsRefusal n b) h
none_to_refuse r h e b c y t was = absurd (not_proposed_for r h e b c y t was)

not_accepted : (n b : ℕ) (h : List Event) → accepts n b h ≡ false → Ever (IsAcceptance n b) h → ⊥
not_accepted n b h e was = not_true (accepts n b h) (accepts_from n b h was) e

-- each promise of the list is such
abbrev EachPromise : (ℕ → ℕ → ℕ → ℕ → List Held → Type 0) → List Event → Type 0
EachPromise P [] = Unit {0}
EachPromise P (Promised n b a c s ∷ h) = P n b a c s × EachPromise P h
EachPromise P (_ ∷ h) = EachPromise P h

each_promise : (P : ℕ → ℕ → ℕ → ℕ → List Held → Type 0) (h : List Event) (n b a c : ℕ) (s : List Held) → EachPromise P h → Ever (IsPromise n b a c s) h → P n b a c s
each_promise P [] n b a c s each was = elim was [ ]
each_promise P (Promised m x y z t ∷ h) n b a c s each (inl is) =
    subst (λ v. P n b a c v) is.4 (subst (λ v. P n b a v t) is.3 (subst (λ v. P n b v z t) is.2 (subst (λ v. P n v y z t) is.1 (subst (λ v. P v x y z t) is.0 each.0))))
each_promise P (Promised m x y z t ∷ h) n b a c s each (inr was) = each_promise P h n b a c s each.1 was
each_promise P (_ ∷ h) n b a c s each (inl is) = elim is [ ]
each_promise P (_ ∷ h) n b a c s each (inr was) = each_promise P h n b a c s each was

abbrev Carries : ℕ → List Held → ℕ → ℕ → ℕ → ℕ → List Held → Type 0
Carries b s n x a c t = x ≡ b → t ≡ s

-- the replica is a target of each own proposal of the ballot
abbrev EachReaches : ℕ → ℕ → List Event → Type 0
EachReaches n b [] = Unit {0}
EachReaches n b (Proposed x c r y t ∷ h) = (x ≡ b → Member n t) × EachReaches n b h
EachReaches n b (_ ∷ h) = EachReaches n b h

reaches : (n b : ℕ) (h : List Event) → EachReaches n b h → (c : ℕ) (r : ReqId) (y : Result) (t : List ℕ) → Ever (IsOwnProposal b c r y t) h → Member n t
reaches n b [] each c r y t was = elim was [ ]
reaches n b (Proposed x d q z u ∷ h) each c r y t (inl is) = subst (λ v. Member n v) is.4 (each.0 is.0)
reaches n b (Proposed x d q z u ∷ h) each c r y t (inr was) = reaches n b h each.1 c r y t was
reaches n b (_ ∷ h) each c r y t (inl is) = elim is [ ]
reaches n b (_ ∷ h) each c r y t (inr was) = reaches n b h each c r y t was

other : (x b : ℕ) → (x == b) ≡ false → x ≡ b → ⊥
other x b e same = not_true (x == b) (eq-eqb x b same) e

-- ---- two of three

or_either : (a b : Bool) → (a || b) ≡ true → (a ≡ true) ⊎ (b ≡ true)
or_either true b e = inl refl
or_either false b e = inr e

abbrev of_two : ℕ → ℕ → ℕ → Bool
of_two n m k = (k == n) || (k == m)

one_of_two : (n m k : ℕ) → of_two n m k ≡ true → (n ≡ k) ⊎ (m ≡ k)
one_of_two n m k is = elim (or_either (k == n) (k == m) is) [ inl e ↦ inl (sym (eqb-true k n e)) | inr e ↦ inr (sym (eqb-true k m e)) ]

count_three : (q : ℕ → Bool) → count_by q (0 ∷ 1 ∷ 2 ∷ []) ≡ cond (q 0) 1 0 + (cond (q 1) 1 0 + cond (q 2) 1 0)
count_three q =
    let a = sum_by-cons (λ x. cond (q x) 1 0) 0 (1 ∷ 2 ∷ []) in
    let b = sum_by-cons (λ x. cond (q x) 1 0) 1 (2 ∷ []) in
    let c = sum_by-cons (λ x. cond (q x) 1 0) 2 [] in
    let d : count_by q [] ≡ 0 = refl in
    omega arith

big01 : IsQuorum setup (of_two 0 1)
big01 = let e : count_by (of_two 0 1) (0 ∷ 1 ∷ 2 ∷ []) ≡ 2 = count_three (of_two 0 1) in omega arith

big02 : IsQuorum setup (of_two 0 2)
big02 = let e : count_by (of_two 0 2) (0 ∷ 1 ∷ 2 ∷ []) ≡ 2 = count_three (of_two 0 2) in omega arith

big12 : IsQuorum setup (of_two 1 2)
big12 = let e : count_by (of_two 1 2) (0 ∷ 1 ∷ 2 ∷ []) ≡ 2 = count_three (of_two 1 2) in omega arith

two_chose : (n m b : ℕ) (h : List Event) → IsQuorum setup (of_two n m) → Ever (IsAcceptance n b) h → Ever (IsAcceptance m b) h → Chosen setup b h
two_chose n m b h big p q = (
  of_two n m,
  big,
  λ k is. elim (one_of_two n m k is) [
    | inl e ↦ subst (λ z. Ever (IsAcceptance z b) h) e p
    | inr e ↦ subst (λ z. Ever (IsAcceptance z b) h) e q
  ],
)

two_promised : (b c a d : ℕ) (s t : List Held) (h : List Event) → Ever (IsPromise 0 b a c s) h → a ≤ c → Ever (IsPromise 1 b d c t) h → d ≤ c → (k : ℕ) → of_two 0 1 k ≡ true
    → (x : ℕ) × (u : List Held) × Ever (IsPromise k b x c u) h × (x ≤ c)
two_promised b c a d s t h p le q le' k is = elim (one_of_two 0 1 k is) [
  | inl e ↦ (a, s, subst (λ z. Ever (IsPromise z b a c s) h) e p, le)
  | inr e ↦ (d, t, subst (λ z. Ever (IsPromise z b d c t) h) e q, le')
]

two_accepted : (b newest a c x d : ℕ) (s t : List Held) (h : List Event) → Ever (IsPromise 0 b a c s) h → a ≤ newest → c < newest → Ever (IsPromise 1 b x d t) h → x ≤ newest → d < newest
    → (k : ℕ) → of_two 0 1 k ≡ true → (y : ℕ) × (z : ℕ) × (u : List Held) × Ever (IsPromise k b y z u) h × (y ≤ newest) × (z < newest)
two_accepted b newest a c x d s t h p le lt q le' lt' k is = elim (one_of_two 0 1 k is) [
  | inl e ↦ (a, c, s, subst (λ z. Ever (IsPromise z b a c s) h) e p, le, lt)
  | inr e ↦ (x, d, t, subst (λ z. Ever (IsPromise z b x d t) h) e q, le', lt')
]

-- ---- contents

held_none : (S : Held → Type 0) → ((x : Held) → S x → ⊥) → IsContent [] S
held_none S none = record { within = λ x is. absurd (contains_nil x is); reached = λ x s. absurd (none x s); apart = λ x y is. absurd (contains_nil x is) }

held_all : (xs : List Held) (S : Held → Type 0) → AreApart xs → ((x : Held) → Contains xs x → S x) → ((x : Held) → S x → Contains xs x) → IsContent xs S
held_all xs S apart to from = record { within = to; reached = λ x s. inl (from x s); apart = apart }

gathered : (b c a : ℕ) (s : List Held) (h : List Event) → AreApart s → Ever (IsPromise 0 b a c s) h → EachPromise (Carries b s) h → IsContent s (Gathered (of_two 0 1) b c h)
gathered b c a s h apart p each = held_all s (Gathered (of_two 0 1) b c h) apart
    (λ x is. (0, a, s, refl, p, is))
    (λ x g. subst (λ z. Contains z x) (each_promise (Carries b s) h g.0 b g.1 c g.2 each g.4 refl) g.5)

none_apart : AreApart []
none_apart x y is = absurd (contains_nil x is)

abbrev marker : Held
marker = record { place = Marker row; value = Some []; timestamp = pos 17; submitted = 17; request = first }

abbrev cell : Held
cell = record { place = Cell row column; value = Some (5 ∷ []); timestamp = pos 17; submitted = 17; request = first }

content_is : content ≡ marker ∷ cell ∷ []
content_is = refl

content_apart : AreApart content
content_apart x y is is' over = go (cases x is) (cases y is')
  where
    cases : (z : Held) → Contains content z → (marker ≡ z) ⊎ (cell ≡ z)
    cases z has = elim (contains_cases marker (cell ∷ []) z (subst (λ xs. Contains xs z) content_is has)) [ inl e ↦ inl e | inr r ↦ inr (contains_one cell z r) ]

    marker_cell : Outranks marker cell → ⊥
    marker_cell (inl beats) = let e = beats.0 in cc
    marker_cell (inr covers) = covers.0.0

    cell_marker : Outranks cell marker → ⊥
    cell_marker (inl beats) = let e = beats.0 in cc
    cell_marker (inr covers) = let e = covers.0.0 in cc

    go : (marker ≡ x) ⊎ (cell ≡ x) → (marker ≡ y) ⊎ (cell ≡ y) → ⊥
    go (inl p) (inl q) = Outranks_irrefl x (subst (λ z. Outranks x z) (sym q ∙ p) over)
    go (inl p) (inr q) = marker_cell (subst (λ z. Outranks z cell) (sym p) (subst (λ z. Outranks x z) (sym q) over))
    go (inr p) (inl q) = cell_marker (subst (λ z. Outranks z marker) (sym p) (subst (λ z. Outranks x z) (sym q) over))
    go (inr p) (inr q) = Outranks_irrefl x (subst (λ z. Outranks x z) (sym q ∙ p) over)

empty_shows : IsMapOf [] empty_map
empty_shows = content_map [] none_apart

marker_twice : (t : Bool) → ◌≡◌ {A = Option (List ℕ)} (if (if t then true else false) then Some [] else None) (if t then Some [] else None)
marker_twice true = refl
marker_twice false = refl

same_slots : (k : Slot) → seen (map_of (marker ∷ cell ∷ [])) k ≡ seen (map_with 5) k
same_slots (InCell r c) = refl
same_slots (AtMarker r) = marker_twice (is_row r)

content_shows : IsMapOf content (map_with 5)
content_shows =
    subst (λ xs. IsMapOf xs (map_with 5)) (sym content_is)
    (subst (λ m. IsMapOf (marker ∷ cell ∷ []) m) (map_same (map_of (marker ∷ cell ∷ [])) (map_with 5) same_slots)
    (content_map (marker ∷ cell ∷ []) (subst AreApart content_is content_apart)))

-- what replicas took of the two commits

either_two : {A B C : Type 0} → (A × C) ⊎ ((B × C) ⊎ ⊥) → C
either_two (inl p) = p.1
either_two (inr (inl p)) = p.1
either_two (inr (inr n)) = absurd n

behind_two : {A B C D : Type 0} → (C → ⊥) → (A × C) ⊎ ((B × C) ⊎ D) → D
behind_two none (inl p) = absurd (none p.1)
behind_two none (inr (inl p)) = absurd (none p.1)
behind_two none (inr (inr d)) = d

-- the second request was not applied, and changes nothing
no_changes : (x : Held) → Contains (map (proposed_at 25 second) []) x → ⊥
no_changes x is = contains_nil (contains_from_map (proposed_at 25 second) [] x is).0 (contains_from_map (proposed_at 25 second) [] x is).1

-- ---- the history, piece by piece

abbrev one_promised : List Event
one_promised = Promised 1 8 0 0 [] ∷ Promised 0 8 0 0 [] ∷ Asked second (insert 6) ∷ Asked first (insert 5) ∷ []

abbrev one_proposed : List Event
one_proposed = Proposed 8 0 first first_result (0 ∷ 1 ∷ 2 ∷ []) ∷ one_promised

abbrev one_again : List Event
one_again = ProposedAgain 17 8 ∷ race

abbrev one_refused : List Event
one_refused = Refused 1 8 ∷ one_again

abbrev one_told : List Event
one_told = Told first first_result ∷ Accepted 2 8 ∷ one_refused

abbrev one_chosen : List Event
one_chosen = Accepted 1 17 ∷ Accepted 0 17 ∷ one_told

abbrev two_promises : List Event
two_promises = Promised 1 25 17 17 content ∷ Promised 0 25 17 17 content ∷ first_told

abbrev two_proposed : List Event
two_proposed = Proposed 25 17 second second_result (0 ∷ 1 ∷ []) ∷ two_promises

abbrev two_chosen : List Event
two_chosen = Accepted 1 25 ∷ Accepted 0 25 ∷ two_proposed

abbrev two_told : List Event
two_told = Told second second_result ∷ two_chosen

abbrev three_promises : List Event
three_promises = Promised 1 34 25 25 content ∷ Promised 0 34 25 25 content ∷ Asked third read ∷ second_told

abbrev three_proposed : List Event
three_proposed = Proposed 34 25 third third_result (0 ∷ 1 ∷ []) ∷ three_promises

abbrev three_chosen : List Event
three_chosen = Accepted 1 34 ∷ Accepted 0 34 ∷ three_proposed

-- ---- the race

race_lawful : Lawful setup race
race_lawful = (
  (
    (
      (
        (
          (
            ((tt, tt), tt),
            record { above = omega arith; accepts = refl; commits = refl; holds = held_none (Taken 0 (Asked second (insert 6) ∷ Asked first (insert 5) ∷ [])) (λ x t. t) },
          ),
          record { above = omega arith; accepts = refl; commits = refl; holds = held_none (Taken 1 (Promised 0 8 0 0 [] ∷ Asked second (insert 6) ∷ Asked first (insert 5) ∷ [])) (λ x t. t) },
        ),
        record {
          unused = not_proposed 8 one_promised refl;
          positive = omega arith;
          asked = inr (inr (inr (inl (refl, refl))));
          dead = none_to_refuse first one_promised refl;
          quorum = of_two 0 1;
          big = big01;
          promises = two_promised 8 0 0 0 [] [] one_promised (inr (inl (refl, refl, refl, refl, refl))) (omega arith) (inl (refl, refl, refl, refl, refl)) (omega arith);
          content = [];
          merged = gathered 8 0 0 [] one_promised none_apart (inr (inl (refl, refl, refl, refl, refl))) (λ e. refl, (λ e. refl, tt));
          shown = empty_map;
          shows = empty_shows;
          computed = (a_row_is_inserted_once 5 6).0.0;
        },
      ),
      record { above = omega arith; proposed = inl refl; target = reaches 0 8 one_proposed (λ e. inl refl, tt) },
    ),
    record { above = omega arith; accepts = refl; commits = refl; holds = held_none (Taken 0 (Accepted 0 8 ∷ one_proposed)) (λ x t. t) },
  ),
  record { above = omega arith; accepts = refl; commits = refl; holds = held_none (Taken 1 (Promised 0 17 8 0 [] ∷ Accepted 0 8 ∷ one_proposed)) (λ x t. t) },
)

first_told_lawful : Lawful setup first_told
first_told_lawful = (
  (
    (
      (
        (
          (
            (
              (
                race_lawful,
                record {
                  unused = not_proposed 17 race refl;
                  positive = omega arith;
                  quorum = of_two 0 1;
                  big = big01;
                  promises = two_accepted 17 8 8 0 0 0 [] [] race (inr (inl (refl, refl, refl, refl, refl))) (omega arith) (omega arith) (inl (refl, refl, refl, refl, refl)) (omega arith) (omega arith);
                  witness = (0, 0, [], inr (inl (refl, refl, refl, refl, refl)));
                },
              ),
              record { below = omega arith; never = not_accepted 1 8 one_again refl },
            ),
            record { above = omega arith; proposed = inr (inr (inr (inr (inr (inl refl))))); target = reaches 2 8 one_refused (λ e. inr (inr (inl refl)), tt) },
          ),
          (8, 0, 0 ∷ 1 ∷ 2 ∷ [], inr (inr (inr (inr (inr (inr (inl (refl, refl, refl, refl, refl))))))), two_chose 0 2 8 (Accepted 2 8 ∷ one_refused) big02 (inr (inr (inr (inr (inr (inl (refl, refl))))))) (inl (refl, refl))),
        ),
        record { above = omega arith; proposed = inr (inr (inr (inl refl))); target = reaches 0 17 one_told (λ e. inl refl, tt) },
      ),
      record { above = omega arith; proposed = inr (inr (inr (inr (inl refl)))); target = reaches 1 17 (Accepted 0 17 ∷ one_told) (λ e. inr (inl refl), tt) },
    ),
    two_chose 0 1 17 one_chosen big01 (inr (inl (refl, refl))) (inl (refl, refl)),
  ),
  two_chose 0 1 17 (Committed 0 17 ∷ one_chosen) big01 (inr (inr (inl (refl, refl)))) (inr (inl (refl, refl))),
)

second_told_lawful : Lawful setup second_told
second_told_lawful = (
  (
    (
      (
        (
          (
            (
              (
                first_told_lawful,
                record { above = omega arith; accepts = refl; commits = refl; holds = held_all content (Taken 0 first_told) content_apart (λ x is. inr (inl (refl, is))) (λ x t. either_two t) },
              ),
              record { above = omega arith; accepts = refl; commits = refl; holds = held_all content (Taken 1 (Promised 0 25 17 17 content ∷ first_told)) content_apart (λ x is. inl (refl, is)) (λ x t. either_two t) },
            ),
            record {
              unused = not_proposed 25 two_promises refl;
              positive = omega arith;
              asked = inr (inr (inr (inr (inr (inr (inr (inr (inr (inr (inr (inr (inr (inr (inr (inr (inl (refl, refl)))))))))))))))));
              dead = none_to_refuse second two_promises refl;
              quorum = of_two 0 1;
              big = big01;
              promises = two_promised 25 17 17 17 content content two_promises (inr (inl (refl, refl, refl, refl, refl))) (omega arith) (inl (refl, refl, refl, refl, refl)) (omega arith);
              content = content;
              merged = gathered 25 17 17 content two_promises content_apart (inr (inl (refl, refl, refl, refl, refl))) (λ e. refl, (λ e. refl, (λ e. absurd (other 17 25 refl e), (λ e. absurd (other 17 25 refl e), (λ e. absurd (other 8 25 refl e), (λ e. absurd (other 8 25 refl e), tt))))));
              shown = map_with 5;
              shows = content_shows;
              computed = (a_row_is_inserted_once 5 6).1.0;
            },
          ),
          record { above = omega arith; proposed = inl refl; target = reaches 0 25 two_proposed (λ e. inl refl, (λ e. inl refl, tt)) },
        ),
        record { above = omega arith; proposed = inr (inl refl); target = reaches 1 25 (Accepted 0 25 ∷ two_proposed) (λ e. inr (inl refl), (λ e. inr (inl refl), tt)) },
      ),
      (25, 17, 0 ∷ 1 ∷ [], inr (inr (inl (refl, refl, refl, refl, refl))), two_chose 0 1 25 two_chosen big01 (inr (inl (refl, refl))) (inl (refl, refl))),
    ),
    two_chose 0 1 25 two_told big01 (inr (inr (inl (refl, refl)))) (inr (inl (refl, refl))),
  ),
  two_chose 0 1 25 (Committed 0 25 ∷ two_told) big01 (inr (inr (inr (inl (refl, refl))))) (inr (inr (inl (refl, refl)))),
)

example_lawful : Lawful setup example
example_lawful = (
  (
    (
      (
        (
          (
            (second_told_lawful, tt),
            record { above = omega arith; accepts = refl; commits = refl; holds = held_all content (Taken 0 (Asked third read ∷ second_told)) content_apart (λ x is. inr (inr (inr (inl (refl, is))))) (λ x t. either_two (behind_two (no_changes x) t)) },
          ),
          record { above = omega arith; accepts = refl; commits = refl; holds = held_all content (Taken 1 (Promised 0 34 25 25 content ∷ Asked third read ∷ second_told)) content_apart (λ x is. inr (inr (inl (refl, is)))) (λ x t. either_two (behind_two (no_changes x) t)) },
        ),
        record {
          unused = not_proposed 34 three_promises refl;
          positive = omega arith;
          asked = inr (inr (inl (refl, refl)));
          dead = none_to_refuse third three_promises refl;
          quorum = of_two 0 1;
          big = big01;
          promises = two_promised 34 25 25 25 content content three_promises (inr (inl (refl, refl, refl, refl, refl))) (omega arith) (inl (refl, refl, refl, refl, refl)) (omega arith);
          content = content;
          merged = gathered 34 25 25 content three_promises content_apart (inr (inl (refl, refl, refl, refl, refl))) (λ e. refl, (λ e. refl, (λ e. refl, (λ e. refl, (λ e. absurd (other 17 34 refl e), (λ e. absurd (other 17 34 refl e), (λ e. absurd (other 8 34 refl e), (λ e. absurd (other 8 34 refl e), tt))))))));
          shown = map_with 5;
          shows = content_shows;
          computed = (a_row_is_inserted_once 5 6).2.0;
        },
      ),
      record { above = omega arith; proposed = inl refl; target = reaches 0 34 three_proposed (λ e. inl refl, (λ e. inl refl, (λ e. inl refl, tt))) },
    ),
    record { above = omega arith; proposed = inr (inl refl); target = reaches 1 34 (Accepted 0 34 ∷ three_proposed) (λ e. inr (inl refl), (λ e. inr (inl refl), (λ e. inr (inl refl), tt))) },
  ),
  (34, 25, 0 ∷ 1 ∷ [], inr (inr (inl (refl, refl, refl, refl, refl))), two_chose 0 1 34 three_chosen big01 (inr (inl (refl, refl))) (inl (refl, refl))),
)

-- ---- the sequence

is_chosen_by : (b : ℕ) (h : List Event) → is_chosen setup b h ≡ nat_lt 3 (2 * (cond (accepts 0 b h) 1 0 + (cond (accepts 1 b h) 1 0 + cond (accepts 2 b h) 1 0)))
is_chosen_by b h = ap (λ n. nat_lt 3 (2 * n)) (count_three (λ n. accepts n b h))

accepted_next : (n b : ℕ) (h : List Event) (t : Bool) (rs : List ReqId) → is_chosen setup b (Accepted n b ∷ h) ≡ t → chosen_requests setup h ≡ rs
    → chosen_requests setup (Accepted n b ∷ h) ≡ with_chosen t (carried b h) rs
accepted_next n b h t rs e f = λ i. with_chosen (e i) (carried b h) (f i)

race_sequence : chosen_requests setup race ≡ []
race_sequence = accepted_next 0 8 one_proposed false [] (is_chosen_by 8 (Accepted 0 8 ∷ one_proposed)) refl

first_sequence : chosen_requests setup first_told ≡ first ∷ []
first_sequence =
    let a : chosen_requests setup one_told ≡ first ∷ [] = accepted_next 2 8 one_refused true [] (is_chosen_by 8 (Accepted 2 8 ∷ one_refused)) race_sequence in
    let b : chosen_requests setup (Accepted 0 17 ∷ one_told) ≡ first ∷ [] = accepted_next 0 17 one_told false (first ∷ []) (is_chosen_by 17 (Accepted 0 17 ∷ one_told)) a in
    accepted_next 1 17 (Accepted 0 17 ∷ one_told) true (first ∷ []) (is_chosen_by 17 one_chosen) b

second_sequence : chosen_requests setup second_told ≡ second ∷ first ∷ []
second_sequence =
    let a : chosen_requests setup (Accepted 0 25 ∷ two_proposed) ≡ first ∷ [] = accepted_next 0 25 two_proposed false (first ∷ []) (is_chosen_by 25 (Accepted 0 25 ∷ two_proposed)) first_sequence in
    accepted_next 1 25 (Accepted 0 25 ∷ two_proposed) true (first ∷ []) (is_chosen_by 25 two_chosen) a

sequence_is : chosen_requests setup example ≡ third ∷ second ∷ first ∷ []
sequence_is =
    let a : chosen_requests setup (Accepted 0 34 ∷ three_proposed) ≡ second ∷ first ∷ [] = accepted_next 0 34 three_proposed false (second ∷ first ∷ []) (is_chosen_by 34 (Accepted 0 34 ∷ three_proposed)) second_sequence in
    accepted_next 1 34 (Accepted 0 34 ∷ three_proposed) true (second ∷ first ∷ []) (is_chosen_by 34 three_chosen) a

-- ---- what is not lawful

-- a promise of ballot 17 in the race: of replica 1, or with the accepted ballot 8
abbrev InRace : ℕ → ℕ → ℕ → ℕ → List Held → Type 0
InRace n b a c s = b ≡ 17 → (n ≡ 1) ⊎ ((a ≡ 8) × (c ≡ 0))

in_race : EachPromise InRace race
in_race = (λ e. inl refl, (λ e. inr (refl, refl), (λ e. absurd (other 8 17 refl e), (λ e. absurd (other 8 17 refl e), tt))))

no_own_proposal : (base : ℕ) (result : Result) (targets : List ℕ) → Lawful setup (Proposed 17 base second result targets ∷ race) → ⊥
no_own_proposal base result targets law =
    let may = law.1 in
    let k = quorums_meet setup may.quorum (of_two 0 2) may.big big02 in
    let p = may.promises k.0 k.1 in
    go k.0 p.0 (one_of_two 0 2 k.0 k.2) (each_promise InRace race k.0 17 p.0 base p.1 in_race p.2 refl) p.3
  where
    go : (k a : ℕ) → (0 ≡ k) ⊎ (2 ≡ k) → (k ≡ 1) ⊎ ((a ≡ 8) × (base ≡ 0)) → a ≤ base → ⊥
    go k a (inl p) (inl q) le = omega arith
    go k a (inr p) (inl q) le = omega arith
    go k a p (inr (q, r)) le = omega arith

no_late_acceptance : Lawful setup (Accepted 1 8 ∷ race) → ⊥
no_late_acceptance law = let above : 17 ≤ 8 = law.1.above in absurd (omega arith)

no_early_reply : Lawful setup (Told first first_result ∷ race) → ⊥
no_early_reply law =
    let told = law.1 in
    let k = quorums_meet setup told.4.0 (of_two 1 2) told.4.1 big12 in
    accepted_first told.0 k.0 (one_of_two 1 2 k.0 k.2) (told.4.2 k.0 k.1)
  where
    accepted_first : (b k : ℕ) → (1 ≡ k) ⊎ (2 ≡ k) → Ever (IsAcceptance k b) race → ⊥
    accepted_first b k at (inl x) = x
    accepted_first b k at (inr (inl x)) = x
    accepted_first b k (inl p) (inr (inr (inl is))) = let z = is.0 in omega arith
    accepted_first b k (inr p) (inr (inr (inl is))) = let z = is.0 in omega arith
    accepted_first b k at (inr (inr (inr x))) = elim x [ inl y ↦ y | inr y ↦ elim y [ inl z ↦ z | inr z ↦ elim z [ inl v ↦ v | inr v ↦ elim v [ inl u ↦ u | inr u ↦ elim u [ inl i ↦ i | inr i ↦ i ] ] ] ] ]

pub racing_inserts : RacingInserts
racing_inserts = record {
  lawful = example_lawful;
  sequence = sequence_is;
  first_step = (a_row_is_inserted_once 5 6).0;
  second_step = (a_row_is_inserted_once 5 6).1;
  third_step = (a_row_is_inserted_once 5 6).2;
  no_own_proposal = no_own_proposal;
  no_late_acceptance = no_late_acceptance;
  no_early_reply = no_early_reply;
}
