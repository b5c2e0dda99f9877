-- Steps of what is told of doors, one after another.
use Rattle.std.proofs.Common.{◌≡◌, ℕ, suc, ◌+◌, ◌*◌, ◌≤◌, Some, None, List, [], ◌∷◌, ◌++◌, length, inl, inr, refl, sym, ap, subst, ◌∙◌, arith, append-nil, append_assoc}
use Rattle.std.specs.Prelude.{Option, Vec, vec_len}
use Rattle.std.specs.List.{AllByRecursion}
use Rattle.std.specs.Option.{option_map}
use Rattle.std.specs.declared.alloc.Global.{Global}
use Rattle.std.proofs.lemmas.Bool.Decides.{leb_tells}
use Rattle.std.proofs.lemmas.List.{length-append}
use Rattle.cs_base.specs.Faults.{HasRisen}
use Rattle.cs_doors.specs.Lending.{HasLent}
use Rattle.served_doors.specs.Ledger.{Ledger, GivesMore, TakesBack, IsCounted, by_node, with_node}
use Rattle.served_doors.specs.Opening.{AreOpen, AreSome}

-- ---- counts of faults

-- a count that rose has risen later on, too
pub risen_before : (before mid now : ℕ) → mid ≤ now → HasRisen before mid → HasRisen before now
risen_before before mid now le (inl lt) = inl (omega (arith, le, lt))
risen_before before mid now le (inr top) = inr top

-- ---- what is lent

pub lent_fewer : {X : Type 0} (given : Option ℕ) (returned : Option (List X)) (a b : ℕ) → b ≤ a → HasLent a given returned → HasLent b given returned
lent_fewer None returned a b le h = tt
lent_fewer (Some n) None a b le h = tt
lent_fewer (Some n) (Some back) a b le h = omega (arith, le, h)

lent_given : {X : Type 0} (given : Option ℕ) (returned : Option (List X)) (count k : ℕ) → HasLent k given returned → HasLent (k + count) (option_map (λ n. n + count) given) returned
lent_given None returned count k h = tt
lent_given (Some n) None count k h = tt
lent_given (Some n) (Some back) count k h = omega (arith, h)

lent_back : {X : Type 0} (given : Option ℕ) (returned : Option (List X)) (back : List X) (k : ℕ) → HasLent (k + length back) given returned → HasLent k given (option_map (λ (doors : List X). doors ++ back) returned)
lent_back None returned back k h = tt
lent_back (Some n) None back k h = tt
lent_back (Some n) (Some old) back k h = omega (arith, h, length-append old back)

pub more_lent : {D : Type 0} (count : ℕ) (old new : Ledger D) → GivesMore count old new → (k : ℕ) → HasLent k old.given old.returned → HasLent (k + count) new.given new.returned
more_lent {D} count old new h k lent =
    subst (λ (returned : Option (List (ℕ × D))). HasLent (k + count) new.given returned) (sym h.returned)
    (subst (λ (given : Option ℕ). HasLent (k + count) given old.returned) (sym h.given) (lent_given old.given old.returned count k lent))

pub fewer_lent : {D : Type 0} (faults_of : D → ℕ) (back : List (ℕ × D)) (old new : Ledger D) → TakesBack faults_of back old new → (k : ℕ) → HasLent (k + length back) old.given old.returned → HasLent k new.given new.returned
fewer_lent {D} faults_of back old new h k lent =
    subst (λ (returned : Option (List (ℕ × D))). HasLent k new.given returned) (sym h.returned)
    (subst (λ (given : Option ℕ). HasLent k given (option_map (λ (doors : List (ℕ × D)). doors ++ back) old.returned)) (sym h.given) (lent_back old.given old.returned back k lent))

-- ---- giving

given_none : (given : Option ℕ) → given ≡ option_map (λ n. n + 0) given
given_none None = refl
given_none (Some n) = let e : n ≡ n + 0 = omega arith in ap Some e

given_more : (given : Option ℕ) (a b : ℕ) → option_map (λ n. n + b) (option_map (λ n. n + a) given) ≡ option_map (λ n. n + (a + b)) given
given_more None a b = refl
given_more (Some n) a b = let e : n + a + b ≡ n + (a + b) = omega arith in ap Some e

pub gives_none : {D : Type 0} (here : Ledger D) → GivesMore 0 here here
gives_none here = record { given = given_none here.given; returned = refl; later = omega arith }

pub gives_on : {D : Type 0} (a b : ℕ) (old mid new : Ledger D) → GivesMore a old mid → GivesMore b mid new → GivesMore (a + b) old new
gives_on a b old mid new h g = record {
  given = g.given ∙ ap (λ (given : Option ℕ). option_map (λ n. n + b) given) h.given ∙ given_more old.given a b;
  returned = g.returned ∙ h.returned;
  later = omega (arith, h.later, g.later);
}

pub gives_same : {D : Type 0} (a b : ℕ) (old new : Ledger D) → a ≡ b → GivesMore a old new → GivesMore b old new
gives_same a b old new e h = subst (λ (n : ℕ). GivesMore n old new) e h

-- ---- taking back

returned_none : {X : Type 0} (returned : Option (List X)) → returned ≡ option_map (λ (xs : List X). xs ++ []) returned
returned_none None = refl
returned_none (Some xs) = ap Some (sym (append-nil xs))

returned_more : {X : Type 0} (returned : Option (List X)) (a b : List X) → option_map (λ (xs : List X). xs ++ b) (option_map (λ (xs : List X). xs ++ a) returned) ≡ option_map (λ (xs : List X). xs ++ (a ++ b)) returned
returned_more None a b = refl
returned_more (Some xs) a b = ap Some (append_assoc xs a b)

counted_later : {D : Type 0} (faults_of : D → ℕ) (before mid now : ℕ) → mid ≤ now → (back : List (ℕ × D)) → AllByRecursion (IsCounted faults_of before mid) back → AllByRecursion (IsCounted faults_of before now) back
counted_later faults_of before mid now le [] h = tt
counted_later faults_of before mid now le (door ∷ back) h = ((λ some. risen_before before mid now le (h.0 some)), counted_later faults_of before mid now le back h.1)

counted_since : {D : Type 0} (faults_of : D → ℕ) (before mid now : ℕ) → ((HasRisen mid now) → HasRisen before now) → (back : List (ℕ × D)) → AllByRecursion (IsCounted faults_of mid now) back → AllByRecursion (IsCounted faults_of before now) back
counted_since faults_of before mid now up [] h = tt
counted_since faults_of before mid now up (door ∷ back) h = ((λ some. up (h.0 some)), counted_since faults_of before mid now up back h.1)

counted_both : {D : Type 0} (faults_of : D → ℕ) (before now : ℕ) (a b : List (ℕ × D)) → AllByRecursion (IsCounted faults_of before now) a → AllByRecursion (IsCounted faults_of before now) b → AllByRecursion (IsCounted faults_of before now) (a ++ b)
counted_both faults_of before now [] b h g = g
counted_both faults_of before now (x ∷ a) b h g = (h.0, counted_both faults_of before now a b h.1 g)

-- a count that rose late has risen since before, too
pub risen_since : (before mid now : ℕ) → before ≤ mid → mid ≤ now → HasRisen mid now → HasRisen before now
risen_since before mid now le later (inl lt) = inl (omega (arith, le, lt))
risen_since before mid now le later (inr top) =
    elim (leb_tells mid before) [
      | inl same ↦ (let high = same.1 in inr (let e : before ≡ mid = omega (arith, le, high) in e ∙ top))
      | inr below ↦ (let lt = below.1 in inl (omega (arith, lt, later)))
    ]

pub takes_none : {D : Type 0} (faults_of : D → ℕ) (here : Ledger D) → TakesBack faults_of [] here here
takes_none faults_of here = record { given = refl; returned = returned_none here.returned; later = omega arith; counted = tt }

pub takes_on : {D : Type 0} (faults_of : D → ℕ) (a b : List (ℕ × D)) (old mid new : Ledger D) → TakesBack faults_of a old mid → TakesBack faults_of b mid new → TakesBack faults_of (a ++ b) old new
takes_on {D} faults_of a b old mid new h g = record {
  given = g.given ∙ h.given;
  returned = g.returned ∙ ap (λ (returned : Option (List (ℕ × D))). option_map (λ (xs : List (ℕ × D)). xs ++ b) returned) h.returned ∙ returned_more old.returned a b;
  later = omega (arith, h.later, g.later);
  counted = counted_both faults_of old.faults new.faults a b (counted_later faults_of old.faults mid.faults new.faults g.later a h.counted) (counted_since faults_of old.faults mid.faults new.faults (risen_since old.faults mid.faults new.faults h.later g.later) b g.counted);
}

pub takes_same : {D : Type 0} (faults_of : D → ℕ) (a b : List (ℕ × D)) (old new : Ledger D) → a ≡ b → TakesBack faults_of a old new → TakesBack faults_of b old new
takes_same {D} faults_of a b old new e h = subst (λ (back : List (ℕ × D)). TakesBack faults_of back old new) e h

-- ---- doors by node

pub with_node_snoc : {D : Type 0} (node : ℕ) (doors : List D) (door : D) → with_node node (doors ++ door ∷ []) ≡ with_node node doors ++ (node, door) ∷ []
with_node_snoc node [] door = refl
with_node_snoc {D} node (x ∷ doors) door = ap (λ (rest : List (ℕ × D)). (node, x) ∷ rest) (with_node_snoc node doors door)

pub with_node_length : {D : Type 0} (node : ℕ) (doors : List D) → length (with_node node doors) ≡ length doors
with_node_length node [] = refl
with_node_length node (x ∷ doors) = ap suc (with_node_length node doors)

pub by_node_snoc : {D : Type 0} (node : ℕ) (lists : List (Vec D Global)) (doors : Vec D Global) → by_node node (lists ++ doors ∷ []) ≡ by_node node lists ++ with_node (node + length lists) doors.items
by_node_snoc {D} node [] doors = append-nil (with_node node doors.items) ∙ ap (λ (n : ℕ). with_node n doors.items) (let e : node ≡ node + 0 = omega arith in e)
by_node_snoc {D} node (x ∷ lists) doors =
    ap (λ (rest : List (ℕ × D)). with_node node x.items ++ rest) (by_node_snoc (node + 1) lists doors ∙ ap (λ (n : ℕ). by_node (node + 1) lists ++ with_node n doors.items) (let e : node + 1 + length lists ≡ node + suc (length lists) = omega arith in e))
    ∙ sym (append_assoc (with_node node x.items) (by_node (node + 1) lists) (with_node (node + suc (length lists)) doors.items))

by_node_append : {D : Type 0} (node : ℕ) (a b : List (Vec D Global)) → by_node node (a ++ b) ≡ by_node node a ++ by_node (node + length a) b
by_node_append {D} node [] b = ap (λ (n : ℕ). by_node n b) (let e : node ≡ node + 0 = omega arith in e)
by_node_append {D} node (x ∷ a) b =
    ap (λ (rest : List (ℕ × D)). with_node node x.items ++ rest) (by_node_append (node + 1) a b ∙ ap (λ (n : ℕ). by_node (node + 1) a ++ by_node n b) (let e : node + 1 + length a ≡ node + suc (length a) = omega arith in e))
    ∙ sym (append_assoc (with_node node x.items) (by_node (node + 1) a) (by_node (node + suc (length a)) b))

-- so many nodes with so many doors each
pub by_node_length : {D : Type 0} (Fresh : D → Type 0) (each node : ℕ) (lists : List (Vec D Global)) → AllByRecursion (AreOpen Fresh each) lists → length (by_node node lists) ≡ length lists * each
by_node_length Fresh each node [] h = let e : 0 ≡ 0 * each = omega arith in e
by_node_length Fresh each node (x ∷ lists) h =
    let here = h.0 in
    let one : length (with_node node x.items) ≡ each = with_node_length node x.items ∙ (let ok = x.ok in let all = here.all in omega arith) in
    let rest = by_node_length Fresh each (node + 1) lists h.1 in
    length-append (with_node node x.items) (by_node (node + 1) lists) ∙ (let e : length (with_node node x.items) + length (by_node (node + 1) lists) ≡ suc (length lists) * each = omega (arith, one, rest) in e)

-- ---- one after another of a list

pub next_split : {X : Type 0} (all front it rest : List X) (x : X) → front ++ it ≡ all → it ≡ x ∷ rest → (front ++ x ∷ []) ++ rest ≡ all
next_split {X} all front it rest x split next = append_assoc front (x ∷ []) rest ∙ ap (λ (xs : List X). front ++ xs) (sym next) ∙ split

pub next_count : {X : Type 0} (front : List X) (x : X) (n : ℕ) → n ≡ length front → n + 1 ≡ length (front ++ x ∷ [])
next_count front x n count = let e = length-append front (x ∷ []) in omega (arith, e, count)

pub next_room : {X : Type 0} (all front it rest : List X) (x : X) → front ++ it ≡ all → it ≡ x ∷ rest → 1 + length front ≤ length all
next_room {X} all front it rest x split next =
    let whole : length all ≡ length front + length (x ∷ rest) = ap length (sym split) ∙ length-append front it ∙ ap (λ (xs : List X). length front + length xs) next in
    omega (arith, whole)

none_left : {X : Type 0} (xs : List X) → length xs ≡ 0 → xs ≡ []
none_left [] e = refl
none_left (x ∷ xs) e = cc

pub all_passed : {X : Type 0} (all front it : List X) → front ++ it ≡ all → length it ≡ 0 → front ≡ all
all_passed {X} all front it split none = sym (append-nil front) ∙ ap (λ (xs : List X). front ++ xs) (sym (none_left it none)) ∙ split

-- ---- doors of one node

pub one_lent : {D : Type 0} (faults_of : D → ℕ) (node : ℕ) (all front it rest : List D) (door : D) (old new : Ledger D) → front ++ it ≡ all → it ≡ door ∷ rest
    → TakesBack faults_of (with_node node front) old new → HasLent (length all) old.given old.returned → HasLent 1 new.given new.returned
one_lent faults_of node all front it rest door old new split next back lent =
    let room = next_room all front it rest door split next in
    let long = with_node_length node front in
    fewer_lent faults_of (with_node node front) old new back 1
    (lent_fewer old.given old.returned (length all) (1 + length (with_node node front)) (omega (arith, room, long)) lent)

pub one_back : {D : Type 0} (faults_of : D → ℕ) (node : ℕ) (front : List D) (door : D) (old mid new : Ledger D)
    → TakesBack faults_of (with_node node front) old mid → TakesBack faults_of ((node, door) ∷ []) mid new → TakesBack faults_of (with_node node (front ++ door ∷ [])) old new
one_back faults_of node front door old mid new h g =
    takes_same faults_of (with_node node front ++ (node, door) ∷ []) (with_node node (front ++ door ∷ [])) old new (sym (with_node_snoc node front door))
    (takes_on faults_of (with_node node front) ((node, door) ∷ []) old mid new h g)

pub all_lent : {D : Type 0} (faults_of : D → ℕ) (node : ℕ) (all front it : List D) (old new : Ledger D) → front ++ it ≡ all → length it ≡ 0
    → TakesBack faults_of (with_node node front) old new → (k : ℕ) → HasLent (k + length all) old.given old.returned → HasLent k new.given new.returned
all_lent faults_of node all front it old new split none back k lent =
    let same = ap length (all_passed all front it split none) in
    let long = with_node_length node front in
    fewer_lent faults_of (with_node node front) old new back k
    (lent_fewer old.given old.returned (k + length all) (k + length (with_node node front)) (omega (arith, same, long)) lent)

-- ---- doors of all nodes

-- the doors of a node are among those of all
node_within : {D : Type 0} (all front it rest : List (Vec D Global)) (doors : Vec D Global) → front ++ it ≡ all → it ≡ doors ∷ rest
    → length (by_node 0 front) + length doors.items ≤ length (by_node 0 all)
node_within {D} all front it rest doors split next =
    let whole : all ≡ (front ++ doors ∷ []) ++ rest = sym (next_split all front it rest doors split next) in
    let parts = by_node_append 0 (front ++ doors ∷ []) rest in
    let first = by_node_snoc 0 front doors in
    let long : length (by_node 0 all) ≡ length (by_node 0 front) + length doors.items + length (by_node (0 + length (front ++ doors ∷ [])) rest) =
    ap (λ (lists : List (Vec D Global)). length (by_node 0 lists)) whole
    ∙ ap length parts ∙ length-append (by_node 0 (front ++ doors ∷ [])) (by_node (0 + length (front ++ doors ∷ [])) rest)
    ∙ ap (λ (n : ℕ). n + length (by_node (0 + length (front ++ doors ∷ [])) rest)) (ap length first ∙ length-append (by_node 0 front) (with_node (0 + length front) doors.items) ∙ ap (λ (n : ℕ). length (by_node 0 front) + n) (with_node_length (0 + length front) doors.items)) in
    omega (arith, long)

pub node_lent : {D : Type 0} (faults_of : D → ℕ) (all front it rest : List (Vec D Global)) (doors : Vec D Global) (old new : Ledger D) → front ++ it ≡ all → it ≡ doors ∷ rest
    → TakesBack faults_of (by_node 0 front) old new → HasLent (length (by_node 0 all)) old.given old.returned → HasLent (vec_len doors) new.given new.returned
node_lent faults_of all front it rest doors old new split next back lent =
    let within = node_within all front it rest doors split next in
    let ok = doors.ok in
    fewer_lent faults_of (by_node 0 front) old new back (vec_len doors)
    (lent_fewer old.given old.returned (length (by_node 0 all)) (vec_len doors + length (by_node 0 front)) (omega (arith, within, ok.0)) lent)

pub node_back : {D : Type 0} (faults_of : D → ℕ) (node : ℕ) (front : List (Vec D Global)) (doors : Vec D Global) (old mid new : Ledger D) → node ≡ length front
    → TakesBack faults_of (by_node 0 front) old mid → TakesBack faults_of (with_node node doors.items) mid new → TakesBack faults_of (by_node 0 (front ++ doors ∷ [])) old new
node_back {D} faults_of node front doors old mid new here h g =
    takes_same faults_of (by_node 0 front ++ with_node node doors.items) (by_node 0 (front ++ doors ∷ [])) old new
    (ap (λ (n : ℕ). by_node 0 front ++ with_node n doors.items) (let e : node ≡ 0 + length front = omega (arith, here) in e) ∙ sym (by_node_snoc 0 front doors))
    (takes_on faults_of (by_node 0 front) (with_node node doors.items) old mid new h g)

pub nodes_lent : {D : Type 0} (faults_of : D → ℕ) (all front it : List (Vec D Global)) (old new : Ledger D) → front ++ it ≡ all → length it ≡ 0
    → TakesBack faults_of (by_node 0 front) old new → (k : ℕ) → HasLent (k + length (by_node 0 all)) old.given old.returned → HasLent k new.given new.returned
nodes_lent {D} faults_of all front it old new split none back k lent =
    let same = ap (λ (lists : List (Vec D Global)). length (by_node 0 lists)) (all_passed all front it split none) in
    fewer_lent faults_of (by_node 0 front) old new back k
    (lent_fewer old.given old.returned (k + length (by_node 0 all)) (k + length (by_node 0 front)) (omega (arith, same)) lent)

-- ---- doors that are opened

open_some : {D : Type 0} (Fresh : D → Type 0) (each : ℕ) (doors : Vec D Global) → AreOpen Fresh each doors → AreSome Fresh each doors
open_some Fresh each doors h = record { few = let all = h.all in omega arith; fresh = h.fresh }

pub all_some : {D : Type 0} (Fresh : D → Type 0) (each : ℕ) (lists : List (Vec D Global)) → AllByRecursion (AreOpen Fresh each) lists → AllByRecursion (AreSome Fresh each) lists
all_some Fresh each [] h = tt
all_some Fresh each (doors ∷ lists) h = (open_some Fresh each doors h.0, all_some Fresh each lists h.1)

pub all_more : {X : Type 0} (P : X → Type 0) (xs : List X) (x : X) → AllByRecursion P xs → P x → AllByRecursion P (xs ++ x ∷ [])
all_more P [] x h p = (p, tt)
all_more P (y ∷ xs) x h p = (h.0, all_more P xs x h.1 p)

pub node_gives : {D : Type 0} (node : ℕ) (front opened : List (Vec D Global)) (doors : Vec D Global) (old mid new : Ledger D) → opened ≡ front ++ doors ∷ []
    → GivesMore (length (by_node 0 front)) old mid → GivesMore (vec_len doors) mid new → GivesMore (length (by_node 0 opened)) old new
node_gives {D} node front opened doors old mid new is h g =
    let ok = doors.ok in
    let long : length (by_node 0 opened) ≡ length (by_node 0 front) + vec_len doors =
    ap (λ (lists : List (Vec D Global)). length (by_node 0 lists)) is ∙ ap length (by_node_snoc 0 front doors) ∙ length-append (by_node 0 front) (with_node (0 + length front) doors.items)
    ∙ ap (λ (n : ℕ). length (by_node 0 front) + n) (with_node_length (0 + length front) doors.items ∙ sym ok.0) in
    gives_same (length (by_node 0 front) + vec_len doors) (length (by_node 0 opened)) old new (sym long) (gives_on (length (by_node 0 front)) (vec_len doors) old mid new h g)
