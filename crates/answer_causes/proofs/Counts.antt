-- Who is in a list of nodes, how many of them pass a test, and how many replicas a level waits for.
use Rattle.std.proofs.Common.{◌≡◌, ℕ, zero, suc, inl, inr, ◌≤◌, ◌<◌, ◌+◌, Bool, true, false, cond, Option, Some, None, List, [], ◌∷◌, ◌++◌, refl, sym, ap, subst, ◌∙◌, arith, Contains, filter, length}
use Rattle.std.specs.Prelude.{◌==◌, ◌||◌, ◌&&◌, not, if◌then◌else◌, count_by, slice_get}
use Rattle.std.specs.List.{range_with_len}
use Rattle.std.proofs.lemmas.Bool.{eqb-true, ltb-true, eq-eqb, or_left, or_right}
use Rattle.std.proofs.lemmas.List.Sums.{sum_by-cons}
use Rattle.cs_base.specs.declared.level.Level.{Level}
use Rattle.cs_base.specs.declared.level.Level.TheVariants.{One, Two, Three, Quorum, All, LocalQuorum, Serial, LocalSerial, LocalOne}
use Rattle.cs_base.specs.Levels.{block_for}
use Rattle.cs_base.specs.Quorums.{is_in, heard_of}
use Rattle.cs_base.specs.Ring.{is_replica_at}
use Rattle.cs_base.proofs.Members.{contains_here, contains_there, contains_cases, contains_nil, contains_from_filter}
use Rattle.changes.specs.declared.Partition.{Partition}
use Rattle.peer_messages.specs.declared.setting.Setting.{Setting}
use Rattle.peer_messages.specs.Settings.{factor_of, replicas_of, needed, factor_at, with_heard, HasFactors}
use Rattle.node_steps.specs.Fitting.{is_table}

-- ---- who is in

false_true : false ≡ true → ⊥
false_true e = cc

pub is_false : (b : Bool) → (b ≡ true → ⊥) → b ≡ false
is_false true h = absurd (h refl)
is_false false h = refl

last_or : (b : Bool) → (b || false) ≡ (false || b)
last_or true = refl
last_or false = refl

more_or : (a b d e : Bool) → b ≡ (d || e) → (a || b) ≡ ((a || d) || e)
more_or true b d e is = refl
more_or false b d e is = is

pub push_in : (xs : List ℕ) (x j : ℕ) → is_in (xs ++ x ∷ []) j ≡ (is_in xs j || (x == j))
push_in [] x j = last_or (x == j)
push_in (y ∷ ys) x j = more_or (y == j) (is_in (ys ++ x ∷ []) j) (is_in ys j) (x == j) (push_in ys x j)

pub is_in_same : (xs : List ℕ) (x : ℕ) → Contains xs x → is_in xs x ≡ true
is_in_same [] x h = absurd (contains_nil x h)
is_in_same (y ∷ ys) x h = elim (contains_cases y ys x h) [
  | inl here ↦ or_left (y == x) (is_in ys x) (eq-eqb y x here)
  | inr there ↦ or_right (y == x) (is_in ys x) (is_in_same ys x there)
]

-- ---- counts

abbrev bit : Bool → ℕ
bit b = cond b 1 0

pub same_tests : (ks : List ℕ) (p q : ℕ → Bool) → ((j : ℕ) → Contains ks j → p j ≡ q j) → count_by p ks ≡ count_by q ks
same_tests [] p q same = refl
same_tests (k ∷ ks) p q same =
    let of_p = sum_by-cons (λ x. cond (p x) 1 0) k ks in
    let of_q = sum_by-cons (λ x. cond (q x) 1 0) k ks in
    let first : bit (p k) ≡ bit (q k) = ap bit (same k (contains_here k ks)) in
    let rest = same_tests ks p q (λ j h. same j (contains_there k ks j h)) in
    omega (arith, of_p, of_q, first, rest)

bits_rise : (a b : Bool) → (a ≡ true → b ≡ true) → bit a ≤ bit b
bits_rise true true h = omega arith
bits_rise true false h = let e : false ≡ true = h refl in cc
bits_rise false true h = omega arith
bits_rise false false h = omega arith

no_more : (ks : List ℕ) (p q : ℕ → Bool) → ((j : ℕ) → Contains ks j → p j ≡ true → q j ≡ true) → count_by p ks ≤ count_by q ks
no_more [] p q under = omega arith
no_more (k ∷ ks) p q under =
    let of_p = sum_by-cons (λ x. cond (p x) 1 0) k ks in
    let of_q = sum_by-cons (λ x. cond (q x) 1 0) k ks in
    let first : bit (p k) ≤ bit (q k) = bits_rise (p k) (q k) (under k (contains_here k ks)) in
    let rest = no_more ks p q (λ j h. under j (contains_there k ks j h)) in
    omega (arith, of_p, of_q, first, rest)

-- one of them passes only the second
pub fewer : (ks : List ℕ) (p q : ℕ → Bool) → ((j : ℕ) → Contains ks j → p j ≡ true → q j ≡ true) → (i : ℕ) → Contains ks i → p i ≡ false → q i ≡ true → count_by p ks < count_by q ks
fewer [] p q under i there low high = absurd (contains_nil i there)
fewer (k ∷ ks) p q under i there low high =
    let of_p = sum_by-cons (λ x. cond (p x) 1 0) k ks in
    let of_q = sum_by-cons (λ x. cond (q x) 1 0) k ks in
    elim (contains_cases k ks i there) [
      | inl here ↦ (
          let at_p : bit (p k) ≡ 0 = ap (λ (j : ℕ). bit (p j)) here ∙ ap bit low in
          let at_q : bit (q k) ≡ 1 = ap (λ (j : ℕ). bit (q j)) here ∙ ap bit high in
          let rest = no_more ks p q (λ j h. under j (contains_there k ks j h)) in
          omega (arith, of_p, of_q, at_p, at_q, rest))
      | inr later ↦ (
          let first : bit (p k) ≤ bit (q k) = bits_rise (p k) (q k) (under k (contains_here k ks)) in
          let rest = fewer ks p q (λ j h. under j (contains_there k ks j h)) i later low high in
          omega (arith, of_p, of_q, first, rest))
    ]

bits_of : (a b : Bool) → bit (a || b) ≤ bit a + bit b
bits_of true b = omega arith
bits_of false true = omega arith
bits_of false false = omega arith

either_counts : (ks : List ℕ) (p q r : ℕ → Bool) → ((j : ℕ) → q j ≡ (p j || r j)) → count_by q ks ≤ count_by p ks + count_by r ks
either_counts [] p q r is = omega arith
either_counts (k ∷ ks) p q r is =
    let of_p = sum_by-cons (λ x. cond (p x) 1 0) k ks in
    let of_q = sum_by-cons (λ x. cond (q x) 1 0) k ks in
    let of_r = sum_by-cons (λ x. cond (r x) 1 0) k ks in
    let same : bit (q k) ≡ bit (p k || r k) = ap bit (is k) in
    let first = bits_of (p k) (r k) in
    let rest = either_counts ks p q r is in
    omega (arith, of_p, of_q, of_r, same, first, rest)

-- of these replicas the same were heard of
abbrev pub SameIn : List ℕ → List ℕ → List ℕ → Type 0
SameIn replicas a b = (j : ℕ) → Contains replicas j → is_in a j ≡ is_in b j

pub same_count : (replicas a b : List ℕ) → SameIn replicas a b → heard_of replicas a ≡ heard_of replicas b
same_count replicas a b same = same_tests replicas (is_in a) (is_in b) same

pub none_heard : (replicas : List ℕ) → heard_of replicas [] ≡ 0
none_heard [] = refl
none_heard (r ∷ rs) =
    let of = sum_by-cons (λ x. cond (is_in [] x) 1 0) r rs in
    let none : bit (is_in [] r) ≡ 0 = refl in
    let rest = none_heard rs in
    omega (arith, of, none, rest)

-- ---- replicas

abbrev times : ℕ → List ℕ → ℕ
times from ks = count_by (λ j. from == j) ks

times_cons : (from k : ℕ) (ks : List ℕ) → times from (k ∷ ks) ≡ bit (from == k) + times from ks
times_cons from k ks = sum_by-cons (λ j. cond (from == j) 1 0) k ks

none_kept : (b : Bool) (from k : ℕ) (ks : List ℕ) → (from == k) ≡ false → times from ks ≡ 0 → times from (cond b (k ∷ ks) ks) ≡ 0
none_kept true from k ks other none = times_cons from k ks ∙ (let e : bit (from == k) ≡ 0 = ap bit other in omega (arith, e, none))
none_kept false from k ks other none = none

one_kept : (b : Bool) (from k : ℕ) (ks : List ℕ) → ((from == k) ≡ true → times from ks ≡ 0) → times from ks ≤ 1 → times from (cond b (k ∷ ks) ks) ≤ 1
one_kept true from k ks none one = one_there (from == k) refl
  where
    one_there : (b : Bool) → (from == k) ≡ b → times from (k ∷ ks) ≤ 1
    one_there true is = let e : bit (from == k) ≡ 1 = ap bit is in let n = none is in let t = times_cons from k ks in omega (arith, e, n, t)
    one_there false is = let e : bit (from == k) ≡ 0 = ap bit is in let t = times_cons from k ks in omega (arith, e, one, t)
one_kept false from k ks none one = one

below_range : (p : ℕ → Bool) (from a n : ℕ) → from < a → times from (filter p (range_with_len a n)) ≡ 0
below_range p from a zero low = refl
below_range p from a (suc n) low =
    none_kept (p a) from a (filter p (range_with_len (a + 1) n)) (is_false (from == a) (λ is. let e = eqb-true from a is in absurd (omega (arith, low, e)))) (below_range p from (a + 1) n (omega (arith, low)))

once_in_range : (p : ℕ → Bool) (from a n : ℕ) → times from (filter p (range_with_len a n)) ≤ 1
once_in_range p from a zero = omega arith
once_in_range p from a (suc n) =
    one_kept (p a) from a (filter p (range_with_len (a + 1) n)) (λ is. below_range p from (a + 1) n (let e = eqb-true from a is in omega (arith, e))) (once_in_range p from (a + 1) n)

-- one more that is heard of is one more replica at most
pub one_more : (c : Setting) (p : Partition) (before after : ℕ → Bool) (from : ℕ) → ((j : ℕ) → after j ≡ (before j || (from == j))) → count_by after (replicas_of c p) ≤ count_by before (replicas_of c p) + 1
one_more c p before after from is =
    let both = either_counts (replicas_of c p) before after (λ j. from == j) is in
    let once = once_in_range (λ k. is_replica_at c.ring (factor_of c p.table) p.token (slice_get c.ring k)) from 0 (length c.ring) in
    omega (arith, both, once)

-- ---- one more that is heard of

or_none : (a b : Bool) → b ≡ false → a ≡ (a || b)
or_none true b h = refl
or_none false b h = sym h

or_have : (a b : Bool) → (b ≡ true → a ≡ true) → a ≡ (a || b)
or_have true b h = refl
or_have false true h = h refl
or_have false false h = refl

twice : (b : Bool) → b ≡ not (not b)
twice true = refl
twice false = refl

heard_by_case : (fresh mine : Bool) (heard told : List ℕ) (from j : ℕ) → is_in heard from ≡ not fresh → (from ≡ j → mine ≡ true) → is_in heard j ≡ is_in told j → is_in (if fresh && mine then heard ++ from ∷ [] else heard) j ≡ (is_in told j || (from == j))
heard_by_case true true heard told from j seen replica same = push_in heard from j ∙ ap (λ (b : Bool). b || (from == j)) same
heard_by_case true false heard told from j seen replica same = same ∙ or_none (is_in told j) (from == j) (is_false (from == j) (λ at. false_true (replica (eqb-true from j at))))
heard_by_case false mine heard told from j seen replica same = same ∙ or_have (is_in told j) (from == j) (λ at. sym same ∙ ap (λ (i : ℕ). is_in heard i) (sym (eqb-true from j at)) ∙ seen)

pub same_push : (replicas heard told : List ℕ) (from : ℕ) → SameIn replicas heard told → SameIn replicas (with_heard replicas heard from) (told ++ from ∷ [])
same_push replicas heard told from same j h =
    heard_by_case (not (is_in heard from)) (is_in replicas from) heard told from j (twice (is_in heard from)) (λ is. is_in_same replicas from (subst (λ (i : ℕ). Contains replicas i) (sym is) h)) (same j h)
    ∙ sym (push_in told from j)

-- ---- a level waits for some

block_some : (l : Level) (rf : ℕ) → 1 ≤ rf → 1 ≤ block_for l rf
block_some One rf h = omega arith
block_some Two rf h = omega arith
block_some Three rf h = omega arith
block_some Quorum rf h = omega arith
block_some All rf h = h
block_some LocalQuorum rf h = omega arith
block_some Serial rf h = omega arith
block_some LocalSerial rf h = omega arith
block_some LocalOne rf h = omega arith

got : {X : Type 0} (xs : List X) (i : ℕ) → i < length xs → (x : X) × (slice_get xs i ≡ Some x) × Contains xs x
got {X} [] i h = absurd (omega (arith, h))
got {X} (x ∷ xs) zero h = (x, refl, contains_here x xs)
got {X} (x ∷ xs) (suc i) h = let rest = got xs i (omega (arith, h)) in (rest.0, rest.1, contains_there x xs rest.0 rest.2)

pub needs_some : (c : Setting) (l : Level) (p : Partition) → HasFactors c → is_table c p ≡ true → 1 ≤ needed c l p
needs_some c l p factors there =
    let t = got c.tables p.table (ltb-true p.table (length c.tables) there) in
    let factor : factor_of c p.table ≡ t.0.factor = ap factor_at t.1 in
    let some = (factors t.0 t.2).0 in
    block_some l (factor_of c p.table) (subst (λ (n : ℕ). 1 ≤ n) (sym factor) some)

has_factor : (ring : List _) (rf : ℕ) (token : _) (o : Option _) → is_replica_at ring rf token o ≡ true → 1 ≤ rf
has_factor ring rf token None h = cc
has_factor ring rf token (Some t) h = let low = ltb-true _ rf h in omega (arith, low)

-- a partition that has a replica waits for some
pub replica_needs : (c : Setting) (l : Level) (p : Partition) (j : ℕ) → Contains (replicas_of c p) j → 1 ≤ needed c l p
replica_needs c l p j there =
    let at = contains_from_filter (λ k. is_replica_at c.ring (factor_of c p.table) p.token (slice_get c.ring k)) (range_with_len 0 (length c.ring)) j there in
    block_some l (factor_of c p.table) (has_factor c.ring (factor_of c p.table) p.token (slice_get c.ring j) at.1)
