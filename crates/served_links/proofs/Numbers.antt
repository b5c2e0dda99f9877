-- The numbers of the other nodes.
use Rattle.std.proofs.Common.{◌≡◌, ◌≢◌, ℕ, zero, suc, ◌+◌, ◌<◌, Bool, true, false, cond, eqb, not, List, [], ◌∷◌, ◌++◌, length, filter, refl, ap, sym, ◌∙◌, arith, append-nil, eq-eqb, ne_eqb}
use Rattle.std.specs.List.{AllByRecursion}
use Rattle.std.proofs.lemmas.List.{length-append}
use Rattle.std.proofs.lemmas.List.Elements.{filter-append}
use mathlib.Core.Logic.{dite}
use native.Mathlib.Decide.{ℕ_discrete}
use Rattle.node_links.specs.Pairs.{below, others_of}

-- no number comes twice
abbrev pub AreApart : List ℕ → Type 0
AreApart [] = Unit {0}
AreApart (n ∷ ns) = AllByRecursion (λ (m : ℕ). m ≢ n) ns × AreApart ns

weaker : (P Q : ℕ → Type 0) → ((n : ℕ) → P n → Q n) → (ns : List ℕ) → AllByRecursion P ns → AllByRecursion Q ns
weaker P Q f [] all = tt
weaker P Q f (n ∷ ns) all = (f n all.0, weaker P Q f ns all.1)

push : (P : ℕ → Type 0) (ns : List ℕ) (n : ℕ) → AllByRecursion P ns → P n → AllByRecursion P (ns ++ n ∷ [])
push P [] n all one = (one, tt)
push P (m ∷ ns) n all one = (all.0, push P ns n all.1 one)

below_less : (n : ℕ) → AllByRecursion (λ (m : ℕ). m < n) (below n)
below_less zero = tt
below_less (suc n) = push (λ (m : ℕ). m < suc n) (below n) n (weaker (λ (m : ℕ). m < n) (λ (m : ℕ). m < suc n) (λ m less. omega arith) (below n) (below_less n)) (omega arith)

pub length_below : (n : ℕ) → length (below n) ≡ n
length_below zero = refl
length_below (suc n) = omega (arith, length-append (below n) (n ∷ []), length_below n)

all_kept : (n : ℕ) (ns : List ℕ) → AllByRecursion (λ (m : ℕ). m ≢ n) ns → filter (λ (m : ℕ). not (eqb m n)) ns ≡ ns
all_kept n [] all = refl
all_kept n (m ∷ ns) all = ap (λ (b : Bool). cond (not b) (m ∷ filter (λ (k : ℕ). not (eqb k n)) ns) (filter (λ (k : ℕ). not (eqb k n)) ns)) (ne_eqb m n all.0) ∙ ap (λ (l : List ℕ). m ∷ l) (all_kept n ns all.1)

-- the others of a node, with one more
pub others_more : (me n : ℕ) → me ≢ n → others_of me (suc n) ≡ others_of me n ++ n ∷ []
others_more me n apart =
    filter-append (λ (m : ℕ). not (eqb m me)) (below n) (n ∷ [])
    ∙ ap (λ (b : Bool). others_of me n ++ cond (not b) (n ∷ []) []) (ne_eqb n me (λ e. apart (sym e)))

-- the others of the last node
pub others_last : (n : ℕ) → others_of n (suc n) ≡ below n
others_last n =
    filter-append (λ (m : ℕ). not (eqb m n)) (below n) (n ∷ [])
    ∙ (ap (λ (b : Bool). others_of n n ++ cond (not b) (n ∷ []) []) (eq-eqb n n refl)
    ∙ (append-nil (others_of n n) ∙ all_kept n (below n) (weaker (λ (m : ℕ). m < n) (λ (m : ℕ). m ≢ n) (λ m less e. absurd (omega arith)) (below n) (below_less n))))

pub length_others : (me n : ℕ) → me < n → length (others_of me n) + 1 ≡ n
length_others me zero less = absurd (omega arith)
length_others me (suc n) less = dite (ℕ_discrete me n)
    (λ same. let e : length (others_of me (suc n)) ≡ n = ap (λ (k : ℕ). length (others_of k (suc n))) same ∙ (ap (λ (l : List ℕ). length l) (others_last n) ∙ length_below n) in omega arith)
    (λ apart. let e : length (others_of me (suc n)) ≡ length (others_of me n ++ n ∷ []) = ap (λ (l : List ℕ). length l) (others_more me n apart) in
    omega (arith, length-append (others_of me n) (n ∷ []), length_others me n (omega arith)))

all_cond : (P : ℕ → Type 0) (b : Bool) (n : ℕ) (ns : List ℕ) → P n → AllByRecursion P ns → AllByRecursion P (cond b (n ∷ ns) ns)
all_cond P true n ns one all = (one, all)
all_cond P false n ns one all = all

all_filter : (P : ℕ → Type 0) (test : ℕ → Bool) (ns : List ℕ) → AllByRecursion P ns → AllByRecursion P (filter test ns)
all_filter P test [] all = tt
all_filter P test (n ∷ ns) all = all_cond P (test n) n (filter test ns) all.0 (all_filter P test ns all.1)

apart_cond : (b : Bool) (n : ℕ) (ns : List ℕ) → AllByRecursion (λ (m : ℕ). m ≢ n) ns → AreApart ns → AreApart (cond b (n ∷ ns) ns)
apart_cond true n ns all apart = (all, apart)
apart_cond false n ns all apart = apart

apart_filter : (test : ℕ → Bool) (ns : List ℕ) → AreApart ns → AreApart (filter test ns)
apart_filter test [] apart = tt
apart_filter test (n ∷ ns) apart = apart_cond (test n) n (filter test ns) (all_filter (λ (m : ℕ). m ≢ n) test ns apart.0) (apart_filter test ns apart.1)

apart_push : (ns : List ℕ) (n : ℕ) → AreApart ns → AllByRecursion (λ (m : ℕ). m < n) ns → AreApart (ns ++ n ∷ [])
apart_push [] n apart less = (tt, tt)
apart_push (m ∷ ns) n apart less =
    let above = less.0 in
    (push (λ (k : ℕ). k ≢ m) ns n apart.0 (λ e. absurd (omega arith)), apart_push ns n apart.1 less.1)

apart_below : (n : ℕ) → AreApart (below n)
apart_below zero = tt
apart_below (suc n) = apart_push (below n) n (apart_below n) (below_less n)

pub others_apart : (me n : ℕ) → AreApart (others_of me n)
others_apart me n = apart_filter (λ (m : ℕ). not (eqb m me)) (below n) (apart_below n)
