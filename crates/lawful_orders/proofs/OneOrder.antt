-- Histories are merged in one order only.
use Rattle.std.proofs.Common.{◌≡◌, ℕ, ◌<◌, inl, inr, List, [], ◌∷◌, Contains, length, map, refl, sym, subst, ◌∙◌, arith}
use mathlib.Core.Logic.{dite}
use native.Mathlib.Decide.{ℕ_discrete}
use Rattle.cs_base.proofs.Members.{contains_cases, contains_here, contains_there}
use Rattle.lawful_orders.specs.Histories.{Taken}
use Rattle.lawful_orders.specs.Orders.{Placed, history_in}
use Rattle.lawful_orders.specs.Ahead.{all_seen}
use Rattle.lawful_orders.specs.Merged.{IsByTime, IsNoLater}
use Rattle.lawful_orders.specs.Laws.{MergedIsOne}
use Rattle.lawful_orders.proofs.Orders.{from_history, history_away, history_here, in_history}
use Rattle.lawful_orders.proofs.Places.{get_below}

nil_cons : {X : Type 0} (x : X) (xs : List X) → [] ≡ x ∷ xs → ⊥
nil_cons x xs e = cc

heads : {X : Type 0} (x y : X) (xs ys : List X) → x ∷ xs ≡ y ∷ ys → (x ≡ y) × (xs ≡ ys)
heads x y xs ys e = (cc, cc)

same_node : (p q : Placed) → IsNoLater p q → IsNoLater q p → p.node ≡ q.node
same_node p q (inl a) (inl b) = absurd (omega (arith, a, b))
same_node p q (inl a) (inr (b, m)) = absurd (omega (arith, a, b))
same_node p q (inr (a, n)) (inl b) = absurd (omega (arith, a, b))
same_node p q (inr (a, n)) (inr (b, m)) = omega (arith, n, m)

-- the first entry is no later than any
first_is : (p : Placed) (ps : List Placed) (x : Placed) → IsByTime (p ∷ ps) → Contains (p ∷ ps) x → IsNoLater p x
first_is p ps x sorted there = elim (contains_cases p ps x there) [
  | inl same ↦ subst (λ (y : Placed). IsNoLater p y) same (inr (refl, omega arith))
  | inr rest ↦ sorted.0 x rest
]

-- orders whose entries are the same, node by node
abbrev AreSame : ℕ → List Placed → List Placed → Type 0
AreSame n a b = (k : ℕ) → k < n → history_in k a ≡ history_in k b

abbrev AreWithin : ℕ → List Placed → Type 0
AreWithin n order = (p : Placed) → Contains order p → p.node < n

there_too : (n : ℕ) (a b : List Placed) (p : Placed) → AreWithin n a → AreSame n a b → Contains a p → Contains b p
there_too n a b p within same there = from_history p.node b p.taken (subst (λ (ts : List Taken). Contains ts p.taken) (same p.node (within p there)) (in_history a p there))

same_tails : (p q : Placed) (ps qs : List Placed) (k : ℕ) → p.node ≡ q.node → history_in k (p ∷ ps) ≡ history_in k (q ∷ qs) → history_in k ps ≡ history_in k qs
same_tails p q ps qs k node same = dite (ℕ_discrete p.node k)
    (λ here. (heads p.taken q.taken (history_in k ps) (history_in k qs) (sym (history_here k p ps here) ∙ same ∙ history_here k q qs (sym node ∙ here))).1)
    (λ away. sym (history_away k p ps away) ∙ same ∙ history_away k q qs (λ e. away (node ∙ e)))

one_order : (n : ℕ) (a b : List Placed) → AreWithin n a → AreWithin n b → IsByTime a → IsByTime b → AreSame n a b → a ≡ b
one_order n [] [] in_a in_b by_a by_b same = refl
one_order n [] (q ∷ qs) in_a in_b by_a by_b same = absurd (nil_cons q.taken (history_in q.node qs) (same q.node (in_b q (contains_here q qs)) ∙ history_here q.node q qs refl))
one_order n (p ∷ ps) [] in_a in_b by_a by_b same = absurd (nil_cons p.taken (history_in p.node ps) (sym (same p.node (in_a p (contains_here p ps))) ∙ history_here p.node p ps refl))
one_order n (p ∷ ps) (q ∷ qs) in_a in_b by_a by_b same =
    let before = first_is p ps q by_a (there_too n (q ∷ qs) (p ∷ ps) q in_b (λ k below. sym (same k below)) (contains_here q qs)) in
    let behind = first_is q qs p by_b (there_too n (p ∷ ps) (q ∷ qs) p in_a same (contains_here p ps)) in
    let node : p.node ≡ q.node = same_node p q before behind in
    let whole = sym (history_here p.node p ps refl) ∙ same p.node (in_a p (contains_here p ps)) ∙ history_here p.node q qs (sym node) in
    let taken : p.taken ≡ q.taken = (heads p.taken q.taken (history_in p.node ps) (history_in p.node qs) whole).0 in
    let rest : ps ≡ qs = one_order n ps qs (λ x h. in_a x (contains_there p ps x h)) (λ x h. in_b x (contains_there q qs x h)) by_a.1 by_b.1 (λ k below. same_tails p q ps qs k node (same k below)) in
    (λ i. record { node = node i; taken = taken i } ∷ rest i)

pub merged_one : MergedIsOne
merged_one histories a b m n =
    one_order (length (map all_seen histories)) a b m.is_order.within n.is_order.within m.by_time n.by_time
    (λ k below. let h = get_below (map all_seen histories) k below in m.is_order.each k h.0 h.1 ∙ sym (n.is_order.each k h.0 h.1))
