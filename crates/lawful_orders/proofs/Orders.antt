-- The entries of an order, node by node.
use Rattle.std.proofs.Common.{◌≡◌, ◌≢◌, ℕ, Bool, true, false, inl, inr, List, [], ◌∷◌, Contains, refl, sym, ap, subst, eq-eqb, ne_eqb, eqb-true}
use Rattle.std.specs.Prelude.{◌==◌, if◌then◌else◌}
use Rattle.cs_base.proofs.Members.{contains_cases, contains_here, contains_nil, contains_there}
use Rattle.lawful_orders.specs.Histories.{Taken}
use Rattle.lawful_orders.specs.Orders.{Placed, history_in}

abbrev pub history_if : Bool → ℕ → Placed → List Placed → List Taken
history_if b k p ps = if b then p.taken ∷ history_in k ps else history_in k ps

pub history_here : (k : ℕ) (p : Placed) (ps : List Placed) → p.node ≡ k → history_in k (p ∷ ps) ≡ p.taken ∷ history_in k ps
history_here k p ps same = ap (λ (b : Bool). history_if b k p ps) (eq-eqb p.node k same)

pub history_away : (k : ℕ) (p : Placed) (ps : List Placed) → p.node ≢ k → history_in k (p ∷ ps) ≡ history_in k ps
history_away k p ps other = ap (λ (b : Bool). history_if b k p ps) (ne_eqb p.node k other)

there_too : (k : ℕ) (p : Placed) (ps : List Placed) (t : Taken) (b : Bool) → Contains (history_in k ps) t → Contains (history_if b k p ps) t
there_too k p ps t true h = contains_there p.taken (history_in k ps) t h
there_too k p ps t false h = h

-- an entry of an order is in its node's history
pub in_history : (order : List Placed) (p : Placed) → Contains order p → Contains (history_in p.node order) p.taken
in_history [] p h = absurd (contains_nil p h)
in_history (q ∷ qs) p h = elim (contains_cases q qs p h) [
  | inl same ↦
      subst (λ (x : Placed). Contains (history_in x.node (q ∷ qs)) x.taken) same
      (subst (λ (ts : List Taken). Contains ts q.taken) (sym (history_here q.node q qs refl)) (contains_here q.taken (history_in q.node qs)))
  | inr rest ↦ there_too p.node q qs p.taken (q.node == p.node) (in_history qs p rest)
]

from_here : (k : ℕ) (q : Placed) (qs : List Placed) (t : Taken) (b : Bool) → (q.node == k) ≡ b → (Contains (history_in k qs) t → Contains qs (record { node = k; taken = t })) → Contains (history_if b k q qs) t
    → Contains (q ∷ qs) (record { node = k; taken = t })
from_here k q qs t true test more h = elim (contains_cases q.taken (history_in k qs) t h) [
  | inl same ↦
      let node : q.node ≡ k = eqb-true q.node k test in
      subst (λ (x : Taken). Contains (q ∷ qs) (record { node = k; taken = x })) same (subst (λ (j : ℕ). Contains (q ∷ qs) (record { node = j; taken = q.taken })) node (contains_here q qs))
  | inr rest ↦ contains_there q qs (record { node = k; taken = t }) (more rest)
]
from_here k q qs t false test more h = contains_there q qs (record { node = k; taken = t }) (more h)

-- an entry of a node's history is in the order
pub from_history : (k : ℕ) (order : List Placed) (t : Taken) → Contains (history_in k order) t → Contains order (record { node = k; taken = t })
from_history k [] t h = absurd (contains_nil t h)
from_history k (q ∷ qs) t h = from_here k q qs t (q.node == k) refl (λ rest. from_history k qs t rest) h
