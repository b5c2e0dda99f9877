-- Nodes that meet one more, with which each has a link both ways.
use Rattle.std.specs.Prelude.{◌≡◌, List, [], ◌∷◌, ◌++◌, map}
use Rattle.std.specs.List.{AllByRecursion}
use Rattle.served_links.specs.Ends.{Ends}

-- a node without and with its links to and from the new one, and the new one's ends of these
pub record Met (S R : Type 0) : Type 0 where
  pub before : Ends S R
  pub after : Ends S R
  -- leads from the new node to this one
  pub sender : S
  -- takes what this node puts for the new one
  pub receiver : R

module _ {S R : Type 0} where
  abbrev pub meeting : Ends S R → Ends S R → S → R → Met S R
  meeting before after sender receiver = record { before = before; after = after; sender = sender; receiver = receiver }

  -- its ends of these two links stand last, and P holds of each link
  abbrev pub IsMet : (S → R → Type 0) → Met S R → Type 0
  IsMet P m =
      (s : S) × (r : R) × (m.after.senders ≡ m.before.senders ++ s ∷ []) × (m.after.receivers ≡ m.before.receivers ++ r ∷ []) × P s m.receiver × P m.sender r

  -- nodes with their links to and from the new one, and its ends, by rising node
  abbrev pub AreMet : (S → R → Type 0) → List (Met S R) → List (Ends S R) → List S → List R → Type 0
  AreMet P mets after senders receivers =
      (map (λ (m : Met S R). m.after) mets ≡ after) × (map (λ (m : Met S R). m.sender) mets ≡ senders)
      × (map (λ (m : Met S R). m.receiver) mets ≡ receivers) × AllByRecursion (IsMet P) mets
