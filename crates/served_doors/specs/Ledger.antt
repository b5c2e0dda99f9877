-- What is told of doors that were given and came back, before and after calls.
use Rattle.std.specs.Prelude.{◌≡◌, ℕ, ◌+◌, ◌<◌, ◌≤◌, List, [], ◌∷◌, ◌++◌, map, Option, Vec}
use Rattle.std.specs.List.{AllByRecursion}
use Rattle.std.specs.Option.{option_map}
use Rattle.std.specs.declared.alloc.Global.{Global}
use Rattle.cs_base.specs.Faults.{HasRisen}

-- how many doors were given and which came back, each with its node, as far as these are told, and how many faults there were
pub record Ledger (D : Type 0) : Type 0 where
  pub given : Option ℕ
  pub returned : Option (List (ℕ × D))
  pub faults : ℕ

-- what is told of doors
abbrev pub ledger : {L D : Type 0} → (L → Option ℕ) → (L → Option (List (ℕ × D))) → (L → ℕ) → L → Ledger D
ledger given returned faults doors = record { given = given doors; returned = returned doors; faults = faults doors }

-- doors, each with this node
abbrev pub with_node : {D : Type 0} → ℕ → List D → List (ℕ × D)
with_node {D} node doors = map (λ (door : D). (node, door)) doors

-- the doors of nodes, by rising number from this one on, each with its node
abbrev pub by_node : {D : Type 0} → ℕ → List (Vec D Global) → List (ℕ × D)
by_node node [] = []
by_node node (doors ∷ others) = with_node node doors.items ++ by_node (node + 1) others

-- so many more were given, and none came back
pub record GivesMore {D : Type 0} (count : ℕ) (old new : Ledger D) : Type 0 where
  pub given : new.given ≡ option_map (λ n. n + count) old.given
  pub returned : new.returned ≡ old.returned
  pub later : old.faults ≤ new.faults

-- a door that had a fault has raised the count
abbrev pub IsCounted : {D : Type 0} → (D → ℕ) → ℕ → ℕ → ℕ × D → Type 0
IsCounted faults_of before now door = 0 < faults_of door.1 → HasRisen before now

-- these came back in this order, and none was given
pub record TakesBack {D : Type 0} (faults_of : D → ℕ) (back : List (ℕ × D)) (old new : Ledger D) : Type 0 where
  pub given : new.given ≡ old.given
  pub returned : new.returned ≡ option_map (λ (doors : List (ℕ × D)). doors ++ back) old.returned
  pub later : old.faults ≤ new.faults
  pub counted : AllByRecursion (IsCounted faults_of old.faults new.faults) back
