-- Doors that were opened for nodes.
use Rattle.std.specs.Prelude.{◌≡◌, ℕ, ◌+◌, ◌≤◌, List, [], ◌++◌, length, Option, IfSome, Vec, vec_len, vec_capacity}
use Rattle.std.specs.List.{AllByRecursion}
use Rattle.std.specs.Option.{option_map}
use Rattle.std.specs.declared.alloc.Global.{Global}
use Rattle.served_doors.specs.Ledger.{Ledger, by_node}

-- a door that has given nothing and had no fault
pub record IsFresh {D K : Type 0} (gave : D → Option ℕ) (taken_back : D → Option (List K)) (faults_of : D → ℕ) (door : D) : Type 0 where
  pub given : IfSome (gave door) (λ n. n ≡ 0)
  pub returned : IfSome (taken_back door) (λ (links : List K). links ≡ [])
  pub faults : faults_of door ≡ 0

-- an empty list with room for so many
pub record HasRoom {D : Type 0} (count : ℕ) (doors : Vec D Global) : Type 0 where
  pub empty : doors.items ≡ []
  pub room : count ≤ vec_capacity doors

-- so many doors, each of them fresh
pub record AreOpen {D : Type 0} (Fresh : D → Type 0) (count : ℕ) (doors : Vec D Global) : Type 0 where
  pub all : vec_len doors ≡ count
  pub fresh : AllByRecursion Fresh doors.items

-- no more doors than so many, each of them fresh
pub record AreSome {D : Type 0} (Fresh : D → Type 0) (count : ℕ) (doors : Vec D Global) : Type 0 where
  pub few : vec_len doors ≤ count
  pub fresh : AllByRecursion Fresh doors.items

-- Of so many nodes no more than so many doors each were opened, fresh ones, and all of these came back in order.
pub record CloseAgain {D : Type 0} (Fresh : D → Type 0) (nodes each : ℕ) (old new : Ledger D) : Type 0 where
  pub opened : List (Vec D Global)
  pub few : length opened ≤ nodes
  pub some : AllByRecursion (AreSome Fresh each) opened
  pub given : new.given ≡ option_map (λ n. n + length (by_node 0 opened)) old.given
  pub returned : new.returned ≡ option_map (λ (doors : List (ℕ × D)). doors ++ by_node 0 opened) old.returned
  pub later : old.faults ≤ new.faults
