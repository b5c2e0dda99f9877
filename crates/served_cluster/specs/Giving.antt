-- What nodes had that have run is given back.
use Rattle.std.specs.Prelude.{◌≡◌, ◌⊎◌, ◌↔◌, ℕ, ◌+◌, ◌*◌, ◌<◌, ◌≤◌, Bool, List, length, map}
use Rattle.std.specs.List.{AllByRecursion, AllZip, list_any, position}
use Rattle.cs_base.specs.Faults.{HasRisen}
use Rattle.cs_doors.specs.Lending.{HasLent}
use Rattle.wired_node.specs.States.{Wiring}
use Rattle.wired_node.specs.declared.entry.NodeEntry.{NodeEntry}
use Rattle.served_assembly.specs.Parting.{HasLinksFirst, IsApart, AreParted, doors_in, ends_left, has_door_failed, is_unstarted}
use Rattle.served_assembly.specs.declared.parting.Apart.{Apart}
use Rattle.served_assembly.specs.declared.parting.Parted.{Parted}
use Rattle.served_console.specs.declared.end.ConsoleEnd.{ConsoleEnd}
use Rattle.served_doors.specs.Ledger.{Ledger}
use Rattle.served_links.specs.Ends.{EachLink, AreEven}
use Rattle.served_links.specs.Nodes.{AreEnds, AreSettled}
use Rattle.served_nodes.specs.declared.node.NodeLeft.{NodeLeft}
use Rattle.served_stores.specs.Shown.{Shown, IsSameAt}
use Rattle.served_cluster.specs.declared.ending.ServedEnd.{ServedEnd}
use Rattle.served_cluster.specs.Ends.{told_of, told_without}
use Rattle.served_cluster.specs.Kinds.{ReplicaKind}
use Rattle.served_cluster.specs.Served.{AreHomeFrom, has_failed, is_full}

-- a job of the node got no thread
abbrev pub lacks_thread : {R D : Type 0} → NodeLeft (Wiring R) D NodeEntry → Bool
lacks_thread left = list_any is_unstarted left.jobs.items

-- the door of one of its jobs failed
abbrev pub lacks_door : {R D : Type 0} → NodeLeft (Wiring R) D NodeEntry → Bool
lacks_door left = list_any has_door_failed left.jobs.items

abbrev pub HasDoors : {R D : Type 0} → NodeLeft (Wiring R) D NodeEntry → Type 0
HasDoors left = length (doors_in left.jobs.items) ≡ 16

-- nodes that can be taken apart: the first job of each has its links, and these have both their ends
pub record CanPart {R D : Type 0} (left : List (NodeLeft (Wiring R) D NodeEntry)) : Type 0 where
  pub few : length left ≤ 7
  pub led : AllByRecursion HasLinksFirst left
  pub even : (nodes : ℕ) × AreEven nodes (map ends_left left)
  pub ends : EachLink AreEnds (map ends_left left)
  pub doors : AllByRecursion HasDoors left

-- of doors that were out so many are back, and no others
abbrev pub AreBackBut : {D : Type 0} → ℕ → Ledger D → Ledger D → Type 0
AreBackBut count old new = (k : ℕ) → HasLent (k + count) old.given old.returned ↔ HasLent k new.given new.returned

-- a door that had a fault has raised the count
abbrev pub AreCounted : {D : Type 0} → (D → ℕ) → ℕ → ℕ → List D → Type 0
AreCounted faults before now doors = AllByRecursion (λ door. 0 < faults door → HasRisen before now) doors

module _ {R D : Type 0} (r : ReplicaKind R) where
  -- these are the parts of nodes
  pub record ArePartsOf {K : Type 0} (left : List (NodeLeft (Wiring R) D NodeEntry)) (parted : Parted R D K) : Type 0 where
    pub aparts : List (Apart R D K)
    pub apart : AllZip (IsApart r.is_whole r.durable r.log_end r.since_flush r.faults r.is_honest) left aparts
    pub parted_are : AreParted aparts parted

  -- The stores and the doors of nodes are back, each link is settled, and the end tells what was found.
  pub record IsGivenBack (faults : D → ℕ) (console : ConsoleEnd) (left : List (NodeLeft (Wiring R) D NodeEntry)) (old new : Shown) (book book' : Ledger D) (told : ServedEnd) : Type 0 where
    pub told_is : told ≡ told_of console (position has_failed left) (list_any lacks_door left) (list_any lacks_thread left) (position is_full left)
    pub home : AreHomeFrom r 0 left old new
    pub others : (n : ℕ) → length left ≤ n → IsSameAt n old new
    pub back : AreBackBut (length left * 16) book book'
    pub later : book.faults ≤ book'.faults
    pub counted : AllByRecursion (λ (x : NodeLeft (Wiring R) D NodeEntry). AreCounted faults book.faults book'.faults (doors_in x.jobs.items)) left
    pub settled : EachLink AreSettled (map ends_left left)

  -- or there was no memory for it, and nothing is back
  pub record IsLostFor (console : ConsoleEnd) (old new : Shown) (book book' : Ledger D) (told : ServedEnd) : Type 0 where
    pub told_is : told ≡ told_without console
    pub stores : new ≡ old
    pub doors : book' ≡ book

  abbrev pub GivesBack : (D → ℕ) → ConsoleEnd → List (NodeLeft (Wiring R) D NodeEntry) → Shown → Shown → Ledger D → Ledger D → ServedEnd → Type 0
  GivesBack faults console left old new book book' told = IsLostFor console old new book book' told ⊎ IsGivenBack faults console left old new book book' told
