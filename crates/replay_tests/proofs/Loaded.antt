-- Nodes that were loaded, and lists of ends.
use Rattle.std.proofs.Common.{ℕ, ◌+◌, List, [], ◌∷◌, map}
use Rattle.std.specs.List.{AllByRecursion}
use Rattle.peer_messages.specs.declared.setting.Setting.{Setting}
use Rattle.node_core.specs.declared.node.Node.{Node}
use Rattle.served_assembly.specs.Assembling.{Runs}
use Rattle.served_stores.specs.Loading.{AreTakenFrom, Keeper}
use Rattle.served_stores.specs.Shown.{Shown}

pub all_run : {R D : Type 0} (m : Keeper R) (setting : Setting) (n : ℕ) (nodes : List (Node R D)) (old new : Shown)
    → AreTakenFrom m setting n nodes old new → AllByRecursion (Runs m.is_whole m.durable m.is_honest) nodes
all_run m setting n [] old new all = tt
all_run m setting n (x ∷ xs) old new all =
    let one = all.0.loaded in
    ((one.runs, one.whole, one.tied), all_run m setting (n + 1) xs old new all.1)

pub all_of_map : {A B : Type 0} (f : A → B) (P : B → Type 0) (xs : List A) → AllByRecursion P (map f xs) → AllByRecursion (λ x. P (f x)) xs
all_of_map f P [] all = tt
all_of_map f P (x ∷ xs) all = (all.0, all_of_map f P xs all.1)
