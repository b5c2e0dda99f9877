-- A door whose clients are served, one after another.
use Rattle.std.specs.Prelude.{◌≡◌, ℕ, ◌+◌, ◌≤◌, Bool, IsTrue, Option, List, [], ◌∷◌, ◌++◌, length, map}
use Rattle.std.specs.Option.{option_map}
use Rattle.cs_base.specs.Faults.{HasRisen}
use Rattle.node_lock.specs.Views.{PassView}
use Rattle.served_jobs.specs.Visits.{Visit}

module _ {E L : Type 0} (IsVisit : PassView E → Visit L → PassView E → Type 0) where
  -- visits one after another: the pass goes from each to the next
  pub data AreVisits (v : PassView E) : List (Visit L) → PassView E → Type 0 where
    none : AreVisits v [] v
    more : (visits : List (Visit L)) (x : Visit L) (w y : PassView E) → AreVisits v visits w → IsVisit w x y → AreVisits v (visits ++ x ∷ []) y

abbrev pub link_back : {L : Type 0} → Visit L → L
link_back x = x.went

module _ {E L D : Type 0} (IsVisit : PassView E → Visit L → PassView E → Type 0) (given : D → Option ℕ) (returned : D → Option (List L)) (faults : D → ℕ) where
  -- For each link that the door gave there was a visit, in order, and then it went back. No other did.
  pub record ServesDoor (door : D) (v : PassView E) (door' : D) (w : PassView E) : Type 0 where
    pub visits : List (Visit L)
    pub are_visits : AreVisits IsVisit v visits w
    pub all_given : given door' ≡ option_map (λ n. n + length visits) (given door)
    pub all_back : returned door' ≡ option_map (λ links. links ++ map link_back visits) (returned door)
    pub counted : faults door ≤ faults door'

  -- the same, and the door has failed only where it counted a fault
  pub record ServesUntil (door : D) (v : PassView E) (door' : D) (w : PassView E) (door_failed : Bool) : Type 0 where
    pub serves : ServesDoor door v door' w
    pub failed : IsTrue door_failed → HasRisen (faults door) (faults door')
