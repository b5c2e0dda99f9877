-- Passes that step one by one.
use Rattle.std.proofs.Common.{◌≡◌, List, [], ◌∷◌, ◌++◌, length, map, subst, append-nil, arith}
use Rattle.std.specs.List.{AllByRecursion, AllZip}
use Rattle.node_lock.specs.Stepped.{IsSamePass}
use Rattle.node_lock.specs.Views.{PassView}
use Rattle.served_seats.specs.Seats.{IsOwn}

module _ {E : Type 0} where
  -- all but the rest have stepped
  pub record HaveStepped (all done rest : List (PassView E)) : Type 0 where
    pub same : (more : List (PassView E)) → AllZip IsSamePass rest more → AllZip IsSamePass all (done ++ more)
    pub own : AllByRecursion IsOwn all → AllByRecursion IsOwn done × AllByRecursion IsOwn rest

  pub steps_all : {P : Type 0} (f : P → PassView E) (all done : List (PassView E)) (rest : List P) → HaveStepped all done (map f rest) → length rest ≡ 0
      → AllZip IsSamePass all done × (AllByRecursion IsOwn all → AllByRecursion IsOwn done)
  steps_all f all done [] was none = (subst (λ (vs : List (PassView E)). AllZip IsSamePass all vs) (append-nil done) (was.same [] tt), λ own. (was.own own).0)
  steps_all f all done (p ∷ rest) was none = absurd (omega (arith, none))
