use Rattle.std.proofs.Common.{◌≡◌, [], replicate}
use Rattle.cluster_model.proofs.routes.no_places.Given as goal

abbrev pub invariant-loop : goal.invariant-loop
invariant-loop l = l.places.items ≡ replicate l.counter []
