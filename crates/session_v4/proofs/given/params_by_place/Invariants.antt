use Rattle.std.proofs.Common.{◌≡◌, map}
use Rattle.session_v4.specs.Given.{param_of}
use Rattle.session_v4.proofs.given.params_by_place.Given as goal

abbrev pub invariant-loop-value : goal.invariant-loop-value
invariant-loop-value l = l.params.items ≡ map param_of l.yielded
