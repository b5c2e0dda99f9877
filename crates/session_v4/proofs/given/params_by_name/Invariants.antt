use Rattle.std.proofs.Common.{◌≡◌, ℕ, List, None}
use Rattle.std.specs.BTreeMap.{get_by_text}
use Rattle.session_v4.specs.Given.{value_named}
use Rattle.session_v4.proofs.given.params_by_name.Given as goal

abbrev pub invariant-loop-named : goal.invariant-loop-named
invariant-loop-named l = (name : List ℕ) → get_by_text l.params name ≡ value_named None l.yielded name
