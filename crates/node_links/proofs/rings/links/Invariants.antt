use Rattle.std.proofs.Common.{◌≡◌, ◌++◌, map, All}
use Rattle.node_links.specs.Links.{ends_of, IsFresh}
use Rattle.node_links.proofs.PairLists.{row_of, rows_below}
use Rattle.node_links.proofs.rings.links.Given as goal

abbrev pub invariant-loop-from : goal.invariant-loop-from
invariant-loop-from g l = record { pairs : map ends_of l.all ≡ rows_below l.from l.nodes; fresh : All IsFresh l.all }

abbrev pub invariant-loop-to : goal.invariant-loop-to
invariant-loop-to g l =
    record { pairs : map ends_of l.all ≡ rows_below l.from l.nodes ++ row_of l.from l.to; fresh : All IsFresh l.all }
