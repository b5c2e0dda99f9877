use Rattle.std.proofs.Common.{◌≡◌, drop, map}
use Rattle.cql_parser.specs.Forms.{is_among}
use Rattle.cql_parser.proofs.cursor.is_among.Given as goal

abbrev pub invariant-loop-other : goal.invariant-loop-other
invariant-loop-other l = is_among l.word (map (λ w. w.now) l.words) ≡ is_among l.word (map (λ w. w.now) (drop l.other-index l.words))
