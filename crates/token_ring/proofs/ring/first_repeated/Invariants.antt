use Rattle.std.proofs.Common.{take}
use Rattle.cs_base.specs.Ring.{AreApart, AreTokens}
use Rattle.token_ring.proofs.ring.first_repeated.Given as goal

abbrev pub invariant-loop-i : goal.invariant-loop-i
invariant-loop-i l = AreApart (take l.i l.tokens) × AreTokens (take l.i l.tokens)
