use Rattle.std.proofs.Common.{rules, arith, ◌≤ℤ◌, FitsSigned, w64}
use Rattle.std.proofs.lemmas.Int.{ints, to_z-of_z}
use Rattle.cs_base.proofs.Circle.{wrapped}
use Rattle.cs_base.proofs.range.Range.contains.Goals as goal

pub returns-else-self-token-2 : goal.returns-else-self-token-2
returns-else-self-token-2 c =
    let after : FitsSigned w64 c.args.self.now.after = search rules in
    let upto : FitsSigned w64 c.args.self.now.upto = search rules in
    let token : FitsSigned w64 c.args.token = search rules in
    let over : c.args.self.now.upto ≤ℤ c.args.self.now.after = omega (arith, ints) in
    let low : c.args.token ≤ℤ c.args.self.now.after = omega (arith, ints) in
    simp to_z-of_z (wrapped c.args.self.now c.args.token after upto token over low)
