use Rattle.std.proofs.Common.{◌≡◌, ◌∙◌, ℕ, ◌==◌, length, ap, arith}
use Rattle.gate_log.proofs.Ends.{count_is}
use Rattle.gate_log.proofs.entries.Entries.is_empty.Goals as goal

pub returns : goal.returns
returns c =
    let count = count_is _ _ _ c.self.view_is in
    let same : c.self.inside.ends.len ≡ length c.args.self.now = omega (arith, count, c.self.inside.ends.ok.0) in
    c.is_empty.ensures ∙ ap (λ (k : ℕ). k == 0) same
