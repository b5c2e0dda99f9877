use Rattle.std.proofs.Common.{◌∙◌, ℕ, Option, sym, ap}
use Rattle.std.specs.Cmp.{unsigned_ties}
use Rattle.std.specs.Option.{unwrap_or}
use Rattle.list_replica.proofs.hints.set_last.Goals as goal

pub returns : goal.returns
returns c =
    let updates = c.in_ok-insert.ensures.updates in
    record {
      here = ap (λ (o : Option ℕ). unwrap_or o 0) updates.1;
      others = λ q other. ap (λ (o : Option ℕ). unwrap_or o 0) (updates.2 q (sym (unsigned_ties c.args.peer q) ∙ other));
    }
