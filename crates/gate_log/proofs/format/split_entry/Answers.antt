use Rattle.gate_log.proofs.Spellings.{some_then, parts_of}
use Rattle.gate_log.proofs.format.split_entry.Goals as goal

pub returns-clause-parts : goal.returns-clause-parts
returns-clause-parts c =
    let front = c.in_ok-front.ensures.cases in
    some_then _ c.split_at_checked.result _ _ c.split_at_checked.ensures.cases (λ parts split.
    parts_of c.args.bytes.now _ _ _ _ _ (λ i. (c.type_inv.bytes i).fits) front.0 front.1 front.2 c.from_be_bytes.ensures split.1 split.2 split.3)
