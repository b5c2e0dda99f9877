use Rattle.std.proofs.Common.{ℕ, ◌+◌, ◌-◌, List, length, drop, sym, subst, arith, length-drop}
use Rattle.std.proofs.lemmas.List.{take_all}
use Rattle.gate_log.specs.Format.{IsNext}
use Rattle.gate_log.proofs.Ends.{Scanned, scan_more}
use Rattle.gate_log.proofs.format.find_ends.Goals as goal

pub entries-preserved : goal.entries-preserved
entries-preserved c =
    let bytes = c.args.bytes.now in
    let gate = c.entries.gate in
    let next = rw c.in-Ok-Some.field-0-is at c.in-Ok-Some.ensures.entry in
    let next' = subst (λ (l : List ℕ). IsNext c.in-Ok-Some.entry.now c.in-Ok-Some.field-0-0-1.now l) (take_all (length bytes - gate) (drop gate bytes) (omega (arith, length-drop gate bytes))) next in
    subst (λ (ends : List ℕ). Scanned bytes ends (gate + (5 + length c.in-Ok-Some.entry.now))) (sym c.in_ok-push-in-Ok-Some.ensures.items) (scan_more bytes c.entries.ends.items gate c.entries.invariant _ _ next')
