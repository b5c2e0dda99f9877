-- The run that is worked out, step by step.
use Rattle.std.proofs.Common.{[], ◌∷◌, refl, arith}
use Rattle.row_change.specs.declared.entry.Update.{Update}
use Rattle.paxos_acceptor.specs.Acceptor.{fresh_row, row_promised, row_accepted, row_committed}
use Rattle.paxos_acceptor.specs.Steps.{Promised, Ahead, Accepted, Repeated, Passed, Refused, Committed, Steps}
use Rattle.paxos_acceptor.specs.Worked.{reactions, row_behind}

pub run_is_lawful : (u v : Update) → Steps fresh_row (reactions u v) (row_behind u v)
run_is_lawful u v =
    let a = row_promised fresh_row 9 in
    let b = row_accepted a 9 u in
    let c = row_promised b 18 in
    let d = row_accepted c 18 v in
    let e = row_committed d 18 v in
    let f = row_promised e 25 in
    let g = row_accepted f 25 u in
    let late : Steps g (Passed 9 ∷ Passed 10 ∷ Refused 19 ∷ Repeated 18 ∷ []) (row_behind u v) = (g, (refl, refl), (g, (refl, refl), (g, (refl, refl), (g, (refl, refl), refl)))) in
    let third : Steps e (Promised 25 ∷ Accepted 25 u ∷ Passed 9 ∷ Passed 10 ∷ Refused 19 ∷ Repeated 18 ∷ []) (row_behind u v) = (f, (omega arith, refl), (g, (refl, refl), late)) in
    let second : Steps c (Repeated 9 ∷ Ahead 17 ∷ Refused 17 ∷ Accepted 18 v ∷ Committed 18 v ∷ Committed 9 u ∷ Promised 25 ∷ Accepted 25 u ∷ Passed 9 ∷ Passed 10 ∷ Refused 19 ∷ Repeated 18 ∷ []) (row_behind u v) =
    (c, (refl, refl), (c, (omega arith, refl), (c, (refl, refl), (d, (refl, refl), (e, refl, (e, refl, third)))))) in
    (a, (omega arith, refl), (b, (refl, refl), (c, (omega arith, refl), second)))
