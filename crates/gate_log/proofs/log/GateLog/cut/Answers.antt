use Rattle.std.proofs.Common.{ℕ, List, sym, subst}
use Rattle.cs_store.proofs.Crashes.{weaker}
use Rattle.gate_log.specs.Format.{Reads}
use Rattle.gate_log.specs.Place.{IsAtRest}
use Rattle.gate_log.proofs.Ends.{all_places}
use Rattle.gate_log.proofs.Moves.{cut_keeps, cut_rests, cut_same}
use Rattle.gate_log.proofs.log.GateLog.cut.Goals as goal

pub returns-in_err-cut_durably-clause-any_moment : goal.returns-in_err-cut_durably-clause-any_moment
returns-in_err-cut_durably-clause-any_moment g c honest =
    let entries = c.args.reading.now.entries in
    let place = all_places entries _ _ c.len.ensures c.place-gate.ensures.place in
    weaker _ _ _ (Reads entries) _ (c.cut_durably.ensures.any_moment honest) (λ d cut. cut_keeps entries c.place-gate.result _ (c.requires.reads honest) place d cut)

pub returns-clause-any_moment : goal.returns-clause-any_moment
returns-clause-any_moment g c honest =
    let entries = c.args.reading.now.entries in
    let place = all_places entries _ _ c.len.ensures c.place-gate.ensures.place in
    weaker _ _ _ (Reads entries) _ (c.cut_durably.ensures.any_moment honest) (λ d cut. cut_keeps entries c.place-gate.result _ (c.requires.reads honest) place d cut)

pub returns-clause-same_entries : goal.returns-clause-same_entries
returns-clause-same_entries g c honest =
    let entries = c.args.reading.now.entries in
    let place = all_places entries _ _ c.len.ensures c.place-gate.ensures.place in
    subst (λ (l : List ℕ). Reads entries l) (sym (c.in_ok-cut_durably.ensures.cut honest).file) (cut_same entries c.place-gate.result _ (c.requires.reads honest) place)

pub returns-clause-at_rest : goal.returns-clause-at_rest
returns-clause-at_rest g c honest =
    let entries = c.args.reading.now.entries in
    let place = all_places entries _ _ c.len.ensures c.place-gate.ensures.place in
    subst (λ (l : List ℕ). IsAtRest c.place-gate.result l) (sym (c.in_ok-cut_durably.ensures.cut honest).file) (cut_rests entries c.place-gate.result _ (c.requires.reads honest) place)

pub returns-in_err-cut_durably-clause-surely : goal.returns-in_err-cut_durably-clause-surely
returns-in_err-cut_durably-clause-surely g c m n more spares = cc ((c.in_err-cut_durably.ensures.surely m n more spares).0)
