use Rattle.std.proofs.Common.{◌≡◌, ℕ, true, false, Option, Some, List, sym, ap, ◌∙◌}
use Rattle.std.specs.Prelude.{is_some, position}
use Rattle.std.specs.List.{list_any}
use Rattle.std.proofs.lemmas.Bool.{eqb-true}
use Rattle.std.proofs.lemmas.List.Quantifiers.{position-Some}
use Rattle.wired_node.specs.declared.senders.NodeSender.{NodeSender}
use Rattle.wired_node.specs.Sending.{leads_to}
use Rattle.wired_node.proofs.Pieces.{any_place, none_place}
use Rattle.wired_node.proofs.Puts.{are_lost, put_at}
use Rattle.wired_node.proofs.senders.put.Goals as goal

-- where a link was found one leads there
there : (place node : ℕ) (ss : List NodeSender) → Some place ≡ position (leads_to node) ss → list_any (leads_to node) ss ≡ false → ⊥
there place node ss found none = true_false (ap (λ (o : Option ℕ). is_some o) found ∙ (any_place (leads_to node) ss ∙ none))
  where
    true_false : true ≡ false → ⊥
    true_false e = cc

pub put-requires : goal.put-requires
put-requires c =
    let found = position-Some (leads_to c.args.message.upto) c.args.senders.now c.in-Some.place c.index-senders-place.result (sym c.in-Some.ensures) in
    eqb-true _ _ found.1

pub returns-in-Some-clause-put : goal.returns-in-Some-clause-put
returns-in-Some-clause-put c =
    let found = position-Some (leads_to c.args.message.upto) c.args.senders.now c.in-Some.place c.index-senders-place.result (sym c.in-Some.ensures) in
    put_at c.args.message c.put.result c.args.senders.now c.in-Some.place c.index-senders-place.result c.put.new.self c.requires found.0 (eqb-true _ _ found.1) c.put.ensures

pub returns-in-Some-clause-unlinked : goal.returns-in-Some-clause-unlinked
returns-in-Some-clause-unlinked c = λ none. absurd (there c.in-Some.place c.args.message.upto c.args.senders.now c.in-Some.ensures none)

pub returns-in-None-clause-put : goal.returns-in-None-clause-put
returns-in-None-clause-put c = are_lost c.args.message c.args.senders.now (none_place (leads_to c.args.message.upto) c.args.senders.now (sym c.in-None.ensures))
