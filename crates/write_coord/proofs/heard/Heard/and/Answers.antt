use Rattle.std.proofs.Common.{rules, arith, ◌≡◌, ◌∷◌, ◌++◌, [], false, ℕ, ◌<◌, ◌≤◌, List, length, take, sym, ap, ◌∙◌, subst}
use Rattle.std.proofs.lemmas.List.{take_more_set}
use Rattle.cs_base.specs.Quorums.{is_in}
use Rattle.write_coord.specs.Nodes.{AreNodes}
use Rattle.write_coord.proofs.Nodes.{and_one_more, there_is_room}
use Rattle.write_coord.proofs.heard.Heard.and.Goals as goal

pub listed : goal.listed
listed c =
    let low : c.args.node ≤ 6 = search rules in
    let new = subst (λ (xs : List ℕ). is_in xs c.args.node ≡ false) (sym c.self.view_is) c.requires in
    let room : c.self.inside.count < 7 = there_is_room c.self.inside.nodes c.self.inside.count c.args.node c.self.invariant.0 c.self.invariant.1 low c.self.invariant.2 new in
    let seven : length c.self.inside.nodes ≡ 7 = c.self.invariant.0 in
    omega (arith, room, seven)

pub bounds-nodes-self-inside : goal.bounds-nodes-self-inside
bounds-nodes-self-inside c =
    let low : c.args.node ≤ 6 = search rules in
    let new = subst (λ (xs : List ℕ). is_in xs c.args.node ≡ false) (sym c.self.view_is) c.requires in
    there_is_room c.self.inside.nodes c.self.inside.count c.args.node c.self.invariant.0 c.self.invariant.1 low c.self.invariant.2 new

pub invariant_of-result : goal.invariant_of-result
invariant_of-result c =
    let low : c.args.node ≤ 6 = search rules in
    let new = subst (λ (xs : List ℕ). is_in xs c.args.node ≡ false) (sym c.self.view_is) c.requires in
    let room : c.self.inside.count < 7 = there_is_room c.self.inside.nodes c.self.inside.count c.args.node c.self.invariant.0 c.self.invariant.1 low c.self.invariant.2 new in
    let seven : length c.self.inside.nodes ≡ 7 = c.self.invariant.0 in
    let within : c.self.inside.count < length c.self.inside.nodes = omega (arith, room, seven) in
    let more = and_one_more (take c.self.inside.count c.self.inside.nodes) c.args.node low c.self.invariant.2 new in
    (search rules, omega (arith, room), subst AreNodes (sym (take_more_set c.self.inside.nodes c.self.inside.count c.args.node within)) more)

pub returns : goal.returns
returns c =
    let low : c.args.node ≤ 6 = search rules in
    let new = subst (λ (xs : List ℕ). is_in xs c.args.node ≡ false) (sym c.self.view_is) c.requires in
    let room : c.self.inside.count < 7 = there_is_room c.self.inside.nodes c.self.inside.count c.args.node c.self.invariant.0 c.self.invariant.1 low c.self.invariant.2 new in
    let seven : length c.self.inside.nodes ≡ 7 = c.self.invariant.0 in
    let within : c.self.inside.count < length c.self.inside.nodes = omega (arith, room, seven) in
    take_more_set c.self.inside.nodes c.self.inside.count c.args.node within ∙ ap (λ (xs : List ℕ). xs ++ c.args.node ∷ []) c.self.view_is
