use Rattle.std.proofs.Common.{◌≡◌, rules, subst, List, [], Contains}
use Rattle.std.specs.Prelude.{MatchBool}
use Rattle.changes.specs.declared.Held.{Held}
use Rattle.cell_merge.specs.Parts.{IsRidOf, IsUnrivalled, IsOutrankedBy}
use Rattle.cs_base.proofs.Members.{contains_nil}
use Rattle.cell_merge.proofs.Parts.{all_left, empty_is, retained}
use Rattle.cell_merge.proofs.lists.remove_outranked.Goals as goal

pub returns-then-is_empty : goal.returns-then-is_empty
returns-then-is_empty c =
    let none : c.args.others.now ≡ [] = empty_is c.args.others.now c.is_empty.result c.is_empty.ensures c.if-is_empty.true in
    all_left (IsUnrivalled c.args.others.now) (IsOutrankedBy c.args.others.now) c.args.changes.now.items (λ x o. contains_nil o.0 (subst (λ (l : List Held). Contains l o.0) none o.1))

pub returns : goal.returns
returns c =
    subst (λ (l : List Held). IsRidOf l c.args.changes.now.items c.retain.new.self.items) c.in_ok-ranking.ensures
    (retained (IsUnrivalled c.in_ok-ranking.ranking) (IsOutrankedBy c.in_ok-ranking.ranking) _ _
    (λ x b f' k. (subst (λ (z : Held). MatchBool b (IsUnrivalled c.in_ok-ranking.ranking z) (IsOutrankedBy c.in_ok-ranking.ranking z)) k.shows (search rules), search rules)) _ _ c.retain.ensures.filtered)
