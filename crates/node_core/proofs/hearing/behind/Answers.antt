use Rattle.std.proofs.Common.{List, Contains, subst, sym, ◌∙◌}
use Rattle.std.proofs.lemmas.Result.{IfOk-weaker}
use Rattle.changes.specs.declared.Held.{Held}
use Rattle.changes.specs.Contents.{IsContent}
use Rattle.change_laws.specs.Kept.{Within}
use Rattle.node_core.proofs.Reading.{part_behind, part_beside, same_partition, other_partition}
use Rattle.node_core.proofs.hearing.behind.Goals as goal

pub returns-then-is_one : goal.returns-then-is_one
returns-then-is_one c =
    IfOk-weaker c.merge.result _ _
    (λ all merged. part_behind c.args.mutation.now c.args.query.now c.args.part c.in_ok-more.more all (same_partition c.args.mutation.now.partition c.args.query.now.partition (sym c.is_one.ensures ∙ c.if-is_one.true))
    (subst (λ (xs : List Held). IsContent c.in_ok-more.more (Within c.args.query.now.from c.args.query.now.upto (Contains xs))) c.as_slice.ensures c.in_ok-more.ensures) merged)
    c.merge.ensures

pub returns : goal.returns
returns c = part_beside c.args.mutation.now c.args.query.now c.args.part (other_partition c.args.mutation.now.partition c.args.query.now.partition (sym c.is_one.ensures ∙ c.if-is_one.false))
