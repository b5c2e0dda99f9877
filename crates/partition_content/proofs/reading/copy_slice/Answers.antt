use Rattle.std.proofs.Common.{◌≡◌, sym, subst, List, Vec, ◌↔◌, Contains}
use Rattle.std.proofs.lemmas.Result.{IfOk-weaker}
use Rattle.std.specs.declared.alloc.Global.{Global}
use Rattle.changes.specs.declared.Held.{Held}
use Rattle.changes.specs.Places.{AreInOrder}
use Rattle.changes.specs.Queries.{MeetsBounds}
use Rattle.partition_content.specs.Slots.{changes_of, helds_in}
use Rattle.partition_content.proofs.OrderLemmas.{changes_in_order}
use Rattle.partition_content.proofs.reading.copy_slice.Goals as goal

pub returns-then-are_outermost-clause-ordered : goal.returns-then-are_outermost-clause-ordered
returns-then-are_outermost-clause-ordered c =
    IfOk-weaker c.copy_all.result (λ (all : Vec Held Global). all.items ≡ changes_of (helds_in c.args.slots.now.entries)) (λ all. AreInOrder all.items)
    (λ all e. subst AreInOrder (sym e) (changes_in_order (helds_in c.args.slots.now.entries) c.requires.filed c.requires.sorted)) c.copy_all.ensures

pub returns-then-are_outermost-clause-met : goal.returns-then-are_outermost-clause-met
returns-then-are_outermost-clause-met c =
    IfOk-weaker c.copy_all.result (λ (all : Vec Held Global). all.items ≡ changes_of (helds_in c.args.slots.now.entries))
    (λ all. (x : Held) → Contains all.items x ↔ (Contains (changes_of (helds_in c.args.slots.now.entries)) x × MeetsBounds c.args.from.now c.args.upto.now x.place))
    (λ all e x. (
      λ h. (subst (λ (l : List Held). Contains l x) e h, c.are_outermost.ensures c.if-are_outermost.true x.place),
      λ p. subst (λ (l : List Held). Contains l x) (sym e) p.0,
    )) c.copy_all.ensures
