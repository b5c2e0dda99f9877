use Rattle.std.proofs.Common.{◌≡◌, subst, Contains, IfSome, IfNone}
use Rattle.partition_content.specs.Arrivals.{IsVacant}
use Rattle.partition_content.specs.Partition.{Partition}
use Rattle.partition_content.proofs.ReadLemmas.{found_there, found_none}
use Rattle.partition_content.proofs.content.PartitionContent.get.Goals as goal

pub returns-clause-there : goal.returns-clause-there
returns-clause-there c =
    subst (λ (p : Partition). IfSome c.stored_of_place.result (λ x. Contains p.stored x.now × (x.now.held.place ≡ c.args.place))) c.self.view_is
    (found_there c.args.place c.self.inside.slots c.stored_of_place.result c.self.invariant.good.filed c.stored_of_place.ensures)

pub returns-clause-none : goal.returns-clause-none
returns-clause-none c =
    subst (λ (p : Partition). IfNone c.stored_of_place.result (IsVacant p.stored c.args.place)) c.self.view_is
    (found_none c.args.place c.self.inside.slots c.stored_of_place.result c.self.invariant.good c.stored_of_place.ensures)
