use Rattle.std.proofs.Common.{◌+◌, sym, subst, refl, ap, inl, inr, arith, [], Option}
use Rattle.std.specs.List.{sum_by}
use Rattle.std.specs.Option.{option_to_list}
use Rattle.std.proofs.lemmas.List.Sums.{sum_by-cons}
use Rattle.changes.specs.Lengths.{held_length}
use Rattle.std.proofs.lemmas.Bool.{both_ways}
use Rattle.partition_content.specs.declared.Arrived.{Arrived}
use Rattle.partition_content.specs.Slots.{held_in, IsCountedWith, IsNewlyOutranked}
use Rattle.partition_content.proofs.losing.lost_with.Goals as goal

pub returns-else-is_newly_outranked : goal.returns-else-is_newly_outranked
returns-else-is_newly_outranked c =
    subst (λ (o : Option Arrived). IsCountedWith (IsNewlyOutranked c.args.others.now c.args.x.now) (held_in o) c.args.counted c.args.counted) (sym c.in-Some.is)
    (inr (λ over. both_ways c.is_newly_outranked.result c.if-is_newly_outranked.false (c.is_newly_outranked.ensures.1 over), refl))

pub returns-then-is_newly_outranked : goal.returns-then-is_newly_outranked
returns-then-is_newly_outranked c =
    let there = ap (λ (o : Option Arrived). sum_by held_length (option_to_list (held_in o))) c.in-Some.is in
    let one = sum_by-cons held_length c.in-Some.there.held [] in
    let long = c.encoded_length.ensures in
    let fits = c.requires in
    subst (λ (o : Option Arrived). IsCountedWith (IsNewlyOutranked c.args.others.now c.args.x.now) (held_in o) c.args.counted (c.encoded_length.result + c.args.counted)) (sym c.in-Some.is)
    (inl (c.is_newly_outranked.ensures.0 c.if-is_newly_outranked.true, omega (arith, there, one, long, fits)))
