use Rattle.std.proofs.Common.{◌+◌, ap, subst, arith, [], Option}
use Rattle.std.specs.List.{sum_by}
use Rattle.std.specs.Option.{option_to_list}
use Rattle.std.proofs.lemmas.List.Sums.{sum_by-cons}
use Rattle.changes.specs.declared.Held.{Held}
use Rattle.changes.specs.Lengths.{held_length}
use Rattle.partition_content.specs.Lengths.{IsLengthAt}
use Rattle.partition_content.proofs.lengths.length_at.Goals as goal

pub length_after-requires : goal.length_after-requires
length_after-requires c =
    let e = ap (λ (o : Option Held). sum_by held_length (option_to_list o)) c.in-Some.ensures in
    let one = sum_by-cons held_length c.in-Some.held.now [] in
    let there = c.requires.there in
    record { there = omega (arith, e, one, there); fits = c.requires.fits }

pub returns-in-Some : goal.returns-in-Some
returns-in-Some c = subst (λ (o : Option Held). IsLengthAt c.args.x.now o c.args.length c.length_after.result) c.in-Some.ensures c.length_after.ensures

pub returns-in-None : goal.returns-in-None
returns-in-None c =
    let e = c.encoded_length.ensures in
    let fits = c.requires.fits in subst (λ (o : Option Held). IsLengthAt c.args.x.now o c.args.length (c.args.length + c.encoded_length.result)) c.in-None.ensures (omega (arith, e, fits))
