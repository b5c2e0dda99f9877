use Rattle.std.proofs.Common.{◌≤◌, inl, inr, refl, sym, ap, subst}
use Rattle.std.specs.List.{sum_by}
use Rattle.std.specs.Option.{option_to_list}
use Rattle.changes.specs.Lengths.{held_length}
use Rattle.partition_content.specs.declared.keys.Keys.{Keys}
use Rattle.partition_content.specs.declared.spots.Spot.{Spot}
use Rattle.partition_content.specs.Slots.{change_in, helds_of, slot_at}
use Rattle.partition_content.specs.Lengths.{IsLengthAt}
use Rattle.partition_content.proofs.lengths.length_beside.Goals as goal

pub returns-then-is_outranked_over : goal.returns-then-is_outranked_over
returns-then-is_outranked_over c = inl (c.is_outranked_over.ensures.told c.if-is_outranked_over.true, refl)

pub length_at-requires : goal.length_at-requires
length_at-requires c = record {
  there = subst (λ (s : Spot). sum_by held_length (option_to_list (change_in (slot_at (helds_of c.args.slots.now) s))) ≤ c.args.length) (sym (ap (λ (k : Keys). k.at) c.requires.keys)) c.requires.there;
  fits = c.requires.fits;
}

pub returns : goal.returns
returns c = inr (
  λ r. c.is_outranked_over.ensures.missed c.if-is_outranked_over.false r,
  subst (λ (s : Spot). IsLengthAt c.args.x.now (change_in (slot_at (helds_of c.args.slots.now) s)) c.args.length c.length_at.result) (ap (λ (k : Keys). k.at) c.requires.keys) c.length_at.ensures,
)
