use Rattle.std.proofs.Common.{inl, refl, subst}
use Rattle.partition_content.specs.declared.keys.Keys.{Keys}
use Rattle.partition_content.specs.Slots.{change_in, IsReachedAt, helds_of, slot_at}
use Rattle.partition_content.proofs.ReachLemmas.{reached_own}
use Rattle.partition_content.proofs.lengths.gained_with.Goals as goal

pub returns-then-is_outranked_over : goal.returns-then-is_outranked_over
returns-then-is_outranked_over c = inl (c.is_outranked_over.ensures.told c.if-is_outranked_over.true, refl)

pub returns-then-is_reached_at : goal.returns-then-is_reached_at
returns-then-is_reached_at c =
    inl (
      reached_own (helds_of c.args.slots.now) c.args.x.now c.requires.good
          (subst (λ (k : Keys). IsReachedAt (change_in (slot_at (helds_of c.args.slots.now) k.at)) c.args.x.now) c.requires.keys (c.is_reached_at.ensures.0 c.if-is_reached_at.true)),
      refl,
    )
