use Rattle.std.proofs.Common.{ℕ, ◌+◌, sym, ap, subst}
use Rattle.schema_book.specs.Places.{Enters}
use Rattle.schema_book.proofs.ColumnPlaces.{places_more}
use Rattle.schema_book.proofs.column_defs.places_of.Goals as goal

pub loop-def-preserved : goal.loop-def-preserved
loop-def-preserved c = (
  ap (λ (n : ℕ). n + 1) c.loop-def.invariant.0,
  places_more c.args.defs.now c.loop-def.def-index c.def-item.result c.loop-def.places c.in_ok-places.places c.loop-def-test.true c.loop-def.invariant.1
      (sym c.def-item.is)
      (subst (λ (n : ℕ). Enters c.loop-def.places c.def-item.result.name n c.in_ok-places.places) c.loop-def.invariant.0 c.in_ok-places.ensures),
)
