use Rattle.std.proofs.Common.{sym, subst, arith, IsSome}
use Rattle.partition_content.specs.declared.spots.Spot.{Spot}
use Rattle.partition_content.specs.Spots.{spot_cmp}
use Rattle.std.specs.BTreeMap.{get, is_at}
use Rattle.partition_content.specs.declared.spots.Spot.TheVariants.{At}
use Rattle.partition_content.proofs.HeldLemmas.{slot_there}
use Rattle.partition_content.proofs.PutLemmas.{slot_found}
use Rattle.partition_content.proofs.OwnLemmas.{cell_taken, cell_comes}
use Rattle.partition_content.specs.Slots.{helds_of}
use Rattle.partition_content.proofs.taking.put_cell.Goals as goal

pub put_own-requires : goal.put_own-requires
put_own-requires c =
    let long = c.requires.length in
    record {
      slot = subst (λ (s : Spot). IsSome (get spot_cmp c.args.slots.now s)) (sym c.requires.at) (slot_there (is_at (spot_cmp (At c.args.x.place))) c.args.slots.now.entries (slot_found c.args.x.place (helds_of c.args.slots.now) c.requires.slot));
      there = omega (arith, long);
      fits = c.requires.fits;
    }

pub returns-clause-comes : goal.returns-clause-comes
returns-clause-comes c = cell_comes c.args.time c.args.slots.now c.put_own.new.slots c.args.x c.args.own.now.at c.args.length c.put_own.result c.requires.at c.requires.reached c.put_own.ensures

pub returns-clause-taken : goal.returns-clause-taken
returns-clause-taken c =
    cell_taken c.args.time c.args.slots.now c.put_own.new.slots c.args.x c.args.own.now.at c.args.length c.put_own.result c.requires.at c.requires.narrow c.requires.good c.requires.length c.requires.reached c.put_own.ensures
