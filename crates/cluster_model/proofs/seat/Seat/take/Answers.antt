use Rattle.std.proofs.Common.{inl, inr, Err, refl, sym, ap, subst, ◌∙◌, List, ℕ}
use Rattle.std.specs.List.{range_with_len}
use Rattle.peer_messages.specs.Settings.{up_of}
use Rattle.peer_messages.specs.declared.chronicle.Refusal.TheVariants.{Overloaded, Invalid}
use Rattle.peer_messages.specs.declared.chronicle.Invalid.TheVariants.{PartitionTooLarge}
use Rattle.node_core.specs.declared.outcome.Lost.{Lost}
use Rattle.node_core.specs.Nodes.{Core}
use Rattle.cluster_model.specs.Faults.{NeverFails}
use Rattle.cluster_model.specs.Takes.{event_at}
use Rattle.cluster_model.specs.Sites.{keeper, IsReady, MayTake, Stays, StaysBy, TurnsBy}
use Rattle.cluster_model.specs.declared.seat.Part.{Part}
use Rattle.cluster_model.specs.declared.seat.Part.TheVariants.{Runs}
use Rattle.cluster_model.specs.declared.seat.Seat.{Seat}
use Rattle.cluster_model.specs.declared.turn.Turn.TheVariants.{Stepped, Stopped, Refused}
use Rattle.cluster_model.proofs.Stores.{has_halted}
use Rattle.cluster_model.proofs.seat.Seat.take.Goals as goal

pub returns-in-Ok-clause-ok : goal.returns-in-Ok-clause-ok
returns-in-Ok-clause-ok g c =
    let m = keeper g.R.Replica.stands_for g.R.Replica.durable g.R.Replica.disk g.R.Replica.is_whole in
    let seat : Seat g.row.R.Denot = c.args.self.now in
    let after : Seat g.row.R.Denot = record { part = Runs c.step.new.self; clock = seat.clock; told = seat.told } in
    let ready : IsReady m c.in-Runs.node = subst (λ (p : Part g.row.R.Denot). MayTake m p) c.in-Runs.is c.requires.part in
    let steps = c.in-Ok.ensures.ok tt in
    let runs = ap (λ (x : Core). x.runs) steps.stays ∙ ready.runs in
    subst (λ (p : Part g.row.R.Denot). TurnsBy m (range_with_len 0 c.args.nodes) seat p (event_at seat.clock c.args.what) (Stepped c.in-Ok.outputs c.beside.result) after) (sym c.in-Runs.is) (
      c.step.new.self,
      (refl, refl, refl),
      record {
        early = c.in-Ok.ensures.late;
        steps = steps;
        up = c.beside.ensures ∙ ap (λ (d : List ℕ). up_of d (range_with_len 0 c.args.nodes)) c.down.ensures;
        ready = record { runs = runs; whole = c.in-Ok.ensures.whole runs; tied = c.in-Ok.ensures.tied runs tt };
        sure = λ s. (c.in-Ok.ensures.surely ready.runs s).1;
      },
    )

pub returns-in-Err-NoRoom-clause-ok : goal.returns-in-Err-NoRoom-clause-ok
returns-in-Err-NoRoom-clause-ok g c =
    let m = keeper g.R.Replica.stands_for g.R.Replica.durable g.R.Replica.disk g.R.Replica.is_whole in
    let seat : Seat g.row.R.Denot = c.args.self.now in
    let after : Seat g.row.R.Denot = record { part = Runs c.step.new.self; clock = seat.clock; told = seat.told } in
    let ready : IsReady m c.in-Runs.node = subst (λ (p : Part g.row.R.Denot). MayTake m p) c.in-Runs.is c.requires.part in
    let runs = c.in-Err-NoRoom.ensures.others (λ l is. cc) in
    let same = c.in-Err-NoRoom.ensures.same runs in
    let stays : Stays m c.in-Runs.node c.step.new.self = record {
      core = same.0;
      kept = same.1 tt;
      ready = record { runs = runs; whole = c.in-Err-NoRoom.ensures.whole runs; tied = c.in-Err-NoRoom.ensures.tied runs tt };
      sure = λ s. (c.in-Err-NoRoom.ensures.surely ready.runs s).1;
    } in
    subst (λ (p : Part g.row.R.Denot). TurnsBy m (range_with_len 0 c.args.nodes) seat p (event_at seat.clock c.args.what) (Refused Overloaded) after) (sym c.in-Runs.is)
    (c.step.new.self, (refl, refl, refl), stays, inl (refl, (g.R.Replica.log_end c.in-Runs.node.replica, c.in-Err-NoRoom.ensures.no_room (ap Err c.in-Err-NoRoom.field-0-is) tt)))

pub returns-in-Err-TooLarge-clause-ok : goal.returns-in-Err-TooLarge-clause-ok
returns-in-Err-TooLarge-clause-ok g c =
    let m = keeper g.R.Replica.stands_for g.R.Replica.durable g.R.Replica.disk g.R.Replica.is_whole in
    let seat : Seat g.row.R.Denot = c.args.self.now in
    let after : Seat g.row.R.Denot = record { part = Runs c.step.new.self; clock = seat.clock; told = seat.told } in
    let ready : IsReady m c.in-Runs.node = subst (λ (p : Part g.row.R.Denot). MayTake m p) c.in-Runs.is c.requires.part in
    let runs = c.in-Err-TooLarge.ensures.others (λ l is. cc) in
    let same = c.in-Err-TooLarge.ensures.same runs in
    let stays : Stays m c.in-Runs.node c.step.new.self = record {
      core = same.0;
      kept = same.1 tt;
      ready = record { runs = runs; whole = c.in-Err-TooLarge.ensures.whole runs; tied = c.in-Err-TooLarge.ensures.tied runs tt };
      sure = λ s. (c.in-Err-TooLarge.ensures.surely ready.runs s).1;
    } in
    subst (λ (p : Part g.row.R.Denot). TurnsBy m (range_with_len 0 c.args.nodes) seat p (event_at seat.clock c.args.what) (Refused (Invalid PartitionTooLarge)) after) (sym c.in-Runs.is)
    (c.step.new.self, (refl, refl, refl), stays, inr (refl, (c.in-Err-TooLarge.field-0-0, c.in-Err-TooLarge.ensures.too_large c.in-Err-TooLarge.field-0-0 (ap Err c.in-Err-TooLarge.field-0-is) tt)))

pub returns-clause-err : goal.returns-clause-err
returns-clause-err g c =
    let m = keeper g.R.Replica.stands_for g.R.Replica.durable g.R.Replica.disk g.R.Replica.is_whole in
    let seat : Seat g.row.R.Denot = c.args.self.now in
    let after : Seat g.row.R.Denot = record { part = Runs c.step.new.self; clock = seat.clock; told = seat.told } in
    let ready : IsReady m c.in-Runs.node = subst (λ (p : Part g.row.R.Denot). MayTake m p) c.in-Runs.is c.requires.part in
    let runs = c.in-Err-NoMemory.ensures.others (λ l is. cc) in
    let same = c.in-Err-NoMemory.ensures.same runs in
    let stays : Stays m c.in-Runs.node c.step.new.self = record {
      core = same.0;
      kept = same.1 tt;
      ready = record { runs = runs; whole = c.in-Err-NoMemory.ensures.whole runs; tied = c.in-Err-NoMemory.ensures.tied runs tt };
      sure = λ s. (c.in-Err-NoMemory.ensures.surely ready.runs s).1;
    } in
    subst (λ (p : Part g.row.R.Denot). StaysBy m seat p after) (sym c.in-Runs.is) (c.step.new.self, (refl, refl, refl), stays)

pub returns-in-Err-Failed-clause-ok : goal.returns-in-Err-Failed-clause-ok
returns-in-Err-Failed-clause-ok g c =
    let m = keeper g.R.Replica.stands_for g.R.Replica.durable g.R.Replica.disk g.R.Replica.is_whole in
    let seat : Seat g.row.R.Denot = c.args.self.now in
    let event = event_at seat.clock c.args.what in
    let ready : IsReady m c.in-Runs.node = subst (λ (p : Part g.row.R.Denot). MayTake m p) c.in-Runs.is c.requires.part in
    let is = ap Err c.in-Err-Failed.field-0-is in
    let halts = c.in-Err-Failed.ensures.halts c.in-Err-Failed.lost is ready.runs tt in
    let cause : NeverFails (m.disk c.in-Runs.node.replica) → ⊥ = λ s. (c.in-Err-Failed.ensures.surely ready.runs s).0 c.in-Err-Failed.lost is in
    let left = c.halt.ensures.part in
    subst (λ (x : Lost). TurnsBy m (range_with_len 0 c.args.nodes) seat seat.part event (Stopped x c.halt.result) c.halt.new.self) (sym c.in-Err-Failed.lost-is)
    (subst (λ (p : Part g.row.R.Denot). TurnsBy m (range_with_len 0 c.args.nodes) seat p event (Stopped c.in-Err-Failed.lost c.halt.result) c.halt.new.self) (sym c.in-Runs.is)
    (left.0, (left.1, c.halt.ensures.clock, c.halt.ensures.told), has_halted m c.in-Runs.node c.step.new.self seat.told.items event c.in-Err-Failed.lost c.halt.result c.halt.ensures.failed.0 left.0 halts left.2 cause c.halt.ensures.failed.1))
