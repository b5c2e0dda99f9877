use Rattle.std.proofs.Common.{refl}
use Rattle.std.proofs.lemmas.Result.{on_ok_weaker}
use Rattle.list_replica.proofs.Replaying.{data_taken}
use Rattle.list_replica.proofs.replay.take_data.Goals as goal

pub returns-in-Ok-clause-takes : goal.returns-in-Ok-clause-takes
returns-in-Ok-clause-takes c =
    on_ok_weaker c.load_in.result
    (λ h. data_taken c.args.loads.now c.args.loads.now c.load_in.new.loads c.args.at c.args.mutation c.in-Ok.incoming c.into_vec.result.items refl c.into_vec.ensures c.in-Ok.ensures h.0 h.1)
    c.load_in.ensures.takes
