use Rattle.std.proofs.Common.{ap, arith}
use Rattle.std.specs.Map.{values_of}
use Rattle.hint_store.specs.Stores.{is_sent}
use Rattle.hint_store.proofs.Firsts.{full_front, whole_front}
use Rattle.hint_store.proofs.looks.copy_first.Goals as goal

pub returns-then-len-ge-SENT : goal.returns-then-len-ge-SENT
returns-then-len-ge-SENT c =
    full_front (is_sent c.args.setting.now c.args.gone.now.keys) (values_of c.args.walk) c.loop-hint.first.items (values_of c.loop-hint.hint-iterator) c.loop-hint.invariant.so_far c.loop-hint.invariant.most (omega arith)

pub returns : goal.returns
returns c =
    whole_front (is_sent c.args.setting.now c.args.gone.now.keys) (values_of c.args.walk) c.loop-hint.first.items (values_of c.loop-hint.hint-iterator) c.loop-hint.invariant.so_far (ap values_of c.in-None.ensures.steps.0) c.loop-hint.invariant.most
