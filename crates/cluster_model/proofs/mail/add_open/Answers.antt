use Rattle.std.proofs.Common.{rules, ◌+◌}
use Rattle.std.specs.Result.{is_ok}
use Rattle.std.specs.Vec.{vec_len}
use Rattle.cluster_model.proofs.Open.{resized}
use Rattle.cluster_model.proofs.mail.add_open.Goals as goal

pub returns : goal.returns
returns c = resized (is_ok c.resize.result) c.args.passed.now.items c.resize.new.self.items (c.len.result + c.args.count) (vec_len c.args.passed.now) c.args.count c.resize.ensures.items (search rules) (search rules) (search rules)
