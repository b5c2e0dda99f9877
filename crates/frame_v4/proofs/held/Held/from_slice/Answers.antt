use Rattle.std.proofs.Common.{◌∙◌, rules}
use Rattle.frame_v4.proofs.Holding.{placed}
use Rattle.frame_v4.proofs.held.Held.from_slice.Goals as goal

pub returns-clause-held : goal.returns-clause-held
returns-clause-held c = placed _ c.args.bytes.now c.min-header_len.ensures (c.in_ok-body.ensures.items ∙ c.split_at.ensures.back) (search rules) c.requires
