use Rattle.std.proofs.Common.{arith}
use Rattle.source_lines.proofs.LineLaws.{kept_short, kept_full}
use Rattle.source_lines.proofs.line.keep.Goals as goal

pub returns-then-len-lt-TOLD-clause-line : goal.returns-then-len-lt-TOLD-clause-line
returns-then-len-lt-TOLD-clause-line c = kept_short c.args.line.now.items c.push_reserved.new.self.items c.args.byte (omega (arith, c.args.line.now.ok.0)) c.push_reserved.ensures.items

pub returns-else-len-lt-TOLD-clause-line : goal.returns-else-len-lt-TOLD-clause-line
returns-else-len-lt-TOLD-clause-line c = kept_full c.args.line.now.items c.args.byte (omega (arith, c.args.line.now.ok.0))
