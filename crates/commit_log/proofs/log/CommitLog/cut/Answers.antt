use Rattle.commit_log.proofs.log.CommitLog.cut.Goals as goal

pub returns-in_err-gates-clause-surely : goal.returns-in_err-gates-clause-surely
returns-in_err-gates-clause-surely g c m n more spares = cc ((c.in_err-gates.ensures.surely m n more spares).0)
