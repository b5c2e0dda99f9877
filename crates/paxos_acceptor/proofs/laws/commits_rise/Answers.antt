use Rattle.paxos_acceptor.proofs.Commits.{commit_rises, commits_are_kept}
use Rattle.paxos_acceptor.proofs.laws.commits_rise.Goals as goal

pub returns : goal.returns
returns c = record { rise = commit_rises; kept = commits_are_kept }
