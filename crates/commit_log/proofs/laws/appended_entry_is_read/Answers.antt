use Rattle.commit_log.proofs.Appended.{appended}
use Rattle.commit_log.proofs.laws.appended_entry_is_read.Goals as goal

pub returns : goal.returns
returns c entry word is fits = appended entry word is fits
