use Rattle.std.proofs.Common.{rules, ◌≡◌, ◌++◌, false, refl, length, replicate}
use Rattle.cluster_model.proofs.Open.{mail_more}
use Rattle.cluster_model.proofs.mail.Mail.add.Goals as goal

pub returns-clause-holds : goal.returns-clause-holds
returns-clause-holds c =
    let sent : c.add_all.new.items.items ≡ c.args.self.now.sent.items ++ c.args.messages = search rules in
    let passed : c.add_open.new.passed.items ≡ c.args.self.now.passed.items ++ replicate (length c.args.messages) false = search rules in
    mail_more c.args.self.now _ c.args.messages c.requires.holds sent passed refl refl
