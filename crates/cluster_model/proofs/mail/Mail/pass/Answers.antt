use Rattle.std.proofs.Common.{rules, ◌<◌, true, refl, length}
use Rattle.std.specs.Vec.{with_item}
use Rattle.cluster_model.specs.declared.mail.Mail.{Mail}
use Rattle.cluster_model.proofs.Open.{passed_post, passed_mail}
use Rattle.cluster_model.proofs.mail.Mail.pass.Goals as goal

pub returns-clause-post : goal.returns-clause-post
returns-clause-post c =
    let m = c.args.self.now in
    let after : Mail = record { sent = m.sent; passed = with_item m.passed c.args.place true; news = m.news; oldest = m.oldest; routes = m.routes } in
    let long = m.passed.ok.0 in
    let within : c.args.place < length m.passed.items = search rules in
    passed_post m after c.args.place within refl refl refl

pub returns-clause-holds : goal.returns-clause-holds
returns-clause-holds c =
    let m = c.args.self.now in
    let after : Mail = record { sent = m.sent; passed = with_item m.passed c.args.place true; news = m.news; oldest = m.oldest; routes = m.routes } in
    passed_mail m after c.args.place c.requires.holds refl refl refl refl
