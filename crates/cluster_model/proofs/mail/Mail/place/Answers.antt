use Rattle.std.proofs.Common.{rules}
use Rattle.cluster_model.proofs.Open.{place_found}
use Rattle.cluster_model.proofs.mail.Mail.place.Goals as goal

pub returns-clause-within : goal.returns-clause-within
returns-clause-within c =
    let long = c.args.self.now.passed.ok.0 in
    let even = c.requires.holds.even in
    place_found c.args.from c.args.upto c.args.number c.deref.result.now _ c.place.result (search rules) c.place.ensures.place
