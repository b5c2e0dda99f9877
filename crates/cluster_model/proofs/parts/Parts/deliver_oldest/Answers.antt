use Rattle.std.proofs.Common.{sym, ap, ◌∙◌}
use Rattle.cluster_model.specs.State.{Post, oldest_from}
use Rattle.cluster_model.specs.Mails.{post_of}
use Rattle.cluster_model.specs.Sites.{keeper}
use Rattle.cluster_model.specs.Holding.{state_of, seen, first_of, entries_in}
use Rattle.cluster_model.proofs.parts.Parts.deliver_oldest.Goals as goal

pub returns-in_default-clause-none : goal.returns-in_default-clause-none
returns-in_default-clause-none g c = λ _.
    let m = keeper g.R.Replica.stands_for g.R.Replica.durable g.R.Replica.disk g.R.Replica.is_whole in
    let p = c.args.self.now in (
      sym (ap (λ (post : Post). oldest_from 0 post.passed) c.sort_in.ensures.post) ∙ sym c.oldest.ensures.place ∙ c.in_default.is,
      ap (λ (post : Post). seen m p.setting (first_of m p.begun.items) p.seats.items post (entries_in p)) (c.oldest.ensures.post ∙ c.sort_in.ensures.post),
    )
