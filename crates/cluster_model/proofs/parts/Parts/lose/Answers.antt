use Rattle.std.proofs.Common.{◌≡◌, ℕ, Option, None, sym, ap, subst, ◌∙◌}
use Rattle.cluster_model.specs.State.{Post, place_of, oldest_from}
use Rattle.cluster_model.specs.Takes.{lost}
use Rattle.cluster_model.specs.Mails.{post_of}
use Rattle.cluster_model.specs.Sites.{keeper}
use Rattle.cluster_model.specs.Holding.{state_of, seen, first_of, entries_in}
use Rattle.cluster_model.proofs.parts.Parts.lose.Goals as goal

pub returns-in_default-clause-ok : goal.returns-in_default-clause-ok
returns-in_default-clause-ok g c =
    let m = keeper g.R.Replica.stands_for g.R.Replica.durable g.R.Replica.disk g.R.Replica.is_whole in
    let p = c.args.self.now in
    let none = sym (ap (λ (post : Post). place_of c.args.from c.args.upto c.args.number post.sent) c.sort_in.ensures.post) ∙ sym c.in_ok-place.ensures.place ∙ c.in_default.is in
    subst (λ (o : Option ℕ). seen m p.setting (first_of m p.begun.items) p.seats.items (post_of c.place.new.self) (entries_in p) ≡ lost (state_of m p) o) (sym none)
    (ap (λ (post : Post). seen m p.setting (first_of m p.begun.items) p.seats.items post (entries_in p)) (c.place.ensures.post ∙ c.sort_in.ensures.post))
