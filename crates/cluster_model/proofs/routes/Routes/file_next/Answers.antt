use Rattle.std.proofs.Common.{◌+◌, refl, sym, ap, ◌∙◌, Some, ℕ, List, ◌++◌, ◌∷◌, []}
use Rattle.std.specs.Vec.{with_item}
use Rattle.std.proofs.lemmas.Option.{slice_get-get_or}
use Rattle.cluster_model.specs.declared.routes.Routes.{Routes}
use Rattle.cluster_model.proofs.Places.{next_filed}
use Rattle.cluster_model.proofs.routes.Routes.file_next.Goals as goal

pub returns-clause-filed : goal.returns-clause-filed
returns-clause-filed c =
    let after : Routes = record { places = with_item c.args.self.now.places c.route.result c.push.new.self; filed = c.args.self.now.filed + 1 } in
    next_filed c.args.self.now after c.args.sent.now c.index-sent-self.result c.route.result c.index_mut.result.now c.push.new.self c.requires.filed
    (slice_get-get_or c.args.sent.now c.args.self.now.filed c.index-sent-self.result c.requires.more ∙ ap Some (sym c.index-sent-self.is))
    c.route.ensures.from c.route.ensures.upto c.route.ensures.value (c.in_ok-push.ensures.ok ∙ ap (λ (xs : List ℕ). xs ++ c.args.self.now.filed ∷ []) c.index_mut.ensures.value) refl refl
