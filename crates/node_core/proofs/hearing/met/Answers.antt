use Rattle.std.proofs.Common.{List, Contains, subst, ◌∙◌}
use Rattle.std.proofs.lemmas.Result.{IfOk-weaker}
use Rattle.changes.specs.declared.Held.{Held}
use Rattle.changes.specs.Contents.{IsContent}
use Rattle.change_laws.proofs.Slices.{slice_is_content}
use Rattle.node_core.proofs.hearing.met.Goals as goal

pub returns : goal.returns
returns c =
    IfOk-weaker c.slice.result _ _
    (λ part slice. slice_is_content (Contains c.args.changes.now) c.args.query.now.from c.args.query.now.upto c.in_ok-all.all part
    (subst (λ (xs : List Held). IsContent c.in_ok-all.all (Contains xs)) (c.into_vec.ensures ∙ c.in_ok-copied.ensures) c.in_ok-all.ensures) slice)
    c.slice.ensures
