use Rattle.std.proofs.Common.{◌≡◌, ◌∙◌, List, ℕ, [], sym, ap, subst}
use Rattle.std.proofs.lemmas.Result.{on_ok_weaker}
use Rattle.cs_store.specs.Disk.{LeavesOnly}
use Rattle.cs_store.proofs.Crashes.{weaker}
use Rattle.gate_log.specs.Format as gates
use Rattle.row_change.specs.Grammar.{IsEntry}
use Rattle.commit_log.specs.Format.{Adds, IsBeforeOrAfter}
use Rattle.commit_log.specs.Place.{LogPlace}
use Rattle.commit_log.proofs.Appended.{adds, before_or_after}
use Rattle.commit_log.proofs.log.CommitLog.append.Goals as goal

pub returns-clause-acknowledged : goal.returns-clause-acknowledged
returns-clause-acknowledged g c =
    let old = g.S.Store.disk c.args.store.now in
    let new = g.S.Store.disk c.append.new.store in
    let file = c.self.inside.gates.file in
    let same : c.deref.result.now ≡ c.args.self.now.word = c.deref.ensures.value ∙ ap (λ (p : LogPlace). p.word) c.self.view_is in
    let is : IsEntry c.deref.result.now c.args.entry.now [] = subst (λ (w : List ℕ). IsEntry w c.args.entry.now []) (sym same) c.requires.reserved.word in
    on_ok_weaker c.append.result
    (λ added honest.
    let more : Adds c.args.entry.now (old.seen file) (new.seen file) = adds c.args.entry.now c.deref.result.now is (old.seen file) (new.seen file) (added honest) in
    subst (λ (p : LogPlace). Adds c.args.entry.now (old.seen p.place.file) (new.seen p.place.file)) c.self.view_is more)
    c.append.ensures.acknowledged

pub returns-clause-any_moment : goal.returns-clause-any_moment
returns-clause-any_moment g c honest =
    let old = g.S.Store.disk c.args.store.now in
    let new = g.S.Store.disk c.append.new.store in
    let file = c.self.inside.gates.file in
    let same : c.deref.result.now ≡ c.args.self.now.word = c.deref.ensures.value ∙ ap (λ (p : LogPlace). p.word) c.self.view_is in
    let is : IsEntry c.deref.result.now c.args.entry.now [] = subst (λ (w : List ℕ). IsEntry w c.args.entry.now []) (sym same) c.requires.reserved.word in
    let only = weaker file old new (IsBeforeOrAfter c.args.entry.now (old.seen file)) (gates.IsBeforeOrAfter c.deref.result.now (old.seen file)) (c.append.ensures.any_moment honest) (λ d either. before_or_after c.args.entry.now c.deref.result.now is (old.seen file) d either) in
    subst (λ (p : LogPlace). LeavesOnly p.place.file (IsBeforeOrAfter c.args.entry.now (old.seen p.place.file)) old new) c.self.view_is only
