use Rattle.std.proofs.Common.{◌≡◌, ℕ, suc, ◌+◌, ◌<◌, List, length, drop, arith, ap, subst, ◌∙◌}
use Rattle.std.specs.Prelude.{slice_get}
use Rattle.chronicle_print.specs.declared.requests.Request.{Request}
use Rattle.chronicle_print.specs.Printing.{filed_number, filed_place, recent_number, recent_place, FilesAny}
use Rattle.chronicle_print.proofs.RequestLaws.{number_filed, place_filed, leaves_any}
use Rattle.chronicle_print.proofs.requests.Requests.settle.Goals as goal

pub loop-index-preserved : goal.loop-index-preserved
loop-index-preserved c =
    let old = c.loop-index.self in
    let new = c.file_recent.new.self in
    let inv = c.loop-index.invariant in
    let index = c.loop-index.index in
    let items : List Request = c.args.self.now.recent.items in
    let left = leaves_any (slice_get old.recent.items index) old new c.in_ok-file_recent.ensures in
    let filed : FilesAny (slice_get items index) old new = subst (λ (rs : List Request). FilesAny (slice_get rs index) old new) (ap (λ v. v.items) inv.recent) c.in_ok-file_recent.ensures in
    let within : index < length items = omega (arith) in
    let next : index + 1 ≡ suc index = omega (arith) in
    record {
      asked = left.asked ∙ inv.asked;
      newest = left.newest ∙ inv.newest;
      recent = left.recent ∙ inv.recent;
      numbers = λ id. ap (λ (n : ℕ). recent_number (drop n items) id (filed_number new.numbers id)) next ∙ number_filed items index old new id within filed ∙ inv.numbers id;
      places = λ id. ap (λ (n : ℕ). recent_place (drop n items) id (filed_place new.places id)) next ∙ place_filed items index old new id within filed ∙ inv.places id;
    }
