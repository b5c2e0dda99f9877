use Rattle.std.proofs.Common.{rules, ◌≡◌, ℕ, Some, None, List, refl, sym, ap, ◌∙◌, length}
use Rattle.std.specs.Prelude.{slice_get}
use Rattle.std.proofs.lemmas.Option.{slice_get_read, slice_get_past}
use Rattle.cluster_model.specs.State.{runs_of}
use Rattle.cluster_model.specs.Sites.{keeper}
use Rattle.cluster_model.specs.declared.seat.Seat.{Seat}
use Rattle.cluster_model.proofs.Going.{get_site, get_no_site}
use Rattle.cluster_model.proofs.parts.Parts.runs.Goals as goal

pub returns-in-Some : goal.returns-in-Some
returns-in-Some g c =
    let m = keeper g.R.Replica.stands_for g.R.Replica.durable g.R.Replica.disk g.R.Replica.is_whole in
    let seats : List (Seat g.row.R.Denot) = c.args.self.now.seats.items in
    let seat : Seat g.row.R.Denot = c.in-Some.seat.now in
    let number : c.from.result ≡ c.args.node = search rules in
    let here : slice_get seats c.from.result ≡ Some seat =
    ap (λ (xs : List (Seat g.row.R.Denot)). slice_get xs c.from.result) (sym c.deref.ensures.value)
    ∙ slice_get_read c.deref.result.now (length c.deref.result.now) c.from.result seat refl c.in-Some.ensures.lookup.3.0 c.in-Some.ensures.lookup.1 in
    c.runs.ensures ∙ sym (ap runs_of (get_site m seats c.args.node seat (ap (λ (n : ℕ). slice_get seats n) (sym number) ∙ here)))

pub returns-in-None : goal.returns-in-None
returns-in-None g c =
    let m = keeper g.R.Replica.stands_for g.R.Replica.durable g.R.Replica.disk g.R.Replica.is_whole in
    let seats : List (Seat g.row.R.Denot) = c.args.self.now.seats.items in
    let number : c.from.result ≡ c.args.node = search rules in
    let none : slice_get seats c.from.result ≡ None =
    ap (λ (xs : List (Seat g.row.R.Denot)). slice_get xs c.from.result) (sym c.deref.ensures.value)
    ∙ slice_get_past c.deref.result.now c.from.result c.in-None.ensures.lookup.3 in
    sym (ap runs_of (get_no_site m seats c.args.node (ap (λ (n : ℕ). slice_get seats n) (sym number) ∙ none)))
