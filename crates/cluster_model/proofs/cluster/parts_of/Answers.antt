use Rattle.std.proofs.Common.{rules, ◌≡◌, List, [], ◌∷◌, ◌++◌, refl, ap, ◌∙◌, reverse}
use Rattle.std.specs.Prelude.{Vec}
use Rattle.std.specs.declared.alloc.Global.{Global}
use Rattle.chronicle_pieces.specs.Pieces.{joined}
use Rattle.chronicle_pieces.specs.declared.piece.Piece.{Piece}
use Rattle.cluster_model.specs.Sites.{keeper}
use Rattle.cluster_model.specs.Holding.{entries_in}
use Rattle.cluster_model.specs.declared.parts.Parts.{Parts}
use Rattle.cluster_model.specs.declared.seat.Seat.{Seat}
use Rattle.cluster_model.proofs.Begun.{first_seated, seated_holds, seated_begins}
use Rattle.cluster_model.proofs.cluster.parts_of.Goals as goal

pub returns-in_err-seats-clause-damaged : goal.returns-in_err-seats-clause-damaged
returns-in_err-seats-clause-damaged g c = λ k f p is. c.in_err-seats.ensures.damaged k f p (search rules)

pub returns-clause-holds : goal.returns-clause-holds
returns-clause-holds g c =
    let m = keeper g.R.Replica.stands_for g.R.Replica.durable g.R.Replica.disk g.R.Replica.is_whole in
    let p : Parts g.row.R.Denot = record { setting = c.args.setting; seats = c.in_ok-seats.seats; begun = c.and.result; annals = record { mail = c.in_ok-new.field-0; pieces = c.new-3.result } } in
    let records : c.and.result.items ≡ (c.in_ok-seats.seats, tt) ∷ [] = c.and.ensures ∙ ap (λ (xs : List (Vec (Seat g.row.R.Denot) Global × Unit {0})). xs ++ (c.in_ok-seats.seats, tt) ∷ []) c.new.ensures in
    let first = first_seated m c.and.result.items c.in_ok-seats.seats records in
    let entries : entries_in p ≡ [] = ap (λ (xs : List Piece). reverse (joined xs)) c.new-3.ensures.items in
    seated_holds m c.args.setting c.args.stores.items p refl c.in_ok-seats.ensures.few c.in_ok-seats.ensures.seats first c.in_ok-new.ensures.holds c.in_ok-new.ensures.post entries

pub returns-clause-begins : goal.returns-clause-begins
returns-clause-begins g c =
    let m = keeper g.R.Replica.stands_for g.R.Replica.durable g.R.Replica.disk g.R.Replica.is_whole in
    let p : Parts g.row.R.Denot = record { setting = c.args.setting; seats = c.in_ok-seats.seats; begun = c.and.result; annals = record { mail = c.in_ok-new.field-0; pieces = c.new-3.result } } in
    let records : c.and.result.items ≡ (c.in_ok-seats.seats, tt) ∷ [] = c.and.ensures ∙ ap (λ (xs : List (Vec (Seat g.row.R.Denot) Global × Unit {0})). xs ++ (c.in_ok-seats.seats, tt) ∷ []) c.new.ensures in
    let first = first_seated m c.and.result.items c.in_ok-seats.seats records in
    let entries : entries_in p ≡ [] = ap (λ (xs : List Piece). reverse (joined xs)) c.new-3.ensures.items in
    seated_begins m c.args.setting c.args.stores.items p refl c.in_ok-seats.ensures.seats first c.in_ok-new.ensures.post entries
