use Rattle.std.proofs.Common.{rules, ◌≡◌, ◌++◌, ◌∷◌, [], List, length, sym, subst}
use Rattle.cql_statement.specs.declared.schema.ColumnItem.{ColumnItem}
use Rattle.schema_book.specs.Places.{AreItemPlaces, Enters}
use Rattle.schema_book.proofs.Indexing.{item_more}
use Rattle.schema_book.proofs.column_items.ColumnItems.with.Goals as goal

pub invariant_of-result : goal.invariant_of-result
invariant_of-result c =
    let cs = c.self.inside.list in
    let more : c.push.new.self ≡ cs ++ c.args.column ∷ [] = search rules in
    let enters : Enters c.self.inside.places c.args.column.name (length cs) c.in_ok-places.places = search rules in
    subst (λ (xs : List ColumnItem). AreItemPlaces xs c.in_ok-places.places) (sym more)
    (item_more cs c.args.column c.self.inside.places c.in_ok-places.places c.self.invariant enters)
