use Rattle.std.proofs.Common.{rules, ◌≡◌, ◌++◌, ◌∷◌, [], List, length, sym, subst}
use Rattle.schema_book.specs.declared.table.Keyspace.{Keyspace}
use Rattle.schema_book.specs.Places.{AreKeyspacePlaces, Enters}
use Rattle.schema_book.proofs.Indexing.{keyspace_more}
use Rattle.schema_book.proofs.keyspaces.Keyspaces.with.Goals as goal

pub invariant_of-result : goal.invariant_of-result
invariant_of-result c =
    let ks = c.self.inside.list in
    let more : c.push.new.self ≡ ks ++ c.args.keyspace ∷ [] = search rules in
    let enters : Enters c.self.inside.places c.args.keyspace.name (length ks) c.in_ok-places.places = search rules in
    subst (λ (xs : List Keyspace). AreKeyspacePlaces xs c.in_ok-places.places) (sym more)
    (keyspace_more ks c.args.keyspace c.self.inside.places c.in_ok-places.places c.self.invariant enters)
