use Rattle.std.proofs.Common.{rules, ◌≡◌, ◌++◌, ◌∷◌, [], List, length, sym, subst}
use Rattle.schema_book.specs.declared.table.Table.{Table}
use Rattle.schema_book.specs.Indexes.{EntersTable, IsIndexOf}
use Rattle.schema_book.proofs.Indexing.{table_more}
use Rattle.schema_book.proofs.tables.Tables.with.Goals as goal

pub invariant_of-result : goal.invariant_of-result
invariant_of-result c =
    let ts = c.self.inside.list in
    let more : c.push.new.self ≡ ts ++ c.args.table ∷ [] = search rules in
    let enters : EntersTable c.self.inside.index c.args.table (length ts) c.enter.new.self = search rules in
    subst (λ (xs : List Table). IsIndexOf xs c.enter.new.self) (sym more)
    (table_more ts c.args.table c.self.inside.index c.enter.new.self c.self.invariant enters)
