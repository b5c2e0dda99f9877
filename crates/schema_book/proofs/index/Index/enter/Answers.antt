use Rattle.std.proofs.Common.{rules, ◌≡◌, ℕ, cond, List, Some, ap, ◌∙◌}
use Rattle.std.specs.Str.{bytes_eq}
use Rattle.std.specs.String.{string_bytes}
use Rattle.std.specs.BTreeMap.{get_by_text}
use Rattle.std.proofs.lemmas.Map.Text.{btree_map_updates_text}
use Rattle.schema_book.proofs.Indexing.{entered}
use Rattle.schema_book.proofs.index.Index.enter.Goals as goal

pub returns : goal.returns
returns c =
    let key : string_bytes c.in_ok-keyspace.keyspace ≡ c.args.table.now.keyspace = search rules in
    entered c.args.self.now c.take_out-names.new.self (record { keyspaces = c.insert.new.self }) c.args.table.now c.args.place c.take_out-names.result c.in_ok-names.names c.take_out-names.ensures c.in_ok-names.ensures
    (λ k. btree_map_updates_text (string_bytes c.in_ok-keyspace.keyspace) c.take_out-names.new.self.keyspaces c.insert.new.self _ c.in_ok-insert.ensures.updates k
    ∙ ap (λ (bs : List ℕ). cond (bytes_eq bs k) (Some c.in_ok-names.names) (get_by_text c.take_out-names.new.self.keyspaces k)) key)
