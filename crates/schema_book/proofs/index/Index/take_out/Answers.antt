use Rattle.std.proofs.Common.{◌≡◌, ℕ, cond, List, Some, None, sym, ap, ◌∙◌, subst}
use Rattle.std.specs.Str.{bytes_eq}
use Rattle.std.specs.BTreeMap.{get_by_text}
use Rattle.std.proofs.lemmas.Map.Text.{btree_map_updates_text}
use Rattle.schema_book.specs.Indexes.{place_named}
use Rattle.schema_book.proofs.index.Index.take_out.Goals as goal

pub returns-in-Some : goal.returns-in-Some
returns-in-Some c =
    let old = c.args.self.now.keyspaces in
    let same : c.as_str.result.now ≡ c.args.keyspace.now = c.as_str.ensures in
    let found = subst (λ (bs : List ℕ). get_by_text old bs ≡ Some c.in-Some.names) same (sym c.remove.ensures.value ∙ c.in-Some.is) in (
      λ q. sym (ap (λ o. place_named o q) found),
      λ k. subst (λ (bs : List ℕ). get_by_text c.remove.new.self k ≡ cond (bytes_eq bs k) None (get_by_text old k)) same
          (btree_map_updates_text c.as_str.result.now old c.remove.new.self None c.remove.ensures.updates k),
    )
