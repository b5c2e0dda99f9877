use Rattle.std.proofs.Common.{rules, ◌≡◌, ℕ, false, cond, List, Some, refl, ap, ◌∙◌}
use Rattle.std.specs.Option.{is_some}
use Rattle.std.specs.Str.{bytes_eq}
use Rattle.std.specs.String.{string_bytes}
use Rattle.std.specs.BTreeMap.{get_by_text}
use Rattle.std.proofs.lemmas.Map.Text.{btree_map_updates_text}
use Rattle.schema_book.proofs.Indexing.{at_new, none_of}
use Rattle.schema_book.proofs.index.Names.enter.Goals as goal

pub returns : goal.returns
returns c = λ q.
    let name = c.args.name.now in
    let places = c.args.self.places in
    let missing : is_some (get_by_text c.args.self.places c.args.name.now) ≡ false = search rules in
    let key : string_bytes c.in_ok-from_str.field-0 ≡ c.args.name.now = search rules in
    btree_map_updates_text (string_bytes c.in_ok-from_str.field-0) places c.insert.new.self _ c.in_ok-insert.ensures.updates q
    ∙ (ap (λ (bs : List ℕ). cond (bytes_eq bs q) (Some c.args.place) (get_by_text c.args.self.places q)) key
    ∙ at_new name q c.args.place (get_by_text places) (none_of (get_by_text places name) missing) (bytes_eq name q) refl)
