use Rattle.std.proofs.Common.{◌∙◌}
use Rattle.std.specs.BTreeMap.{get_by_text}
use Rattle.std.specs.String.{string_bytes}
use Rattle.std.proofs.lemmas.Map.Text.{btree_map_updates_text}
use Rattle.session_v4.proofs.GivenLaws.{named_more}
use Rattle.session_v4.proofs.given.params_by_name.Goals as goal

pub loop-named-preserved : goal.loop-named-preserved
loop-named-preserved c =
    named_more (get_by_text c.loop-named.params) (get_by_text c.insert.new.self) (string_bytes c.in_ok-name.name) c.loop-named.yielded c.in-Some.named
    c.param_of.result (c.in_ok-name.ensures.ok ∙ c.as_str.ensures) c.param_of.ensures c.loop-named.invariant
    (btree_map_updates_text (string_bytes c.in_ok-name.name) c.loop-named.params c.insert.new.self _ c.in_ok-insert.ensures.updates)
