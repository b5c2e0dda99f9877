use Rattle.std.proofs.Common.{◌∙◌, sym, subst, map-id}
use Rattle.std.specs.BTreeMap.{IsFromIterResult}
use Rattle.std.proofs.lemmas.Iterator.{items_from_drains}
use Rattle.std.proofs.lemmas.Iterator.Adapters.{YieldsList-from_vec}
use Rattle.partition_content.specs.Spots.{spot_cmp}
use Rattle.partition_content.proofs.RunLemmas.{Entries, if_ok_weaker}
use Rattle.partition_content.proofs.runs.collect.Goals as goal

pub returns : goal.returns
returns c =
    if_ok_weaker c.from_iter.result _ _
    (λ n h. subst (λ (l : Entries). IsFromIterResult spot_cmp l n) (sym (map-id h.1) ∙ items_from_drains h.1 h.3 (YieldsList-from_vec {s = h.0} _ h.2.0 (h.2.1 ∙ c.args.entries.ok.0))) h.4)
    c.from_iter.ensures.ran
