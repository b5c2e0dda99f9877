use Rattle.std.proofs.Common.{sym, ap, ◌∙◌}
use Rattle.std.specs.BTreeMap.{BTreeMap, is_at}
use Rattle.cs_base.specs.Requests.{request_cmp}
use Rattle.node_core.proofs.Requests.{set_absent}
use Rattle.node_core.proofs.opening.replace.Goals as goal

pub returns-in_default-clause-entries : goal.returns-in_default-clause-entries
returns-in_default-clause-entries g c =
    ap (λ (m : BTreeMap _ _). m.entries) c.get_mut.follows.holds-at-none ∙ sym (set_absent (is_at (request_cmp c.args.request.now)) c.args.requests.now.entries c.args.now (sym c.in_default.ensures.value))
