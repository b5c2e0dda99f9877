use Rattle.std.proofs.Common.{rules, ◌≡◌, ◌<◌, ℕ, List, sym, ap, subst, ◌∙◌, arith}
use Rattle.std.specs.Prelude.{◌^◌}
use Rattle.std.specs.Map.{set_value}
use Rattle.std.specs.BTreeMap.{BTreeMap, IsOrdered, is_at}
use Rattle.cs_base.specs.declared.ids.ReqId.{ReqId}
use Rattle.cs_base.specs.Requests.{request_cmp}
use Rattle.node_steps.specs.State.{OpenWrite}
use Rattle.node_core.specs.Opening.{Known, known_of}
use Rattle.node_core.proofs.LeftOpen.{bit_is, removed_waits, replaced_count, replaced_fits}
use Rattle.node_core.proofs.Requests.{set_absent}
use Rattle.node_core.proofs.base.Base.replace_write.Goals as goal

pub overflow_sub-self : goal.overflow_sub-self
overflow_sub-self c =
    removed_waits c.args.self.now.writes.entries c.args.request.now c.in-Some.place.now c.from-before.result c.args.self.now.unanswered c.requires.ordered.unanswered (sym c.in-Some.ensures.value)
    (bit_is c.in-Some.place.now c.from-before.result c.is_answered.result c.from-before.ensures c.is_answered.ensures)

pub overflow_add-self : goal.overflow_add-self
overflow_add-self c =
    let small =
    replaced_fits c.args.self.now.writes.entries c.args.now c.from-after.result c.from-before.result c.args.self.now.unanswered c.requires.ordered.unanswered (subst (λ (n : ℕ). n < 2 ^ 63) c.len-most.ensures.len c.len-most.ensures.small)
    (bit_is c.args.now c.from-after.result c.is_answered-in-Some.result c.from-after.ensures c.is_answered-in-Some.ensures) in
    omega arith

pub returns-in-Some-clause-ordered : goal.returns-in-Some-clause-ordered
returns-in-Some-clause-ordered c =
    let put : (c.get_mut.follows.lender c.args.now).entries ≡ set_value (is_at (request_cmp c.args.request.now)) c.args.self.now.writes.entries c.args.now = search rules in
    let ordered : IsOrdered request_cmp (c.get_mut.follows.lender c.args.now) = search rules in
    record {
      writes = ordered;
      reads = c.requires.ordered.reads;
      unanswered =
          replaced_count c.args.self.now.writes.entries (c.get_mut.follows.lender c.args.now).entries c.args.request.now c.in-Some.place.now c.args.now c.from-before.result c.from-after.result c.args.self.now.unanswered c.requires.ordered.unanswered (sym c.in-Some.ensures.value) put
          (bit_is c.in-Some.place.now c.from-before.result c.is_answered.result c.from-before.ensures c.is_answered.ensures) (bit_is c.args.now c.from-after.result c.is_answered-in-Some.result c.from-after.ensures c.is_answered-in-Some.ensures);
    }

pub returns-in_default-clause-known : goal.returns-in_default-clause-known
returns-in_default-clause-known c =
    ap (λ (m : BTreeMap _ _). let k : Known = record (known_of c.args.self.now) { writes = m.entries } in k) c.get_mut.follows.holds-at-none
    ∙ ap (λ (ws : List (ReqId × OpenWrite)). let k : Known = record (known_of c.args.self.now) { writes = ws } in k) (sym (set_absent (is_at (request_cmp c.args.request.now)) c.args.self.now.writes.entries c.args.now (sym c.in_default.ensures.value)))
