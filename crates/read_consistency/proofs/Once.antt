-- No request is begun twice in a trace, so it asks one thing.
use Rattle.std.proofs.Common.{◌≡◌, ℕ, Bool, List, ◌∷◌, sym, subst, ◌∙◌, Contains, ap, inl, inr}
use Rattle.cs_base.specs.declared.ids.ReqId.{ReqId}
use Rattle.cs_base.specs.declared.level.Level.{Level}
use Rattle.cs_base.proofs.Members.{contains_nil, contains_cases}
use Rattle.changes.specs.declared.Query.{Query}
use Rattle.statement_plan.specs.declared.plan.Columns.{Columns}
use Rattle.peer_messages.specs.declared.event.Ask.{Ask}
use Rattle.peer_messages.specs.declared.event.Plan.TheVariants as plans
use Rattle.peer_messages.specs.declared.setting.Setting.{Setting}
use Rattle.node_steps.specs.Acts.{Act, Asks, Deed}
use Rattle.cluster_runs.specs.Trace.{Scene, IsAskAt, IsUnbegun, MayTake, Move, Trace}
use Rattle.cluster_runs.specs.Trace.Trace.{begun, moved, wakes, forgets, free}
use Rattle.read_consistency.proofs.Facts.{IsReadOf}

-- two moves that began a request of one id are one
abbrev pub AreOnce : List Deed → Type 0
AreOnce past = (d e : Deed) (k time : ℕ) → Contains past d → Contains past e → IsAskAt k time d → IsAskAt k time e → d ≡ e

once_more : (d : Deed) (past : List Deed) → AreOnce past → ((k time : ℕ) → IsAskAt k time d → IsUnbegun past k time) → AreOnce (d ∷ past)
once_more d past once new a b k time in_a in_b asks_a asks_b = elim (contains_cases d past a in_a) [
  | inl here ↦ elim (contains_cases d past b in_b) [
    | inl too ↦ sym here ∙ too
    | inr old ↦ absurd (new k time (subst (λ (v : Deed). IsAskAt k time v) (sym here) asks_a) b old asks_b)
  ]
  | inr old ↦ elim (contains_cases d past b in_b) [
    | inl too ↦ absurd (new k time (subst (λ (v : Deed). IsAskAt k time v) (sym too) asks_b) a old asks_a)
    | inr both ↦ once a b k time old both asks_a asks_b
  ]
]

-- a move that begins a request may do so
unbegun : (c : Setting) (w w' : Scene) (j k time : ℕ) (lost : Bool) (d : Deed) → Move c w j lost d w' → IsAskAt k time d → IsUnbegun w.past k time
unbegun c w w' j k time lost d m (node, risen, asks) =
    let may : IsUnbegun w.past j d.before.risen = subst (λ (a : Act). MayTake w.past j d.before a) asks.1 m.may_take in
    subst (λ (t : ℕ). IsUnbegun w.past k t) risen (subst (λ (n : ℕ). IsUnbegun w.past n d.before.risen) (sym m.mine ∙ node) may)

pub trace_once : (c : Setting) (w : Scene) → Trace c w → AreOnce w.past
trace_once c _ begun = λ d e k time there. absurd (contains_nil d there)
trace_once c _ (moved w w' k lost d t m) =
    subst (λ (v : Scene). AreOnce v.past) (sym m.scene) (once_more d w.past (trace_once c w t) (λ j time asks. unbegun c w w' k j time lost d m asks))
trace_once c _ (wakes w k t none) = trace_once c w t
trace_once c _ (forgets w k s found t losing at same) = trace_once c w t
trace_once c _ (free w e t i) = trace_once c w t

same_ask : (a b : Ask) → Asks a ≡ Asks b → a ≡ b
same_ask a b h = cc

same_query : (p q : Query) (u v : Columns) → plans.Read p u ≡ plans.Read q v → p ≡ q
same_query p q u v h = cc

pub one_read : (past : List Deed) (id : ReqId) (p q : Query) (l n : Level) → AreOnce past → IsReadOf past id p l → IsReadOf past id q n → (p ≡ q) × (l ≡ n)
one_read past id p q l n once a b =
    let deed : a.deed ≡ b.deed = once a.deed b.deed id.node id.time a.there b.there a.at b.at in
    let ask : a.at.2.0 ≡ b.at.2.0 = same_ask _ _ (sym a.at.2.1 ∙ ap (λ (d : Deed). d.act) deed ∙ b.at.2.1) in (
      same_query p q a.columns b.columns (sym a.asks ∙ ap (λ (x : Ask). x.plan) ask ∙ b.asks),
      sym a.level ∙ ap (λ (x : Ask). x.level) ask ∙ b.level,
    )
