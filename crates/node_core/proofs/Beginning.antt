-- What a client's request leaves as it was, and what of it the node sends to itself.
use Rattle.std.proofs.Common.{◌≡◌, inl, inr, ℕ, Bool, true, false, List, [], ◌∷◌, refl, sym, ap, subst, ◌∙◌}
use Rattle.std.specs.Prelude.{◌==◌, cond}
use Rattle.std.specs.List.{AllByRecursion}
use Rattle.std.proofs.lemmas.Bool.{eqb-true}
use Rattle.cs_base.specs.declared.ids.ReqId.{ReqId}
use Rattle.cs_base.specs.declared.level.Level.{Level}
use Rattle.changes.specs.declared.DraftMutation.{DraftMutation}
use Rattle.changes.specs.declared.Mutation.{Mutation}
use Rattle.changes.specs.declared.Query.{Query}
use Rattle.changes.specs.Drafts.{mutation_of}
use Rattle.stored_changes.specs.Spelling.{MutationFits}
use Rattle.statement_plan.specs.declared.plan.Columns.{Columns}
use Rattle.row_change.specs.declared.entry.LogItem.{LogItem}
use Rattle.peer_messages.specs.declared.message.Body.{Body}
use Rattle.peer_messages.specs.declared.message.Body.TheVariants.{Write, Read}
use Rattle.peer_messages.specs.declared.outcome.Outbound.{Outbound}
use Rattle.peer_messages.specs.Settings.{alive_at}
use Rattle.node_steps.specs.State.{OpenWrite}
use Rattle.node_steps.specs.Effects.{Effects, outbound, send_to}
use Rattle.node_steps.specs.Writes.{started_write}
use Rattle.node_steps.specs.Reads.{started_read}
use Rattle.node_core.specs.declared.base.Base.{Base}
use Rattle.node_core.specs.declared.slot.Slot.{Slot}
use Rattle.node_core.specs.declared.slot.Slot.TheVariants.{New}
use Rattle.node_core.specs.declared.work.Given.{Given}
use Rattle.node_core.specs.declared.work.Work.{Work}
use Rattle.node_core.specs.Hinting.{Stage}
use Rattle.node_core.specs.Working.{BodyFits, FitsWrite, IsMade, IsOwn, IsPlain, down_with, own_sent}
use Rattle.node_core.specs.Asking.{AsksWrite, AsksRead, Begins}
use Rattle.node_core.proofs.Hinting.{made_more}

-- ---- one body to each of them

own_one : (b : Bool) (me : ℕ) (id : ReqId) (body : Body) (k : ℕ) (rest : List Outbound) → (k == me) ≡ b → BodyFits body → IsPlain body → AllByRecursion (IsOwn me id) rest → AllByRecursion (IsOwn me id) (cond b (outbound id body k ∷ rest) rest)
own_one true me id body k rest is fits plain all = (record { upto = eqb-true k me is; request = refl; fits = fits; plain = plain }, all)
own_one false me id body k rest is fits plain all = all

own_to : (me : ℕ) (id : ReqId) (body : Body) (ks : List ℕ) → BodyFits body → IsPlain body → AllByRecursion (IsOwn me id) (own_sent me (send_to id body ks))
own_to me id body [] fits plain = tt
own_to me id body (k ∷ ks) fits plain = own_one (k == me) me id body k (own_sent me (send_to id body ks)) refl fits plain (own_to me id body ks fits plain)

-- ---- a request that begins, or does not

pub nothing_begins : (b : Base) (w : Work) (g : Given) → g.sends ≡ [] → Begins b w w g
nothing_begins b w g none = record {
  stays = refl;
  write = inl refl;
  read = inl refl;
  own = subst (λ (xs : List Outbound). AllByRecursion (IsOwn b.me w.request) (own_sent b.me xs)) (sym none) tt;
  fits = λ h. h;
  made = λ all. all;
}

pub write_begins : (b : Base) (x x' : Stage) (l : Level) (d : DraftMutation) (m : Mutation) (g : Given) → m ≡ mutation_of x.work.request d → MutationFits m → AsksWrite b l d x x' g → Begins b x.work x'.work g
write_begins b x x' l d m g is fits asks =
    let w = x.work in
    let made : MutationFits (mutation_of w.request d) = subst MutationFits is fits in
    let sends : g.sends ≡ send_to w.request (Write (mutation_of w.request d)) (alive_at b.setting (down_with w.marked b.down) d.partition) = ap (λ (o : Effects). o.sends) asks.gives in
    let opened : x'.work ≡ record w { write = New (started_write w.request l d asks.hinted); made = asks.mid.work.made } =
    ap (λ (y : Stage). y.work) asks.opens
    ∙ ap (λ (v : Work). let v' : Work = record v { write = New (started_write w.request l d asks.hinted); made = asks.mid.work.made } in v') asks.leaves.work in
    record {
      stays = subst (λ (y : Work). y ≡ record w { write = y.write; read = y.read; made = y.made }) (sym opened) refl;
      write = inr (started_write w.request l d asks.hinted, ap (λ (y : Work). y.write) opened);
      read = inl (ap (λ (y : Work). y.read) opened);
      own = subst (λ (xs : List Outbound). AllByRecursion (IsOwn b.me w.request) (own_sent b.me xs)) (sym sends) (own_to b.me w.request (Write (mutation_of w.request d)) (alive_at b.setting (down_with w.marked b.down) d.partition) made tt);
      fits = λ h. subst (λ (slot : Slot OpenWrite). FitsWrite slot) (sym (ap (λ (y : Work). y.write) opened)) made;
      made = λ all. subst (λ (xs : List LogItem). AllByRecursion IsMade xs) (sym (ap (λ (y : Work). y.made) opened)) (made_more asks.hinted w.request.time (mutation_of w.request d) x asks.mid made asks.leaves all);
    }

pub read_begins : (b : Base) (w w' : Work) (l : Level) (q : Query) (columns : Columns) (g : Given) → AsksRead b l q columns w w' g → Begins b w w' g
read_begins b w w' l q columns g asks =
    let sends : g.sends ≡ send_to w.request (Read q) (alive_at b.setting (down_with w.marked b.down) q.partition) = ap (λ (o : Effects). o.sends) asks.gives in
    record {
      stays = subst (λ (y : Work). y ≡ record w { write = y.write; read = y.read; made = y.made }) (sym asks.opens) refl;
      write = inl (ap (λ (y : Work). y.write) asks.opens);
      read = inr (started_read l q, ap (λ (y : Work). y.read) asks.opens);
      own = subst (λ (xs : List Outbound). AllByRecursion (IsOwn b.me w.request) (own_sent b.me xs)) (sym sends) (own_to b.me w.request (Read q) (alive_at b.setting (down_with w.marked b.down) q.partition) tt tt);
      fits = λ h. subst (λ (slot : Slot OpenWrite). FitsWrite slot) (sym (ap (λ (y : Work). y.write) asks.opens)) h;
      made = λ all. subst (λ (xs : List LogItem). AllByRecursion IsMade xs) (sym (ap (λ (y : Work). y.made) asks.opens)) all;
    }
