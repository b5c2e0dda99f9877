-- A merge that reaches what another one has shows what that one showed; and the merge of a read whose replies suffice reaches
-- what each answer had that was given before the read began.
use Rattle.std.proofs.Common.{◌≡◌, ℕ, ◌≤◌, inl, inr, Bool, Some, None, List, sym, subst, ◌∙◌, arith, Contains}
use Rattle.cs_base.specs.declared.ids.ReqId.{ReqId}
use Rattle.cs_base.specs.declared.level.Level.{Level}
use Rattle.cs_base.specs.Quorums.{heard_of}
use Rattle.cs_base.proofs.Quorums.{shared}
use Rattle.cs_base.proofs.Slots.{some_one}
use Rattle.changes.specs.declared.Bound.{Bound}
use Rattle.changes.specs.declared.Partition.{Partition}
use Rattle.changes.specs.declared.Place.{Place}
use Rattle.changes.specs.declared.Place.TheVariants.{Cell, Marker, RowGone, RangeGone, PartGone}
use Rattle.changes.specs.declared.Held.{Held}
use Rattle.changes.specs.declared.Query.{Query}
use Rattle.changes.specs.declared.ShownRow.{ShownRow}
use Rattle.changes.specs.Order.{IsBetween, IsBeside, row_of}
use Rattle.changes.specs.Contents.{IsReachedBy}
use Rattle.changes.specs.Queries.{MeetsBounds, InQuery}
use Rattle.change_laws.proofs.Contents.{reached_below}
use Rattle.change_laws.proofs.Slices.{meets_above}
use Rattle.peer_messages.specs.declared.chronicle.Entry.{Entry}
use Rattle.peer_messages.specs.declared.chronicle.Entry.TheVariants.{Rows}
use Rattle.peer_messages.specs.declared.setting.Setting.{Setting}
use Rattle.peer_messages.specs.Settings.{replicas_of, needed}
use Rattle.node_steps.specs.State.{OpenRead}
use Rattle.node_steps.specs.Reads.{heard_by}
use Rattle.cluster_runs.specs.Trace.{Scene}
use Rattle.reads_forward.specs.ReadsForward.{WasAnswered, ShowsOn, GoesForward}
use Rattle.read_consistency.proofs.Grows.{stands_in}
use Rattle.reads_forward.proofs.Facts.{SeesAnswers, IsFixed, ReadAhead, Ahead}

-- ---- a query asks for a row as a whole

none_row : (row : List ℕ) → None ≡ Some row → ⊥
none_row row e = cc

place_between : (from upto : Bound) (p : Place) (row : List ℕ) → row_of p ≡ Some row → MeetsBounds from upto p → IsBetween from upto row
place_between from upto (Cell r column) row at h = subst (IsBetween from upto) (some_one at) h
place_between from upto (Marker r) row at h = subst (IsBetween from upto) (some_one at) h
place_between from upto (RowGone r) row at h = subst (IsBetween from upto) (some_one at) h
place_between from upto (RangeGone a b) row at h = absurd (none_row row at)
place_between from upto PartGone row at h = absurd (none_row row at)

between_place : (from upto : Bound) (p : Place) (row : List ℕ) → row_of p ≡ Some row → IsBetween from upto row → MeetsBounds from upto p
between_place from upto (Cell r column) row at h = subst (IsBetween from upto) (sym (some_one at)) h
between_place from upto (Marker r) row at h = subst (IsBetween from upto) (sym (some_one at)) h
between_place from upto (RowGone r) row at h = subst (IsBetween from upto) (sym (some_one at)) h
between_place from upto (RangeGone a b) row at h = absurd (none_row row at)
between_place from upto PartGone row at h = absurd (none_row row at)

beside_in : (q : Query) (x y : Held) → IsBeside x y → InQuery q x → InQuery q y
beside_in q x y (inl same) h = subst (InQuery q) same h
beside_in q x y (inr (row, at_x, at_y)) h = between_place q.from q.upto y.place row at_y (place_between q.from q.upto x.place row at_x h)

-- ---- what is shown

reached_in : (q : Query) (first merged : List Held) → ((y : Held) → Contains first y → InQuery q y → IsReachedBy merged y) → (y : Held) → InQuery q y → IsReachedBy first y → IsReachedBy merged y
reached_in q first merged each y inside (inl there) = each y there inside
reached_in q first merged each y inside (inr (z, there, over)) = reached_below merged z y (each z there (meets_above q.from q.upto z y over inside)) over

shows_on : (earlier : List Entry) (asked : Query) (first : List Held) (q : Query) (merged : List Held) → asked.partition ≡ q.partition → ((y : Held) → Contains first y → InQuery q y → IsReachedBy merged y) → ShowsOn earlier asked first q merged
shows_on earlier asked first q merged same each x s in_first in_q = record {
  request = s.request;
  mutation = s.mutation;
  submitted = s.submitted;
  partition = s.partition ∙ same;
  there = s.there;
  beside = λ y there b inside. reached_in q first merged each y inside (s.beside y there b (beside_in asked x y b in_first));
}

-- ---- the answer of a read whose merge is fixed

before_reached : (c : Setting) (w : Scene) (id : ReqId) (o : OpenRead) (q : Query) (l : Level) → Ahead c w → needed c l q.partition ≤ heard_of (replicas_of c q.partition) (heard_by o)
    → ((j : ℕ) → Contains (heard_by o) j → SeesAnswers w.chronicle id j q o.merged) → (a : WasAnswered c w.chronicle id q l) → (y : Held) → Contains a.grounds.merged y → InQuery q y → IsReachedBy o.merged y
before_reached c w id o q l e enough sees a y there inside =
    let answered = e.entries (Rows a.first a.rows a.more a.grounds) (stands_in w.chronicle id (Rows a.first a.rows a.more a.grounds) a.before) in
    let known = answered.1 a.asked a.waited a.columns a.began in
    let count : needed c a.waited q.partition ≤ heard_of (replicas_of c q.partition) a.grounds.heard =
    subst (λ (p : Partition). needed c a.waited p ≤ heard_of (replicas_of c p) a.grounds.heard) a.partition known.count in
    let meets = a.meets in
    let both = shared (replicas_of c q.partition) a.grounds.heard (heard_by o) (omega (arith, meets, count, enough)) in
    sees both.0 both.3 a.first a.rows a.more a.grounds a.before both.2 a.asked a.waited a.columns a.began a.partition y there inside

pub goes_forward : (c : Setting) (w : Scene) (k : ℕ) (id : ReqId) (o : OpenRead) (rows : List ShownRow) (more : Bool) → Ahead c w → ReadAhead c w k id o → IsFixed o
    → GoesForward c w.chronicle (Rows id rows more (record { heard = heard_by o; merged = o.merged }))
goes_forward c w k id o rows more e ok fixed q l v began a =
    let is = ok.is q l v began in
    let enough : needed c l q.partition ≤ heard_of (replicas_of c q.partition) (heard_by o) =
    subst (λ (n : Level). needed c n q.partition ≤ heard_of (replicas_of c q.partition) (heard_by o)) (sym is.level)
    (subst (λ (p : Query). needed c o.level p.partition ≤ heard_of (replicas_of c p.partition) (heard_by o)) (sym is.query) (ok.enough fixed)) in
    shows_on w.chronicle a.asked a.grounds.merged q o.merged a.partition (before_reached c w id o q l e enough is.sees a)
