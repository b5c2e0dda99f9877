-- A node that no line stops goes on.
use Rattle.std.proofs.Common.{◌≡◌, inl, inr, ℕ, zero, suc, Bool, true, false, Option, Some, None, List, [], ◌∷◌, refl, sym, ap, subst, ◌∙◌, Contains, map}
use Rattle.std.specs.Prelude.{◌≢◌, slice_get, slice_set}
use Rattle.std.specs.List.{list_any}
use Rattle.std.proofs.lemmas.Bool.{or_parts, eqb-false}
use Rattle.cs_base.proofs.Slots.{get_set}
use Rattle.cs_base.proofs.Members.{contains_nil}
use Rattle.peer_messages.specs.declared.message.Message.{Message}
use Rattle.peer_messages.specs.declared.event.What.{What}
use Rattle.peer_messages.specs.declared.event.What.TheVariants.{Client, Deliver, Alive, Collect, Flush, Tick}
use Rattle.peer_messages.specs.declared.chronicle.Refusal.{Refusal}
use Rattle.schema_book.specs.Books.{Book}
use Rattle.node_steps.specs.State.{NodeState}
use Rattle.cluster_model.specs.State.{ClusterState, Site, Showing, Up, Off, place_of, oldest_from, passed_over}
use Rattle.cluster_model.specs.Takes.{turned_away, WasTold, ComesBy, ComesAt, Comes, Arrives, Delivers, lost, Settles, with_changed, changed, set_clock, stopped, told_of, RestartsBy, RestartsAt, Takes}
use Rattle.cluster_model.specs.declared.told.Told.{Told}
use Rattle.cluster_model.specs.declared.told.Told.TheVariants.{Fail, Stop}
use Rattle.cluster_model.specs.declared.event.ClusterEvent.{ClusterEvent}
use Rattle.cluster_model.specs.declared.event.ClusterEvent.TheVariants as event
use Rattle.fault_script.specs.declared.script.ScriptEvent.{ScriptEvent}
use Rattle.fault_script.specs.declared.script.ScriptEvent.TheVariants as line
use Rattle.script_program.specs.Requests.{IsEventOf}
use Rattle.cluster_model.specs.Beginning.{begun_site}
use Rattle.script_program.specs.Runs.{keyspace_after, Plays}
use Rattle.script_program.specs.Stops.{names_stop, IsWell, IsWellAt, StopsAreNamed}

-- ---- a site that is put at node j

put : (sites : List Site) (j : ℕ) (site : Site) (k : ℕ) → (k ≡ j → IsWell site) → IsWellAt sites k → IsWellAt (slice_set sites j site) k
put sites j site k own well at there =
    elim (get_set sites j site k at there) [
      | inl (here, is) ↦ subst IsWell (sym is) (own here)
      | inr (other, before) ↦ well at before
    ]

-- what the site at node j was, where that is node k
was : (sites : List Site) (j k : ℕ) (site : Site) → slice_get sites j ≡ Some site → IsWellAt sites k → k ≡ j → IsWell site
was sites j k site there well same = well site (ap (slice_get sites) same ∙ there)

same_sites : (v v' : ClusterState) (k : ℕ) → v'.sites ≡ v.sites → IsWellAt v.sites k → IsWellAt v'.sites k
same_sites v v' k same well = subst (λ (sites : List Site). IsWellAt sites k) (sym same) well

-- ---- what comes at a node

untold : (failed : Bool) (told : List Told) → told ≡ [] → WasTold failed told → ⊥
untold true told none (j, within) = contains_nil (Fail j) (subst (λ (faults : List Told). Contains faults (Fail j)) none within)
untold false told none (j, outcome, within) = contains_nil (Stop j outcome) (subst (λ (faults : List Told). Contains faults (Stop j outcome)) none within)

away_sites : (v : ClusterState) (k : ℕ) (what : What) (refusal : Refusal) → (turned_away v k what refusal).sites ≡ v.sites
away_sites v k (Client ask) refusal = refl
away_sites v k (Deliver m) refusal = refl
away_sites v k (Alive peer up) refusal = refl
away_sites v k (Collect request) refusal = refl
away_sites v k Flush refusal = refl
away_sites v k Tick refusal = refl

away_well : (v v' : ClusterState) (j : ℕ) (what : What) (refusal : Refusal) (k : ℕ) → v' ≡ turned_away v j what refusal → IsWellAt v.sites k → IsWellAt v'.sites k
away_well v v' j what refusal k is well = same_sites v v' k (ap (λ (u : ClusterState). u.sites) is ∙ away_sites v j what refusal) well

by_state : (v' u : ClusterState) (k : ℕ) → v' ≡ u → IsWellAt u.sites k → IsWellAt v'.sites k
by_state v' u k is well = subst (λ (x : ClusterState). IsWellAt x.sites k) (sym is) well

comes_by : (v v' : ClusterState) (j : ℕ) (site : Site) (node : Showing) (what : What) (k : ℕ) → (k ≡ j → IsWell site) → IsWellAt v.sites k → ComesBy v j site node what v' → IsWellAt v'.sites k
comes_by v v' j site (Up s) what k own well (inl h) =
    by_state v' _ k h.state (put v.sites j (record site { node = Up h.after }) k (λ same. record { untold = (own same).untold; up = tt }) well)
comes_by v v' j site (Up s) what k own well (inr (inl h)) =
    by_state v' _ k h.state (put v.sites j (stopped site) k (λ same. absurd (untold h.failed site.told (own same).untold h.cause)) well)
comes_by v v' j site (Up s) what k own well (inr (inr (inl (log_end, h)))) = away_well v v' j what _ k h.state well
comes_by v v' j site (Up s) what k own well (inr (inr (inr (p, h)))) = away_well v v' j what _ k h.state well
comes_by v v' j site Off what k own well h = away_well v v' j what _ k h well

comes_at : (v v' : ClusterState) (j : ℕ) (what : What) (site : Option Site) (k : ℕ) → slice_get v.sites j ≡ site → IsWellAt v.sites k → ComesAt v j what site v' → IsWellAt v'.sites k
comes_at v v' j what None k there well h = by_state v' v k h well
comes_at v v' j what (Some site) k there well h = comes_by v v' j site site.node what k (was v.sites j k site there well) well h

comes : (v v' : ClusterState) (j : ℕ) (what : What) (k : ℕ) → IsWellAt v.sites k → Comes v j what v' → IsWellAt v'.sites k
comes v v' j what k well h = comes_at v v' j what (slice_get v.sites j) k refl well h

-- ---- messages

arrives : (v v' : ClusterState) (i : ℕ) (m : Option Message) (k : ℕ) → IsWellAt v.sites k → Arrives v i m v' → IsWellAt v'.sites k
arrives v v' i None k well h = by_state v' v k h well
arrives v v' i (Some m) k well (mid, h, is) = by_state v' (passed_over mid i) k is (comes v mid m.upto (Deliver m) k well h)

delivers : (v v' : ClusterState) (place : Option ℕ) (k : ℕ) → IsWellAt v.sites k → Delivers v place v' → IsWellAt v'.sites k
delivers v v' None k well h = by_state v' v k h well
delivers v v' (Some i) k well h = arrives v v' i (slice_get v.post.sent i) k well h

lost_sites : (v : ClusterState) (place : Option ℕ) → (lost v place).sites ≡ v.sites
lost_sites v None = refl
lost_sites v (Some i) = refl

settles : (n : ℕ) (v v' : ClusterState) (k : ℕ) → IsWellAt v.sites k → Settles n v v' → IsWellAt v'.sites k
settles zero v v' k well h = by_state v' v k h well
settles (suc n) v v' k well (mid, h, rest) = settles n mid v' k (delivers v mid (oldest_from 0 v.post.passed) k well h) rest

-- ---- changes of a site

changed_by : (change : Site → Site) (v : ClusterState) (j : ℕ) (site : Option Site) (k : ℕ) → slice_get v.sites j ≡ site → (k ≡ j → (s : Site) → IsWell s → IsWell (change s)) → IsWellAt v.sites k
    → IsWellAt (with_changed change v j site).sites k
changed_by change v j None k there stays well = well
changed_by change v j (Some site) k there stays well = put v.sites j (change site) k (λ same. stays same site (was v.sites j k site there well same)) well

changed_well : (change : Site → Site) (v v' : ClusterState) (j k : ℕ) → (k ≡ j → (s : Site) → IsWell s → IsWell (change s)) → IsWellAt v.sites k → v' ≡ changed change v j → IsWellAt v'.sites k
changed_well change v v' j k stays well is = by_state v' (changed change v j) k is (changed_by change v j (slice_get v.sites j) k refl stays well)

restarts_by : (v v' : ClusterState) (j : ℕ) (site : Site) (node : Showing) (k : ℕ) → (k ≡ j → IsWell (record site { node = node })) → IsWellAt v.sites k → RestartsBy v j site node v' → IsWellAt v'.sites k
restarts_by v v' j site (Up s) k own well h = by_state v' v k h well
restarts_by v v' j site Off k own well (inl (found, is)) = by_state v' _ k is (put v.sites j _ k (λ same. absurd (own same).up) well)
restarts_by v v' j site Off k own well (inr (fault, told, is)) = by_state v' _ k is (put v.sites j _ k (λ same. absurd (own same).up) well)

restarts_at : (v v' : ClusterState) (j : ℕ) (site : Option Site) (k : ℕ) → slice_get v.sites j ≡ site → IsWellAt v.sites k → RestartsAt v j site v' → IsWellAt v'.sites k
restarts_at v v' j None k there well h = by_state v' v k h well
restarts_at v v' j (Some site) k there well h =
    restarts_by v v' j site site.node k (λ same. let w = was v.sites j k site there well same in record { untold = w.untold; up = w.up }) well h

-- ---- events

-- the event does not stop node k, nor tell its store a fault
abbrev Spares : ℕ → ClusterEvent → Type 0
Spares k (event.Ask j ask) = Unit {0}
Spares k (event.Deliver from upto n) = Unit {0}
Spares k (event.Lose from upto n) = Unit {0}
Spares k (event.Settle n) = Unit {0}
Spares k (event.Clock j micros) = Unit {0}
Spares k (event.Reading j micros) = Unit {0}
Spares k (event.Alive j peer up) = Unit {0}
Spares k (event.Crash j outcome) = j ≢ k
Spares k (event.StopAt j call outcome) = j ≢ k
Spares k (event.FailAt j call) = j ≢ k
Spares k (event.Restart j) = Unit {0}
Spares k (event.Collect j request) = Unit {0}
Spares k (event.Flush j) = Unit {0}
Spares k (event.Merge j) = Unit {0}

apart_well : (change : Site → Site) (v v' : ClusterState) (j k : ℕ) → j ≢ k → IsWellAt v.sites k → v' ≡ changed change v j → IsWellAt v'.sites k
apart_well change v v' j k apart well is = changed_well change v v' j k (λ same s w. absurd (apart (sym same))) well is

takes : (e : ClusterEvent) (v v' : ClusterState) (k : ℕ) → Spares k e → IsWellAt v.sites k → Takes v e v' → IsWellAt v'.sites k
takes (event.Ask j ask) v v' k spares well h = comes v v' j (Client ask) k well h
takes (event.Deliver from upto n) v v' k spares well h = delivers v v' (place_of from upto n v.post.sent) k well h
takes (event.Lose from upto n) v v' k spares well h =
    same_sites v v' k (ap (λ (u : ClusterState). u.sites) h ∙ lost_sites v (place_of from upto n v.post.sent)) well
takes (event.Settle n) v v' k spares well h = settles n v v' k well h
takes (event.Clock j micros) v v' k spares well h =
    comes (changed (set_clock micros) v j) v' j Tick k (changed_well (set_clock micros) v (changed (set_clock micros) v j) j k (λ same s w. record { untold = w.untold; up = w.up }) well refl) h
takes (event.Reading j micros) v v' k spares well h = changed_well (set_clock micros) v v' j k (λ same s w. record { untold = w.untold; up = w.up }) well h
takes (event.Alive j peer up) v v' k spares well h = comes v v' j (Alive peer up) k well h
takes (event.Crash j outcome) v v' k spares well h = apart_well stopped v v' j k spares well h
takes (event.StopAt j call outcome) v v' k spares well h = apart_well (told_of call (Stop call outcome)) v v' j k spares well h
takes (event.FailAt j call) v v' k spares well h = apart_well (told_of call (Fail call)) v v' j k spares well h
takes (event.Restart j) v v' k spares well h = restarts_at v v' j (slice_get v.sites j) k refl well h
takes (event.Collect j request) v v' k spares well h = comes v v' j (Collect request) k well h
takes (event.Flush j) v v' k spares well h = comes v v' j Flush k well h
takes (event.Merge j) v v' k spares well h = comes v v' j Flush k well h

-- a line that does not name the node spares it
spares_by : (k : ℕ) (e e' : ClusterEvent) → e ≡ e' → Spares k e' → Spares k e
spares_by k e e' is h = subst (Spares k) (sym is) h

line_spares : (book : Book) (keyspace : Option (List ℕ)) (k : ℕ) (l : ScriptEvent) (e : ClusterEvent) → names_stop k l ≡ false → IsEventOf book keyspace l e → Spares k e
line_spares book keyspace k (line.Put put) e other (p, asks, is) = spares_by k e _ is tt
line_spares book keyspace k (line.Get get) e other (p, asks, is) = spares_by k e _ is tt
line_spares book keyspace k (line.Cql request) e other (s, said, (p, asks, is)) = spares_by k e _ is tt
line_spares book keyspace k (line.Deliver place) e other is = spares_by k e _ is tt
line_spares book keyspace k (line.Drop place) e other is = spares_by k e _ is tt
line_spares book keyspace k (line.Settle count) e other is = spares_by k e _ is tt
line_spares book keyspace k (line.Clock node micros) e other is = spares_by k e _ is tt
line_spares book keyspace k (line.Mark node peer up) e other is = spares_by k e _ is tt
line_spares book keyspace k (line.Crash node outcome) e other is = spares_by k e _ is (eqb-false node k other)
line_spares book keyspace k (line.StopAt node call outcome) e other is = spares_by k e _ is (eqb-false node k other)
line_spares book keyspace k (line.FailAt node call) e other is = spares_by k e _ is (eqb-false node k other)
line_spares book keyspace k (line.Restart node) e other is = spares_by k e _ is tt
line_spares book keyspace k (line.Flush node) e other is = spares_by k e _ is tt
line_spares book keyspace k (line.Merge node) e other is = spares_by k e _ is tt

plays : (book : Book) (lines : List ScriptEvent) (keyspace : Option (List ℕ)) (v v' : ClusterState) (k : ℕ) → list_any (names_stop k) lines ≡ false → IsWellAt v.sites k → Plays book keyspace v lines v'
    → IsWellAt v'.sites k
plays book [] keyspace v v' k none well h = by_state v' v k h well
plays book (l ∷ lines) keyspace v v' k none well (event, mid, is, first, rest) =
    let parts = or_parts (names_stop k l) (list_any (names_stop k) lines) none in
    plays book lines (keyspace_after keyspace mid.chronicle) mid v' k parts.1 (takes event v mid k (line_spares book keyspace k l event parts.0 is) well first) rest

-- ---- the whole run

abbrev well_if_any : Option Site → Type 0
well_if_any None = Unit {0}
well_if_any (Some site) = IsWell site

fresh_well : (first : List NodeState) (k : ℕ) → IsWellAt (map begun_site first) k
fresh_well [] k site there = cc
fresh_well (s ∷ first) zero site there = subst well_if_any there (record { untold = refl; up = tt })
fresh_well (s ∷ first) (suc k) site there = fresh_well first k site there

pub stops_are_named : (book : Book) (lines : List ScriptEvent) (before after : ClusterState) (first : List NodeState) → before.sites ≡ map begun_site first → Plays book None before lines after
    → StopsAreNamed lines after.sites
stops_are_named book lines before after first fresh h k none =
    plays book lines None before after k none (subst (λ (sites : List Site). IsWellAt sites k) (sym fresh) (fresh_well first k)) h
