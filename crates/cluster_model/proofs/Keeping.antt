-- No event changes the setting, and what the nodes were loaded with at first.
use Rattle.std.proofs.Common.{◌≡◌, ℕ, zero, suc, inl, inr, Option, Some, None, refl, ap, ◌∙◌}
use Rattle.std.specs.declared.alloc.AllocError.{AllocError}
use Rattle.std.specs.Prelude.{Result, Ok, Err, OnOk, OnErr, slice_get}
use Rattle.peer_messages.specs.declared.message.Message.{Message}
use Rattle.peer_messages.specs.declared.event.What.{What}
use Rattle.peer_messages.specs.declared.event.What.TheVariants.{Client, Deliver, Alive, Collect, Flush, Tick}
use Rattle.peer_messages.specs.declared.chronicle.Refusal.{Refusal}
use Rattle.peer_messages.specs.declared.chronicle.Refusal.TheVariants.{Overloaded, Invalid, Down as IsDown}
use Rattle.peer_messages.specs.declared.chronicle.Invalid.TheVariants.{PartitionTooLarge}
use Rattle.cluster_model.specs.State.{Showing, Up, Off, Site, ClusterState, KeepsOn, place_of, oldest_from, passed_over}
use Rattle.cluster_model.specs.Takes.{ComesBy, ComesAt, Comes, Arrives, Delivers, Settles, Takes, Stands, RestartsBy, RestartsAt, turned_away, with_changed, changed, stopped, set_clock, told_of, lost}
use Rattle.cluster_model.specs.declared.told.Told.TheVariants.{Fail, Stop}
use Rattle.cluster_model.specs.declared.event.ClusterEvent.{ClusterEvent}
use Rattle.cluster_model.specs.declared.event.ClusterEvent.TheVariants as event

itself : (v : ClusterState) → KeepsOn v v
itself v = record { setting = refl; first = refl }

as_it : (u v v' : ClusterState) → v' ≡ u → KeepsOn v u → KeepsOn v v'
as_it u v v' is h = record { setting = ap (λ (x : ClusterState). x.setting) is ∙ h.setting; first = ap (λ (x : ClusterState). x.first) is ∙ h.first }

and_on : (v mid v' : ClusterState) → KeepsOn v mid → KeepsOn mid v' → KeepsOn v v'
and_on v mid v' a b = record { setting = b.setting ∙ a.setting; first = b.first ∙ a.first }

turned_keeps : (v : ClusterState) (k : ℕ) (what : What) (refusal : Refusal) → KeepsOn v (turned_away v k what refusal)
turned_keeps v k (Client ask) refusal = record { setting = refl; first = refl }
turned_keeps v k (Deliver m) refusal = itself v
turned_keeps v k (Alive peer up) refusal = itself v
turned_keeps v k (Collect request) refusal = itself v
turned_keeps v k Flush refusal = itself v
turned_keeps v k Tick refusal = itself v

comes_by : (v v' : ClusterState) (k : ℕ) (site : Site) (showing : Showing) (what : What) → ComesBy v k site showing what v' → KeepsOn v v'
comes_by v v' k site (Up s) what (inl h) = as_it _ v v' h.state (record { setting = refl; first = refl })
comes_by v v' k site (Up s) what (inr (inl h)) = as_it _ v v' h.state (record { setting = refl; first = refl })
comes_by v v' k site (Up s) what (inr (inr (inl (log_end, h)))) = as_it (turned_away v k what Overloaded) v v' h.state (turned_keeps v k what Overloaded)
comes_by v v' k site (Up s) what (inr (inr (inr (p, h)))) = as_it (turned_away v k what (Invalid PartitionTooLarge)) v v' h.state (turned_keeps v k what (Invalid PartitionTooLarge))
comes_by v v' k site Off what h = as_it (turned_away v k what IsDown) v v' h (turned_keeps v k what IsDown)

comes_at : (v v' : ClusterState) (k : ℕ) (what : What) (o : Option Site) → ComesAt v k what o v' → KeepsOn v v'
comes_at v v' k what None h = as_it v v v' h (itself v)
comes_at v v' k what (Some site) h = comes_by v v' k site site.node what h

comes_keep : (v v' : ClusterState) (k : ℕ) (what : What) → Comes v k what v' → KeepsOn v v'
comes_keep v v' k what h = comes_at v v' k what (slice_get v.sites k) h

arrives_keep : (v v' : ClusterState) (i : ℕ) (o : Option Message) → Arrives v i o v' → KeepsOn v v'
arrives_keep v v' i None h = as_it v v v' h (itself v)
arrives_keep v v' i (Some m) (mid, comes, is) = and_on v mid v' (comes_keep v mid m.upto (Deliver m) comes) (as_it (passed_over mid i) mid v' is (record { setting = refl; first = refl }))

delivers_keep : (v v' : ClusterState) (o : Option ℕ) → Delivers v o v' → KeepsOn v v'
delivers_keep v v' None h = as_it v v v' h (itself v)
delivers_keep v v' (Some i) h = arrives_keep v v' i (slice_get v.post.sent i) h

lost_keeps : (v : ClusterState) (o : Option ℕ) → KeepsOn v (lost v o)
lost_keeps v None = itself v
lost_keeps v (Some i) = record { setting = refl; first = refl }

settles_keep : (n : ℕ) (v v' : ClusterState) → Settles n v v' → KeepsOn v v'
settles_keep zero v v' h = as_it v v v' h (itself v)
settles_keep (suc n) v v' (mid, first, rest) = and_on v mid v' (delivers_keep v mid (oldest_from 0 v.post.passed) first) (settles_keep n mid v' rest)

with_keeps : (change : Site → Site) (v : ClusterState) (k : ℕ) (o : Option Site) → KeepsOn v (with_changed change v k o)
with_keeps change v k None = itself v
with_keeps change v k (Some site) = record { setting = refl; first = refl }

changed_keeps : (change : Site → Site) (v : ClusterState) (k : ℕ) → KeepsOn v (changed change v k)
changed_keeps change v k = with_keeps change v k (slice_get v.sites k)

restarts_by : (v v' : ClusterState) (k : ℕ) (site : Site) (showing : Showing) → RestartsBy v k site showing v' → KeepsOn v v'
restarts_by v v' k site (Up s) h = as_it v v v' h (itself v)
restarts_by v v' k site Off (inl (found, is)) = as_it _ v v' is (record { setting = refl; first = refl })
restarts_by v v' k site Off (inr (fault, there, is)) = as_it _ v v' is (record { setting = refl; first = refl })

restarts_at : (v v' : ClusterState) (k : ℕ) (o : Option Site) → RestartsAt v k o v' → KeepsOn v v'
restarts_at v v' k None h = as_it v v v' h (itself v)
restarts_at v v' k (Some site) h = restarts_by v v' k site site.node h

pub takes_keep : (v v' : ClusterState) (e : ClusterEvent) → Takes v e v' → KeepsOn v v'
takes_keep v v' (event.Ask k ask) h = comes_keep v v' k (Client ask) h
takes_keep v v' (event.Deliver from upto k) h = delivers_keep v v' (place_of from upto k v.post.sent) h
takes_keep v v' (event.Lose from upto k) h = as_it (lost v (place_of from upto k v.post.sent)) v v' h (lost_keeps v (place_of from upto k v.post.sent))
takes_keep v v' (event.Settle n) h = settles_keep n v v' h
takes_keep v v' (event.Clock k micros) h = and_on v (changed (set_clock micros) v k) v' (changed_keeps (set_clock micros) v k) (comes_keep (changed (set_clock micros) v k) v' k Tick h)
takes_keep v v' (event.Reading k micros) h = as_it (changed (set_clock micros) v k) v v' h (changed_keeps (set_clock micros) v k)
takes_keep v v' (event.Alive k peer up) h = comes_keep v v' k (Alive peer up) h
takes_keep v v' (event.Crash k outcome) h = as_it (changed stopped v k) v v' h (changed_keeps stopped v k)
takes_keep v v' (event.StopAt k j outcome) h = as_it (changed (told_of j (Stop j outcome)) v k) v v' h (changed_keeps (told_of j (Stop j outcome)) v k)
takes_keep v v' (event.FailAt k j) h = as_it (changed (told_of j (Fail j)) v k) v v' h (changed_keeps (told_of j (Fail j)) v k)
takes_keep v v' (event.Restart k) h = restarts_at v v' k (slice_get v.sites k) h
takes_keep v v' (event.Collect k request) h = comes_keep v v' k (Collect request) h
takes_keep v v' (event.Flush k) h = comes_keep v v' k Flush h
takes_keep v v' (event.Merge k) h = comes_keep v v' k Flush h

pub stands_keep : (v v' : ClusterState) (e : ClusterEvent) → Stands v e v' → KeepsOn v v'
stands_keep v v' (event.Ask k ask) h = as_it v v v' h (itself v)
stands_keep v v' (event.Deliver from upto k) h = as_it v v v' h (itself v)
stands_keep v v' (event.Lose from upto k) h = as_it v v v' h (itself v)
stands_keep v v' (event.Settle n) (m, few, h) = settles_keep m v v' h
stands_keep v v' (event.Clock k micros) h = as_it v v v' h (itself v)
stands_keep v v' (event.Reading k micros) h = as_it v v v' h (itself v)
stands_keep v v' (event.Alive k peer up) h = as_it v v v' h (itself v)
stands_keep v v' (event.Crash k outcome) h = as_it v v v' h (itself v)
stands_keep v v' (event.StopAt k j outcome) h = as_it v v v' h (itself v)
stands_keep v v' (event.FailAt k j) h = as_it v v v' h (itself v)
stands_keep v v' (event.Restart k) h = as_it v v v' h (itself v)
stands_keep v v' (event.Collect k request) h = as_it v v v' h (itself v)
stands_keep v v' (event.Flush k) h = as_it v v v' h (itself v)
stands_keep v v' (event.Merge k) h = as_it v v v' h (itself v)

pub either_keeps : (r : Result (Unit {0}) AllocError) (v v' : ClusterState) (e : ClusterEvent) → OnOk r (Takes v e v') → OnErr r (Stands v e v') → KeepsOn v v'
either_keeps (Ok x) v v' e takes stands = takes_keep v v' e takes
either_keeps (Err x) v v' e takes stands = stands_keep v v' e stands
