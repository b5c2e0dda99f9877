-- Each reply in the chain of a chosen ballot is the single copy's.
use Rattle.std.proofs.Common.{◌≡◌, ◌↔◌, ℕ, zero, suc, ◌<◌, ◌≤◌, List, [], ◌∷◌, inl, inr, refl, sym, ap, subst, arith, ◌∙◌, Contains}
use Rattle.std.specs.Prelude.{Option, None, Some}
use Rattle.cs_base.specs.declared.ids.ReqId.{ReqId}
use Rattle.changes.specs.declared.Draft.{Draft}
use Rattle.single_copy.specs.Maps.{PartitionMap, empty_map, Slot, InCell, AtMarker, seen, ActsOn, LeavesIn, Writes}
use Rattle.single_copy.specs.ConditionalStep.{Answers}
use Rattle.single_copy.proofs.SameMaps.{option_same, map_same}
use Rattle.paxos_history.specs.Protocol.{Event, Proposed, Setup, Ever, IsAsk, Update, chain, Chosen, Lawful, drafts_in}
use Rattle.paxos_history.specs.Serial.{IsMapAfter, WasAsked}
use Rattle.paxos_history.proofs.Histories.{later_once, later_trans, own_back, ever_later}
use Rattle.paxos_history.proofs.Acceptors.{chosen_proposed}
use Rattle.paxos_history.proofs.Chains.{chain_zero}
use Rattle.paxos_history.proofs.OwnProposals.{Origin, origin}
use Rattle.paxos_history.proofs.Contents.{ActsIn, ValueOf, content_is}

abbrev pub requests_of : List Update → List ReqId
requests_of [] = []
requests_of (u ∷ us) = u.request ∷ requests_of us

-- a slot has one value after a chain

one_value : (us : List Update) (k : Slot) (o o' : Option (List ℕ)) → ValueOf us k o → ValueOf us k o' → o ≡ o'
one_value [] k o o' p q = p ∙ sym q
one_value (u ∷ us) k o o' (inl p) (inl q) = option_same o o' (λ v e. (q.1 v).1 ((p.1 v).0 e)) (λ v e. (p.1 v).1 ((q.1 v).0 e))
one_value (u ∷ us) k o o' (inl p) (inr q) = absurd (q.0 p.0)
one_value (u ∷ us) k o o' (inr p) (inl q) = absurd (p.0 q.0)
one_value (u ∷ us) k o o' (inr p) (inr q) = one_value us k o o' p.1 q.1

-- what an update writes, by the values before and after it
writes_between : (u : Update) (us : List Update) (m m' : PartitionMap) → ((k : Slot) → ValueOf us k (seen m k)) → ((k : Slot) → ValueOf (u ∷ us) k (seen m' k)) → Writes (drafts_in u.result) m m'
writes_between u us m m' before after = record {
  written = λ k d mem a v. acted k (d, mem, a) v (after k);
  kept = λ k none. other k none (after k);
}
  where
    acted : (k : Slot) → ActsIn u k → (v : List ℕ) → ValueOf (u ∷ us) k (seen m' k) → (seen m' k ≡ Some v) ↔ LeavesIn (drafts_in u.result) k v
    acted k a v (inl p) = p.1 v
    acted k a v (inr p) = absurd (p.0 a)

    other : (k : Slot) → ((d : Draft) → Contains (drafts_in u.result) d → ActsOn d.place k → ⊥) → ValueOf (u ∷ us) k (seen m' k) → seen m' k ≡ seen m k
    other k none (inl p) = absurd (none p.0.0 p.0.1 p.0.2)
    other k none (inr p) = one_value us k (seen m' k) (seen m k) p.1 (before k)

-- an update with the map on which it was computed
pub record Step (h : List Event) (u : Update) (us : List Update) : Type 0 where
  pub asked : Ever (IsAsk u.request u.result.operation) h
  pub map : PartitionMap
  pub values : (k : Slot) → ValueOf us k (seen map k)
  pub after : IsMapAfter (WasAsked h) (requests_of us) map
  pub answers : Answers map u.result.operation u.result.reply

abbrev pub IsSerial : List Event → List Update → Type 0
IsSerial h [] = Unit {0}
IsSerial h (u ∷ us) = Step h u us

map_after : (h : List Event) (us : List Update) → IsSerial h us → (m : PartitionMap) → ((k : Slot) → ValueOf us k (seen m k)) → IsMapAfter (WasAsked h) (requests_of us) m
map_after h [] ok m values = map_same m empty_map (λ k. values k ∙ none k)
  where
    none : (k : Slot) → None ≡ seen empty_map k
    none (InCell row column) = refl
    none (AtMarker row) = refl
map_after h (u ∷ us) s m values = (u.result.operation, s.map, u.result.reply, s.asked, s.after, (s.answers, writes_between u us s.map m s.values values))

serial_in : (w : Setup) (k b : ℕ) (h : List Event) → Lawful w h → b < k → Chosen w b h → IsSerial h (chain b h)
serial_in w zero b h ok lt chosen = absurd (omega arith)
serial_in w (suc k) b h ok lt chosen = go (origin w b h ok (chosen_proposed w b h ok chosen)) (λ c less is. serial_in w k c h ok less is)
  where
    go : (o : Origin w h b) → ((c : ℕ) → c < k → Chosen w c h → IsSerial h (chain c h)) → IsSerial h (chain b h)
    go o ih =
        let f = own_back w o.first o.base o.request o.result o.targets h ok o.own in
        let lo : o.base < o.first = o.under in
        let hi : o.first ≤ b = o.upto in
        let up = later_trans (later_once (Proposed o.first o.base o.request o.result o.targets)) f.1 in
        let values = content_is w b h ok chosen o f.0 f.1 f.2 f.3 in
        let base : IsSerial h (chain o.base h) = elim o.rests [
          | inl z ↦ subst (λ us. IsSerial h us) (sym (ap (λ c. chain c h) z ∙ chain_zero w h ok)) tt
          | inr is ↦ ih o.base (omega arith) is
        ] in
        subst (λ us. IsSerial h us) (sym o.is) (record {
          asked = ever_later (IsAsk o.request o.result.operation) up f.3.asked;
          map = f.3.shown;
          values = values;
          after = map_after h (chain o.base h) base f.3.shown values;
          answers = f.3.computed;
        })

pub serial : (w : Setup) (b : ℕ) (h : List Event) → Lawful w h → Chosen w b h → IsSerial h (chain b h)
serial w b h ok chosen = serial_in w (suc b) b h ok (omega arith) chosen
