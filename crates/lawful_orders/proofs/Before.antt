-- In a lawful order each message that comes was sent before.
use Rattle.std.proofs.Common.{◌≡◌, ℕ, inl, inr, List, [], ◌∷◌, ◌++◌, Contains, append_assoc, append-nil, refl, sym, ap, subst}
use Rattle.std.proofs.lemmas.List.Elements.{Contains-append_cases, Contains-append_left, Contains-append_right}
use Rattle.peer_messages.specs.declared.event.What.{What}
use Rattle.peer_messages.specs.declared.event.What.TheVariants.{Client, Deliver, Alive, Collect, Flush, Tick}
use Rattle.peer_messages.specs.declared.message.Message.{Message}
use Rattle.cluster_runs.specs.Run.{WasSent}
use Rattle.lawful_orders.specs.Orders.{Placed, IsLawful, sent_along}
use Rattle.lawful_orders.specs.Laws.{LawfulIsSentBefore, LawfulStaysSo}

abbrev Comes : List Message → Placed → Type 0
Comes sent p = WasSent sent p.node p.taken.event.what

comes_at : (before : List Placed) (p : Placed) (behind : List Placed) (sent : List Message) → IsLawful sent (before ++ p ∷ behind) → Comes (sent ++ sent_along before) p
comes_at [] p behind sent lawful = subst (λ (ms : List Message). Comes ms p) (sym (append-nil sent)) lawful.0
comes_at (q ∷ qs) p behind sent lawful =
    subst (λ (ms : List Message). Comes ms p) (append_assoc sent q.taken.outputs.sends (sent_along qs)) (comes_at qs p behind (sent ++ q.taken.outputs.sends) lawful.1)

is_lawful : (order : List Placed) (sent : List Message) → ((before behind : List Placed) (p : Placed) → order ≡ before ++ p ∷ behind → Comes (sent ++ sent_along before) p) → IsLawful sent order
is_lawful [] sent each = tt
is_lawful (p ∷ ps) sent each = (
  subst (λ (ms : List Message). Comes ms p) (append-nil sent) (each [] ps p refl),
  is_lawful ps (sent ++ p.taken.outputs.sends) (λ before behind q e.
      subst (λ (ms : List Message). Comes ms q) (sym (append_assoc sent p.taken.outputs.sends (sent_along before))) (each (p ∷ before) behind q (ap (λ (xs : List Placed). p ∷ xs) e))),
)

pub sent_before : LawfulIsSentBefore
sent_before sent order = (
  (λ lawful before behind p e. comes_at before p behind sent (subst (λ (xs : List Placed). IsLawful sent xs) e lawful)),
  (λ each. is_lawful order sent each),
)

-- ---- where more was sent

still_sent : (sent more : List Message) (k : ℕ) (what : What) → ((m : Message) → Contains sent m → Contains more m) → WasSent sent k what → WasSent more k what
still_sent sent more k (Client ask) within h = tt
still_sent sent more k (Deliver m) within h = (within m h.0, h.1)
still_sent sent more k (Alive peer up) within h = tt
still_sent sent more k (Collect request) within h = tt
still_sent sent more k Flush within h = tt
still_sent sent more k Tick within h = tt

pub stays_lawful : LawfulStaysSo
stays_lawful sent more [] within lawful = tt
stays_lawful sent more (p ∷ ps) within lawful = (
  still_sent sent more p.node p.taken.event.what within lawful.0,
  stays_lawful (sent ++ p.taken.outputs.sends) (more ++ p.taken.outputs.sends) ps (λ m h. elim (Contains-append_cases sent p.taken.outputs.sends m h) [
    | inl old ↦ Contains-append_left more p.taken.outputs.sends m (within m old)
    | inr new ↦ Contains-append_right more p.taken.outputs.sends m new
  ]) lawful.1,
)
