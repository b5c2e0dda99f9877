-- Filing one more message, and having more of them.
use Rattle.std.proofs.Common.{◌≡◌, ◌≢◌, ℕ, zero, suc, ◌+◌, ◌*◌, ◌<◌, ◌≤◌, Bool, true, false, inl, inr, Some, List, [], ◌∷◌, ◌++◌, append-nil, refl, sym, ap, subst, ◌∙◌, arith, length, take, get_or}
use Rattle.std.specs.Prelude.{◌==◌, ◌&&◌, if◌then◌else◌, slice_get, slice_set, replicate}
use Rattle.std.proofs.Math.Seq.{take-suc, take-length}
use Rattle.std.proofs.lemmas.List.{take-append-le, length-append, length-set, length-take-le}
use Rattle.std.proofs.lemmas.Bool.{cases_Bool, and_parts, and_from, eqb-true, eq-eqb}
use Rattle.std.proofs.lemmas.Option.{get_or_from_slice_get, slice_get_within}
use Rattle.peer_messages.specs.declared.message.Message.{Message}
use Rattle.cs_base.proofs.Slots.{set_get, set_other}
use Rattle.cluster_model.specs.State.{places_from}
use Rattle.cluster_model.specs.Mails.{ArePlaces, AreFiled}
use Rattle.cluster_model.specs.declared.routes.Routes.{Routes}

abbrev tail_of : Bool → ℕ → List ℕ
tail_of b i = if b then i ∷ [] else []

abbrev goes : ℕ → ℕ → Message → Bool
goes from upto m = (m.from == from) && (m.upto == upto)

with_test : (b : Bool) (i : ℕ) (rest p tail : List ℕ) → rest ≡ p ++ tail → (if b then i ∷ rest else rest) ≡ (if b then i ∷ p else p) ++ tail
with_test true i rest p tail e = ap (λ xs. i ∷ xs) e
with_test false i rest p tail e = e

last_place : (b : Bool) (i j : ℕ) → i ≡ j → (if b then i ∷ [] else []) ≡ [] ++ tail_of b j
last_place true i j e = ap (λ k. k ∷ []) e
last_place false i j e = refl

places_more : (from upto i : ℕ) (sent : List Message) (m : Message) → places_from from upto i (sent ++ m ∷ []) ≡ places_from from upto i sent ++ tail_of (goes from upto m) (i + length sent)
places_more from upto i [] m = last_place (goes from upto m) i (i + 0) (omega arith)
places_more from upto i (x ∷ xs) m =
    with_test (goes from upto x) i _ (places_from from upto (i + 1) xs) _
    (places_more from upto (i + 1) xs m ∙ ap (λ (n : ℕ). places_from from upto (i + 1) xs ++ tail_of (goes from upto m) n) (let e : i + 1 + length xs ≡ i + suc (length xs) = omega arith in e))

same_route : (from upto : ℕ) (m : Message) → goes from upto m ≡ true → (m.from ≡ from) × (m.upto ≡ upto)
same_route from upto m h = let parts = and_parts (m.from == from) (m.upto == upto) h in (eqb-true m.from from parts.0, eqb-true m.upto upto parts.1)

other_route : (from upto : ℕ) (m : Message) → goes from upto m ≡ false → from ≤ 6 → upto ≤ 6 → m.from ≤ 6 → m.upto ≤ 6 → 7 * from + upto ≢ 7 * m.from + m.upto
other_route from upto m other f u mf mu = λ e.
    let froms : m.from ≡ from = omega (arith, e, f, u, mf, mu) in
    let uptos : m.upto ≡ upto = omega (arith, e, f, u, mf, mu) in
    let here = and_from (m.from == from) (m.upto == upto) (eq-eqb m.from from froms) (eq-eqb m.upto upto uptos) in
    cc

value_here : (from upto : ℕ) (sent : List Message) (m : Message) (old v : List ℕ) → goes from upto m ≡ true → old ≡ places_from from upto 0 sent → v ≡ old ++ length sent ∷ []
    → v ≡ places_from from upto 0 (sent ++ m ∷ [])
value_here from upto sent m old v here at is =
    is ∙ ap (λ (xs : List ℕ). xs ++ length sent ∷ []) at
    ∙ ap (λ (b : Bool). places_from from upto 0 sent ++ tail_of b (length sent)) (sym here)
    ∙ ap (λ (n : ℕ). places_from from upto 0 sent ++ tail_of (goes from upto m) n) (let e : length sent ≡ 0 + length sent = omega arith in e)
    ∙ sym (places_more from upto 0 sent m)

value_other : (from upto : ℕ) (sent : List Message) (m : Message) → goes from upto m ≡ false → places_from from upto 0 sent ≡ places_from from upto 0 (sent ++ m ∷ [])
value_other from upto sent m other =
    sym (append-nil (places_from from upto 0 sent))
    ∙ ap (λ (b : Bool). places_from from upto 0 sent ++ tail_of b (0 + length sent)) (sym other)
    ∙ sym (places_more from upto 0 sent m)

each_filed : (lists : List (List ℕ)) (sent : List Message) (m : Message) (r : ℕ) (d v : List ℕ) → ArePlaces lists sent → m.from ≤ 6 → m.upto ≤ 6 → r ≡ 7 * m.from + m.upto → v ≡ get_or lists r d ++ length sent ∷ []
    → (from upto : ℕ) → from ≤ 6 → upto ≤ 6 → slice_get (slice_set lists r v) (7 * from + upto) ≡ Some (places_from from upto 0 (sent ++ m ∷ []))
each_filed lists sent m r d v h mf mu route is from upto f u =
    let old = h.each from upto f u in
    elim (cases_Bool (goes from upto m)) [
      | inl here ↦
          let same = same_route from upto m here in
          let at : 7 * from + upto ≡ r = ap (λ (k : ℕ). 7 * k + upto) (sym same.0) ∙ ap (λ (k : ℕ). 7 * m.from + k) (sym same.1) ∙ sym route in
          let there = subst (λ (k : ℕ). slice_get lists k ≡ Some (places_from from upto 0 sent)) at old in
          subst (λ (k : ℕ). slice_get (slice_set lists r v) k ≡ Some (places_from from upto 0 (sent ++ m ∷ []))) (sym at)
          (set_get lists r (places_from from upto 0 sent) v there ∙ ap Some (value_here from upto sent m (get_or lists r d) v here (get_or_from_slice_get lists r (places_from from upto 0 sent) d there) is))
      | inr other ↦
          set_other lists r v (7 * from + upto) (places_from from upto 0 sent) (λ e. other_route from upto m other f u mf mu (e ∙ route)) old
          ∙ ap Some (value_other from upto sent m other)
    ]

pub one_filed : (lists : List (List ℕ)) (sent : List Message) (m : Message) (r : ℕ) (d v : List ℕ) → ArePlaces lists sent → m.from ≤ 6 → m.upto ≤ 6 → r ≡ 7 * m.from + m.upto → v ≡ get_or lists r d ++ length sent ∷ []
    → ArePlaces (slice_set lists r v) (sent ++ m ∷ [])
one_filed lists sent m r d v h mf mu route is = record { count = length-set lists r v ∙ h.count; each = each_filed lists sent m r d v h mf mu route is }

-- the next of these messages is filed
pub next_filed : (r r' : Routes) (sent : List Message) (m : Message) (at : ℕ) (d v : List ℕ) → AreFiled r sent → slice_get sent r.filed ≡ Some m → m.from ≤ 6 → m.upto ≤ 6 → at ≡ 7 * m.from + m.upto
    → v ≡ get_or r.places.items at d ++ r.filed ∷ [] → r'.filed ≡ r.filed + 1 → r'.places.items ≡ slice_set r.places.items at v → AreFiled r' sent
next_filed r r' sent m at d v h here mf mu route is next lists =
    let within = slice_get_within sent r.filed m here in
    let front : List Message = take r.filed sent in
    let long : length front ≡ r.filed = length-take-le r.filed sent (let e : r.filed ≤ length sent = omega (arith, within) in e) in
    let placed = one_filed r.places.items front m at d v h.places mf mu route (is ∙ ap (λ (n : ℕ). get_or r.places.items at d ++ n ∷ []) (sym long)) in
    let more : front ++ m ∷ [] ≡ take r'.filed sent = ap (λ (x : Message). front ++ x ∷ []) (sym (get_or_from_slice_get sent r.filed m m here)) ∙ sym (take-suc sent r.filed m within) ∙ ap (λ (n : ℕ). take n sent) (let e : suc r.filed ≡ r'.filed = omega (arith, next) in e) in
    record {
      within = omega (arith, within, next);
      places = subst (λ (ls : List (List ℕ)). ArePlaces ls (take r'.filed sent)) (sym lists) (subst (λ (ms : List Message). ArePlaces (slice_set r.places.items at v) ms) more placed);
    }

-- more messages are sent
pub still_filed : (r : Routes) (sent more : List Message) → AreFiled r sent → AreFiled r (sent ++ more)
still_filed r sent more h = record {
  within = let long : length (sent ++ more) ≡ length sent + length more = length-append sent more in omega (arith, long, h.within);
  places = subst (λ (ms : List Message). ArePlaces r.places.items ms) (sym (take-append-le r.filed sent more h.within)) h.places;
}

-- when all are filed
pub all_filed : (r : Routes) (sent : List Message) → AreFiled r sent → r.filed ≡ length sent → ArePlaces r.places.items sent
all_filed r sent h all = subst (λ (ms : List Message). ArePlaces r.places.items ms) (ap (λ (n : ℕ). take n sent) all ∙ take-length sent) h.places

empty_places : (n k : ℕ) → k < n → slice_get {X = List ℕ} (replicate n []) k ≡ Some []
empty_places zero k h = absurd (omega (arith, h))
empty_places (suc n) zero h = refl
empty_places (suc n) (suc k) h = empty_places n k (omega (arith, h))

pub none_filed : (lists : List (List ℕ)) → lists ≡ replicate 49 [] → ArePlaces lists []
none_filed lists is = subst (λ (ls : List (List ℕ)). ArePlaces ls []) (sym is) (record { count = refl; each = λ from upto f u. empty_places 49 (7 * from + upto) (omega (arith, f, u)) })
