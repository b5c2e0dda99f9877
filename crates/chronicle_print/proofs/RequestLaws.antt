-- Requests that are recent, and those in maps.
use Rattle.std.proofs.Common.{◌≡◌, ℕ, zero, suc, ◌+◌, ◌<◌, ◌==◌, ◌&&◌, Bool, true, false, Option, Some, None, List, [], ◌∷◌, ◌++◌, length, drop, cond, refl, sym, ◌∙◌, ap, arith, eqb-true}
use Rattle.std.specs.Prelude.{slice_get}
use Rattle.cs_base.specs.declared.ids.ReqId.{ReqId}
use Rattle.cs_base.specs.Requests.{is_request}
use Rattle.chronicle_print.specs.declared.requests.Place.{Place}
use Rattle.chronicle_print.specs.declared.requests.Request.{Request}
use Rattle.chronicle_print.specs.declared.requests.Requests.{Requests}
use Rattle.chronicle_print.specs.Printing.{filed_number, filed_place, number_at, place_or, place_at, recent_number, recent_place, older_number, older_place, newest_number, newest_place, number_in, if_named, FilesAny, Settles, Moves, Counts, Begins}

-- ---- the last of the recent ones

pub last_number : (recent : List Request) (r : Request) (id : ReqId) (filed : ℕ) → recent_number (recent ++ r ∷ []) id filed ≡ number_at r id (recent_number recent id filed)
last_number [] r id filed = refl
last_number (first ∷ recent) r id filed = last_number recent r id (number_at first id filed)

pub last_place : (recent : List Request) (r : Request) (id : ReqId) (filed : Option Place) → recent_place (recent ++ r ∷ []) id filed ≡ place_at r id (recent_place recent id filed)
last_place [] r id filed = refl
last_place (first ∷ recent) r id filed = last_place recent r id (place_at first id filed)

pub moves : (old new : Requests) (newest : Request) → old.newest ≡ Some newest → new.asked ≡ old.asked → new.newest ≡ None → new.numbers ≡ old.numbers → new.places ≡ old.places → new.recent.items ≡ old.recent.items ++ newest ∷ []
    → Moves old new
moves old new newest was asked none numbers places more = record {
  asked = asked;
  newest = none;
  numbers = λ id.
      ap (λ m. recent_number new.recent.items id (filed_number m id)) numbers
      ∙ (ap (λ (recent : List Request). recent_number recent id (filed_number old.numbers id)) more
      ∙ (last_number old.recent.items newest id (filed_number old.numbers id) ∙ ap (λ (o : Option Request). newest_number o id (older_number old id)) (sym was)));
  places = λ id.
      ap (λ m. recent_place new.recent.items id (filed_place m id)) places
      ∙ (ap (λ (recent : List Request). recent_place recent id (filed_place old.places id)) more
      ∙ (last_place old.recent.items newest id (filed_place old.places id) ∙ ap (λ (o : Option Request). newest_place o id (older_place old id)) (sym was)));
}

-- ---- all in the maps

-- one more of them is in the maps
pub number_filed : (items : List Request) (i : ℕ) (old new : Requests) (id : ReqId) → i < length items → FilesAny (slice_get items i) old new
    → recent_number (drop (suc i) items) id (filed_number new.numbers id) ≡ recent_number (drop i items) id (filed_number old.numbers id)
number_filed [] i old new id within h = absurd (omega (arith))
number_filed (first ∷ items) zero old new id within h = ap (recent_number items id) (h.numbers id)
number_filed (first ∷ items) (suc i) old new id within h = let inside : i < length items = omega (arith) in number_filed items i old new id inside h

pub place_filed : (items : List Request) (i : ℕ) (old new : Requests) (id : ReqId) → i < length items → FilesAny (slice_get items i) old new
    → recent_place (drop (suc i) items) id (filed_place new.places id) ≡ recent_place (drop i items) id (filed_place old.places id)
place_filed [] i old new id within h = absurd (omega (arith))
place_filed (first ∷ items) zero old new id within h = ap (recent_place items id) (h.places id)
place_filed (first ∷ items) (suc i) old new id within h = let inside : i < length items = omega (arith) in place_filed items i old new id inside h

-- what filing leaves
pub record Leaves (old new : Requests) : Type 0 where
  pub asked : new.asked ≡ old.asked
  pub newest : new.newest ≡ old.newest
  pub recent : new.recent ≡ old.recent

pub leaves_any : (request : Option Request) (old new : Requests) → FilesAny request old new → Leaves old new
leaves_any None old new same = record { asked = ap (λ (r : Requests). r.asked) same; newest = ap (λ (r : Requests). r.newest) same; recent = ap (λ (r : Requests). r.recent) same }
leaves_any (Some request) old new h = record { asked = h.asked; newest = h.newest; recent = h.recent }

-- ---- one more request

either_way : {X : Type 0} (b : Bool) (x : X) → cond b x x ≡ x
either_way true x = refl
either_way false x = refl

pub counts_named : (old mid new : Requests) (id : ReqId) (number : ℕ) → Moves old mid → number ≡ old.asked + 1 → new.asked ≡ number → new.newest ≡ Some (record { id = id; number = number; start = None }) → new.recent ≡ mid.recent → new.numbers ≡ mid.numbers
    → new.places ≡ mid.places → Counts (Some id) old new
counts_named old mid new id number moved is asked newest recent numbers places =
    let request : Request = record { id = id; number = number; start = None } in
    record {
      asked = asked ∙ is;
      numbers = λ q.
          ap (λ (o : Option Request). newest_number o q (older_number new q)) newest
          ∙ (ap (number_at request q) (ap (λ r. recent_number r.items q (filed_number new.numbers q)) recent ∙ (ap (λ m. recent_number mid.recent.items q (filed_number m q)) numbers ∙ moved.numbers q))
          ∙ ap (λ (n : ℕ). cond (is_request id q) n (number_in old q)) is);
      places = λ q.
          ap (λ (o : Option Request). newest_place o q (older_place new q)) newest
          ∙ (either_way (is_request id q) (older_place new q)
          ∙ (ap (λ r. recent_place r.items q (filed_place new.places q)) recent ∙ (ap (λ m. recent_place mid.recent.items q (filed_place m q)) places ∙ moved.places q)));
    }

-- ---- a read begins

both_true : (a b : Bool) → (a && b) ≡ true → (a ≡ true) × (b ≡ true)
both_true true b h = (refl, h)
both_true false b h = cc

request_made : {a b : ReqId} → a.node ≡ b.node → a.time ≡ b.time → a ≡ b
request_made {a} {b} node time = ap (λ (n : ℕ). record a { node = n }) node ∙ ap (λ (n : ℕ). record b { time = n }) time

same_request : (a b : ReqId) → is_request a b ≡ true → a ≡ b
same_request a b h =
    let both = both_true (a.node == b.node) (a.time == b.time) h in
    request_made {a = a} {b = b} (eqb-true a.node b.node both.0) (eqb-true a.time b.time both.1)

none_or_other : (b c : Bool) (newest : Request) (place : Place) (older : Option Place) → (c ≡ true → b ≡ false) → cond b (place_or newest.start (cond c (Some place) older)) (cond c (Some place) older) ≡ cond c (Some place) (cond b (place_or newest.start older) older)
none_or_other true true newest place older other = let e = other refl in cc
none_or_other false true newest place older other = refl
none_or_other true false newest place older other = refl
none_or_other false false newest place older other = refl

missed_test : (b : Bool) (newest : Request) → cond b (Some newest) None ≡ None → b ≡ false
missed_test true newest e = cc
missed_test false newest e = refl

older_begins : (newest : Option Request) (id q : ReqId) (place : Place) (older : Option Place) → if_named newest id ≡ None → newest_place newest q (cond (is_request id q) (Some place) older) ≡ cond (is_request id q) (Some place) (newest_place newest q older)
older_begins None id q place older e = refl
older_begins (Some newest) id q place older e =
    none_or_other (is_request newest.id q) (is_request id q) newest place older
    (λ test. ap (λ (r : ReqId). is_request newest.id r) (sym (same_request id q test)) ∙ missed_test (is_request newest.id id) newest e)

-- all before the newest are in the maps, and one of them begins
pub begins_older : (old mid new : Requests) (id : ReqId) (place : Place) → if_named old.newest id ≡ None → Settles old mid → new.asked ≡ mid.asked → new.newest ≡ mid.newest → new.recent ≡ mid.recent → new.numbers ≡ mid.numbers
    → ((q : ReqId) → filed_place new.places q ≡ cond (is_request id q) (Some place) (filed_place mid.places q)) → Begins id place old new
begins_older old mid new id place missed h asked newest recent numbers places =
    let none : new.recent.items ≡ [] = ap (λ r. r.items) recent ∙ h.recent in
    record {
      asked = asked ∙ h.asked;
      numbers = λ q.
          ap (λ (o : Option Request). newest_number o q (older_number new q)) (newest ∙ h.newest)
          ∙ ap (newest_number old.newest q) (ap (λ (rs : List Request). recent_number rs q (filed_number new.numbers q)) none ∙ (ap (λ m. filed_number m q) numbers ∙ h.numbers q));
      places = λ q.
          ap (λ (o : Option Request). newest_place o q (older_place new q)) (newest ∙ h.newest)
          ∙ (ap (newest_place old.newest q) (ap (λ (rs : List Request). recent_place rs q (filed_place new.places q)) none ∙ (places q ∙ ap (λ (o : Option Place). cond (is_request id q) (Some place) o) (h.places q)))
          ∙ older_begins old.newest id q place (older_place old q) missed);
    }
