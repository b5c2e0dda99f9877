-- Which messages were passed.
use Rattle.std.proofs.Common.{◌≡◌, ℕ, zero, suc, ◌+◌, ◌<◌, ◌≤◌, Bool, true, false, inl, inr, Option, Some, None, List, [], ◌∷◌, ◌++◌, refl, sym, ap, subst, ◌∙◌, arith, length, take, ◌-◌}
use Rattle.std.specs.Prelude.{◌==◌, ◌&&◌, if◌then◌else◌, slice_get, slice_set, replicate, Vec, Result, Ok, Err, IfOk, IfSome}
use Rattle.std.specs.declared.alloc.Global.{Global}
use Rattle.std.proofs.lemmas.Bool.{cases_lt, cases_eq}
use Rattle.std.proofs.lemmas.List.{length-append, length-replicate, length-set, take_all}
use Rattle.peer_messages.specs.declared.message.Message.{Message}
use Rattle.cs_base.proofs.Slots.{some_one, set_get, set_other}
use Rattle.cluster_model.specs.State.{Post, oldest_from, places_from, place_of, with_sent, passed_at}
use Rattle.cluster_model.specs.Mails.{ArePassed, AreFiled, HoldsMail, with_news, post_of}
use Rattle.cluster_model.specs.declared.routes.Routes.{Routes}
use Rattle.cluster_model.specs.declared.mail.Mail.{Mail}
use Rattle.cluster_model.proofs.Places.{still_filed}

pub get_append : {X : Type 0} (xs ys : List X) (i : ℕ) (x : X) → slice_get xs i ≡ Some x → slice_get (xs ++ ys) i ≡ Some x
get_append [] ys i x h = cc
get_append (y ∷ xs) ys zero x h = h
get_append (y ∷ xs) ys (suc i) x h = get_append xs ys i x h

behind : (n : ℕ) (b : Bool) (passed : List Bool) → ArePassed (suc n) (b ∷ passed) → ArePassed n passed
behind n b passed h = λ i within. h (suc i) (omega (arith, within))

step_over : (b : Bool) (i : ℕ) (rest : Option ℕ) → b ≡ true → (if b then rest else Some i) ≡ rest
step_over true i rest e = refl
step_over false i rest e = cc

stop_at : (b : Bool) (i : ℕ) (rest : Option ℕ) → b ≡ false → (if b then rest else Some i) ≡ Some i
stop_at true i rest e = cc
stop_at false i rest e = refl

open_at : (n i : ℕ) (passed : List Bool) → ArePassed n passed → slice_get passed n ≡ Some false → oldest_from i passed ≡ Some (n + i)
open_at n i [] h at = cc
open_at zero i (b ∷ passed) h at = stop_at b i (oldest_from (i + 1) passed) (some_one at) ∙ ap Some (let e : i ≡ 0 + i = omega arith in e)
open_at (suc n) i (b ∷ passed) h at =
    step_over b i (oldest_from (i + 1) passed) (some_one (h 0 (omega arith)))
    ∙ open_at n (i + 1) passed (behind n b passed h) at ∙ ap Some (let e : n + (i + 1) ≡ suc n + i = omega arith in e)

none_open : (n i : ℕ) (passed : List Bool) → ArePassed n passed → length passed ≤ n → oldest_from i passed ≡ None
none_open n i [] h all = refl
none_open zero i (b ∷ passed) h all = absurd (omega (arith, all))
none_open (suc n) i (b ∷ passed) h all =
    step_over b i (oldest_from (i + 1) passed) (some_one (h 0 (omega arith))) ∙ none_open n (i + 1) passed (behind n b passed h) (omega (arith, all))

not_passed : (passed : List Bool) (n : ℕ) → (slice_get passed n ≡ Some true → ⊥) → n < length passed → slice_get passed n ≡ Some false
not_passed [] n isnt within = absurd (omega (arith, within))
not_passed (true ∷ passed) zero isnt within = absurd (isnt refl)
not_passed (false ∷ passed) zero isnt within = refl
not_passed (b ∷ passed) (suc n) isnt within = not_passed passed n isnt (omega (arith, within))

pub oldest_found : (n : ℕ) (passed : List Bool) → ArePassed n passed → (slice_get passed n ≡ Some true → ⊥) → n < length passed → oldest_from 0 passed ≡ Some n
oldest_found n passed h isnt within = open_at n 0 passed h (not_passed passed n isnt within) ∙ ap Some (let e : n + 0 ≡ n = omega arith in e)

pub oldest_none : (n : ℕ) (passed : List Bool) → ArePassed n passed → length passed ≤ n → oldest_from 0 passed ≡ None
oldest_none n passed h all = none_open n 0 passed h all

pub one_more_passed : (n m : ℕ) (passed : List Bool) → ArePassed n passed → slice_get passed n ≡ Some true → m ≡ n + 1 → ArePassed m passed
one_more_passed n m passed h at next = λ i within. elim (cases_lt i n) [
  | inl before ↦ h i before
  | inr from ↦ let here : i ≡ n = omega (arith, next, within, from) in subst (λ (k : ℕ). slice_get passed k ≡ Some true) (sym here) at
]

pub still_passed : (n : ℕ) (passed more : List Bool) → ArePassed n passed → ArePassed n (passed ++ more)
still_passed n passed more h = λ i within. get_append passed more i true (h i within)

-- more messages are kept
pub mail_more : (m m' : Mail) (more : List Message) → HoldsMail m → m'.sent.items ≡ m.sent.items ++ more → m'.passed.items ≡ m.passed.items ++ replicate (length more) false
    → m'.oldest ≡ m.oldest → m'.routes ≡ m.routes → HoldsMail m'
mail_more m m' more h sent passed oldest routes =
    let flags : List Bool = replicate (length more) false in
    let a = ap length sent ∙ length-append m.sent.items more in
    let b = ap length passed ∙ length-append m.passed.items flags in
    let f : length flags ≡ length more = length-replicate (length more) false in
    record {
      even = let old = h.even in let e : length m'.passed.items ≡ length m'.sent.items = omega (arith, a, b, f, old) in e;
      older = subst (λ (n : ℕ). ArePassed n m'.passed.items) (sym oldest) (subst (λ (bs : List Bool). ArePassed m.oldest bs) (sym passed) (still_passed m.oldest m.passed.items flags h.older));
      filed = subst (λ (r : Routes). AreFiled r m'.sent.items) (sym routes) (subst (λ (ms : List Message). AreFiled m.routes ms) (sym sent) (still_filed m.routes m.sent.items more h.filed));
    }

filled_up : (old : List Bool) (n len count : ℕ) → len ≡ length old → n ≡ len + count → take n old ++ replicate (n - len) false ≡ old ++ replicate count false
filled_up old n len count long all =
    ap (λ (bs : List Bool). bs ++ replicate (n - len) false) (take_all n old (omega (arith, long, all)))
    ∙ ap (λ (k : ℕ). old ++ replicate k false) (let e : n - len ≡ count = omega (arith, all) in e)

pub resized : (b : Bool) (old new : List Bool) (n len count : ℕ) → new ≡ (if b then take n old ++ replicate (n - len) false else old) → b ≡ true → len ≡ length old → n ≡ len + count → new ≡ old ++ replicate count false
resized true old new n len count is ok long all = is ∙ filled_up old n len count long all
resized false old new n len count is ok long all = cc

pub not_true : false ≡ true → ⊥
not_true h = cc

-- ---- the newest messages

abbrev base_of : Mail → Post
base_of m = record { sent = m.sent.items; passed = m.passed.items }

pub plain_post : (m : Mail) → m.news ≡ None → post_of m ≡ base_of m
plain_post m none = ap (λ (o : Option (List Message)). with_news (base_of m) o) none

pub plain_sent : (m : Mail) → m.news ≡ None → (post_of m).sent ≡ m.sent.items
plain_sent m none = ap (λ (p : Post). p.sent) (plain_post m none)

pub plain_passed : (m : Mail) → m.news ≡ None → (post_of m).passed ≡ m.passed.items
plain_passed m none = ap (λ (p : Post). p.passed) (plain_post m none)

-- they are sorted in
pub sorted_post : (m m' : Mail) (news : List Message) → m.news ≡ Some news → m'.news ≡ None → m'.sent.items ≡ m.sent.items ++ news → m'.passed.items ≡ m.passed.items ++ replicate (length news) false → post_of m' ≡ post_of m
sorted_post m m' news some none sent passed =
    plain_post m' none ∙ (λ i. record { sent = sent i; passed = passed i }) ∙ sym (ap (λ (o : Option (List Message)). with_news (base_of m) o) some)

-- they are sent
pub sent_post : (m m' : Mail) (news : List Message) → m.news ≡ None → m'.news ≡ Some news → m'.sent ≡ m.sent → m'.passed ≡ m.passed → post_of m' ≡ with_sent (post_of m) news
sent_post m m' news none some sent passed =
    ap (λ (o : Option (List Message)). with_news (base_of m') o) some
    ∙ (λ i. with_sent (record { sent = (sent i).items; passed = (passed i).items }) news)
    ∙ sym (ap (λ (p : Post). with_sent p news) (plain_post m none))

set_front : (xs ys : List Bool) (i : ℕ) (v : Bool) → i < length xs → slice_set xs i v ++ ys ≡ slice_set (xs ++ ys) i v
set_front [] ys i v within = absurd (omega (arith, within))
set_front (x ∷ xs) ys zero v within = refl
set_front (x ∷ xs) ys (suc i) v within = ap (λ (bs : List Bool). x ∷ bs) (set_front xs ys i v (omega (arith, within)))

passed_news : (sent : List Message) (passed : List Bool) (o : Option (List Message)) (i : ℕ) → i < length passed → with_news (record { sent = sent; passed = slice_set passed i true }) o ≡ passed_at (with_news (record { sent = sent; passed = passed }) o) i
passed_news sent passed None i within = refl
passed_news sent passed (Some news) i within = ap (λ (bs : List Bool). let p : Post = record { sent = sent ++ news; passed = bs } in p) (set_front passed (replicate (length news) false) i true within)

-- one is passed
pub passed_post : (m m' : Mail) (i : ℕ) → i < length m.passed.items → m'.sent ≡ m.sent → m'.news ≡ m.news → m'.passed.items ≡ slice_set m.passed.items i true → post_of m' ≡ passed_at (post_of m) i
passed_post m m' i within sent news passed =
    (λ j. with_news (record { sent = (sent j).items; passed = passed j }) (news j)) ∙ passed_news m.sent.items m.passed.items m.news i within

-- ---- places are of messages that were sent

within_test : (b : Bool) (i n k j : ℕ) (rest : List ℕ) → ((k' : ℕ) → slice_get rest k' ≡ Some j → j < i + 1 + n) → slice_get (if b then i ∷ rest else rest) k ≡ Some j → j < i + suc n
within_test true i n zero j rest later h = let here : i ≡ j = some_one h in omega (arith, here)
within_test true i n (suc k) j rest later h = let there : j < i + 1 + n = later k h in omega (arith, there)
within_test false i n k j rest later h = let there : j < i + 1 + n = later k h in omega (arith, there)

within_from : (from upto i : ℕ) (ms : List Message) (k j : ℕ) → slice_get (places_from from upto i ms) k ≡ Some j → j < i + length ms
within_from from upto i [] k j h = cc
within_from from upto i (m ∷ ms) k j h = within_test ((m.from == from) && (m.upto == upto)) i (length ms) k j (places_from from upto (i + 1) ms) (λ k' at. within_from from upto (i + 1) ms k' j at) h

pub place_within : (from upto k : ℕ) (ms : List Message) (j : ℕ) → place_of from upto k ms ≡ Some j → j < length ms
place_within from upto zero ms j h = cc
place_within from upto (suc k) ms j h = let there : j < 0 + length ms = within_from from upto 0 ms k j h in omega (arith, there)

some_within : (o : Option ℕ) (n : ℕ) → ((j : ℕ) → o ≡ Some j → j < n) → IfSome o (λ j. j < n)
some_within None n h = tt
some_within (Some j) n h = h j refl

pub place_found : {E : Type 0} (from upto k : ℕ) (ms : List Message) (n : ℕ) (r : Result (Option ℕ) E) → length ms ≤ n → IfOk r (λ place. place ≡ place_of from upto k ms) → IfOk r (λ place. IfSome place (λ j. j < n))
place_found from upto k ms n (Ok place) long is = some_within place n (λ j at. let there = place_within from upto k ms j (sym is ∙ at) in omega (arith, there, long))
place_found from upto k ms n (Err e) long is = tt

passed_still : (xs : List Bool) (i j : ℕ) → slice_get xs j ≡ Some true → slice_get (slice_set xs i true) j ≡ Some true
passed_still xs i j at = elim (cases_eq j i) [
  | inl here ↦ subst (λ (n : ℕ). slice_get (slice_set xs i true) n ≡ Some true) (sym here) (set_get xs i true true (subst (λ (n : ℕ). slice_get xs n ≡ Some true) here at))
  | inr other ↦ set_other xs i true j true other at
]

-- those that were passed still are
pub passed_mail : (m m' : Mail) (i : ℕ) → HoldsMail m → m'.sent ≡ m.sent → m'.oldest ≡ m.oldest → m'.routes ≡ m.routes → m'.passed.items ≡ slice_set m.passed.items i true → HoldsMail m'
passed_mail m m' i h sent oldest routes passed = record {
  even = ap length passed ∙ length-set m.passed.items i true ∙ h.even ∙ sym (ap (λ (v : Vec Message Global). length v.items) sent);
  older = λ j within. subst (λ (bs : List Bool). slice_get bs j ≡ Some true) (sym passed) (passed_still m.passed.items i j (h.older j (subst (λ (n : ℕ). j < n) oldest within)));
  filed = subst (λ (v : Vec Message Global). AreFiled m'.routes v.items) (sym sent) (subst (λ (r : Routes). AreFiled r m.sent.items) (sym routes) h.filed);
}
