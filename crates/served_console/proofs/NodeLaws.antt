-- Nodes whose passes make calls one after another.
use Rattle.std.proofs.Common.{◌≡◌, ◌≢◌, ℕ, zero, suc, ◌+◌, ◌<◌, ◌≤◌, true, false, eqb, cond, Ok, Err, List, [], ◌∷◌, ◌++◌, length, get_or, set, map, refl, sym, ◌∙◌, ap, subst, arith, eq-eqb, ne_eqb}
use Rattle.std.specs.Prelude.{All}
use Rattle.std.specs.List.{AllByRecursion}
use Rattle.std.proofs.lemmas.List.{map-append}
use Rattle.std.proofs.lemmas.List.FromFn.{map-range_with_len_more}
use Rattle.std.proofs.lemmas.List.Elements.{All-nil, All-cons, All-append}
use Rattle.peer_messages.specs.declared.event.What.{What}
use Rattle.peer_messages.specs.declared.event.What.TheVariants.{Tick}
use Rattle.node_calls.specs.Calls.{call_of}
use Rattle.node_calls.specs.declared.call.NodeCall.{NodeCall}
use Rattle.node_calls.specs.declared.reply.NodeReply.{NodeReply}
use Rattle.node_lock.specs.Passes.{IsPassOf, view_of, start_of}
use Rattle.node_lock.specs.Stepped.{IsSamePass}
use Rattle.node_lock.specs.Views.{PassView}
use Rattle.node_workers.specs.Calls.{Outcome, Called, called, event_at}
use Rattle.node_workers.specs.Chains.{Comes, Makes}
use Rattle.node_workers.specs.Chains as chain
use Rattle.node_workers.specs.declared.site.Site.{Site}
use Rattle.node_workers.proofs.CallChains.{makes_one, makes_then}
use Rattle.served_console.specs.Asking.{Asked, asked, ask_of, ask_in, outcome_in, call_in, ticks}
use Rattle.served_console.specs.Nodes.{calls_at, Asks, NodeMakes, MakeFrom, AsksAt, AsksThese}
use Rattle.served_seats.specs.Seats.{IsOwn}
use Rattle.served_console.specs.Jobs.{KeepPasses}
use Rattle.served_console.specs.Answers.{told_of, nothing_told, and_told}
use Rattle.served_console.specs.declared.told.Told.{Told}
use Rattle.served_console.proofs.ToldLaws.{told_more}
use Rattle.served_console.specs.declared.node.OperatedNode.{OperatedNode}

-- ---- passes

pub pass_stays : {E : Type 0} → (v : PassView E) → IsSamePass v v
pass_stays v = record { number = refl; owned = refl; seats = refl }

pub same_pass_then : {E : Type 0} → (u v w : PassView E) → IsSamePass u v → IsSamePass v w → IsSamePass u w
same_pass_then u v w h k = record { number = k.number ∙ h.number; owned = k.owned ∙ h.owned; seats = k.seats ∙ h.seats }

-- ---- the calls of one place

calls_at-append : (place : ℕ) (xs ys : List Asked) → calls_at place (xs ++ ys) ≡ calls_at place xs ++ calls_at place ys
calls_at-append place [] ys = refl
calls_at-append place (x ∷ xs) ys =
    elim (eqb x.node place) as (λ b. cond b (call_in x ∷ calls_at place (xs ++ ys)) (calls_at place (xs ++ ys)) ≡ cond b (call_in x ∷ calls_at place xs) (calls_at place xs) ++ calls_at place ys)
    [ true ↦ ap (λ (zs : List Called). call_in x ∷ zs) (calls_at-append place xs ys) | false ↦ calls_at-append place xs ys ]

at_own : (place : ℕ) (a : Asked) → a.node ≡ place → calls_at place (a ∷ []) ≡ call_in a ∷ []
at_own place a h = rw (eq-eqb a.node place h)

at_other : (place : ℕ) (a : Asked) → a.node ≢ place → calls_at place (a ∷ []) ≡ []
at_other place a h = rw (ne_eqb a.node place h)

ticks_more : (n : ℕ) → ticks (n + 1) ≡ ticks n ++ ask_of n Tick ∷ []
ticks_more n = map-range_with_len_more (λ (k : ℕ). ask_of k Tick) 0 n n (omega arith)

module _ {W N C Entry : Type 0} (steps : N → Entry → N → Type 0) (event_of : Entry → NodeCall) (reply_of : Entry → NodeReply) (refuses : N → NodeCall → NodeCall → Type 0) (gives : C → ℕ → Type 0) where
  -- ---- one node

  makes_none : (x : OperatedNode W N C Entry) → NodeMakes steps event_of reply_of refuses gives x [] x
  makes_none x = record {
    site = refl;
    lock = x.of_lock;
    pass = pass_stays (view_of x.pass);
    made = chain.none;
    times = All-nil (λ (c : Called). gives x.site.clock.now c.call.event.clock);
  }

  makes_nothing : (x : OperatedNode W N C Entry) (calls : List Called) → calls ≡ [] → NodeMakes steps event_of reply_of refuses gives x calls x
  makes_nothing x calls e = subst (λ (cs : List Called). NodeMakes steps event_of reply_of refuses gives x cs x) (sym e) (makes_none x)

  asks_once : (x y : OperatedNode W N C Entry) (what : What) (outcome : Outcome) (a : Asks steps event_of reply_of refuses gives x what outcome y)
      → NodeMakes steps event_of reply_of refuses gives x (called (call_of (event_at a.clock what)) outcome ∷ []) y
  asks_once x y what outcome a = record {
    site = a.site;
    lock = a.lock;
    pass = a.pass;
    made = makes_one steps event_of reply_of refuses (start_of x.site.lock.now) (view_of x.pass) (view_of y.pass) (call_of (event_at a.clock what)) outcome a.pass a.comes;
    times =
        All-cons (λ (c : Called). gives x.site.clock.now c.call.event.clock) (called (call_of (event_at a.clock what)) outcome) [] a.given
        (All-nil (λ (c : Called). gives x.site.clock.now c.call.event.clock));
  }

  node_then : (x y z : OperatedNode W N C Entry) (cs ds : List Called) → NodeMakes steps event_of reply_of refuses gives x cs y → NodeMakes steps event_of reply_of refuses gives y ds z
      → NodeMakes steps event_of reply_of refuses gives x (cs ++ ds) z
  node_then x y z cs ds h k = record {
    site = k.site ∙ h.site;
    lock = subst (λ (s : Site W N C Entry). IsPassOf s.lock.now z.pass) h.site k.lock;
    pass = same_pass_then (view_of x.pass) (view_of y.pass) (view_of z.pass) h.pass k.pass;
    made =
        makes_then steps event_of reply_of refuses (start_of x.site.lock.now) (view_of x.pass) (view_of y.pass) (view_of z.pass) cs ds h.made
        (subst (λ (s : Site W N C Entry). Makes steps event_of reply_of refuses (start_of s.lock.now) (view_of y.pass) ds (view_of z.pass)) h.site k.made);
    times =
        All-append (λ (c : Called). gives x.site.clock.now c.call.event.clock) cs ds h.times
        (subst (λ (s : Site W N C Entry). All (λ (c : Called). gives s.clock.now c.call.event.clock) ds) h.site k.times);
  }

  -- ---- several nodes

  make-none : (place : ℕ) (xs : List (OperatedNode W N C Entry)) (made : List Asked) → ((k : ℕ) → place ≤ k → calls_at k made ≡ []) → MakeFrom steps event_of reply_of refuses gives place xs made xs
  make-none place [] made h = tt
  make-none place (x ∷ xs) made h = (makes_nothing x (calls_at place made) (h place (omega arith)), make-none (suc place) xs made (λ k le. h k (omega arith)))

  make-set : (place i j : ℕ) (made : List Asked) (xs : List (OperatedNode W N C Entry)) (y d : OperatedNode W N C Entry) → j ≡ place + i → i < length xs
      → NodeMakes steps event_of reply_of refuses gives (get_or xs i d) (calls_at j made) y → ((k : ℕ) → k ≢ j → calls_at k made ≡ [])
      → MakeFrom steps event_of reply_of refuses gives place xs made (set xs i y)
  make-set place i j made [] y d is within makes others = absurd (omega arith)
  make-set place zero j made (x ∷ xs) y d is within makes others = (
    subst (λ (n : ℕ). NodeMakes steps event_of reply_of refuses gives x (calls_at n made) y) (let e : j ≡ place = omega arith in e) makes,
    make-none (suc place) xs made (λ k le. others k (λ e. omega arith)),
  )
  make-set place (suc i) j made (x ∷ xs) y d is within makes others = (
    makes_nothing x (calls_at place made) (others place (λ e. omega arith)),
    make-set (suc place) i j made xs y d (omega arith) (omega arith) makes others,
  )

  pub make_nothing : (xs : List (OperatedNode W N C Entry)) → MakeFrom steps event_of reply_of refuses gives 0 xs [] xs
  make_nothing xs = make-none 0 xs [] (λ k le. refl)

  pub make_then : (place : ℕ) (xs ys zs : List (OperatedNode W N C Entry)) (as' bs : List Asked) → MakeFrom steps event_of reply_of refuses gives place xs as' ys → MakeFrom steps event_of reply_of refuses gives place ys bs zs
      → MakeFrom steps event_of reply_of refuses gives place xs (as' ++ bs) zs
  make_then place [] [] [] as' bs h k = tt
  make_then place [] [] (z ∷ zs) as' bs h k = k
  make_then place [] (y ∷ ys) zs as' bs h k = absurd h
  make_then place (x ∷ xs) [] zs as' bs h k = absurd h
  make_then place (x ∷ xs) (y ∷ ys) [] as' bs h k = absurd k
  make_then place (x ∷ xs) (y ∷ ys) (z ∷ zs) as' bs h k = (
    subst (λ (cs : List Called). NodeMakes steps event_of reply_of refuses gives x cs z) (sym (calls_at-append place as' bs))
        (node_then x y z (calls_at place as') (calls_at place bs) h.0 k.0),
    make_then (suc place) xs ys zs as' bs h.1 k.1,
  )

  pub make-length : (place : ℕ) (xs ys : List (OperatedNode W N C Entry)) (made : List Asked) → MakeFrom steps event_of reply_of refuses gives place xs made ys → length ys ≡ length xs
  make-length place [] [] made h = refl
  make-length place [] (y ∷ ys) made h = absurd h
  make-length place (x ∷ xs) [] made h = absurd h
  make-length place (x ∷ xs) (y ∷ ys) made h = ap suc (make-length (suc place) xs ys made h.1)

  -- one node of several is asked once
  pub asks_at : (xs : List (OperatedNode W N C Entry)) (place : ℕ) (what : What) (told told' : Told) (outcome : Outcome) (x y d : OperatedNode W N C Entry) → place < length xs → x ≡ get_or xs place d
      → Asks steps event_of reply_of refuses gives x what outcome y → told' ≡ and_told told outcome → AsksAt steps event_of reply_of refuses gives xs place what told (set xs place y) told'
  asks_at xs place what told told' outcome x y d within is a told_is =
      let once : Asked = asked place what a.clock outcome in
      record {
        clock = a.clock;
        outcome = outcome;
        make =
            make-set 0 place place (once ∷ []) xs y d (omega arith) within
            (subst (λ (z : OperatedNode W N C Entry). NodeMakes steps event_of reply_of refuses gives z (calls_at place (once ∷ [])) y) is
            (subst (λ (cs : List Called). NodeMakes steps event_of reply_of refuses gives x cs y) (sym (at_own place once refl)) (asks_once x y what outcome a)))
            (λ k ne. at_other k once (λ e. ne (sym e)));
        told_is = told_is;
      }

  -- ---- several asks

  pub asks_none : (xs : List (OperatedNode W N C Entry)) (told : Told) → told ≡ nothing_told → AsksThese steps event_of reply_of refuses gives xs [] xs told
  asks_none xs told e = record { made = []; asks_are = refl; make = make_nothing xs; told_is = e }

  pub asks_silent : (xs : List (OperatedNode W N C Entry)) (asks : List (ℕ × What)) (told : Told) → asks ≡ [] → told ≡ nothing_told → AsksThese steps event_of reply_of refuses gives xs asks xs told
  asks_silent xs asks told none e =
      subst (λ (l : List (ℕ × What)). AsksThese steps event_of reply_of refuses gives xs l xs told) (sym none) (asks_none xs told e)

  pub asks_more : (xs ys zs : List (OperatedNode W N C Entry)) (asks : List (ℕ × What)) (place : ℕ) (what : What) (told told' : Told) → AsksThese steps event_of reply_of refuses gives xs asks ys told
      → AsksAt steps event_of reply_of refuses gives ys place what told zs told' → AsksThese steps event_of reply_of refuses gives xs (asks ++ ask_of place what ∷ []) zs told'
  asks_more xs ys zs asks place what told told' h a =
      let once : Asked = asked place what a.clock a.outcome in
      record {
        made = h.made ++ once ∷ [];
        asks_are = map-append ask_in h.made (once ∷ []) ∙ ap (λ (l : List (ℕ × What)). l ++ ask_of place what ∷ []) h.asks_are;
        make = make_then 0 xs ys zs h.made (once ∷ []) h.make a.make;
        told_is =
            a.told_is
            ∙ ap (λ (t : Told). and_told t a.outcome) h.told_is
            ∙ sym (ap told_of (map-append outcome_in h.made (once ∷ [])) ∙ told_more (map outcome_in h.made) a.outcome);
      }

  pub asks_one : (xs ys : List (OperatedNode W N C Entry)) (place : ℕ) (what : What) (told : Told) → AsksAt steps event_of reply_of refuses gives xs place what nothing_told ys told
      → AsksThese steps event_of reply_of refuses gives xs (ask_of place what ∷ []) ys told
  asks_one xs ys place what told a = asks_more xs xs ys [] place what nothing_told told (asks_none xs nothing_told refl) a

  -- the time is told to one node more
  pub tick_more : (xs ys zs : List (OperatedNode W N C Entry)) (place : ℕ) (told told' : Told) → AsksThese steps event_of reply_of refuses gives xs (ticks place) ys told
      → AsksAt steps event_of reply_of refuses gives ys place Tick told zs told' → AsksThese steps event_of reply_of refuses gives xs (ticks (place + 1)) zs told'
  tick_more xs ys zs place told told' h a =
      subst (λ (asks : List (ℕ × What)). AsksThese steps event_of reply_of refuses gives xs asks zs told') (sym (ticks_more place)) (asks_more xs ys zs (ticks place) place Tick told told' h a)

-- ---- what stands under the number of a pass

AllByRecursion-append : {X : Type 0} (P : X → Type 0) (xs ys : List X) → AllByRecursion P xs → AllByRecursion P ys → AllByRecursion P (xs ++ ys)
AllByRecursion-append P [] ys h k = k
AllByRecursion-append P (x ∷ xs) ys h k = (h.0, AllByRecursion-append P xs ys h.1 k)

module _ {S E : Type 0} (steps : S → E → S → Type 0) (event_of : E → NodeCall) (reply_of : E → NodeReply) (refuses : S → NodeCall → NodeCall → Type 0) (start : S) where
  own_more : (v w : PassView E) (call : NodeCall) (outcome : Outcome) → Comes steps event_of reply_of refuses start v call outcome w → IsSamePass v w → IsOwn v → IsOwn w
  own_more v w call (Ok receipt) comes same own =
      let P : ℕ × E → Type 0 = λ x. x.0 ≡ v.number in
      let mine = AllByRecursion-append P v.mine ((v.number, comes.entry) ∷ []) own (refl, tt) in
      subst (λ (n : ℕ). AllByRecursion (λ (x : ℕ × E). x.0 ≡ n) w.mine) (sym same.number) (subst (AllByRecursion P) (sym comes.mine) mine)
  own_more v w call (Err refused) comes same own =
      let P : ℕ × E → Type 0 = λ x. x.0 ≡ v.number in
      subst (λ (n : ℕ). AllByRecursion (λ (x : ℕ × E). x.0 ≡ n) w.mine) (sym same.number) (subst (AllByRecursion P) (sym comes.0.mine) own)

  own_stays : (v w : PassView E) (calls : List Called) → Makes steps event_of reply_of refuses start v calls w → IsOwn v → IsOwn w
  own_stays v _ _ chain.none own = own
  own_stays v _ _ (chain.more calls call outcome w x h same comes) own = own_more w x call outcome comes same (own_stays v w calls h own)

module _ {W N C Entry : Type 0} where
  pub passes_stay : (xs : List (OperatedNode W N C Entry)) → KeepPasses xs xs
  passes_stay [] = tt
  passes_stay (x ∷ xs) = (record { site = refl; lock = x.of_lock; pass = pass_stays (view_of x.pass); own = λ h. h }, passes_stay xs)

  module _ (steps : N → Entry → N → Type 0) (event_of : Entry → NodeCall) (reply_of : Entry → NodeReply) (refuses : N → NodeCall → NodeCall → Type 0) (gives : C → ℕ → Type 0) where
    pub passes_kept : (place : ℕ) (xs ys : List (OperatedNode W N C Entry)) (made : List Asked) → MakeFrom steps event_of reply_of refuses gives place xs made ys → KeepPasses xs ys
    passes_kept place [] [] made h = tt
    passes_kept place [] (y ∷ ys) made h = h
    passes_kept place (x ∷ xs) [] made h = h
    passes_kept place (x ∷ xs) (y ∷ ys) made h = (
      record {
        site = h.0.site;
        lock = h.0.lock;
        pass = h.0.pass;
        own = own_stays steps event_of reply_of refuses (start_of x.site.lock.now) (view_of x.pass) (view_of y.pass) (calls_at place made) h.0.made;
      },
      passes_kept (suc place) xs ys made h.1,
    )
