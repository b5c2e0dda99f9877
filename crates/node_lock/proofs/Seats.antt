-- The lock's rule at the start and at the end, and where passes are split and joined.
use Rattle.std.proofs.Common.{◌≡◌, ◌^◌, ℕ, zero, suc, ◌+◌, ◌-◌, ◌<◌, ◌≤◌, ◌≢◌, eqb, List, [], ◌∷◌, ◌++◌, length, get_or, set, sym, refl, ap, ◌∙◌, subst, ⊎_elim, arith, Some, append-nil, length-append, length-set}
use mathlib.Core.Logic.{dite}
use mathlib.Core.Option.{none, some, some-injective, some-ne-none}
use native.Mathlib.Decide.{ℕ_discrete}
use lib.ListN.{get_elem?}
use lib.Seq.{set-get_or}
use prog.Atomic.{either}
use Rattle.atomic_table.specs.Table.{State, step, keeps, opening, Allows, Splits, Joins, Final, Seen}
use Rattle.atomic_table.proofs.Lists.{at_set, exchanged}
use Rattle.node_lock.specs.Held.{ReplaysFrom, log_of, IsHeld}
use Rattle.node_lock.specs.Histories.{StartsWith, entries_by, most_entries}
use Rattle.node_lock.specs.Rules.{total, Slot, Mine, opener, asking, left_of, right_of, both_of, spent, learning, Fits, Kept, asked_for, learned}
use Rattle.node_lock.specs.declared.held.Held.{Held}
use Rattle.node_lock.specs.declared.view.SeatView.{SeatView}
use Rattle.node_lock.proofs.Keeps.{seats_fit}
use Rattle.node_lock.proofs.HistoryLaws.{entries_by-append, longer-starts}
use Rattle.node_lock.proofs.Lists.{total-append, total-set, terms_le, total_none, at_below, at_any, at_end, update, update_same, update_else, handed, handed_low, handed_in, handed_cases}

module _ {S E : Type 0} (steps : S → E → S → Type 0) (start : S) (seats : ℕ) where
  abbrev St : Type 0
  St = State (Slot S E) (SeatView S E)

  abbrev Rule : St → Type 0
  Rule = Kept steps start seats

  pub opens : (h : Held S E) → seats < 2 ^ 32 → h.state ≡ start → log_of h ≡ [] → Rule (opening (0 ∷ 0 ∷ 0 ∷ []) (Some h ∷ []) (opener start seats))
  opens h few same bare = record {
    log = [];
    pending = [];
    out = 0;
    served = 0;
    drawn = 0;
    taker = λ _. 0;
    owner = λ _. 0;
    words = refl;
    queue = refl;
    all_seats = omega arith;
    few_seats = few;
    at_rest = λ _. (refl, refl);
    home = λ _. (h, refl, record { same = bare; replays = sym same; few = omega arith });
    owned = λ _. omega arith;
    each = λ j v at. opened j v at;
  } where
    opened : (j : ℕ) (v : SeatView S E) → get_elem? (opener start seats ∷ []) j ≡ some v → Fits start [] [] 0 0 0 (λ _. 0) (λ _. 0) j v
    opened zero v at = subst (λ (x : SeatView S E). Fits start [] [] 0 0 0 (λ _. 0) (λ _. 0) 0 x) (some-injective (opener start seats) v at) record {
      begins = λ _. refl;
      one_ticket = omega arith;
      a_seat_each = omega arith;
      known = ([], refl);
      told = ([], refl);
      queued = λ o. absurd (omega arith);
      waits = λ o. absurd (omega arith);
      holds = λ o. absurd (omega arith);
      gives = λ o. absurd (omega arith);
      alone = λ o. absurd (omega arith);
      owns = λ _ _ _. refl;
      unused = λ _ _ _. refl;
      made = λ _ _. refl;
      others = λ _ _. refl;
      gone = λ _. refl;
    }
    opened (suc j) v at = absurd (some-ne-none v (sym at))

  -- an exchange of a number for itself
  pub asks : (slots id : ℕ) (m : Mine S E) (n : ℕ) → m.0.tickets ≡ 0 → Allows Rule slots id m 0 (λ x. either (eqb x n) n x) (asked_for (step slots 0 n n none) m)
  asks slots id m n idle s k wide at small =
      let f = k.each id m.0 at in let w : SeatView S E = asking m.0 n in
      let all = k.all_seats in let queue = k.queue in
      let counted = total-set (λ (v : SeatView S E). v.tickets) s.views id m.0 w at in
      let seated = total-set (λ (v : SeatView S E). v.seats) s.views id m.0 w at in
      let x : ℕ = get_or s.words 0 0 in
      let same : either (eqb x n) n x ≡ x = exchanged x n n (λ y. y ≡ x) (λ e. sym e) (λ _. refl) in (
        w,
        keeps,
        tt,
        record {
          log = k.log;
          pending = k.pending;
          out = k.out;
          served = k.served;
          drawn = k.drawn;
          taker = k.taker;
          owner = k.owner;
          words = ap (λ (y : ℕ). set s.words 0 y) same ∙ (set-get_or s.words 0 0 ∙ k.words);
          queue = omega arith;
          all_seats = omega arith;
          few_seats = k.few_seats;
          at_rest = k.at_rest;
          home = k.home;
          owned = λ y. subst (λ (z : ℕ). k.owner y < z) (sym (length-set s.views id w)) (k.owned y);
          each = seats_fit (Fits start k.log k.pending k.out k.served k.drawn k.taker k.owner) s.views id w
              record {
                begins = f.begins;
                one_ticket = f.one_ticket;
                a_seat_each = f.a_seat_each;
                known = f.known;
                told = f.told;
                queued = f.queued;
                waits = f.waits;
                holds = f.holds;
                gives = f.gives;
                alone = f.alone;
                owns = f.owns;
                unused = f.unused;
                made = f.made;
                others = f.others;
                gone = f.gone;
              }
              (λ j v other e. k.each j v e);
        },
        refl,
      )

  -- a load after which the seat knows the longer of what it had seen and what it was told
  pub learns : (slots id : ℕ) (m : Mine S E) → m.0.tickets ≡ 0 → Allows Rule slots id m 0 (λ x. x) (learned (step slots 0 0 0 none) m)
  learns slots id m idle s k wide at small =
      let f = k.each id m.0 at in let w : SeatView S E = learning m.0 in
      let all = k.all_seats in let queue = k.queue in
      let counted = total-set (λ (v : SeatView S E). v.tickets) s.views id m.0 w at in
      let seated = total-set (λ (v : SeatView S E). v.seats) s.views id m.0 w at in
      let long = longer-starts k.log m.0.seen m.0.told f.known f.told in (
        w,
        keeps,
        tt,
        record {
          log = k.log;
          pending = k.pending;
          out = k.out;
          served = k.served;
          drawn = k.drawn;
          taker = k.taker;
          owner = k.owner;
          words = set-get_or s.words 0 0 ∙ k.words;
          queue = omega arith;
          all_seats = omega arith;
          few_seats = k.few_seats;
          at_rest = k.at_rest;
          home = k.home;
          owned = λ y. subst (λ (z : ℕ). k.owner y < z) (sym (length-set s.views id w)) (k.owned y);
          each = seats_fit (Fits start k.log k.pending k.out k.served k.drawn k.taker k.owner) s.views id w
              record {
                begins = f.begins;
                one_ticket = f.one_ticket;
                a_seat_each = f.a_seat_each;
                known = long.0;
                told = (k.log, refl);
                queued = f.queued;
                waits = λ o. absurd (omega arith);
                holds = λ o. absurd (omega arith);
                gives = λ o. absurd (omega arith);
                alone = λ o. absurd (omega arith);
                owns = f.owns;
                unused = f.unused;
                made = f.made;
                others = f.others;
                gone = f.gone;
              }
              (λ j v other e. k.each j v e);
        },
        (refl, long.1, long.2),
      )

  pub splits : (id : ℕ) (v : SeatView S E) → v.tickets ≡ 0 → 0 < v.asked → v.asked < v.owned → v.owned ≤ v.seats → Splits Rule id v (left_of v) (right_of v)
  splits id v idle some_asked fewer able s k at =
      let f = k.each id v at in let l : SeatView S E = left_of v in let r : SeatView S E = right_of v in
      let a : ℕ = v.number + (v.owned - v.asked) in let b : ℕ = v.number + v.owned in let new : ℕ = length s.views in
      let owner' : ℕ → ℕ = handed k.owner a b new in
      let here : id < length s.views = at_below s.views id v at in
      let all = k.all_seats in let queue = k.queue in
      let counted = total-set (λ (u : SeatView S E). u.tickets) s.views id v l at in
      let seated = total-set (λ (u : SeatView S E). u.seats) s.views id v l at in
      let counted' = total-append (λ (u : SeatView S E). u.tickets) (set s.views id l) (r ∷ []) in
      let seated' = total-append (λ (u : SeatView S E). u.seats) (set s.views id l) (r ∷ []) in
      let long : length (set s.views id l) ≡ new = length-set s.views id l in
      let inside : (n : ℕ) → a ≤ n → n < b → (k.owner n ≡ id) × (entries_by n k.log ≡ []) = λ n x y. (f.owns n (omega arith) y, f.unused n (omega arith) y) in
      let K : ℕ → SeatView S E → Type 0 = Fits start k.log k.pending k.out k.served k.drawn k.taker owner' in
      let kept : K id l = record {
        begins = λ _. f.begins (omega arith);
        one_ticket = f.one_ticket;
        a_seat_each = omega arith;
        known = f.known;
        told = f.told;
        queued = λ o. absurd (omega arith);
        waits = λ o. absurd (omega arith);
        holds = λ o. absurd (omega arith);
        gives = λ o. absurd (omega arith);
        alone = λ o. absurd (omega arith);
        owns = λ n x y. handed_low k.owner a b new n y ∙ f.owns n x (omega arith);
        unused = λ n x y. f.unused n x (omega arith);
        made = λ n e. ⊎_elim (λ (t : (a ≤ n) × (n < b) × (owner' n ≡ new)). let t₂ = t.2 in absurd (omega arith)) (λ (t : (a ≤ n → b ≤ n) × (owner' n ≡ k.owner n)). f.made n (sym t.1 ∙ e)) (handed_cases k.owner a b new n);
        others = λ n ne. ⊎_elim (λ (t : (a ≤ n) × (n < b) × (owner' n ≡ new)). let i = inside n t.0 t.1 in sym (f.made n i.0) ∙ i.1) (λ (t : (a ≤ n → b ≤ n) × (owner' n ≡ k.owner n)). f.others n (λ e. ne (t.1 ∙ e))) (handed_cases k.owner a b new n);
        gone = λ e. absurd (omega arith);
      } in
      let stays : (j : ℕ) (u : SeatView S E) → j ≢ id → get_elem? s.views j ≡ some u → K j u = λ j u other e. let g = k.each j u e in let near = at_below s.views j u e in record {
        begins = g.begins;
        one_ticket = g.one_ticket;
        a_seat_each = g.a_seat_each;
        known = g.known;
        told = g.told;
        queued = g.queued;
        waits = g.waits;
        holds = g.holds;
        gives = g.gives;
        alone = g.alone;
        owns = λ n x y. ⊎_elim (λ (t : (a ≤ n) × (n < b) × (owner' n ≡ new)). absurd (other (sym (g.owns n x y) ∙ (inside n t.0 t.1).0))) (λ (t : (a ≤ n → b ≤ n) × (owner' n ≡ k.owner n)). t.1 ∙ g.owns n x y) (handed_cases k.owner a b new n);
        unused = g.unused;
        made = λ n h. ⊎_elim (λ (t : (a ≤ n) × (n < b) × (owner' n ≡ new)). let t₂ = t.2 in absurd (omega arith)) (λ (t : (a ≤ n → b ≤ n) × (owner' n ≡ k.owner n)). g.made n (sym t.1 ∙ h)) (handed_cases k.owner a b new n);
        others = λ n ne. ⊎_elim (λ (t : (a ≤ n) × (n < b) × (owner' n ≡ new)). g.others n (λ h. other (sym h ∙ (inside n t.0 t.1).0))) (λ (t : (a ≤ n → b ≤ n) × (owner' n ≡ k.owner n)). g.others n (λ h. ne (t.1 ∙ h))) (handed_cases k.owner a b new n);
        gone = g.gone;
      } in
      let given : K new r = record {
        begins = λ _. f.begins (omega arith);
        one_ticket = omega arith;
        a_seat_each = omega arith;
        known = f.known;
        told = (k.log, refl);
        queued = λ o. absurd (omega arith);
        waits = λ o. absurd (omega arith);
        holds = λ o. absurd (omega arith);
        gives = λ o. absurd (omega arith);
        alone = λ o. absurd (omega arith);
        owns = λ n x y. handed_in k.owner a b new n x (omega arith);
        unused = λ n x y. (inside n (omega arith) (omega arith)).1;
        made = λ n e. ⊎_elim (λ (t : (a ≤ n) × (n < b) × (owner' n ≡ new)). (inside n t.0 t.1).1) (λ (t : (a ≤ n → b ≤ n) × (owner' n ≡ k.owner n)). let near = k.owned n in let t₁ = t.1 in absurd (omega arith)) (handed_cases k.owner a b new n);
        others = λ _ _. refl;
        gone = λ _. refl;
      } in
      record {
        log = k.log;
        pending = k.pending;
        out = k.out;
        served = k.served;
        drawn = k.drawn;
        taker = k.taker;
        owner = owner';
        words = k.words;
        queue = omega arith;
        all_seats = omega arith;
        few_seats = k.few_seats;
        at_rest = k.at_rest;
        home = k.home;
        owned = λ n. let near = k.owned n in let wide' = length-append (set s.views id l) (r ∷ []) in
            ⊎_elim (λ (t : (a ≤ n) × (n < b) × (owner' n ≡ new)). let t₂ = t.2 in omega arith) (λ (t : (a ≤ n → b ≤ n) × (owner' n ≡ k.owner n)). let t₁ = t.1 in omega arith) (handed_cases k.owner a b new n);
        each = λ j u e. ⊎_elim (λ (t : get_elem? (set s.views id l) j ≡ some u). seats_fit K s.views id l kept stays j u t)
            (λ (t : (j ≡ length (set s.views id l)) × (r ≡ u)). subst (λ (x : ℕ × SeatView S E). K x.0 x.1) (λ i. (sym (t.0 ∙ long) i, t.1 i)) given) (at_end (set s.views id l) r u j e);
      }

  pub joins : (id : ℕ) (v : SeatView S E) (other : ℕ) (w : SeatView S E) → v.tickets ≡ 0 → w.tickets ≡ 0 → 0 < v.seats → Joins Rule id v other w (both_of v w) spent
  joins id v other w idle idle' able s k at apart there =
      let f = k.each id v at in let b : SeatView S E = both_of v w in let vs : List (SeatView S E) = set s.views id b in
      let at' : get_elem? s.views other ≡ some w = ⊎_elim (λ (t : (other ≡ id) × (b ≡ w)). absurd (apart t.0)) (λ (t : (other ≢ id) × (get_elem? s.views other ≡ some w)). t.1) (at_set s.views id other b w there) in
      let g = k.each other w at' in
      let here : id < length s.views = at_below s.views id v at in
      let all = k.all_seats in let queue = k.queue in
      let counted = total-set (λ (u : SeatView S E). u.tickets) s.views id v b at in
      let seated = total-set (λ (u : SeatView S E). u.seats) s.views id v b at in
      let counted' = total-set (λ (u : SeatView S E). u.tickets) vs other w spent there in
      let seated' = total-set (λ (u : SeatView S E). u.seats) vs other w spent there in
      let owner' : ℕ → ℕ = λ n. update (λ x. x) other id (k.owner n) in
      let moved : (n : ℕ) → k.owner n ≡ other → owner' n ≡ id = λ n e. ap (update (λ x. x) other id) e ∙ update_same (λ x. x) other id in
      let still : (n : ℕ) → k.owner n ≢ other → owner' n ≡ k.owner n = λ n ne. update_else (λ x. x) other id (k.owner n) ne in
      let K : ℕ → SeatView S E → Type 0 = Fits start k.log k.pending k.out k.served k.drawn k.taker owner' in
      let both : K id b = record {
        begins = λ _. f.begins able;
        one_ticket = f.one_ticket;
        a_seat_each = omega arith;
        known = f.known;
        told = g.known;
        queued = λ o. absurd (omega arith);
        waits = λ o. absurd (omega arith);
        holds = λ o. absurd (omega arith);
        gives = λ o. absurd (omega arith);
        alone = λ o. absurd (omega arith);
        owns = λ n x y. let e = f.owns n x y in still n (λ h. apart (sym h ∙ e)) ∙ e;
        unused = f.unused;
        made = λ n e. dite (ℕ_discrete (k.owner n) other)
            (λ h. g.made n h ∙ sym (entries_by-append n v.mine w.mine ∙ ap (λ (l : List E). l ++ entries_by n w.mine) (f.others n (λ i. apart (sym h ∙ i)))))
            (λ ne. f.made n (sym (still n ne) ∙ e) ∙ sym (entries_by-append n v.mine w.mine ∙ (ap (λ (l : List E). entries_by n v.mine ++ l) (g.others n ne) ∙ append-nil (entries_by n v.mine))));
        others = λ n ne. let not_other : k.owner n ≢ other = λ h. ne (moved n h) in
            entries_by-append n v.mine w.mine ∙ (λ i. f.others n (λ h. ne (still n not_other ∙ h)) i ++ g.others n not_other i);
        gone = λ e. absurd (omega arith);
      } in
      let nobody : K other spent = record {
        begins = λ e. absurd (omega arith);
        one_ticket = omega arith;
        a_seat_each = omega arith;
        known = (k.log, refl);
        told = (k.log, refl);
        queued = λ o. absurd (omega arith);
        waits = λ o. absurd (omega arith);
        holds = λ o. absurd (omega arith);
        gives = λ o. absurd (omega arith);
        alone = λ o. absurd (omega arith);
        owns = λ n x y. absurd (omega arith);
        unused = λ n x y. absurd (omega arith);
        made = λ n e. dite (ℕ_discrete (k.owner n) other) (λ h. absurd (apart (sym e ∙ moved n h))) (λ ne. absurd (ne (sym (still n ne) ∙ e)));
        others = λ _ _. refl;
        gone = λ _. refl;
      } in
      let stays : (j : ℕ) (u : SeatView S E) → j ≢ id → j ≢ other → get_elem? s.views j ≡ some u → K j u = λ j u n₁ n₂ e. let h = k.each j u e in record {
        begins = h.begins;
        one_ticket = h.one_ticket;
        a_seat_each = h.a_seat_each;
        known = h.known;
        told = h.told;
        queued = h.queued;
        waits = h.waits;
        holds = h.holds;
        gives = h.gives;
        alone = h.alone;
        owns = λ n x y. let o = h.owns n x y in still n (λ i. n₂ (sym o ∙ i)) ∙ o;
        unused = h.unused;
        made = λ n o. dite (ℕ_discrete (k.owner n) other) (λ i. absurd (n₁ (sym o ∙ moved n i))) (λ ne. h.made n (sym (still n ne) ∙ o));
        others = λ n ne. h.others n (λ o. ne (still n (λ i. n₂ (sym o ∙ i)) ∙ o));
        gone = h.gone;
      } in
      record {
        log = k.log;
        pending = k.pending;
        out = k.out;
        served = k.served;
        drawn = k.drawn;
        taker = k.taker;
        owner = owner';
        words = k.words;
        queue = omega arith;
        all_seats = omega arith;
        few_seats = k.few_seats;
        at_rest = k.at_rest;
        home = k.home;
        owned = λ n. let near = k.owned n in let l₁ = length-set s.views id b in let l₂ = length-set vs other spent in
            dite (ℕ_discrete (k.owner n) other) (λ h. let e = moved n h in omega arith) (λ ne. let e = still n ne in omega arith);
        each = seats_fit K vs other spent nobody (λ j u ne e. ⊎_elim (λ (t : (j ≡ id) × (b ≡ u)). subst (λ (x : ℕ × SeatView S E). K x.0 x.1) (λ i. (sym t.0 i, t.1 i)) both)
            (λ (t : (j ≢ id) × (get_elem? s.views j ≡ some u)). stays j u t.0 ne t.1) (at_set s.views id j b u e));
      }

  -- what the pass with all seats finds once no thread shares the lock
  pub closes : (id : ℕ) (v : SeatView S E) (ws : List ℕ) (xs : List (Slot S E)) → v.tickets ≡ 0 → v.seats ≡ seats → Final (Seen Rule id v) ws xs
      → (h : Held S E) × (get_elem? xs 0 ≡ some (Some h)) × IsHeld steps (Some start) (log_of h) h × StartsWith (log_of h) v.seen × ((n : ℕ) → entries_by n (log_of h) ≡ entries_by n v.mine)
  closes id v ws xs idle whole final =
      let s = final.0 in let k = final.1.0 in let at = final.1.1 in let f = k.each id v at in
      let all = k.all_seats in let queue = k.queue in
      let none_left : (j : ℕ) (u : SeatView S E) → j ≢ id → get_elem? s.views j ≡ some u → u.seats ≡ 0 = λ j u ne e. let t = terms_le (λ (x : SeatView S E). x.seats) s.views id j v u ne at e in omega arith in
      let none_waits : total (λ (x : SeatView S E). x.tickets) s.views ≡ 0 = total_none (λ (x : SeatView S E). x.tickets) s.views (λ j u e. dite (ℕ_discrete j id)
      (λ is. ap (λ (x : SeatView S E). x.tickets) (some-injective u v (sym e ∙ (ap (get_elem? s.views) is ∙ at))) ∙ idle)
      (λ ne. let few = (k.each j u e).a_seat_each in let z = none_left j u ne e in omega arith)) in
      let rest = k.at_rest (omega arith) in
      let t = k.home rest.0 in let h : Held S E = t.0 in
      let same : log_of h ≡ k.log = t.2.same ∙ (ap (λ (l : List (ℕ × E)). k.log ++ l) rest.1 ∙ append-nil k.log) in (
        h,
        final.4 0 (Some h) t.1,
        record {
          same = refl;
          replays = subst (λ (l : List (ℕ × E)). ReplaysFrom steps (Some start) l h.state) (sym t.2.same) t.2.replays;
          few = subst (λ (l : List (ℕ × E)). length l ≤ most_entries) (sym t.2.same) t.2.few;
        },
        subst (λ (l : List (ℕ × E)). StartsWith l v.seen) (sym same) f.known,
        λ n. ap (entries_by n) same ∙ dite (ℕ_discrete (k.owner n) id) (λ is. f.made n is)
            (λ ne. let u = at_any s.views (k.owner n) (k.owned n) in let g = k.each (k.owner n) u.0 u.1 in
            g.made n refl ∙ (ap (entries_by n) (g.gone (none_left (k.owner n) u.0 ne u.1)) ∙ sym (f.others n ne))),
      )

  -- the same of the value that is taken out of the slot
  pub closes_with : (id : ℕ) (v : SeatView S E) (ws : List ℕ) (xs : List (Slot S E)) (x : Slot S E) → v.tickets ≡ 0 → v.seats ≡ seats → Final (Seen Rule id v) ws xs → get_elem? xs 0 ≡ some x
      → (h : Held S E) × (x ≡ Some h) × IsHeld steps (Some start) (log_of h) h × StartsWith (log_of h) v.seen × ((n : ℕ) → entries_by n (log_of h) ≡ entries_by n v.mine)
  closes_with id v ws xs x idle whole final at = let t = closes id v ws xs idle whole final in (t.0, some-injective x (Some t.0) (sym at ∙ t.1), t.2, t.3, t.4)

  pub closed_at : (id : ℕ) (v : SeatView S E) (ws : List ℕ) (xs : List (Slot S E)) (x : Slot S E) (r : Held S E) → v.tickets ≡ 0 → v.seats ≡ seats → Final (Seen Rule id v) ws xs → get_elem? xs 0 ≡ some x → x ≡ Some r
      → IsHeld steps (Some start) (log_of r) r × StartsWith (log_of r) v.seen × ((n : ℕ) → entries_by n (log_of r) ≡ entries_by n v.mine)
  closed_at id v ws xs x r idle whole final at is =
      let t = closes_with id v ws xs x idle whole final at in
      let here : Some t.0 ≡ Some r = sym t.1 ∙ is in
      let e : t.0 ≡ r = cc here in
      subst (λ (z : Held S E). IsHeld steps (Some start) (log_of z) z × StartsWith (log_of z) v.seen × ((n : ℕ) → entries_by n (log_of z) ≡ entries_by n v.mine)) e (t.2, t.3, t.4)
