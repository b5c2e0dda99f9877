-- Each step keeps the lock's rule.
use Rattle.std.proofs.Common.{◌≡◌, ℕ, ◌+◌, ◌%◌, ◌^◌, ◌<◌, ◌≤◌, ◌≢◌, List, [], ◌∷◌, ◌++◌, length, get_or, set, sym, refl, ap, ◌∙◌, subst, ⊎_elim, arith, Option, None, Some, append-nil, length-set}
use mathlib.Core.Logic.{dite}
use mathlib.Core.Option.{none, some}
use native.Mathlib.Decide.{ℕ_discrete}
use lib.ListN.{get_elem?}
use lib.Seq.{set-get_or}
use Rattle.atomic_table.specs.Table.{State, step, keeps, takes, gives, stepped, Allows}
use Rattle.atomic_table.proofs.Lists.{at_set, set_again, set_here, one_turn}
use Rattle.node_lock.specs.Held.{ReplaysFrom, log_of, IsHeld}
use Rattle.node_lock.specs.Histories.{StartsWith, entries_by, most_entries}
use Rattle.node_lock.specs.Rules.{total, Slot, Mine, waiting, holding, giving, publishing, resting, Fits, Kept, drawn, gave, published, advanced, looked}
use Rattle.node_lock.specs.declared.held.Held.{Held}
use Rattle.node_lock.specs.declared.view.SeatView.{SeatView}
use Rattle.node_lock.specs.declared.view.Stage.TheVariants.{Waiting, Holding, Giving}
use Rattle.node_lock.proofs.HistoryLaws.{entries_by-append, starts-same, starts-more, starts-chain, same_rest}
use Rattle.node_lock.proofs.Lists.{total-set, total_le, update, update_same, update_else}

module _ {S E : Type 0} where
  pub seats_fit : (K : ℕ → SeatView S E → Type 0) (vs : List (SeatView S E)) (me : ℕ) (w : SeatView S E) → K me w → ((j : ℕ) (v : SeatView S E) → j ≢ me → get_elem? vs j ≡ some v → K j v)
      → (j : ℕ) (v : SeatView S E) → get_elem? (set vs me w) j ≡ some v → K j v
  seats_fit K vs me w mine others j v e = ⊎_elim (λ (t : (j ≡ me) × (w ≡ v)). subst (λ (x : ℕ × SeatView S E). K x.0 x.1) (λ i. (sym t.0 i, t.1 i)) mine)
      (λ (t : (j ≢ me) × (get_elem? vs j ≡ some v)). others j v t.0 t.1) (at_set vs me j w v e)

  slot_log : Slot S E → List (ℕ × E)
  slot_log None = []
  slot_log (Some h) = log_of h

  first_log : List (ℕ × Slot S E) → List (ℕ × E)
  first_log [] = []
  first_log (x ∷ xs) = slot_log x.1

  one_held : (h h' : Held S E) (xs : List (ℕ × Slot S E)) → xs ≡ (0, Some h) ∷ [] → xs ≡ (0, Some h') ∷ [] → log_of h ≡ log_of h'
  unfolding slot_log first_log
  one_held h h' xs a b = sym (ap first_log a) ∙ ap first_log b

  -- what holds of another seat stays so where the seat whose ticket is served makes a step
  others_turn : (start : S) (log pending : List (ℕ × E)) (out served drawn : ℕ) (taker owner : ℕ → ℕ) (log' pending' : List (ℕ × E)) (out' served' id : ℕ)
      → taker served ≡ id → StartsWith log' log → ((n : ℕ) → owner n ≢ id → entries_by n log' ≡ entries_by n log)
      → served ≤ served' → served' ≤ served + 1 → (served' ≡ served + 1 → (out' ≡ 0) × (pending' ≡ []))
      → (j : ℕ) (v : SeatView S E) → j ≢ id → Fits start log pending out served drawn taker owner j v → Fits start log' pending' out' served' drawn taker owner j v
  others_turn start log pending out served drawn taker owner log' pending' out' served' id mine longer same up one next j v other f =
      let later : 0 < v.tickets → v.ticket ≢ served = λ o e. other (sym (f.queued o).2 ∙ (ap taker e ∙ mine)) in
      record {
        begins = f.begins;
        one_ticket = f.one_ticket;
        a_seat_each = f.a_seat_each;
        known = starts-chain log' log v.seen longer f.known;
        told = starts-chain log' log v.told longer f.told;
        queued = λ o. let q = f.queued o in let q₀ = q.0 in let ne = later o in (omega arith, q.1, q.2);
        waits = λ o st e. dite (ℕ_discrete served' (served + 1)) next (λ ne. absurd (later o (e ∙ omega arith)));
        holds = λ o st. absurd (later o (f.holds o st).0);
        gives = λ o st. absurd (later o (f.gives o st).0);
        alone = f.alone;
        owns = f.owns;
        unused = λ n a b. same n (λ e. other (sym (f.owns n (omega arith) b) ∙ e)) ∙ f.unused n a b;
        made = λ n e. same n (λ h. other (sym e ∙ h)) ∙ f.made n e;
        others = f.others;
        gone = f.gone;
      }

module _ {S E : Type 0} (steps : S → E → S → Type 0) (start : S) (seats : ℕ) where
  abbrev St : Type 0
  St = State (Slot S E) (SeatView S E)

  abbrev Rule : St → Type 0
  Rule = Kept steps start seats

  -- a load that tells nothing new
  unmoved : (s : St) (k : Rule s) (i id : ℕ) (m : Mine S E) → get_elem? s.views id ≡ some m.0 → Rule (stepped s i (get_or s.words i 0) id m.1 m.0 keeps)
  unmoved s k i id m at = subst (λ (x : List ℕ × List (SeatView S E)). Rule record { words = x.0; homes = s.homes; views = x.1 })
      (λ j. (sym (set-get_or s.words i 0) j, sym (set_again s.views id m.0 at) j)) k

  few_open : (s : St) (k : Rule s) → total (λ (v : SeatView S E). v.tickets) s.views ≤ seats
  few_open s k = let a = k.all_seats in omega (arith, total_le (λ (v : SeatView S E). v.tickets) (λ (v : SeatView S E). v.seats) s.views (λ j v e. (k.each j v e).a_seat_each))

  pub draws : (slots id : ℕ) (m : Mine S E) → m.0.tickets ≡ 0 → 0 < m.0.seats → Allows Rule slots id m 0 (λ n. (n + 1) % 2 ^ 64) (drawn (step slots 0 1 0 none) m)
  draws slots id m idle able s k wide at small =
      let f = k.each id m.0 at in let w : SeatView S E = waiting m.0 k.drawn in let q = k.queue in
      let counted = total-set (λ (v : SeatView S E). v.tickets) s.views id m.0 w at in
      let seated = total-set (λ (v : SeatView S E). v.seats) s.views id m.0 w at in
      let all = k.all_seats in (
        w,
        keeps,
        tt,
        record {
          log = k.log;
          pending = k.pending;
          out = k.out;
          served = k.served;
          drawn = k.drawn + 1;
          taker = update k.taker k.drawn id;
          owner = k.owner;
          words = ap (λ (ws : List ℕ). set ws 0 ((get_or ws 0 0 + 1) % 2 ^ 64)) k.words
              ∙ ap (λ (x : ℕ). x ∷ k.served % 2 ^ 64 ∷ length k.log ∷ []) (omega arith);
          queue = omega arith;
          all_seats = omega arith;
          few_seats = k.few_seats;
          at_rest = λ e. absurd (omega arith);
          home = k.home;
          owned = λ n. subst (λ (x : ℕ). k.owner n < x) (sym (length-set s.views id w)) (k.owned n);
          each = seats_fit (Fits start k.log k.pending k.out k.served (k.drawn + 1) (update k.taker k.drawn id) k.owner) s.views id w
              record {
                begins = f.begins;
                one_ticket = omega arith;
                a_seat_each = able;
                known = f.known;
                told = f.told;
                queued = λ _. (omega arith, omega arith, update_same k.taker k.drawn id);
                waits = λ _ _ e. k.at_rest (sym e);
                holds = λ _ e. absurd (cc e);
                gives = λ _ e. absurd (cc e);
                alone = λ _ e. absurd (cc e);
                owns = f.owns;
                unused = f.unused;
                made = f.made;
                others = f.others;
                gone = f.gone;
              }
              (λ j v other e. let g = k.each j v e in record {
                begins = g.begins;
                one_ticket = g.one_ticket;
                a_seat_each = g.a_seat_each;
                known = g.known;
                told = g.told;
                queued = λ o. let x = g.queued o in let x₁ = x.1 in (x.0, omega arith, update_else k.taker k.drawn id v.ticket (λ h. omega arith) ∙ x.2);
                waits = g.waits;
                holds = g.holds;
                gives = g.gives;
                alone = g.alone;
                owns = g.owns;
                unused = g.unused;
                made = g.made;
                others = g.others;
                gone = g.gone;
              });
        },
        (k.drawn, sym (ap (λ (ws : List ℕ). get_or ws 0 0) k.words), refl),
      )

  pub looks : (slots id : ℕ) (m : Mine S E) → m.0.tickets ≡ 1 → m.0.stage ≡ Waiting → 0 < m.0.owned → Allows Rule slots id m 1 (λ n. n) (looked steps (step slots 1 0 0 none) m)
  looks slots id m one waits able s k wide at small = let f = k.each id m.0 at in let q = f.queued (omega arith) in let queue = k.queue in let few = k.few_seats in let open_few = few_open s k in
      let found : get_or s.words 1 0 ≡ k.served % 2 ^ 64 = ap (λ (ws : List ℕ). get_or ws 1 0) k.words in
      dite (ℕ_discrete (get_or s.words 1 0) (m.0.ticket % 2 ^ 64))
      (λ hit.
      let q₀ = q.0 in let q₁ = q.1 in
      let now : k.served ≡ m.0.ticket = one_turn k.served m.0.ticket (2 ^ 64) q.0 (omega arith) (sym found ∙ hit) in
      let free = f.waits (omega arith) waits (sym now) in
      let t = k.home free.0 in let h : Held S E = t.0 in
      let whole : log_of h ≡ k.log = t.2.same ∙ (ap (λ (l : List (ℕ × E)). k.log ++ l) free.1 ∙ append-nil k.log) in
      let own = f.owns m.0.number (omega arith) (omega arith) in
      let some_seat = f.a_seat_each in let begins = f.begins (omega arith) in
      let w : SeatView S E = holding m.0 (log_of h) in
      let counted = total-set (λ (v : SeatView S E). v.tickets) s.views id m.0 w at in
      let seated = total-set (λ (v : SeatView S E). v.seats) s.views id m.0 w at in
      let all = k.all_seats in (
        w,
        takes 0 (Some h),
        t.1,
        record {
          log = k.log;
          pending = k.pending;
          out = 1;
          served = k.served;
          drawn = k.drawn;
          taker = k.taker;
          owner = k.owner;
          words = set-get_or s.words 1 0 ∙ k.words;
          queue = omega arith;
          all_seats = omega arith;
          few_seats = k.few_seats;
          at_rest = λ e. absurd (omega arith);
          home = λ e. absurd (omega arith);
          owned = λ n. subst (λ (x : ℕ). k.owner n < x) (sym (length-set s.views id w)) (k.owned n);
          each = seats_fit (Fits start k.log k.pending 1 k.served k.drawn k.taker k.owner) s.views id w
              record {
                begins = f.begins;
                one_ticket = f.one_ticket;
                a_seat_each = f.a_seat_each;
                known = subst (λ (l : List (ℕ × E)). StartsWith k.log l) (sym whole) (starts-same k.log);
                told = f.told;
                queued = f.queued;
                waits = λ _ e. absurd (cc e);
                holds = λ _ _. (sym now, refl, free.1, whole);
                gives = λ _ e. absurd (cc e);
                alone = λ _ e. absurd (cc e);
                owns = f.owns;
                unused = f.unused;
                made = f.made;
                others = f.others;
                gone = f.gone;
              }
              (λ j v other e. others_turn start k.log k.pending k.out k.served k.drawn k.taker k.owner k.log k.pending 1 k.served id (ap k.taker now ∙ q.2) (starts-same k.log) (λ _ _. refl)
              (omega arith) (omega arith) (λ up. absurd (omega arith)) j v other (k.each j v e));
        },
        (
          λ _. (
            h,
            refl,
            record {
              held = record { same = refl; replays = subst (λ (x : Option S × List (ℕ × E)). ReplaysFrom steps x.0 x.1 h.state) (λ i. (sym begins i, sym t.2.same i)) t.2.replays; few = subst (λ (l : List (ℕ × E)). length l ≤ most_entries) (sym t.2.same) t.2.few };
              later = subst (λ (l : List (ℕ × E)). StartsWith l m.0.seen) (sym whole) f.known;
              own = ap (entries_by m.0.number) whole ∙ f.made m.0.number own;
            },
          ),
          λ miss. absurd (miss hit),
        ),
      ))
      (λ miss. (m.0, keeps, tt, unmoved s k 1 id m at, ((λ hit. absurd (miss hit)), λ _. refl)))

  pub gives_back : (slots id : ℕ) (v : SeatView S E) (h : Held S E) (more : List (ℕ × E)) → slots ≡ 1 → v.tickets ≡ 1 → v.stage ≡ Holding → IsHeld steps v.start (v.seen ++ more) h
      → ((n : ℕ) → n ≢ v.number → entries_by n more ≡ [])
      → Allows Rule slots id (v, (0, Some h) ∷ []) 1 (λ n. n) (gave (step slots 1 0 0 none) (v, (0, Some h) ∷ []))
  gives_back slots id v h more single one holds is own s k wide at small = let f = k.each id v at in let q = f.queued (omega arith) in let t = f.holds (omega arith) holds in
      let w : SeatView S E = giving v more in
      let t₀ = t.0 in let q₁ = q.1 in let queue = k.queue in let all = k.all_seats in
      let counted = total-set (λ (u : SeatView S E). u.tickets) s.views id v w at in
      let seated = total-set (λ (u : SeatView S E). u.seats) s.views id v w at in (
        w,
        gives,
        tt,
        record {
          log = k.log;
          pending = more;
          out = 0;
          served = k.served;
          drawn = k.drawn;
          taker = k.taker;
          owner = k.owner;
          words = set-get_or s.words 1 0 ∙ k.words;
          queue = omega arith;
          all_seats = omega arith;
          few_seats = k.few_seats;
          at_rest = λ e. absurd (omega arith);
          home = λ _. (h, set_here s.homes 0 (some (Some h)) (omega arith), (let some_seat = f.a_seat_each in let begins = f.begins (omega arith) in subst (λ (x : Option S × List (ℕ × E)). IsHeld steps x.0 (x.1 ++ more) h) (λ i. (begins i, t.3 i)) is));
          owned = λ n. subst (λ (x : ℕ). k.owner n < x) (sym (length-set s.views id w)) (k.owned n);
          each = seats_fit (Fits start k.log more 0 k.served k.drawn k.taker k.owner) s.views id w
              record {
                begins = f.begins;
                one_ticket = f.one_ticket;
                a_seat_each = f.a_seat_each;
                known = f.known;
                told = f.told;
                queued = f.queued;
                waits = λ _ e. absurd (cc e);
                holds = λ _ e. absurd (cc e);
                gives = λ _ _. (t.0, refl, refl, t.3);
                alone = λ _ _. own;
                owns = f.owns;
                unused = f.unused;
                made = f.made;
                others = f.others;
                gone = f.gone;
              }
              (λ j u other e. others_turn start k.log k.pending k.out k.served k.drawn k.taker k.owner k.log more 0 k.served id (ap k.taker (sym t.0) ∙ q.2) (starts-same k.log) (λ _ _. refl)
              (omega arith) (omega arith) (λ up. absurd (omega arith)) j u other (k.each j u e));
        },
        λ h' more' e same. let same_held = one_held h h' ((0, Some h) ∷ []) refl e in
            ap (λ (l : List (ℕ × E)). (giving v l, [])) (same_rest v.seen more more' (sym is.same ∙ (same_held ∙ same))),
      )

  pub publishes : (slots id : ℕ) (m : Mine S E) (n : ℕ) → m.0.tickets ≡ 1 → m.0.stage ≡ Giving → 0 < m.0.owned → n ≡ length (m.0.seen ++ m.0.pending)
      → Allows Rule slots id m 2 (λ _. n) (λ _. published (step slots 2 n 0 none) m n)
  publishes slots id m n one gone able long s k wide at small = let f = k.each id m.0 at in let q = f.queued (omega arith) in let t = f.gives (omega arith) gone in
      let w : SeatView S E = publishing m.0 in
      let alone = f.alone (omega arith) gone in
      let own = f.owns m.0.number (omega arith) (omega arith) in
      let log' : List (ℕ × E) = k.log ++ k.pending in
      let whole : m.0.seen ++ m.0.pending ≡ log' = λ i. t.3 i ++ sym t.2 i in
      let t₀ = t.0 in let q₁ = q.1 in let queue = k.queue in let all = k.all_seats in
      let counted = total-set (λ (u : SeatView S E). u.tickets) s.views id m.0 w at in
      let seated = total-set (λ (u : SeatView S E). u.seats) s.views id m.0 w at in
      let only : (x : ℕ) → k.owner x ≢ id → entries_by x k.pending ≡ [] = λ x ne. ap (entries_by x) t.2 ∙ alone x (λ e. ne (ap k.owner e ∙ own)) in
      let parts : (x : ℕ) → entries_by x log' ≡ entries_by x k.log ++ entries_by x k.pending = λ x. entries_by-append x k.log k.pending in
      let made' : (x : ℕ) → k.owner x ≡ id → entries_by x log' ≡ entries_by x (m.0.mine ++ m.0.pending) =
      λ x e. parts x ∙ ((λ i. f.made x e i ++ entries_by x (t.2 i)) ∙ sym (entries_by-append x m.0.mine m.0.pending)) in (
        w,
        keeps,
        tt,
        record {
          log = log';
          pending = [];
          out = k.out;
          served = k.served;
          drawn = k.drawn;
          taker = k.taker;
          owner = k.owner;
          words = ap (λ (ws : List ℕ). set ws 2 n) k.words
              ∙ ap (λ (x : ℕ). k.drawn % 2 ^ 64 ∷ k.served % 2 ^ 64 ∷ x ∷ []) (long ∙ ap (λ (l : List (ℕ × E)). length l) whole);
          queue = omega arith;
          all_seats = omega arith;
          few_seats = k.few_seats;
          at_rest = λ e. absurd (omega arith);
          home = λ o. let h = k.home o in (h.0, h.1, subst (λ (l : List (ℕ × E)). IsHeld steps (Some start) l h.0) (sym (append-nil log')) h.2);
          owned = λ x. subst (λ (y : ℕ). k.owner x < y) (sym (length-set s.views id w)) (k.owned x);
          each = seats_fit (Fits start log' [] k.out k.served k.drawn k.taker k.owner) s.views id w
              record {
                begins = f.begins;
                one_ticket = f.one_ticket;
                a_seat_each = f.a_seat_each;
                known = subst (λ (l : List (ℕ × E)). StartsWith log' l) (sym whole) (starts-same log');
                told = starts-chain log' k.log m.0.told (starts-more k.log k.pending) f.told;
                queued = f.queued;
                waits = λ _ e. absurd (cc (sym gone ∙ e));
                holds = λ _ e. absurd (cc (sym gone ∙ e));
                gives = λ _ _. (t.0, t.1, refl, whole);
                alone = λ _ _ _ _. refl;
                owns = f.owns;
                unused = λ x a b. parts x ∙ (λ i. f.unused x a b i ++ (ap (entries_by x) t.2 ∙ alone x (λ e. omega arith)) i);
                made = made';
                others = λ x ne. entries_by-append x m.0.mine m.0.pending ∙ (λ i. f.others x ne i ++ alone x (λ e. ne (ap k.owner e ∙ own)) i);
                gone = λ none. let some_seat = f.a_seat_each in absurd (omega arith);
              }
              (λ j u other e. others_turn start k.log k.pending k.out k.served k.drawn k.taker k.owner log' [] k.out k.served id (ap k.taker (sym t.0) ∙ q.2) (starts-more k.log k.pending)
              (λ x ne. parts x ∙ (ap (λ (l : List E). entries_by x k.log ++ l) (only x ne) ∙ append-nil (entries_by x k.log)))
              (omega arith) (omega arith) (λ up. absurd (omega arith)) j u other (k.each j u e));
        },
        (refl, ap (entries_by m.0.number) whole ∙ made' m.0.number own),
      )

  pub advances : (slots id : ℕ) (m : Mine S E) → m.0.tickets ≡ 1 → m.0.stage ≡ Giving → m.0.pending ≡ []
      → Allows Rule slots id m 1 (λ n. (n + 1) % 2 ^ 64) (advanced (step slots 1 1 0 none) m)
  advances slots id m one gone clear s k wide at small = let f = k.each id m.0 at in let q = f.queued (omega arith) in let t = f.gives (omega arith) gone in
      let w : SeatView S E = resting m.0 in
      let rested : k.pending ≡ [] = t.2 ∙ clear in
      let t₀ = t.0 in let q₁ = q.1 in let queue = k.queue in let all = k.all_seats in
      let counted = total-set (λ (u : SeatView S E). u.tickets) s.views id m.0 w at in
      let seated = total-set (λ (u : SeatView S E). u.seats) s.views id m.0 w at in (
        w,
        keeps,
        tt,
        record {
          log = k.log;
          pending = k.pending;
          out = k.out;
          served = k.served + 1;
          drawn = k.drawn;
          taker = k.taker;
          owner = k.owner;
          words = ap (λ (ws : List ℕ). set ws 1 ((get_or ws 1 0 + 1) % 2 ^ 64)) k.words
              ∙ ap (λ (x : ℕ). k.drawn % 2 ^ 64 ∷ x ∷ length k.log ∷ []) (omega arith);
          queue = omega arith;
          all_seats = omega arith;
          few_seats = k.few_seats;
          at_rest = λ _. (t.1, rested);
          home = k.home;
          owned = λ x. subst (λ (y : ℕ). k.owner x < y) (sym (length-set s.views id w)) (k.owned x);
          each = seats_fit (Fits start k.log k.pending k.out (k.served + 1) k.drawn k.taker k.owner) s.views id w
              record {
                begins = f.begins;
                one_ticket = omega arith;
                a_seat_each = omega arith;
                known = f.known;
                told = f.told;
                queued = λ o. absurd (omega arith);
                waits = λ o. absurd (omega arith);
                holds = λ o. absurd (omega arith);
                gives = λ o. absurd (omega arith);
                alone = λ o. absurd (omega arith);
                owns = f.owns;
                unused = f.unused;
                made = f.made;
                others = f.others;
                gone = f.gone;
              }
              (λ j u other e. others_turn start k.log k.pending k.out k.served k.drawn k.taker k.owner k.log k.pending k.out (k.served + 1) id (ap k.taker (sym t.0) ∙ q.2) (starts-same k.log) (λ _ _. refl)
              (omega arith) (omega arith) (λ _. (t.1, rested)) j u other (k.each j u e));
        },
        refl,
      )
