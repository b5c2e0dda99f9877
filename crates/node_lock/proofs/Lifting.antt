-- What a turn amounts to.
use Rattle.std.proofs.Common.{◌≡◌, ℕ, ◌<◌, ◌≤◌, ◌≢◌, List, [], ◌∷◌, ◌++◌, length, sym, refl, ap, ◌∙◌, subst, arith, Option, None, Some, append-nil, length-append}
use Rattle.node_lock.specs.Held.{ReplaysFrom, log_of, IsHeld, Makes, Stops}
use Rattle.node_lock.specs.Histories.{most_entries, StartsWith, entries_by, Replays}
use Rattle.node_lock.specs.Rules.{shown, Slot, Mine, waiting, holding, giving, publishing, resting, Takes}
use Rattle.node_lock.specs.Stepped.{Finds, Steps, Declines}
use Rattle.node_lock.specs.declared.answers.Receipt.{Receipt}
use Rattle.node_lock.specs.declared.answers.LockRefused.{LockRefused}
use Rattle.node_lock.specs.declared.answers.LockRefused.TheVariants.{Full, Refused}
use Rattle.node_lock.specs.declared.held.Held.{Held}
use Rattle.node_lock.specs.declared.view.SeatView.{SeatView}
use Rattle.node_lock.proofs.HistoryLaws.{entries_by-other, replays-more}

module _ {S E : Type 0} (steps : S → E → S → Type 0) where
  replays_from-more : (start : Option S) (xs : List (ℕ × E)) (now : S) (n : ℕ) (e : E) (next : S) → ReplaysFrom steps start xs now → steps now e next → ReplaysFrom steps start (xs ++ (n, e) ∷ []) next
  replays_from-more None xs now n e next r s = tt
  replays_from-more (Some start) xs now n e next r s = replays-more steps xs start now n e next r s

module _ {S E : Type 0} where
  held_or : Held S E → Slot S E → Held S E
  held_or d None = d
  held_or d (Some h) = h

  first_held : Held S E → List (ℕ × Slot S E) → Held S E
  first_held d [] = d
  first_held d (x ∷ xs) = held_or d x.1

  same_held : (xs : List (ℕ × Slot S E)) (h r : Held S E) → xs ≡ (0, Some h) ∷ [] → xs ≡ (0, Some r) ∷ [] → h ≡ r
  unfolding held_or first_held
  same_held xs h r a b = sym (ap (first_held h) a) ∙ ap (first_held h) b

  module _ (steps : S → E → S → Type 0) where
    pub lifted : (m n n' : Mine S E) (h r : Held S E) → m.1 ≡ [] → n ≡ (holding m.0 (log_of h), (0, Some h) ∷ m.1) → Takes steps m.0 h → n.1 ≡ (0, Some r) ∷ [] → n' ≡ (n.0, (0, None) ∷ [])
        → (n' ≡ (holding m.0 (log_of r), (0, None) ∷ [])) × Takes steps m.0 r
    lifted m n n' h r bare is took slot after =
        let first : n.1 ≡ (0, Some h) ∷ [] = ap (λ (x : Mine S E). x.1) is ∙ ap (λ (l : List (ℕ × Slot S E)). (0, Some h) ∷ l) bare in
        let e = same_held n.1 h r first slot in
        subst (λ (z : Held S E). (n' ≡ (holding m.0 (log_of z), (0, None) ∷ [])) × Takes steps m.0 z) e
        (after ∙ ap (λ (x : Mine S E). (x.0, (0, None) ∷ [])) is, took)

module _ {S E : Type 0} (v : SeatView S E) (t : ℕ) (h : Held S E) where
  -- the view of the seat that has the slot
  abbrev pub having : SeatView S E
  having = holding (waiting v t) (log_of h)

  pub has_slot : (a m n : Mine S E) → a.0 ≡ v → m ≡ (waiting a.0 t, a.1) → n ≡ (holding m.0 (log_of h), (0, None) ∷ []) → n ≡ (having, (0, None) ∷ [])
  has_slot a m n was is after = after ∙ (ap (λ (x : Mine S E). (holding x.0 (log_of h), (0, None) ∷ [])) is ∙ ap (λ (x : SeatView S E). (holding (waiting x t) (log_of h), (0, None) ∷ [])) was)

  pub has_given : (m n : Mine S E) (h' : Held S E) (more : List (ℕ × E)) → m ≡ (having, (0, None) ∷ []) → log_of h' ≡ log_of h ++ more
      → ((x : List (ℕ × E)) → log_of h' ≡ m.0.seen ++ x → n ≡ (giving m.0 x, [])) → n ≡ (giving having more, [])
  has_given m n h' more is longer gives = gives more (longer ∙ ap (λ (x : Mine S E). x.0.seen ++ more) (sym is)) ∙ ap (λ (x : Mine S E). (giving x.0 more, [])) is

  pub has_published : (m n : Mine S E) (more : List (ℕ × E)) → m ≡ (giving having more, []) → n ≡ (publishing m.0, m.1) → n ≡ (publishing (giving having more), [])
  has_published m n more is after = after ∙ ap (λ (x : Mine S E). (publishing x.0, x.1)) is

  -- a turn whose step was made: the seat once the slot was given back, and at the end
  pub record HasMade {Event Reply : Type 0} (steps : S → E → S → Type 0) (event_of : E → Event) (reply_of : E → Reply) (h' : Held S E) (event : Event) (r : Receipt Reply) (m n : Mine S E) : Type 0 where
    pub took : Takes steps (waiting v t) h
    pub made : Makes steps event_of reply_of h v.number event r h'
    pub given : m ≡ (giving having ((v.number, made.entry) ∷ []), [])
    pub rests : n ≡ (resting (publishing (giving having ((v.number, made.entry) ∷ []))), [])

  -- a turn whose step was refused: the seat at the end
  pub record HasRefused (steps : S → E → S → Type 0) (n : Mine S E) : Type 0 where
    pub took : Takes steps (waiting v t) h
    pub rests : n ≡ (resting (giving having []), [])

  module _ (steps : S → E → S → Type 0) where
    -- what is given back, with no entry more
    pub may_give_same : (m : Mine S E) (h' : Held S E) → m ≡ (having, (0, None) ∷ []) → IsHeld steps v.start (log_of h) h → h'.state ≡ h.state → log_of h' ≡ log_of h
        → (more : List (ℕ × E)) × IsHeld steps m.0.start (m.0.seen ++ more) h' × ((n : ℕ) → n ≢ m.0.number → entries_by n more ≡ [])
    may_give_same m h' is held state log = subst (λ (x : Mine S E). (more : List (ℕ × E)) × IsHeld steps x.0.start (x.0.seen ++ more) h' × ((n : ℕ) → n ≢ x.0.number → entries_by n more ≡ [])) (sym is) (
      [],
      record {
        same = log ∙ sym (append-nil (log_of h));
        replays = subst (λ (x : List (ℕ × E) × S). ReplaysFrom steps v.start x.0 x.1) (λ i. (sym (append-nil (log_of h)) i, sym state i)) held.replays;
        few = subst (λ (x : List (ℕ × E)). length x ≤ most_entries) (sym (append-nil (log_of h))) held.few;
      },
      λ _ _. refl,
    )

    module _ {Event Reply : Type 0} (event_of : E → Event) (reply_of : E → Reply) where
      pub may_give_more : (m : Mine S E) (h' : Held S E) (event : Event) (r : Receipt Reply) → m ≡ (having, (0, None) ∷ []) → IsHeld steps v.start (log_of h) h → Makes steps event_of reply_of h v.number event r h'
          → (more : List (ℕ × E)) × IsHeld steps m.0.start (m.0.seen ++ more) h' × ((n : ℕ) → n ≢ m.0.number → entries_by n more ≡ [])
      may_give_more m h' event r is held made = subst (λ (x : Mine S E). (more : List (ℕ × E)) × IsHeld steps x.0.start (x.0.seen ++ more) h' × ((n : ℕ) → n ≢ x.0.number → entries_by n more ≡ [])) (sym is)
          (let b = made.within in let p = made.place_is in (
            (v.number, made.entry) ∷ [],
            record {
              same = made.log;
              replays = replays_from-more steps v.start (log_of h) h.state v.number made.entry h'.state held.replays made.makes;
              few = omega (arith, length-append (log_of h) ((v.number, made.entry) ∷ []));
            },
            λ n ne. entries_by-other n v.number made.entry ne,
          ))

      pub has_stepped : (start : S) (n : Mine S E) (h' : Held S E) (event : Event) (r : Receipt Reply) (made : Makes steps event_of reply_of h v.number event r h') → v.start ≡ Some start → IsHeld steps v.start (log_of h) h → StartsWith (log_of h) v.seen
          → n.0 ≡ resting (publishing (giving having ((v.number, made.entry) ∷ [])))
          → entries_by v.number (log_of h ++ (v.number, made.entry) ∷ []) ≡ entries_by v.number (v.mine ++ (v.number, made.entry) ∷ []) → Steps steps event_of reply_of start (shown v) event r (shown n.0)
      has_stepped start n h' event r made began held later is once = subst (λ (x : SeatView S E). Steps steps event_of reply_of start (shown v) event r (shown x)) (sym is) record {
        entry = made.entry;
        between = later.0;
        state = h.state;
        next = h'.state;
        seen = ap (λ (x : List (ℕ × E)). x ++ (v.number, made.entry) ∷ []) later.1;
        mine = refl;
        event_is = made.event_is;
        reply_is = made.reply_is;
        place_is = made.place_is ∙ ap (λ (x : List (ℕ × E)). length x) later.1;
        within = made.within;
        replays = subst (λ (x : List (ℕ × E)). Replays steps start x h.state) later.1 (subst (λ (o : Option S). ReplaysFrom steps o (log_of h) h.state) began held.replays);
        makes = made.makes;
        once = once;
      }

    pub has_found : (n : Mine S E) → Takes steps (waiting v t) h → n.0 ≡ resting (giving having []) → Finds (shown v) (shown n.0)
    has_found n took is = subst (λ (x : SeatView S E). Finds (shown v) (shown x)) (sym is) record { between = took.later.0; seen = took.later.1; mine = refl; once = took.own }

    module _ {Event : Type 0} (refuses : S → Event → Event → Type 0) where
      pub has_declined : (start : S) (n : Mine S E) (event : Event) (f : LockRefused Event) → v.start ≡ Some start → IsHeld steps v.start (log_of h) h → n.0 ≡ resting (giving having []) → Stops refuses h event f
          → Declines steps refuses start event f n.0.seen
      has_declined start n event (Full e) began held is stop = let few = held.few in let most = stop.1 in (stop.0, subst (λ (x : SeatView S E). length x.seen ≡ most_entries) (sym is) (omega arith))
      has_declined start n event (Refused e) began held is stop = subst (λ (x : SeatView S E). (length x.seen < most_entries) × ((state : S) × Replays steps start x.seen state × refuses state event e)) (sym is)
          (stop.0, (h.state, subst (λ (o : Option S). ReplaysFrom steps o (log_of h) h.state) began held.replays, stop.1))
