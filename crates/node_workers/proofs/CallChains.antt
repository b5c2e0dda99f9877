-- Calls made one after another.
use Rattle.std.proofs.Common.{◌≡◌, ℕ, Ok, Err, List, [], ◌∷◌, ◌++◌, refl, sym, ap, subst, ◌∙◌, append_assoc, append-nil}
use Rattle.std.proofs.lemmas.Grind.{flat_map-append}
use Rattle.std.proofs.lemmas.List.{map-append}
use Rattle.node_calls.specs.declared.call.NodeCall.{NodeCall}
use Rattle.node_calls.specs.declared.reply.NodeReply.{NodeReply}
use Rattle.node_lock.specs.Histories.{StartsWith}
use Rattle.node_lock.specs.Stepped.{IsSamePass}
use Rattle.node_lock.specs.Views.{PassView}
use Rattle.node_workers.specs.Calls.{Outcome, Called, called}
use Rattle.node_workers.specs.Chains.{Comes, Makes, none, more, Telling, told_of, told_by, telling, Leaves}

module _ {S E : Type 0} (steps : S → E → S → Type 0) (event_of : E → NodeCall) (reply_of : E → NodeReply) (refuses : S → NodeCall → NodeCall → Type 0) (start : S) where
  pub makes_one : (v w : PassView E) (call : NodeCall) (outcome : Outcome) → IsSamePass v w → Comes steps event_of reply_of refuses start v call outcome w
      → Makes steps event_of reply_of refuses start v (called call outcome ∷ []) w
  makes_one v w call outcome same comes = more [] call outcome v w none same comes

  pub makes_then : (v w x : PassView E) (cs ds : List Called) → Makes steps event_of reply_of refuses start v cs w → Makes steps event_of reply_of refuses start w ds x
      → Makes steps event_of reply_of refuses start v (cs ++ ds) x
  makes_then v w _ cs _ h none = subst (λ (zs : List Called). Makes steps event_of reply_of refuses start v zs w) (sym (append-nil cs)) h
  makes_then v w _ cs _ h (more ds call outcome x y k same comes) =
      subst (λ (zs : List Called). Makes steps event_of reply_of refuses start v zs y) (append_assoc cs ds (called call outcome ∷ []))
      (more (cs ++ ds) call outcome x y (makes_then v w x cs ds h k) same comes)

-- ---- the entries that calls leave

module _ {E : Type 0} (event_of : E → NodeCall) (reply_of : E → NodeReply) where
  no_calls : (v : PassView E) → Leaves event_of reply_of v [] v
  no_calls v = record {
    pass = record { number = refl; owned = refl; seats = refl };
    seen = ([], sym (append-nil v.seen));
    entries = [];
    mine = sym (append-nil v.mine);
    tell = refl;
  }

  same_pass : (v w x : PassView E) → IsSamePass v w → IsSamePass w x → IsSamePass v x
  same_pass v w x h k = record { number = k.number ∙ h.number; owned = k.owned ∙ h.owned; seats = k.seats ∙ h.seats }

  sees : (a b c gap rest : List (ℕ × E)) → b ≡ a ++ gap → c ≡ b ++ rest → StartsWith c a
  sees a b c gap rest h k = (gap ++ rest, k ∙ ap (λ (zs : List (ℕ × E)). zs ++ rest) h ∙ append_assoc a gap rest)

  one_telling : (x : ℕ × E) (number : ℕ) (call : NodeCall) (reply : NodeReply) → x.0 ≡ number → event_of x.1 ≡ call → reply_of x.1 ≡ reply → telling event_of reply_of x ≡ (number, call, reply)
  one_telling x number call reply n e r =
      ap (λ (k : ℕ). let t : Telling = (k, event_of x.1, reply_of x.1) in t) n
      ∙ ap (λ (k : NodeCall). let t : Telling = (number, k, reply_of x.1) in t) e
      ∙ ap (λ (k : NodeReply). let t : Telling = (number, call, k) in t) r

module _ {S E : Type 0} (steps : S → E → S → Type 0) (event_of : E → NodeCall) (reply_of : E → NodeReply) (refuses : S → NodeCall → NodeCall → Type 0) (start : S) where
  one_call : (v w x : PassView E) (calls : List Called) (call : NodeCall) (outcome : Outcome) → Leaves event_of reply_of v calls w → IsSamePass w x → Comes steps event_of reply_of refuses start w call outcome x
      → Leaves event_of reply_of v (calls ++ called call outcome ∷ []) x
  one_call v w x calls call (Ok receipt) l same comes = record {
    pass = same_pass event_of reply_of v w x l.pass same;
    seen =
        sees event_of reply_of v.seen w.seen x.seen l.seen.0 (comes.between ++ (w.number, comes.entry) ∷ []) l.seen.1
        (comes.seen ∙ append_assoc w.seen comes.between ((w.number, comes.entry) ∷ []));
    entries = l.entries ++ (w.number, comes.entry) ∷ [];
    mine = comes.mine ∙ ap (λ (zs : List (ℕ × E)). zs ++ (w.number, comes.entry) ∷ []) l.mine ∙ append_assoc v.mine l.entries ((w.number, comes.entry) ∷ []);
    tell =
        map-append (telling event_of reply_of) l.entries ((w.number, comes.entry) ∷ [])
        ∙ ap (λ (zs : List Telling). zs ++ telling event_of reply_of (w.number, comes.entry) ∷ []) l.tell
        ∙ ap (λ (t : Telling). told_by v.number calls ++ t ∷ [])
        (one_telling event_of reply_of (w.number, comes.entry) v.number call receipt.reply l.pass.number comes.event_is comes.reply_is)
        ∙ sym (flat_map-append (λ (c : Called). told_of v.number c.call c.outcome) calls (called call (Ok receipt) ∷ []));
  }
  one_call v w x calls call (Err refused) l same comes = record {
    pass = same_pass event_of reply_of v w x l.pass same;
    seen = sees event_of reply_of v.seen w.seen x.seen l.seen.0 comes.0.between l.seen.1 comes.0.seen;
    entries = l.entries;
    mine = comes.0.mine ∙ l.mine;
    tell =
        l.tell
        ∙ sym (append-nil (told_by v.number calls))
        ∙ sym (flat_map-append (λ (c : Called). told_of v.number c.call c.outcome) calls (called call (Err refused) ∷ []));
  }

  pub calls_leave : (v w : PassView E) (calls : List Called) → Makes steps event_of reply_of refuses start v calls w → Leaves event_of reply_of v calls w
  calls_leave v _ _ none = no_calls event_of reply_of v
  calls_leave v _ _ (more calls call outcome w x h same comes) = one_call v w x calls call outcome (calls_leave v w calls h) same comes
