-- What a pass has made stands under its number, through all that a job does.
use Rattle.std.proofs.Common.{◌≡◌, ℕ, Ok, Err, List, [], ◌∷◌, ◌++◌, refl, sym, ◌∙◌, subst}
use Rattle.std.specs.List.{AllByRecursion}
use Rattle.node_calls.specs.declared.call.NodeCall.{NodeCall}
use Rattle.node_calls.specs.declared.reply.NodeReply.{NodeReply}
use Rattle.node_lock.specs.Views.{PassView}
use Rattle.node_lock.specs.Stepped.{IsSamePass}
use Rattle.node_workers.specs.Calls.{Outcome, Called}
use Rattle.node_workers.specs.Chains.{Comes, Makes, none, more}
use Rattle.served_seats.specs.Seats.{IsOwn}
use Rattle.served_jobs.specs.Doorways.{AreVisits, none as no_visits, more as visits_more}
use Rattle.served_jobs.specs.Visits.{Visit}

module _ {E : Type 0} where
  abbrev AreUnder : ℕ → List (ℕ × E) → Type 0
  AreUnder number entries = AllByRecursion (λ (x : ℕ × E). x.0 ≡ number) entries

  under_more : (number : ℕ) (entries : List (ℕ × E)) (entry : E) → AreUnder number entries → AreUnder number (entries ++ (number, entry) ∷ [])
  under_more number [] entry h = (refl, tt)
  under_more number (x ∷ xs) entry h = (h.0, under_more number xs entry h.1)

  -- the pass is the same one, and has made these entries
  own_if : (v w : PassView E) (entries : List (ℕ × E)) → IsSamePass v w → w.mine ≡ entries → AreUnder v.number entries → IsOwn w
  own_if v w entries same is h =
      let P : ℕ → Type 0 = λ n. AreUnder n w.mine in
      let Q : List (ℕ × E) → Type 0 = λ xs. AreUnder v.number xs in
      subst P (sym same.number) (subst Q (sym is) h)

module _ {S E : Type 0} (steps : S → E → S → Type 0) (event_of : E → NodeCall) (reply_of : E → NodeReply) (refuses : S → NodeCall → NodeCall → Type 0) (start : S) where
  own_then : (v w : PassView E) (call : NodeCall) (outcome : Outcome) → IsSamePass v w → Comes steps event_of reply_of refuses start v call outcome w → IsOwn v → IsOwn w
  own_then v w call (Ok receipt) same comes own = own_if v w (v.mine ++ (v.number, comes.entry) ∷ []) same comes.mine (under_more v.number v.mine comes.entry own)
  own_then v w call (Err refused) same comes own = own_if v w v.mine same comes.0.mine own

  -- calls made by the pass alone
  pub makes_own : (v w : PassView E) (calls : List Called) → Makes steps event_of reply_of refuses start v calls w → IsOwn v → IsOwn w
  makes_own v _ _ none own = own
  makes_own v _ _ (more calls call outcome w x h same comes) own = own_then w x call outcome same comes (makes_own v w calls h own)

-- visits one after another, each of which keeps it so
pub visits_own : {E L : Type 0} (IsVisit : PassView E → Visit L → PassView E → Type 0) → ((v : PassView E) (x : Visit L) (w : PassView E) → IsVisit v x w → IsOwn v → IsOwn w)
    → (v w : PassView E) (visits : List (Visit L)) → AreVisits IsVisit v visits w → IsOwn v → IsOwn w
visits_own IsVisit keeps v _ _ no_visits own = own
visits_own IsVisit keeps v _ _ (visits_more visits x w y h is) own = keeps w x y is (visits_own IsVisit keeps v w visits h own)
