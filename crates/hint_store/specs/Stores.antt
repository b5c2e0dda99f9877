-- What a store of hints is made of: a table that has the hints of before and those that came in the step, less than what went.
use Rattle.std.specs.Prelude.{◌≡◌, ℕ, ◌≤◌, ◌&&◌, not, Bool, false, List, [], ◌∷◌, ◌++◌, filter, length, Contains, slice_index_or}
use Rattle.std.specs.List.{list_any}
use Rattle.std.specs.Map.{values_of}
use Rattle.row_change.specs.declared.entry.Hint.{Hint}
use Rattle.peer_messages.specs.declared.setting.Setting.{Setting}
use Rattle.durable_state.specs.State.{hints_of}
use Rattle.node_steps.specs.Fitting.{is_table}
use Rattle.hint_store.specs.declared.tally.Tally.{Tally}
use Rattle.hint_store.specs.Tables.{is_place, is_hint}

-- the peer and the number of the hint are among those that went
abbrev pub is_gone : List (ℕ × ℕ) → Hint → Bool
is_gone gone h = list_any (λ x. is_hint x.0 x.1 h) gone

-- it did not go, and its table is there
abbrev pub is_sent : Setting → List (ℕ × ℕ) → Hint → Bool
is_sent c gone h = not (is_gone gone h) && is_table c h.mutation.partition

-- the place is among those that came
abbrev pub is_added : List (ℕ × ℕ) → ℕ × ℕ → Bool
is_added added place = list_any (λ x. is_place x place) added

abbrev pub hints_before : List (ℕ × ℕ) → List ((ℕ × ℕ) × Hint) → List Hint
hints_before added es = values_of (filter (λ e. not (is_added added e.0)) es)

abbrev pub hints_now : List (ℕ × ℕ) → List ((ℕ × ℕ) × Hint) → List Hint
hints_now gone es = values_of (filter (λ e. not (is_gone gone e.1)) es)

-- the tally of a node's peers counts these hints
abbrev pub Counts : Tally → List Hint → Type 0
Counts t hints = (peer : ℕ) → slice_index_or t.count peer 0 ≡ length (hints_of hints peer)

-- each number that went was given
abbrev pub AreGiven : Tally → List (ℕ × ℕ) → Type 0
AreGiven t gone = (x : ℕ × ℕ) → Contains gone x → x.1 ≤ slice_index_or t.last x.0 0

pub record IsStore (es : List ((ℕ × ℕ) × Hint)) (gone added : List (ℕ × ℕ)) (current settled : Tally) : Type 0 where
  pub now : Counts current (hints_now gone es)
  pub before : Counts settled (hints_before added es)
  pub given : AreGiven current gone

-- whatever went, a hint that did not stands now behind those of its peer
abbrev pub HasNow : Hint → List ((ℕ × ℕ) × Hint) → List ((ℕ × ℕ) × Hint) → Type 0
HasNow h es es' = (gone : List (ℕ × ℕ)) (peer : ℕ) → is_gone gone h ≡ false → hints_of (hints_now gone es') peer ≡ hints_of (hints_now gone es) peer ++ hints_of (h ∷ []) peer
