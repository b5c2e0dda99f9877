-- What a node holds that was loaded.
use Rattle.std.proofs.Common.{◌≡◌, ℕ, List, Result, Err, sym, ap, subst, ◌∙◌, Contains}
use Rattle.cs_base.specs.declared.ids.ReqId.{ReqId}
use Rattle.cs_base.proofs.Members.{contains_nil}
use Rattle.stored_changes.specs.Spelling.{MutationFits}
use Rattle.row_change.specs.declared.entry.Hint.{Hint}
use Rattle.peer_messages.specs.declared.setting.Setting.{Setting}
use Rattle.durable_state.specs.State.{Durable}
use Rattle.node_steps.specs.State.{OpenWrite}
use Rattle.node_steps.specs.Hints.{KeptHints}
use Rattle.node_steps.specs.Holding.{HoldsFit}
use Rattle.node_steps.specs.Laws.{MutationsAreTested}
use Rattle.hint_store.specs.Staged.{IsSameHints}
use Rattle.hint_store.proofs.Same.{same_member}
use Rattle.replica.specs.declared.error.LoadError.{LoadError}
use Rattle.replica.specs.declared.error.LoadError.TheVariants as load_error
use Rattle.replica.specs.declared.kept.Kept.{Kept}
use Rattle.replica.specs.Kept.{IsKeptOf}
use Rattle.node_core.specs.Memory.{IsLoaded}
use Rattle.node_core.specs.Nodes.{Core, state_with}

-- its hints are those that were told
pub loaded_tied : (me : ℕ) (c : Setting) (kept : Kept) (n : Core) (d : Durable) → IsLoaded me c kept n → IsKeptOf d kept → IsKeptOf d n.kept
loaded_tied me c kept n d l tied = subst (λ (k : Kept). IsKeptOf d k) (sym (ap (λ (m : Core). m.kept) l.core)) (record {
  ceiling = tied.ceiling;
  rows = tied.rows;
  hints = λ peer. l.same.hints peer ∙ tied.hints peer;
  numbers = λ peer. l.same.numbers peer ∙ tied.numbers peer;
  marks = tied.marks;
})

abbrev told_hints : Kept → KeptHints
told_hints kept = record { hints = kept.hints; numbers = kept.numbers }

-- it holds no open write, and each of its hints can be written
pub loaded_fit : (me : ℕ) (c : Setting) (kept : Kept) (n : Core) (d : Durable) → IsLoaded me c kept n → IsKeptOf d kept → MutationsAreTested → ((h : Hint) → Contains kept.hints h → MutationFits h.mutation) → HoldsFit (state_with n d)
loaded_fit me c kept n d l tied tested fit =
    let all : KeptHints = record { hints = d.hints; numbers = d.numbers } in
    let same : IsSameHints (told_hints kept) all = record { hints = λ peer. sym (tied.hints peer); numbers = λ peer. sym (tied.numbers peer) } in
    record {
      writes = λ id w there. absurd (contains_nil (id, w) (subst (λ (ws : List (ReqId × OpenWrite)). Contains ws (id, w)) (ap (λ (m : Core). m.writes) l.core) there));
      hints = λ h there. (tested h.mutation).1 (fit h ((same_member (told_hints kept) all same h).0 there));
    }

-- ---- why a node was not loaded

pub no_memory_failed : {T D : Type 0} {d s : D} → (let r : Result T (LoadError D) = Err (load_error.NoMemory d) in r ≡ Err (load_error.Failed s)) → ⊥
no_memory_failed {T} {D} {d} {s} told = cc

pub no_memory_damaged : {T D : Type 0} {d s : D} {f p : ℕ} → (let r : Result T (LoadError D) = Err (load_error.NoMemory d) in r ≡ Err (load_error.Damaged s f p)) → ⊥
no_memory_damaged {T} {D} {d} {s} {f} {p} told = cc
