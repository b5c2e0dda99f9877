-- What the file of a log stands for, and what crashes leave of it.
use Rattle.std.proofs.Common.{◌≡◌, inl, inr, ℕ, List, [], ◌∷◌, ◌++◌, refl, sym, subst}
use Rattle.std.specs.Prelude.{map}
use Rattle.std.proofs.lemmas.List.{map-append}
use Rattle.cs_store.specs.Disk.{Disk, IsSettled, Stays, Passes, LeavesOnly}
use Rattle.cs_store.proofs.Crashes.{first_call, files_left, all_weaker}
use Rattle.commit_log.specs.Format.{ReadsEntries, Adds, IsBeforeOrAfter, ReadsAlike}
use Rattle.row_change.specs.declared.entry.LogEntry.{LogEntry}
use Rattle.row_change.specs.declared.entry.LogItem.{LogItem}
use Rattle.durable_state.specs.State.{Durable, IsSameKept, formatted}
use Rattle.durable_state.specs.Keeping.{Commits, IsWithOrWithout}
use Rattle.durable_state.proofs.Making.{each_entry_makes}
use Rattle.durable_state.proofs.Same.{same_itself}
use Rattle.replica.specs.Finding.{StandFor, AlwaysLeaves}
use Rattle.replica.specs.Calls.{CommitEach}
use Rattle.replica.proofs.Fronts.{each_more}
use Rattle.list_replica.specs.Laws.{ReadsOnce, stands_alike}
use Rattle.list_replica.specs.Standing.{items_of, StandsFor}

-- an entry is in the log, and what it makes is made
pub appended : (entry : LogEntry) (files others : ℕ → List ℕ) (d d' : Durable) → StandsFor files d → Commits entry.items d d' → Adds entry (files 0) (others 0) → StandsFor others d'
appended entry files others d d' p makes adds = record {
  entries = p.entries ++ entry ∷ [];
  reads = adds p.entries p.reads;
  made = subst (λ (xs : List (List LogItem)). CommitEach xs formatted d') (sym (map-append items_of p.entries (entry ∷ []))) (each_more (map items_of p.entries) entry.items formatted d d' p.made makes);
}

-- ---- what crashes leave

-- the file may read as with the entry or as without
found_then : (entry : LogEntry) (old : ℕ → List ℕ) (files : ℕ → List ℕ) (d : Durable) → StandsFor old d → IsBeforeOrAfter entry (old 0) (files 0) → StandFor StandsFor (IsWithOrWithout entry.items d) files
found_then entry old files d p either = elim (either p.entries p.reads) [
  | inl before ↦ record { kept = d; stands = record { entries = p.entries; reads = before; made = p.made }; one = inl (same_itself d) }
  | inr after ↦
      let made = each_entry_makes entry.items d in
      record {
        kept = made.0;
        stands = record {
          entries = p.entries ++ entry ∷ [];
          reads = after;
          made = subst (λ (xs : List (List LogItem)). CommitEach xs formatted made.0) (sym (map-append items_of p.entries (entry ∷ []))) (each_more (map items_of p.entries) entry.items formatted d made.0 p.made made.1);
        };
        one = inr (made.0, made.1, same_itself made.0);
      }
]

-- while an entry is appended
pub append_leaves : (entry : LogEntry) (old new : Disk) (d : Durable) → StandsFor old.seen d → LeavesOnly 0 (IsBeforeOrAfter entry (old.seen 0)) old new → AlwaysLeaves StandsFor (IsWithOrWithout entry.items d) old new
append_leaves entry old new d p only =
    all_weaker old new (StandFor StandsFor (IsWithOrWithout entry.items d)) _ (files_left 0 old new (IsBeforeOrAfter entry (old.seen 0)) only) (λ files left. found_then entry old.seen files d p left.0)

-- the same state is found
stands_still : (old files : ℕ → List ℕ) (d : Durable) → StandsFor old d → files 0 ≡ old 0 → StandFor StandsFor (IsSameKept d) files
stands_still old files d p same = record { kept = d; stands = stands_alike old files d same p; one = same_itself d }

found_alike : ReadsOnce → (old files : ℕ → List ℕ) (d : Durable) → StandsFor old d → ReadsAlike (old 0) (files 0) → StandFor StandsFor (IsSameKept d) files
found_alike once old files d p (inl same) = stands_still old files d p same
found_alike once old files d p (inr (entries, before, after)) =
    let same : entries ≡ p.entries = (once (old 0)).0 entries p.entries before p.reads in
    record { kept = d; stands = record { entries = p.entries; reads = subst (λ (es : List LogEntry). ReadsEntries es (files 0)) same after; made = p.made }; one = same_itself d }

-- while the log is read
pub load_leaves : ReadsOnce → (old new : Disk) (d : Durable) → StandsFor old.seen d → LeavesOnly 0 (ReadsAlike (old.seen 0)) old new → AlwaysLeaves StandsFor (IsSameKept d) old new
load_leaves once old new d p only =
    all_weaker old new (StandFor StandsFor (IsSameKept d)) _ (files_left 0 old new (ReadsAlike (old.seen 0)) only) (λ files left. found_alike once old.seen files d p left.0)

-- while memory is taken
pub reserve_leaves : (old new : Disk) (d : Durable) → StandsFor old.seen d → IsSettled 0 old → Passes 0 Stays old new → AlwaysLeaves StandsFor (IsSameKept d) old new
reserve_leaves old new d p settled passes =
    all_weaker old new (StandFor StandsFor (IsSameKept d)) _ (files_left 0 old new (Stays (old.seen 0)) (first_call 0 old new Stays refl settled passes)) (λ files left. stands_still old.seen files d p left.0)
