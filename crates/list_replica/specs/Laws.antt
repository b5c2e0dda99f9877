-- What holds of what the file of a log stands for.
use Rattle.std.specs.Prelude.{◌≡◌, ◌==◌, ℕ, List, [], ◌∷◌, Option, map, refl}
use Rattle.std.proofs.Common.{sym, ◌∙◌, ap, subst}
use Rattle.std.proofs.lemmas.Bool.{false≢true}
use Rattle.cs_base.proofs.Members.{contains_nil}
use Rattle.cs_store.specs.Disk.{Disk, IsSettled}
use Rattle.cs_store.specs.Images.{formatted_bytes}
use Rattle.commit_log.specs.Format.{ReadsEntries, IsOneReading}
use Rattle.commit_log.specs.Place.{LogPlace}
use Rattle.row_change.specs.declared.entry.LogEntry.{LogEntry}
use Rattle.row_change.specs.declared.entry.LogItem.{LogItem}
use Rattle.durable_state.specs.State.{Durable, IsSameKept, formatted}
use Rattle.durable_state.specs.Taking.{HasOneArrival}
use Rattle.durable_state.proofs.Kept.{kept_is_one}
use Rattle.durable_state.proofs.Making.{each_entry_makes}
use Rattle.durable_state.proofs.Same.{same_itself}
use Rattle.replica.specs.Finding.{IsSafe}
use Rattle.replica.specs.Calls.{CommitEach}
use Rattle.list_replica.specs.declared.memtable.Memtable.{Memtable}
use Rattle.list_replica.specs.Keeping.{Entered, entries_of, kept_from, kept_by}
use Rattle.list_replica.specs.Memtables.{committed, kept_in}
use Rattle.list_replica.specs.Standing.{items_of, StandsFor, IsDamagedAt}
use Rattle.list_replica.specs.Wholeness.{IsWhole}

-- a file reads in one way
abbrev pub ReadsOnce : Type 0
ReadsOnce = (file : List ℕ) → IsOneReading file

-- ---- one state

pub each_is_one : (xs : List (List LogItem)) (a b a' b' : Durable) → IsSameKept a b → HasOneArrival a.content → CommitEach xs a a' → CommitEach xs b b' → IsSameKept a' b' × HasOneArrival a'.content
each_is_one [] a b a' b' same one is is_b =
    (subst (λ (d : Durable). IsSameKept d b') (sym is) (subst (λ (d : Durable). IsSameKept a d) (sym is_b) same), subst (λ (d : Durable). HasOneArrival d.content) (sym is) one)
each_is_one (x ∷ xs) a b a' b' same one (mid, makes, more) (mid_b, makes_b, more_b) =
    let first = kept_is_one x a b mid mid_b same one makes makes_b in
    each_is_one xs mid mid_b a' b' first.0 first.1 more more_b

none_arrives_twice : HasOneArrival []
none_arrives_twice x y h k e = absurd (contains_nil x h)

same_entries : ReadsOnce → (files : ℕ → List ℕ) (a b : Durable) (p : StandsFor files a) (q : StandsFor files b) → p.entries ≡ q.entries
same_entries once files a b p q = (once (files 0)).0 p.entries q.entries p.reads q.reads

pub stand_for_one : ReadsOnce → (files : ℕ → List ℕ) (a b : Durable) → StandsFor files a → StandsFor files b → IsSameKept a b
stand_for_one once files a b p q =
    (each_is_one (map items_of q.entries) formatted formatted a b (same_itself formatted) none_arrives_twice
    (subst (λ (es : List LogEntry). CommitEach (map items_of es) formatted a) (same_entries once files a b p q) p.made) q.made).0

pub arrive_once : (files : ℕ → List ℕ) (d : Durable) → StandsFor files d → HasOneArrival d.content
arrive_once files d p = (each_is_one (map items_of p.entries) formatted formatted d d (same_itself formatted) none_arrives_twice p.made p.made).1

pub stand_undamaged : ReadsOnce → (files : ℕ → List ℕ) (d : Durable) (f p : ℕ) → StandsFor files d → IsDamagedAt files f p → ⊥
stand_undamaged once files d f p stands damaged = (once (files 0)).1 stands.entries p stands.reads damaged.1

pub damaged_at_one : ReadsOnce → (files : ℕ → List ℕ) (f p g q : ℕ) → IsDamagedAt files f p → IsDamagedAt files g q → (f ≡ g) × (p ≡ q)
damaged_at_one once files f p g q a b = (a.0 ∙ sym b.0, (once (files 0)).2 p q a.1 b.1)

-- ---- files

pub stands_alike : (files others : ℕ → List ℕ) (d : Durable) → others 0 ≡ files 0 → StandsFor files d → StandsFor others d
stands_alike files others d same p = record { entries = p.entries; reads = subst (λ (l : List ℕ). ReadsEntries p.entries l) (sym same) p.reads; made = p.made }

pub begins_empty : (files : ℕ → List ℕ) → ((k : ℕ) → files k ≡ formatted_bytes k) → StandsFor files formatted
begins_empty files is = record {
  entries = [];
  reads = subst (λ (l : List ℕ). ReadsEntries [] l) (sym (is 0)) (record { words = []; reads = record { gate = 0; rest = []; split = refl; closed = λ e. false≢true (ap (λ (n : ℕ). n == 197) e); short = tt }; each = tt });
  made = refl;
}

-- ---- what entries make

pub kept_made : (es : List Entered) (d : Durable) → CommitEach (map items_of (entries_of es)) d (kept_from d es)
unfolding kept_from
kept_made [] d = refl
kept_made (e ∷ es) d = let made = each_entry_makes e.0.items d in (made.0, made.1, kept_made es made.0)

-- ---- what a crash leaves

-- a file that is on the disk
pub settled_is_safe : (d : Durable) (disk : Disk) → StandsFor disk.seen d → IsSettled 0 disk → IsSafe StandsFor d disk
settled_is_safe d disk p settled files image = record { kept = d; stands = stands_alike disk.seen files d (settled (files 0) (image 0)) p; one = same_itself d }

pub arrive_kept : (es : List Entered) → HasOneArrival (kept_by es).content
arrive_kept es =
    (each_is_one (map items_of (entries_of es)) formatted formatted (kept_by es) (kept_by es) (same_itself formatted) none_arrives_twice (kept_made es formatted) (kept_made es formatted)).1

-- the log of these entries stands for what they make
pub stands_kept : (es : List Entered) (files : ℕ → List ℕ) → ReadsEntries (entries_of es) (files 0) → StandsFor files (kept_by es)
stands_kept es files reads = record { entries = entries_of es; reads = reads; made = kept_made es formatted }

pub whole_is_safe : (honest : Type 0) (disk : Disk) (log : LogPlace) (table : Memtable) (added : Option ℕ) → honest → IsWhole honest disk log table added → IsSafe StandsFor (kept_in table) disk
whole_is_safe honest disk log table added h whole =
    let on = whole.on_disk h in
    settled_is_safe (kept_in table) disk (stands_kept (committed table) disk.seen on.reads) on.settled
