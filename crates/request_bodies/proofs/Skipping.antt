-- Entries that are passed over one after another, as a loop does.
use Rattle.std.proofs.Common.{◌≡◌, ℕ, suc, ◌-◌, ◌+◌, ◌≤◌, ◌<◌, List, Result, Ok, Err, refl, sym, ◌∙◌, arith}
use Rattle.body_notations.specs.declared.fault.Fault.{Fault}
use Rattle.body_notations.specs.declared.fault.Fault.TheVariants as faults
use Rattle.body_notations.specs.Reading.{Fails}
use Rattle.request_bodies.specs.Reading.{behind_entry, behind_entries}

pub goes_on : (count i : ℕ) (bytes after : List ℕ) (total : Result (List ℕ) Fault) → i < count → behind_entry bytes ≡ Ok after
    → behind_entries (count - i) bytes ≡ total → behind_entries (count - (i + 1)) after ≡ total
unfolding behind_entries
goes_on count i bytes after total lt h so_far =
    let k : count - i ≡ suc (count - (i + 1)) = omega arith in
    let one : behind_entries (count - i) bytes ≡ behind_entries (count - (i + 1)) after = rw (k, h) refl in
    sym one ∙ so_far

ends_with : (f : Fault) (count i : ℕ) (bytes : List ℕ) (total : Result (List ℕ) Fault) → i < count → behind_entry bytes ≡ Err f
    → behind_entries (count - i) bytes ≡ total → total ≡ Err f
unfolding behind_entries
ends_with f count i bytes total lt h so_far =
    let k : count - i ≡ suc (count - (i + 1)) = omega arith in
    let one : behind_entries (count - i) bytes ≡ Err f = rw (k, h) refl in
    sym so_far ∙ one

pub ends : (e : Fault) (count i : ℕ) (bytes : List ℕ) (total : Result (List ℕ) Fault) → i < count → Fails e (behind_entry bytes)
    → behind_entries (count - i) bytes ≡ total → Fails e total
ends faults.NoMemory count i bytes total lt h so_far = tt
ends (faults.Short n) count i bytes total lt h so_far = ends_with (faults.Short n) count i bytes total lt h so_far
ends (faults.NotUtf8 n) count i bytes total lt h so_far = ends_with (faults.NotUtf8 n) count i bytes total lt h so_far
ends (faults.BadValue n) count i bytes total lt h so_far = ends_with (faults.BadValue n) count i bytes total lt h so_far
ends faults.BadFlag count i bytes total lt h so_far = ends_with faults.BadFlag count i bytes total lt h so_far
ends (faults.BadConsistency n) count i bytes total lt h so_far = ends_with (faults.BadConsistency n) count i bytes total lt h so_far

pub is_done : (count i : ℕ) (bytes : List ℕ) (total : Result (List ℕ) Fault) → count ≤ i → behind_entries (count - i) bytes ≡ total → total ≡ Ok bytes
unfolding behind_entries
is_done count i bytes total le so_far =
    let k : count - i ≡ 0 = omega arith in
    let one : behind_entries (count - i) bytes ≡ Ok bytes = rw k refl in
    sym so_far ∙ one
