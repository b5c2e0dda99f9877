-- A file in memory, by what each outcome of a crash would leave of it.
use Rattle.std.specs.Prelude.{◌≡◌, ◌≢◌, ◌⊎◌, ℕ, ◌-◌, if◌then◌else◌, nat_lt, List, [], ◌∷◌, map, take}
use Rattle.cs_store.specs.declared.mem_file.Outcome.{Outcome}
use Rattle.cs_store.specs.declared.mem_file.Outcome.TheVariants.{Kept, Lost, Torn}
use Rattle.cs_store.specs.Calls.{Call}
use Rattle.cs_store.specs.Calls.Call.{looks, writes, cuts, syncs}
use Rattle.cs_store.specs.Disk.{overwritten}

-- what is there if all, none or only torn bytes of the pending writes are
pub record Images : Type 0 where
  pub kept : List ℕ
  pub lost : List ℕ
  pub torn : List ℕ

-- what a crash may leave
abbrev pub MayLeave : Images → List ℕ → Type 0
MayLeave file c = (c ≡ file.kept) ⊎ ((c ≡ file.lost) ⊎ (c ≡ file.torn))

-- what a crash with this outcome leaves
abbrev pub outcome_of : Outcome → Images → List ℕ
outcome_of Kept file = file.kept
outcome_of Lost file = file.lost
outcome_of Torn file = file.torn

-- no write is pending, and these are the bytes
abbrev pub quiet : List ℕ → Images
quiet bytes = record { kept = bytes; lost = bytes; torn = bytes }

-- the file after a crash with this outcome
abbrev pub settled : Outcome → Images → Images
settled outcome file = quiet (outcome_of outcome file)

-- each byte with its bits turned
abbrev pub complement : List ℕ → List ℕ
complement = map (λ b. 255 - b)

-- a file with a write pending: it is there, or not, or its bytes have their bits turned
abbrev pub written : ℕ → List ℕ → Images → Images
written at bytes file = record { kept = overwritten file.kept at bytes; lost = file.lost; torn = overwritten file.torn at (complement bytes) }

-- a file with a cut pending
abbrev pub shortened : ℕ → Images → Images
shortened n file = record { kept = take n file.kept; lost = file.lost; torn = take n file.torn }

-- the file once a call's effect is pending
abbrev pub pending : Call → Images → Images
pending looks file = file
pending (writes at bytes) file = written at bytes file
pending (cuts n) file = shortened n file
pending syncs file = file

-- the file behind a call that goes through
abbrev pub done : Call → Images → Images
done looks file = file
done (writes at bytes) file = written at bytes file
done (cuts n) file = shortened n file
done syncs file = settled Kept file

abbrev pub untouched : Images → Images
untouched file = file

-- file f becomes this by one function, and each other one by another
pub record Becomes (f : ℕ) (here there : Images → Images) (old new : ℕ → Images) : Type 0 where
  pub file : new f ≡ here (old f)
  pub others : (k : ℕ) → k ≢ f → new k ≡ there (old k)

-- one zero byte in each of the first four files, and nothing else
abbrev pub formatted_bytes : ℕ → List ℕ
formatted_bytes k = if nat_lt k 4 then 0 ∷ [] else []
