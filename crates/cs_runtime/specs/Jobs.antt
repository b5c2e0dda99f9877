-- How jobs end, in threads of their own or for want of one.
use Rattle.std.specs.Prelude.{◌≡◌, ℕ, ◌+◌, ◌-◌, ◌^◌, min, Bool, false, ◌==◌, List, [], ◌∷◌, ◌⊎◌}
use Rattle.std.specs.List.{list_any}
use Rattle.cs_runtime.specs.declared.job.End.{End}
use Rattle.cs_runtime.specs.declared.job.End.TheVariants.{Worked, Unstarted}

-- the number of the next start, where there were so many. Numbers stand still at the last one
abbrev pub next_start : ℕ → ℕ
next_start starts = min (starts + 1) (2 ^ 64 - 1)

-- the start of this number is to fail
abbrev pub is_listed : List ℕ → ℕ → Bool
is_listed failing start = list_any (λ k. k == start) failing

-- the jobs that are started one after another, each with whether its start is to fail
abbrev pub marked : {J : Type 0} → List ℕ → ℕ → List J → List (J × Bool)
marked failing starts [] = []
marked failing starts (job ∷ jobs) = (job, is_listed failing (next_start starts)) ∷ marked failing (next_start starts) jobs

-- how many starts there were after one for each job
abbrev pub starts_after : {J : Type 0} → ℕ → List J → ℕ
starts_after starts [] = starts
starts_after starts (job ∷ jobs) = starts_after (next_start starts) jobs

module _ {J D : Type 0} (ends works unstarts : J → D → Type 0) where
  -- a job ends by its work unless its start is to fail, or else unstarted
  abbrev pub EndsBy : J → Bool → End D → Type 0
  EndsBy job listed (Worked done) = (listed ≡ false) × ends job done × works job done
  EndsBy job listed (Unstarted done) = ends job done × unstarts job done

  -- What is done is the job's: by its work, or for want of a thread, where a start that failed was counted
  abbrev pub Ends : (counted : Type 0) → J → D → Type 0
  Ends counted job done = ends job done × (works job done ⊎ (unstarts job done × counted))

  -- the same, and a job whose start is to fail does not end by its work
  abbrev pub EndsMarked : (counted : Type 0) → J × Bool → D → Type 0
  EndsMarked counted job done = ends job.0 done × (((job.1 ≡ false) × works job.0 done) ⊎ (unstarts job.0 done × counted))

-- a spawner whose listed starts fail: their numbers from 1 on, how many starts there were, and how many faults
pub record ListState : Type 0 where
  pub failing : List ℕ
  pub starts : ℕ
  pub faults : ℕ
