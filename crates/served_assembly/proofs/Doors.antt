-- The doors of jobs, one job after another.
use Rattle.std.proofs.Common.{◌≡◌, suc, cond, List, [], ◌∷◌, ◌++◌, length, Some, None, refl, sym, ap, subst, ◌∙◌, append_assoc}
use Rattle.std.specs.Prelude.{is_some}
use Rattle.std.specs.List.{count_by, filter}
use Rattle.std.proofs.lemmas.List.Sums.{length-filter}
use Rattle.served_jobs.specs.declared.duty.Duty.{Duty}
use Rattle.served_jobs.specs.declared.duty.Duty.TheVariants as duty
use Rattle.served_nodes.specs.declared.node.JobLeft.{JobLeft}
use Rattle.served_assembly.specs.Parting.{IsLinks, IsLedByLinks, door_in, doors_in, has_door, with_door}

module _ {D : Type 0} where
  taken_door : (d : Duty D) (door : D) (doors : List D) → door_in d ≡ Some door → with_door d doors ≡ door ∷ doors
  taken_door (duty.Links receivers) door doors is = absurd (let wrong : None ≡ Some door = is in cc)
  taken_door duty.Ticks door doors is = absurd (let wrong : None ≡ Some door = is in cc)
  taken_door duty.Merges door doors is = absurd (let wrong : None ≡ Some door = is in cc)
  taken_door (duty.Connections own) door doors is = let same : own ≡ door = cc in ap (λ (x : D). x ∷ doors) same

  passed_job : (d : Duty D) (doors : List D) → ((door : D) → door_in d ≡ Some door → ⊥) → with_door d doors ≡ doors
  passed_job (duty.Links receivers) doors no_door = refl
  passed_job duty.Ticks doors no_door = refl
  passed_job duty.Merges doors no_door = refl
  passed_job (duty.Connections own) doors no_door = absurd (no_door own refl)

  pub next_door : (job : JobLeft D) (jobs jobs' : List (JobLeft D)) (door : D) → jobs ≡ job ∷ jobs' → door_in job.duty ≡ Some door → doors_in jobs ≡ door ∷ doors_in jobs'
  next_door job jobs jobs' door next is = ap doors_in next ∙ taken_door job.duty door (doors_in jobs') is

  pub next_job : (job : JobLeft D) (jobs jobs' : List (JobLeft D)) → jobs ≡ job ∷ jobs' → ((door : D) → door_in job.duty ≡ Some door → ⊥) → doors_in jobs ≡ doors_in jobs'
  next_job job jobs jobs' next no_door = ap doors_in next ∙ passed_job job.duty (doors_in jobs') no_door

  -- with one door more, and one fewer left
  pub push_door : (whole made made' left left' : List D) (door : D) → made ++ left ≡ whole → left ≡ door ∷ left' → made' ≡ made ++ door ∷ [] → made' ++ left' ≡ whole
  push_door whole made made' left left' door was next pushed =
      ap (λ (l : List D). l ++ left') pushed ∙ append_assoc made (door ∷ []) left' ∙ ap (λ (l : List D). made ++ l) (sym next) ∙ was

  with_links : (d : Duty D) (doors : List D) → IsLinks d → with_door d doors ≡ doors
  with_links (duty.Links receivers) doors links = refl
  with_links duty.Ticks doors links = absurd links
  with_links duty.Merges doors links = absurd links
  with_links (duty.Connections own) doors links = absurd links

  pub lead_links : (job : JobLeft D) (jobs jobs' : List (JobLeft D)) → jobs ≡ job ∷ jobs' → IsLedByLinks jobs → IsLinks job.duty
  lead_links job jobs jobs' next led = subst IsLedByLinks next led

  -- the first job has no door
  pub behind_lead : (job : JobLeft D) (jobs jobs' : List (JobLeft D)) → jobs ≡ job ∷ jobs' → IsLedByLinks jobs → doors_in jobs ≡ doors_in jobs'
  behind_lead job jobs jobs' next led = ap doors_in next ∙ with_links job.duty (doors_in jobs') (lead_links job jobs jobs' next led)

  one_counted : (job : JobLeft D) (jobs : List (JobLeft D)) (d : Duty D) (doors : List D) → length jobs ≡ length doors → length (cond (is_some (door_in d)) (job ∷ jobs) jobs) ≡ length (with_door d doors)
  one_counted job jobs (duty.Links receivers) doors same = same
  one_counted job jobs duty.Ticks doors same = same
  one_counted job jobs duty.Merges doors same = same
  one_counted job jobs (duty.Connections own) doors same = ap suc same

  all_counted : (jobs : List (JobLeft D)) → length (filter has_door jobs) ≡ length (doors_in jobs)
  all_counted [] = refl
  all_counted (job ∷ jobs) = one_counted job (filter has_door jobs) job.duty (doors_in jobs) (all_counted jobs)

  pub count_doors : (jobs : List (JobLeft D)) → count_by has_door jobs ≡ length (doors_in jobs)
  count_doors jobs = sym (length-filter has_door jobs) ∙ all_counted jobs
