-- What the faults of a console tell of its streams.
use Rattle.std.proofs.Common.{◌≡◌, ℕ, sym, subst, ◌∙◌, inl, inr}
use Rattle.cs_base.specs.Faults.{HasRisen}
use Rattle.served_console.specs.declared.end.ConsoleEnd.TheVariants as console
use Rattle.served_run.specs.declared.desk.Desk.{Desk}
use Rattle.served_run.specs.declared.host.Host.{Host}
use Rattle.served_cluster.specs.Kinds.{ReplicaKind, StreamKind}
use Rattle.served_cluster.specs.Served.{IsWorkedWith, StreamsAreBack}
use Rattle.served_cluster.specs.declared.ending.ServedEnd.TheVariants as served
use Rattle.served_cluster.specs.declared.ending.ServedRun.{ServedRun}
use Rattle.served_cluster.proofs.Told.{read_first, write_first}

no_read_at_end : console.Ended ≡ console.ReadFault → ⊥
no_read_at_end e = cc

no_read_at_write : console.WriteFault ≡ console.ReadFault → ⊥
no_read_at_write e = cc

no_write_at_end : console.Ended ≡ console.WriteFault → ⊥
no_write_at_end e = cc

module _ {R W G C S T : Type 0} (D : Type 0) (r : ReplicaKind R) (gives : C → ℕ → Type 0) (s : StreamKind S T) (host : Host W C G) (desk : Desk S T) (result : ServedRun S T) where
  read_worked : (w : IsWorkedWith D r gives s host desk result) → w.done.end ≡ console.ReadFault → HasRisen (s.source_faults w.job.console.source) (s.source_faults w.done.console.source)
  read_worked w is =
      elim w.console.works.works [
        | inl shut ↦ absurd (no_read_at_end (sym shut.end_is ∙ is))
        | inr more ↦ elim more [
          | inl opens_not ↦ absurd (no_read_at_write (sym opens_not.end_is ∙ is))
          | inr operates ↦ operates.unread is
        ]
      ]

  write_worked : (w : IsWorkedWith D r gives s host desk result) → w.done.end ≡ console.WriteFault → HasRisen (s.sink_faults w.job.console.sink) (s.sink_faults w.done.console.sink)
  write_worked w is =
      elim w.console.works.works [
        | inl shut ↦ absurd (no_write_at_end (sym shut.end_is ∙ is))
        | inr more ↦ elim more [ inl opens_not ↦ opens_not.unwritten | inr operates ↦ operates.unwritten is ]
      ]

  pub read_counted : StreamsAreBack D r gives s host desk result → result.end ≡ served.ReadFault → HasRisen (s.source_faults desk.source) (s.source_faults result.source)
  read_counted (inl none) is = absurd (none.told.0 is)
  read_counted (inr w) is =
      subst (λ (x : S). HasRisen (s.source_faults x) (s.source_faults result.source)) w.console.source_was
      (subst (λ (x : S). HasRisen (s.source_faults w.job.console.source) (s.source_faults x)) (sym (w.source ∙ w.console.source_is))
      (read_worked w (sym w.console.end_is ∙ read_first w.ran.end result.end w.told is)))

  pub write_counted : StreamsAreBack D r gives s host desk result → result.end ≡ served.WriteFault → HasRisen (s.sink_faults desk.sink) (s.sink_faults result.sink)
  write_counted (inl none) is = absurd (none.told.1 is)
  write_counted (inr w) is =
      subst (λ (x : T). HasRisen (s.sink_faults x) (s.sink_faults result.sink)) w.console.sink_was
      (subst (λ (x : T). HasRisen (s.sink_faults w.job.console.sink) (s.sink_faults x)) (sym (w.sink ∙ w.console.sink_is))
      (write_worked w (sym w.console.end_is ∙ write_first w.ran.end result.end w.told is)))
