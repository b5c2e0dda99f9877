use Rattle.std.proofs.Common.{◌≡◌, ℕ, ◌+◌, ◌-◌, ◌^◌, ◌<◌, min, length, sym, ◌∙◌, ap, subst, vec_len, rules}
use Rattle.cs_base.specs.Faults.{HasRisen}
use Rattle.std.proofs.lemmas.Slice.Zip.{AllZip-long}
use Rattle.cs_runtime.specs.Jobs.{Ends}
use Rattle.cs_runtime.proofs.Places.{each-plain, starts_after-sum}
use Rattle.cs_runtime.proofs.spawner.Spawner.run.Goals as goal

pub returns-clause-each : goal.returns-clause-each
returns-clause-each g c =
    each-plain g.J.Job.ends g.J.Job.works g.J.Job.unstarts (HasRisen (g.Self.Spawner.faults c.args.self.now) (g.Self.Spawner.faults c.note.new.self))
    (g.Self.Spawner.failing c.args.self.now) (g.Self.Spawner.starts c.args.self.now) c.args.jobs.items c.in_ok-done.done.0.items (search rules)

pub returns-clause-len : goal.returns-clause-len
returns-clause-len g c =
    let jobs : vec_len c.args.jobs ≡ length c.args.jobs.items = search rules in
    let dones : vec_len c.in_ok-done.done.0 ≡ length c.in_ok-done.done.0.items = search rules in
    dones
    ∙ AllZip-long (Ends g.J.Job.ends g.J.Job.works g.J.Job.unstarts (HasRisen (g.Self.Spawner.faults c.args.self.now) (g.Self.Spawner.faults c.note.new.self)))
    c.args.jobs.items c.in_ok-done.done.0.items (returns-clause-each g c)
    ∙ sym jobs

pub returns-clause-starts : goal.returns-clause-starts
returns-clause-starts g c =
    let small : g.Self.Spawner.starts c.args.self.now < 2 ^ 64 = subst (λ (n : ℕ). n < 2 ^ 64) c.starts-before.ensures c.starts-before.type_inv in
    let jobs : vec_len c.args.jobs ≡ length c.args.jobs.items = search rules in
    c.note.ensures.starts
    ∙ c.saturating_add.ensures
    ∙ ap (λ (n : ℕ). min (n + c.len-count.result) (2 ^ 64 - 1)) c.starts-before.ensures
    ∙ ap (λ (n : ℕ). min (g.Self.Spawner.starts c.args.self.now + n) (2 ^ 64 - 1)) (c.len-count.ensures ∙ jobs)
    ∙ sym (starts_after-sum (g.Self.Spawner.starts c.args.self.now) c.args.jobs.items small)
