use Rattle.std.proofs.Common.{◌++◌, ◌∷◌, [], map, sym, subst, arith, rules}
use Rattle.std.specs.List.{AllZip}
use Rattle.std.proofs.lemmas.Slice.Zip.{all_zipped_more}
use Rattle.cs_base.specs.Faults.{HasRisen}
use Rattle.cs_runtime.specs.Begun.{begun_of}
use Rattle.cs_runtime.specs.Jobs.{EndsMarked}
use Rattle.cs_runtime.proofs.Places.{map-snoc, risen-later, risen-since, ends-later, each-later, goes-on, comes-to-end}
use Rattle.cs_runtime.proofs.starts.end_all.Goals as goal

pub loop-one-preserved : goal.loop-one-preserved
loop-one-preserved g c =
    let was = c.loop-one.invariant in
    let step = c.in-Some.ensures.steps in
    let rose = HasRisen c.args.faults.now c.end.new.faults in
    let ends = EndsMarked g.J.Job.ends g.J.Job.works g.J.Job.unstarts rose in
    let before = each-later g.J.Job.ends g.J.Job.works g.J.Job.unstarts (HasRisen c.args.faults.now c.loop-one.faults) rose (risen-later c.args.faults.now c.loop-one.faults c.end.new.faults c.end.ensures.counted) _ _ was.0 in
    let here = ends-later g.J.Job.ends g.J.Job.works g.J.Job.unstarts (HasRisen c.loop-one.faults c.end.new.faults) rose (risen-since c.args.faults.now c.loop-one.faults c.end.new.faults was.1 c.end.ensures.counted) _ _ c.end.ensures.ends in
    let both = all_zipped_more ends (map begun_of c.loop-one.yielded) c.loop-one.dones.items (begun_of c.in-Some.one) c.end.result before here in (
      subst (λ jobs. AllZip ends jobs c.push_reserved.new.self.items) (sym (map-snoc begun_of c.loop-one.yielded c.in-Some.one))
          (subst (λ dones. AllZip ends (map begun_of c.loop-one.yielded ++ begun_of c.in-Some.one ∷ []) dones) (sym c.push_reserved.ensures.items) both),
      (let le = was.1 in let later = c.end.ensures.counted in omega (arith, le, later)),
      goes-on c.loop-one.yielded _ _ _ c.in-Some.one was.2 step.0,
      search rules,
      search rules,
    )

pub returns-clause-each : goal.returns-clause-each
returns-clause-each g c =
    let was = c.loop-one.invariant in
    let ends = EndsMarked g.J.Job.ends g.J.Job.works g.J.Job.unstarts (HasRisen c.args.faults.now c.loop-one.faults) in
    subst (λ begun. AllZip ends (map begun_of begun) c.loop-one.dones.items) (comes-to-end c.loop-one.yielded _ _ was.2 (search rules)) was.0
