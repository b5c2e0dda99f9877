use Rattle.std.proofs.Common.{◌≡◌, ◌∷◌, ◌++◌, length, sym, ap, ◌∙◌, arith}
use Rattle.std.specs.List.{count_by}
use Rattle.std.specs.Vec.Iter.{into_iter_items}
use Rattle.served_assembly.specs.Parting.{doors_in, has_door}
use Rattle.served_assembly.proofs.Doors.{behind_lead, count_doors, lead_links, next_door, next_job, push_door}
use Rattle.served_assembly.proofs.parting.take_back.Goals as goal

pub into_receivers-receivers-requires : goal.into_receivers-receivers-requires
into_receivers-receivers-requires g c =
    lead_links c.in-Some.lead c.args.jobs.items (into_iter_items c.next.new.self) (sym c.into_iter-jobs.ensures.rest ∙ c.in-Some.ensures.cases.0) c.requires

pub loop-job-init : goal.loop-job-init
loop-job-init g c =
    let rest = into_iter_items c.next.new.self in
    let it = ap into_iter_items c.into_iter-job-iterator.ensures.into_iter_gives in
    let same : doors_in c.args.jobs.items ≡ doors_in rest = behind_lead c.in-Some.lead c.args.jobs.items rest (sym c.into_iter-jobs.ensures.rest ∙ c.in-Some.ensures.cases.0) c.requires in
    let made = ap doors_in it ∙ sym same in
    let none = c.in_ok-doors.ensures.len in
    let long = ap length made in
    let counted : c.count_doors.result ≡ length (doors_in c.args.jobs.items) = c.count_doors.ensures ∙ ap (count_by has_door) c.deref.ensures.value ∙ count_doors c.args.jobs.items in
    let exact = c.in_ok-doors.ensures.exact in
    record { made = (λ i. c.in_ok-doors.ensures.items i ++ made i); room = omega (arith, none, long, counted, exact) }

pub loop-job-preserved-in-Some-into_door : goal.loop-job-preserved-in-Some-into_door
loop-job-preserved-in-Some-into_door g c =
    let was = c.loop-job.invariant in
    let rest = doors_in (into_iter_items c.next-in-loop-job.new.self) in
    let next : doors_in (into_iter_items c.loop-job.job-iterator) ≡ c.in-Some-into_door.door ∷ rest =
    next_door c.in-Some-job.job (into_iter_items c.loop-job.job-iterator) (into_iter_items c.next-in-loop-job.new.self) c.in-Some-into_door.door c.in-Some-job.ensures.steps.0 (sym c.in-Some-into_door.ensures) in
    let long = ap length next in
    let pushed = c.push_reserved.ensures in
    record {
      made = push_door (doors_in c.args.jobs.items) c.loop-job.doors.items c.push_reserved.new.self.items (doors_in (into_iter_items c.loop-job.job-iterator)) rest c.in-Some-into_door.door was.made next pushed.items;
      room = (let len = pushed.len in let capacity = pushed.capacity in let room = was.room in omega arith);
    }

pub loop-job-preserved : goal.loop-job-preserved
loop-job-preserved g c =
    let was = c.loop-job.invariant in
    let next = next_job c.in-Some-job.job (into_iter_items c.loop-job.job-iterator) (into_iter_items c.next-in-loop-job.new.self) c.in-Some-job.ensures.steps.0
    (λ door is. c.in_default-into_door.not-Some door (c.into_door.ensures ∙ is)) in
    let long = ap length next in
    record {
      made = ap (λ l. c.loop-job.doors.items ++ l) (sym next) ∙ was.made;
      room = (let room = was.room in omega arith);
    }
