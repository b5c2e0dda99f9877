-- What the parts of the work of all threads give together.
use Rattle.std.proofs.Common.{◌≡◌, inl, inr, ℕ, zero, suc, ◌*◌, List, [], ◌∷◌, ◌++◌, Option, Some, None, Result, Ok, Err, length, refl, sym, ◌∙◌, ap, subst, Vec, Global}
use Rattle.std.proofs.lemmas.Bool.{false≢true}
use Rattle.std.proofs.lemmas.List.{length-map}
use Rattle.std.proofs.lemmas.Option.{IfSome_then}
use Rattle.std.specs.Prelude.{IfOk, IfErr, OnErr, IfSome, IfNone, IsNone, IsErr}
use Rattle.std.specs.declared.alloc.AllocError.{AllocError}
use Rattle.std.specs.List.{All, AllByRecursion, AllZip}
use Rattle.cs_runtime.specs.Jobs.{Ends}
use Rattle.cs_runtime.specs.declared.job.NotRun.{NotRun}
use Rattle.node_calls.specs.declared.call.NodeCall.{NodeCall}
use Rattle.node_calls.specs.declared.reply.NodeReply.{NodeReply}
use Rattle.node_lock.specs.Passes.{IsPassOf, view_of}
use Rattle.node_lock.specs.declared.lock.NodeLock.{NodeLock}
use Rattle.item_groups.specs.Groups.{flat, HasSize}
use Rattle.item_groups.specs.Zips.{AllZip3}
use Rattle.item_groups.proofs.GroupLaws.{flat-push, groups_zip, length-flat}
use Rattle.item_groups.proofs.PlaceLaws.{zip2-long}
use Rattle.item_groups.proofs.ZipLaws.{Makes3, end3, step3, zip3-later, zip3-long, zip3-through}
use Rattle.served_seats.specs.Seats.{fresh_from}
use Rattle.served_jobs.specs.Endings.{GivesPass, IsWorked, IsUnstarted}
use Rattle.served_jobs.specs.declared.done.JobDone.{JobDone}
use Rattle.served_jobs.specs.declared.job.NodeJob.{NodeJob}
use Rattle.served_jobs.specs.declared.site.NodeSite.{NodeSite}
use Rattle.served_console.specs.Jobs.{KeepPasses, KeepsPass}
use Rattle.served_console.specs.declared.end.ConsoleEnd.TheVariants as end
use Rattle.served_console.specs.declared.job.ConsoleDone.{ConsoleDone}
use Rattle.served_console.specs.declared.job.ConsoleJob.{ConsoleJob}
use Rattle.served_console.specs.declared.node.OperatedNode.{OperatedNode}
use Rattle.served_nodes.specs.declared.node.NodeLeft.{NodeLeft}
use Rattle.served_run.specs.Crews.{AddsGroup, HaveTasks, IsClosed, IsCrewOf, IsDeskOf, IsJobAt, IsManned, IsSiteOf, HasTask}
use Rattle.served_run.specs.Runs.{ConsoleRan, IsLost}
use Rattle.served_run.specs.Works.{AreBacks, BeginsWith, ConsoleDid, ConsoleWorked, CrewWorked, HaveClosed, HaveWorked, IsBackOf, IsFirstOf, IsReturned, IsWorkLost}
use Rattle.served_run.specs.declared.closing.NodeBack.{NodeBack}
use Rattle.served_run.specs.declared.desk.Desk.{Desk}
use Rattle.served_run.specs.declared.desk.Ran.{Ran}
use Rattle.served_run.specs.declared.desk_job.DeskJob.{DeskJob}
use Rattle.served_run.specs.declared.host.Host.{Host}
use Rattle.served_run.specs.declared.opened.Crew.{Crew}
use Rattle.served_run.specs.declared.working.Worked.{Worked}
use Rattle.served_run.proofs.CrewLaws.{crews_worked}
use Rattle.served_run.proofs.ListLaws.{start3}

some_of_none : {A : Type 0} (P : A → Type 0) (o : Option A) → IsNone o → IfSome o P
some_of_none P None none = tt
some_of_none P (Some x) none = absurd (false≢true (sym none))

none_so : {A P : Type 0} (o : Option A) → P → IfNone o P
none_so None p = p
none_so (Some x) p = tt

pub ok_both : {A E : Type 0} (r : Result A E) (P Q R : A → Type 0) → ((x : A) → P x → Q x → R x) → IfOk r P → IfOk r Q → IfOk r R
ok_both (Ok x) P Q R f p q = f x p q
ok_both (Err e) P Q R f p q = tt

-- ---- crews and the jobs that they have

fresh_long : (E : Type 0) (number count : ℕ) → length (fresh_from {E = E} number count) ≡ count
fresh_long E number zero = refl
fresh_long E number (suc count) = ap suc (fresh_long E (suc number) count)

others_long : {N D Entry : Type 0} (jobs : ℕ) (lock : NodeLock N NodeCall NodeReply Entry) (crew : Crew N D Entry) → IsCrewOf jobs lock crew → length crew.others.items ≡ jobs
others_long {N} {D} {Entry} jobs lock crew c = sym (length-map crew.others.items view_of) ∙ ap length c.others ∙ fresh_long Entry 1 jobs

manned : {W N C G D Entry : Type 0} (host : Host W C G) (jobs : ℕ) (lock : NodeLock N NodeCall NodeReply Entry) (site : NodeSite W N C G Entry) (crew : Crew N D Entry)
    → IsSiteOf host lock site → IsCrewOf jobs lock crew → IsManned site crew
manned {N} {Entry} host jobs lock site crew s c = record {
  first_of = subst (λ (x : NodeLock N NodeCall NodeReply Entry). IsPassOf x crew.first) (sym s.lock_is) c.first_of;
  others_of = subst (λ (x : NodeLock N NodeCall NodeReply Entry). All (IsPassOf x) crew.others.items) (sym s.lock_is) c.others_of;
  count = c.count ∙ sym (others_long jobs lock crew c);
}

-- the crew of each lock works at the site of this lock
pub all_manned : {W N C G D Entry : Type 0} (host : Host W C G) (jobs : ℕ) (locks : List (NodeLock N NodeCall NodeReply Entry)) (sites : List (NodeSite W N C G Entry)) (crews : List (Crew N D Entry))
    → AllZip (IsSiteOf host) locks sites → AllZip (IsCrewOf jobs) locks crews → AllZip IsManned sites crews
all_manned host jobs [] [] [] s c = tt
all_manned host jobs [] [] (y ∷ crews) s c = absurd c
all_manned host jobs [] (x ∷ sites) crews s c = absurd s
all_manned host jobs (l ∷ locks) [] crews s c = absurd s
all_manned host jobs (l ∷ locks) (x ∷ sites) [] s c = absurd c
all_manned host jobs (l ∷ locks) (x ∷ sites) (y ∷ crews) s c = (manned host jobs l x y s.0 c.0, all_manned host jobs locks sites crews s.1 c.1)

one_sized : {W N C G D Entry : Type 0} (jobs : ℕ) (lock : NodeLock N NodeCall NodeReply Entry) (site : NodeSite W N C G Entry) (crew : Crew N D Entry) (group : Vec (NodeJob W N C G D Entry) Global)
    → IsCrewOf jobs lock crew → HasTask site crew group → HasSize jobs group
one_sized jobs lock site crew group c h =
    let long = zip3-long (IsJobAt site) crew.others.items crew.duties.items group.items h in long.1 ∙ sym long.0 ∙ c.count

groups_sized : {W N C G D Entry : Type 0} (jobs : ℕ) (locks : List (NodeLock N NodeCall NodeReply Entry)) (sites : List (NodeSite W N C G Entry)) (crews : List (Crew N D Entry)) (groups : List (Vec (NodeJob W N C G D Entry) Global))
    → AllZip (IsCrewOf jobs) locks crews → AllZip3 HasTask sites crews groups → AllByRecursion (HasSize jobs) groups
groups_sized jobs locks sites crews [] c h = tt
groups_sized jobs locks [] [] (g ∷ groups) c h = absurd h
groups_sized jobs locks [] (y ∷ crews) (g ∷ groups) c h = absurd h
groups_sized jobs locks (x ∷ sites) [] (g ∷ groups) c h = absurd h
groups_sized jobs [] (x ∷ sites) (y ∷ crews) (g ∷ groups) c h = absurd c
groups_sized jobs (l ∷ locks) (x ∷ sites) (y ∷ crews) (g ∷ groups) c h = (one_sized jobs l x y g c.0 h.0, groups_sized jobs locks sites crews groups c.1 h.1)

-- of the crews of these sites some have their jobs, and the others will
pub record AreTasksSoFar {W N C G D Entry : Type 0} (sites : List (NodeSite W N C G Entry)) (crews : List (Crew N D Entry)) (rest : List (NodeSite W N C G Entry)) (rest' : List (Crew N D Entry)) (jobs : List (NodeJob W N C G D Entry)) : Type 0 where
  pub groups : List (Vec (NodeJob W N C G D Entry) Global)
  pub all : jobs ≡ flat groups
  pub makes : Makes3 HasTask sites crews rest rest' groups

pub no_tasks : {W N C G D Entry : Type 0} (sites : List (NodeSite W N C G Entry)) (crews : List (Crew N D Entry)) (rest : List (Crew N D Entry)) (jobs : List (NodeJob W N C G D Entry)) → rest ≡ crews → jobs ≡ [] → AreTasksSoFar sites crews sites rest jobs
no_tasks sites crews rest jobs same none = record { groups = []; all = none; makes = start3 HasTask sites crews rest [] same refl }

pub more_tasks : {W N C G D Entry : Type 0} (sites : List (NodeSite W N C G Entry)) (crews : List (Crew N D Entry)) (rest later : List (NodeSite W N C G Entry)) (rest' later' : List (Crew N D Entry)) (jobs jobs' : List (NodeJob W N C G D Entry))
    (site : NodeSite W N C G Entry) (crew : Crew N D Entry)
    → AreTasksSoFar sites crews rest rest' jobs → rest ≡ site ∷ later → rest' ≡ crew ∷ later' → AddsGroup (HasTask site crew) jobs jobs' → AreTasksSoFar sites crews later later' jobs'
more_tasks {W} {N} {C} {G} {D} {Entry} sites crews rest later rest' later' jobs jobs' site crew was next next' added = record {
  groups = was.groups ++ added.group ∷ [];
  all = added.all ∙ ap (λ (l : List (NodeJob W N C G D Entry)). l ++ added.group.items) was.all ∙ sym (flat-push was.groups added.group);
  makes = step3 HasTask sites crews rest later rest' later' was.groups (was.groups ++ added.group ∷ []) site crew added.group was.makes next next' refl added.is_next;
}

pub all_tasks : {W N C G D Entry : Type 0} (sites : List (NodeSite W N C G Entry)) (crews : List (Crew N D Entry)) (rest : List (NodeSite W N C G Entry)) (rest' : List (Crew N D Entry)) (jobs : List (NodeJob W N C G D Entry))
    → AreTasksSoFar sites crews rest rest' jobs → rest ≡ [] → rest' ≡ [] → HaveTasks sites crews jobs
all_tasks sites crews rest rest' jobs was none none' = record { groups = was.groups; all = was.all; each = end3 HasTask sites crews rest rest' was.groups was.makes none none' }

-- ---- the console's part

-- the console's part of a site's node is that of the site's lock
pub have_parts : {W N C G D Entry : Type 0} (host : Host W C G) (locks : List (NodeLock N NodeCall NodeReply Entry)) (sites : List (NodeSite W N C G Entry)) (crews : List (Crew N D Entry)) (os : List (OperatedNode W N C Entry))
    → AllZip (IsSiteOf host) locks sites → AllZip3 IsDeskOf sites crews os → AllZip3 (BeginsWith host.clock.now) locks crews os
have_parts host locks sites crews os s d =
    zip3-through (IsSiteOf host) IsDeskOf (BeginsWith host.clock.now)
    (λ lock site crew o at part. record { lock_is = part.lock_is ∙ at.lock_is; clock_is = part.clock_is ∙ at.clock_is; pass_is = part.pass_is })
    locks sites crews os s d

pub each_kept : {W N C Entry : Type 0} (os os' : List (OperatedNode W N C Entry)) → KeepPasses os os' → AllZip KeepsPass os os'
each_kept [] [] k = tt
each_kept [] (y ∷ ys) k = absurd k
each_kept (x ∷ xs) [] k = absurd k
each_kept (x ∷ xs) (y ∷ ys) k = (k.0, each_kept xs ys k.1)

firsts_of : {W N C D Entry : Type 0} (os : List (OperatedNode W N C Entry)) (groups : List (Vec (JobDone N D Entry) Global)) (backs : List (NodeBack N D Entry))
    → AllZip3 IsBackOf os groups backs → AllZip IsFirstOf os backs
firsts_of [] [] [] h = tt
firsts_of [] [] (z ∷ zs) h = absurd h
firsts_of [] (y ∷ ys) zs h = absurd h
firsts_of (x ∷ xs) [] zs h = absurd h
firsts_of (x ∷ xs) (y ∷ ys) [] h = absurd h
firsts_of (x ∷ xs) (y ∷ ys) (z ∷ zs) h = (h.0.first_is, firsts_of xs ys zs h.1)

-- the passes of the console are back
pub firsts_back : {W N C D Entry : Type 0} (jobs : ℕ) (os : List (OperatedNode W N C Entry)) (dones : List (JobDone N D Entry)) (backs : List (NodeBack N D Entry)) → AreBacks jobs os dones backs → AllZip IsFirstOf os backs
firsts_back jobs os dones backs b = firsts_of os b.groups backs b.each

-- the job of the console stands on this desk
pub record IsAtDesk {W N C S T Entry : Type 0} (desk : Desk S T) (job : ConsoleJob W N C S T Entry) : Type 0 where
  pub source : job.console.source ≡ desk.source
  pub sink : job.console.sink ≡ desk.sink
  pub lines : job.console.lines ≡ desk.lines
  pub opening : job.opening ≡ desk.opening

-- ---- how many

-- as many groups of jobs were made as the console has nodes behind its work
as_many : {W N C G D Entry : Type 0} (sites : List (NodeSite W N C G Entry)) (crews : List (Crew N D Entry)) (groups : List (Vec (NodeJob W N C G D Entry) Global)) (os os' : List (OperatedNode W N C Entry))
    → AllZip3 HasTask sites crews groups → AllZip3 IsDeskOf sites crews os → KeepPasses os os' → length groups ≡ length os'
as_many sites crews groups os os' h d k =
    (zip3-long HasTask sites crews groups h).1 ∙ sym (zip3-long IsDeskOf sites crews os d).1 ∙ sym (zip2-long KeepsPass os os' (each_kept os os' k))

pub jobs_long : {W N C G D Entry : Type 0} (jobs : ℕ) (locks : List (NodeLock N NodeCall NodeReply Entry)) (sites : List (NodeSite W N C G Entry)) (crews : List (Crew N D Entry)) (all : List (NodeJob W N C G D Entry)) (os os' : List (OperatedNode W N C Entry))
    → AllZip (IsCrewOf jobs) locks crews → HaveTasks sites crews all → AllZip3 IsDeskOf sites crews os → KeepPasses os os' → length all ≡ length os' * jobs
jobs_long jobs locks sites crews all os os' c h d k =
    ap length h.all ∙ length-flat jobs h.groups (groups_sized jobs locks sites crews h.groups c h.each) ∙ ap (λ (n : ℕ). n * jobs) (as_many sites crews h.groups os os' h.each d k)

-- ---- the jobs

module _ {W N C G D Entry L : Type 0} (steps : N → Entry → N → Type 0) (event_of : Entry → NodeCall) (reply_of : Entry → NodeReply) (refuses : N → NodeCall → NodeCall → Type 0)
    (gives : C → ℕ → Type 0) (remaining written : L → Option (List ℕ)) (link_faults : L → ℕ) (given : D → Option ℕ) (returned : D → Option (List L)) (faults : D → ℕ) (host : Host W C G) (counted : Type 0) where
  abbrev JobEnds : NodeJob W N C G D Entry → JobDone N D Entry → Type 0
  JobEnds job done = Ends GivesPass (IsWorked steps event_of reply_of refuses gives remaining written link_faults given returned faults) IsUnstarted counted job done

  -- all jobs have ended, and are back crew by crew
  pub all_worked : (jobs : ℕ) (locks : List (NodeLock N NodeCall NodeReply Entry)) (sites : List (NodeSite W N C G Entry)) (crews : List (Crew N D Entry)) (all : List (NodeJob W N C G D Entry)) (os os' : List (OperatedNode W N C Entry)) (dones : List (JobDone N D Entry))
      (backs : List (NodeBack N D Entry))
      → AllZip (IsSiteOf host) locks sites → AllZip (IsCrewOf jobs) locks crews → HaveTasks sites crews all → AllZip3 IsDeskOf sites crews os → KeepPasses os os'
      → AllZip JobEnds all dones → AreBacks jobs os' dones backs
      → AllZip3 (CrewWorked steps event_of reply_of refuses gives remaining written link_faults given returned faults host counted) locks crews backs
  all_worked jobs locks sites crews all os os' dones backs s c h d k ended b =
      let long : length h.groups ≡ length b.groups = as_many sites crews h.groups os os' h.each d k ∙ sym (zip3-long IsBackOf os' b.groups backs b.each).0 in
      let flat_ended : AllZip JobEnds (flat h.groups) (flat b.groups) =
      subst (λ (ds : List (JobDone N D Entry)). AllZip JobEnds (flat h.groups) ds) (sym b.all) (subst (λ (js : List (NodeJob W N C G D Entry)). AllZip JobEnds js dones) h.all ended) in
      crews_worked steps event_of reply_of refuses gives remaining written link_faults given returned faults host counted locks sites crews h.groups b.groups backs s h.each
      (groups_zip JobEnds jobs h.groups b.groups (groups_sized jobs locks sites crews h.groups c h.each) b.sizes long flat_ended)
      (zip3-later IsBackOf (λ (ds : Vec (JobDone N D Entry) Global) (back : NodeBack N D Entry). back.dones ≡ ds) (λ o ds back x. x.dones_are) os' b.groups backs b.each)

  -- ---- what came of the threads

  module _ {S T : Type 0} (source_left : S → Option (List ℕ)) (source_faults : S → ℕ) (contents : T → Option (List ℕ)) (sink_faults : T → ℕ) where
    abbrev Outcome : Type 0
    Outcome = Result (Vec (JobDone N D Entry) Global × ConsoleDone W N C S T Entry) (NotRun (NodeJob W N C G D Entry) (DeskJob W N C S T Entry))

    console_worked : (desk : Desk S T) (job : ConsoleJob W N C S T Entry) (done : ConsoleDone W N C S T Entry) (w : Worked N D S T Entry) → IsAtDesk desk job → ConsoleDid steps event_of reply_of refuses gives source_left source_faults contents sink_faults job done → IsReturned done w
        → ConsoleWorked steps event_of reply_of refuses gives host source_left source_faults contents sink_faults desk w job done
    console_worked desk job done w at did back =
        record { source_was = at.source; sink_was = at.sink; lines_were = at.lines; opening_is = at.opening; works = did.1; returned = back }

    pub have_worked : (jobs : ℕ) (locks : List (NodeLock N NodeCall NodeReply Entry)) (sites : List (NodeSite W N C G Entry)) (crews : List (Crew N D Entry)) (all : List (NodeJob W N C G D Entry))
        (desk : Desk S T) (job : ConsoleJob W N C S T Entry) (o : Outcome) (w : Worked N D S T Entry)
        → AllZip (IsSiteOf host) locks sites → AllZip (IsCrewOf jobs) locks crews → HaveTasks sites crews all → AllZip3 IsDeskOf sites crews job.console.nodes.items → IsAtDesk desk job
        → IfOk o (λ r. AllZip JobEnds all r.0.items) → IfOk o (λ r. ConsoleDid steps event_of reply_of refuses gives source_left source_faults contents sink_faults job r.1) → IfOk o (λ r. IsReturned r.1 w)
        → IfOk o (λ r. IfSome w.backs (λ backs. AreBacks jobs r.1.console.nodes.items r.0.items backs.items)) → OnErr o (IsNone w.backs)
        → IfSome w.backs (λ backs. HaveWorked steps event_of reply_of refuses gives remaining written link_faults given returned faults host counted source_left source_faults contents sink_faults locks crews desk backs.items w)
    have_worked jobs locks sites crews all desk job (Ok r) w s c h d at ended did back backs none =
        IfSome_then w.backs backs
        (λ bs b. record {
          job = job;
          done = r.1;
          console = console_worked desk job r.1 w at did back;
          began = have_parts host locks sites crews job.console.nodes.items s d;
          kept = did.0;
          firsts = firsts_back jobs r.1.console.nodes.items r.0.items bs.items b;
          crews_worked = all_worked jobs locks sites crews all job.console.nodes.items r.1.console.nodes.items r.0.items bs.items s c h d did.0 ended b;
        })
    have_worked jobs locks sites crews all desk job (Err e) w s c h d at ended did back backs none =
        some_of_none (λ backs. HaveWorked steps event_of reply_of refuses gives remaining written link_faults given returned faults host counted source_left source_faults contents sink_faults locks crews desk backs.items w) w.backs none

    pub work_lost : (desk : Desk S T) (job : ConsoleJob W N C S T Entry) (o : Outcome) (w : Worked N D S T Entry) → IsAtDesk desk job
        → IfErr o (λ e. e.here.job ≡ job) → IfOk o (λ r. ConsoleDid steps event_of reply_of refuses gives source_left source_faults contents sink_faults job r.1) → IfOk o (λ r. IsReturned r.1 w)
        → IfErr o (λ e. w.source ≡ e.here.job.console.source) → IfErr o (λ e. w.sink ≡ e.here.job.console.sink) → OnErr o (w.end ≡ end.Ended)
        → IfNone w.backs (IsWorkLost steps event_of reply_of refuses gives host source_left source_faults contents sink_faults desk w)
    work_lost desk job (Ok r) w at same did back source sink ended = none_so w.backs (inr (job, r.1, console_worked desk job r.1 w at did back))
    work_lost desk job (Err e) w at same did back source sink ended = none_so w.backs
        (inl (
          source ∙ ap (λ (x : ConsoleJob W N C S T Entry). x.console.source) same ∙ at.source,
          sink ∙ ap (λ (x : ConsoleJob W N C S T Entry). x.console.sink) same ∙ at.sink,
          ended,
        ))

    -- ---- closed locks

    console_ran : (desk : Desk S T) (w : Worked N D S T Entry) (ran : Ran N D S T Entry) (job : ConsoleJob W N C S T Entry) (done : ConsoleDone W N C S T Entry)
        → ran.source ≡ w.source → ran.sink ≡ w.sink → ran.end ≡ w.end
        → ConsoleWorked steps event_of reply_of refuses gives host source_left source_faults contents sink_faults desk w job done
        → ConsoleRan steps event_of reply_of refuses gives host source_left source_faults contents sink_faults desk ran job done
    console_ran desk w ran job done source sink ended c = record {
      source_was = c.source_was;
      sink_was = c.sink_was;
      lines_were = c.lines_were;
      opening_is = c.opening_is;
      works = c.works;
      source_is = source ∙ c.returned.source_is;
      sink_is = sink ∙ c.returned.sink_is;
      end_is = ended ∙ c.returned.end_is;
    }

    pub have_closed : (locks locks' : List (NodeLock N NodeCall NodeReply Entry)) (crews : List (Crew N D Entry)) (desk : Desk S T) (w : Worked N D S T Entry) (ran : Ran N D S T Entry)
        (o : Option (Vec (NodeBack N D Entry) Global)) (r : Result (Vec (NodeLeft N D Entry) Global) AllocError)
        → locks' ≡ locks → ran.source ≡ w.source → ran.sink ≡ w.sink → ran.end ≡ w.end
        → IfSome o (λ backs. HaveWorked steps event_of reply_of refuses gives remaining written link_faults given returned faults host counted source_left source_faults contents sink_faults locks' crews desk backs.items w)
        → IfSome o (λ backs. IfOk r (λ left. AllZip3 (IsClosed steps) locks backs.items left.items)) → IfNone o (IsErr r)
        → IfOk r (λ left. HaveClosed steps event_of reply_of refuses gives remaining written link_faults given returned faults host counted source_left source_faults contents sink_faults locks crews desk left.items ran)
    have_closed locks locks' crews desk w ran (Some backs) (Ok left) same source sink ended h c none = record {
      job = h.job;
      done = h.done;
      console = console_ran desk w ran h.job h.done source sink ended h.console;
      began = subst (λ (l : List (NodeLock N NodeCall NodeReply Entry)). AllZip3 (BeginsWith host.clock.now) l crews h.job.console.nodes.items) same h.began;
      backs = backs.items;
      firsts = h.firsts;
      crews_worked =
          subst (λ (l : List (NodeLock N NodeCall NodeReply Entry)). AllZip3 (CrewWorked steps event_of reply_of refuses gives remaining written link_faults given returned faults host counted) l crews backs.items) same h.crews_worked;
      closed = c;
    }
    have_closed locks locks' crews desk w ran (Some backs) (Err e) same source sink ended h c none = tt
    have_closed locks locks' crews desk w ran None (Ok left) same source sink ended h c none = absurd (false≢true none)
    have_closed locks locks' crews desk w ran None (Err e) same source sink ended h c none = tt

    pub run_lost : (locks : List (NodeLock N NodeCall NodeReply Entry)) (crews : List (Crew N D Entry)) (desk : Desk S T) (w : Worked N D S T Entry) (ran : Ran N D S T Entry)
        (o : Option (Vec (NodeBack N D Entry) Global)) (r : Result (Vec (NodeLeft N D Entry) Global) AllocError)
        → ran.source ≡ w.source → ran.sink ≡ w.sink → ran.end ≡ w.end
        → IfSome o (λ backs. HaveWorked steps event_of reply_of refuses gives remaining written link_faults given returned faults host counted source_left source_faults contents sink_faults locks crews desk backs.items w)
        → IfNone o (IsWorkLost steps event_of reply_of refuses gives host source_left source_faults contents sink_faults desk w)
        → OnErr r (IsLost steps event_of reply_of refuses gives host source_left source_faults contents sink_faults desk ran)
    run_lost locks crews desk w ran o (Ok left) source sink ended h l = tt
    run_lost locks crews desk w ran (Some backs) (Err e) source sink ended h l = inr (h.job, h.done, console_ran desk w ran h.job h.done source sink ended h.console)
    run_lost locks crews desk w ran None (Err e) source sink ended h (inl l) = inl (source ∙ l.0, sink ∙ l.1, ended ∙ l.2)
    run_lost locks crews desk w ran None (Err e) source sink ended h (inr l) = inr (l.0, l.1, console_ran desk w ran l.0 l.1 source sink ended l.2)
