-- How the command `serve` ends.
use Rattle.std.proofs.Common.{◌≡◌, ℕ, ◌≤◌, inl, inr, length, Option, Some, None, refl, sym, subst, IfSome}
use Rattle.cs_base.specs.Faults.{HasRisen}
use Rattle.fault_script.specs.declared.script.Script.{Script}
use Rattle.peer_messages.specs.declared.setting.Setting.{Setting}
use Rattle.served_stores.specs.Shown.{Shown}
use Rattle.served_run.specs.declared.desk.Desk.{Desk}
use Rattle.served_run.specs.declared.host.Host.{Host}
use Rattle.served_cluster.specs.Served.{IsServed}
use Rattle.served_cluster.specs.declared.ending.ServedRun.{ServedRun}
use Rattle.served_cluster.specs.declared.ending.ServedEnd.{ServedEnd}
use Rattle.served_cluster.specs.declared.ending.ServedEnd.TheVariants as served
use Rattle.script_program.specs.Requests.{setting_of}
use Rattle.script_program.specs.declared.program.Status.{Status}
use Rattle.cluster_program.specs.Endings.{TellsEnd}
use Rattle.cluster_program.specs.Heads.{IsHead, listening_lines}
use Rattle.cluster_program.specs.Runs.{Serves}
use Rattle.cluster_program.specs.Serving.{Kinds, GoesOnARun, Session, ServeEnds}

-- ---- why a run ended

module _ (W G K : Type 0) {R D L C S T : Type 0} (k : Kinds R D L C S T) (host : Host W C G) (setting : Setting) (desk : Desk S T) (doors_rose counted : Type 0) (old new : Shown) (run : ServedRun S T) where
  -- why a run ended so
  abbrev Cause : ServedEnd → Type 0
  Cause served.Closed = IsServed K k.replica k.door k.gives k.streams host desk counted setting old new run None
  Cause served.ReadFault = HasRisen (k.streams.source_faults desk.source) (k.streams.source_faults run.source)
  Cause served.WriteFault = HasRisen (k.streams.sink_faults desk.sink) (k.streams.sink_faults run.sink)
  Cause (served.StoreFault n) = HasRisen (old.faults n) (new.faults n)
  Cause served.NoMemory = Unit {0}
  Cause served.DoorFault = doors_rose
  Cause served.NoThread = counted
  Cause (served.HistoryFull n) = IsServed K k.replica k.door k.gives k.streams host desk counted setting old new run (Some n)
  Cause (served.Damaged n f p) = k.replica.is_honest → k.is_damaged (old.holds n) f p

  caused : (e : ServedEnd) → (e ≡ served.Closed → Cause served.Closed) → (e ≡ served.ReadFault → Cause served.ReadFault) → (e ≡ served.WriteFault → Cause served.WriteFault)
      → ((n : ℕ) → e ≡ served.StoreFault n → Cause (served.StoreFault n)) → (e ≡ served.DoorFault → doors_rose) → (e ≡ served.NoThread → counted)
      → ((n : ℕ) → e ≡ served.HistoryFull n → Cause (served.HistoryFull n)) → ((n f p : ℕ) → e ≡ served.Damaged n f p → Cause (served.Damaged n f p)) → Cause e
  caused served.Closed closed read write store door thread full damaged = closed refl
  caused served.ReadFault closed read write store door thread full damaged = read refl
  caused served.WriteFault closed read write store door thread full damaged = write refl
  caused (served.StoreFault n) closed read write store door thread full damaged = store n refl
  caused served.NoMemory closed read write store door thread full damaged = tt
  caused served.DoorFault closed read write store door thread full damaged = door refl
  caused served.NoThread closed read write store door thread full damaged = thread refl
  caused (served.HistoryFull n) closed read write store door thread full damaged = full n refl
  caused (served.Damaged n f p) closed read write store door thread full damaged = damaged n f p refl

module _ (W G K : Type 0) {R D L C S T : Type 0} (k : Kinds R D L C S T) (clock : C) (port : ℕ) (counted : Type 0) (old new : Shown) (source : S) (sink : T) (source' : S) (sink' : T) where
  abbrev Ends : Status → Type 0
  Ends s = ServeEnds W G K k clock port counted old new source sink source' sink' s

  abbrev Begun : Type 0
  Begun = Session W G K k clock port source sink source'

  -- ---- a run that is served

  abbrev Told : Begun → ServedEnd → Status → Type 0
  Told x e s = TellsEnd e (k.streams.contents x.run.sink) (k.streams.contents sink') (k.streams.sink_faults x.run.sink) (k.streams.sink_faults sink') s

  abbrev Caused : Begun → Type 0 → ServedEnd → Type 0
  Caused x doors_rose e = Cause W G K k x.host (setting_of x.script) x.desk doors_rose counted old new x.run e

  abbrev GoesOn : Begun → Type 0
  GoesOn x =
      (full : Option ℕ) (h : IsServed K k.replica k.door k.gives k.streams x.host x.desk counted (setting_of x.script) old new x.run full)
      → GoesOnARun W G K k x.host x.desk counted (setting_of x.script) old new x.run full h

  session_ends : (x : Begun) (doors_rose : Type 0) (e : ServedEnd) (s : Status) → GoesOn x → x.run.end ≡ e → Caused x doors_rose e → Told x e s → Ends s
  session_ends x doors_rose served.Closed s goes is cause (inl told) = subst Ends (sym told.0) (x, cause, goes None cause, told.1)
  session_ends x doors_rose served.Closed s goes is cause (inr told) = subst Ends (sym told.0) (x, inr (cause, told.1))
  session_ends x doors_rose served.ReadFault s goes is cause told = subst Ends (sym told.0) (inr (x, is, told.1))
  session_ends x doors_rose served.WriteFault s goes is cause told = subst Ends (sym told.0) (x, inl (is, told.1))
  session_ends x doors_rose (served.StoreFault n) s goes is cause (inl told) = subst Ends (sym told.0) (n, cause, (x, is, told.1))
  session_ends x doors_rose (served.StoreFault n) s goes is cause (inr told) = subst Ends (sym told.0) (inr (x, told.1))
  session_ends x doors_rose served.NoMemory s goes is cause told = subst Ends (sym told.0) (inr (x, told.1))
  session_ends x doors_rose served.DoorFault s goes is cause told = subst Ends (sym told.0) (x, is, told.1)
  session_ends x doors_rose served.NoThread s goes is cause told = subst Ends (sym told.0) (x, is, told.1)
  session_ends x doors_rose (served.HistoryFull n) s goes is cause (inl told) = subst Ends (sym told.0) (n, x, cause, goes (Some n) cause, told.1)
  session_ends x doors_rose (served.HistoryFull n) s goes is cause (inr told) = subst Ends (sym told.0) (inr (x, told.1))
  session_ends x doors_rose (served.Damaged n f p) s goes is cause (inl told) = subst Ends (sym told.0) (n, f, p, cause, (x, is, told.1))
  session_ends x doors_rose (served.Damaged n f p) s goes is cause (inr told) = subst Ends (sym told.0) (inr (x, told.1))

  -- ---- a head that is read, and its run

  -- what is known of a head that was read
  pub record HeadIsRead (script : Script) (desk : Desk S T) : Type 0 where
    pub head : IfSome (k.streams.remaining source) (λ left. IsHead left script desk.lines (k.streams.remaining desk.source))
    pub later : k.streams.source_faults source ≤ k.streams.source_faults desk.source
    pub sink_was : desk.sink ≡ sink
    pub opening : desk.opening.items ≡ listening_lines port (length script.ring)

  abbrev ServedBy : Setting → Script → Desk S T → Type 0 → Status → Type 0
  ServedBy setting script desk doors_rose s = Serves W G K k clock script.schema setting desk doors_rose counted old new source' sink' s

  abbrev session_of : (script : Script) (desk : Desk S T) (doors_rose : Type 0) (s : Status) → HeadIsRead script desk → ServedBy (setting_of script) script desk doors_rose s → Begun
  session_of script desk doors_rose s read h = record {
    script = script;
    host = h.host;
    desk = desk;
    run = h.run;
    head = read.head;
    later = read.later;
    sink_was = read.sink_was;
    opening = read.opening;
    schema = h.schema_is;
    clock_is = h.clock_is;
    streams_are_back = h.streams_are_back;
    source_is = h.source_is;
  }

  cause_of : (script : Script) (desk : Desk S T) (doors_rose : Type 0) (s : Status) (h : ServedBy (setting_of script) script desk doors_rose s) → Cause W G K k h.host (setting_of script) desk doors_rose counted old new h.run h.run.end
  cause_of script desk doors_rose s h =
      caused W G K k h.host (setting_of script) desk doors_rose counted old new h.run h.run.end h.closed h.read_fault h.write_fault h.store_fault h.door_fault h.no_thread h.full h.damaged

  ends_by : (script : Script) (desk : Desk S T) (doors_rose : Type 0) (s : Status) → HeadIsRead script desk → ServedBy (setting_of script) script desk doors_rose s → Ends s
  ends_by script desk doors_rose s read h = session_ends (session_of script desk doors_rose s read h) doors_rose h.run.end s h.goes_on refl (cause_of script desk doors_rose s h) h.told

  same_setting : (setting : Setting) (script : Script) (desk : Desk S T) (doors_rose : Type 0) (s : Status) → setting ≡ setting_of script → ServedBy setting script desk doors_rose s → ServedBy (setting_of script) script desk doors_rose s
  same_setting setting script desk doors_rose s same h = subst (λ (z : Setting). ServedBy z script desk doors_rose s) same h

  pub served_ends : (setting : Setting) (script : Script) (desk : Desk S T) (doors_rose : Type 0) (s : Status) → setting ≡ setting_of script → HeadIsRead script desk → ServedBy setting script desk doors_rose s → Ends s
  served_ends setting script desk doors_rose s same read h = ends_by script desk doors_rose s read (same_setting setting script desk doors_rose s same h)

-- ---- a head that was read, and its run, as the code has them

pub head_ends : {W G K R D L C S T : Type 0} {k : Kinds R D L C S T} {clock : C} {doors_rose counted : Type 0} {old new : Shown} {source' : S} {sink' : T} {setting : Setting} {desk : Desk S T} {s : Status}
    (port : ℕ) (source : S) (sink : T) (script : Script) → Serves W G K k clock script.schema setting desk doors_rose counted old new source' sink' s → setting ≡ setting_of script
    → IfSome (k.streams.remaining source) (λ left. IsHead left script desk.lines (k.streams.remaining desk.source)) → k.streams.source_faults source ≤ k.streams.source_faults desk.source → desk.sink ≡ sink
    → desk.opening.items ≡ listening_lines port (length script.ring) → ServeEnds W G K k clock port counted old new source sink source' sink' s
head_ends {W} {G} {K} {k = k} {clock = clock} {doors_rose = doors_rose} {counted = counted} {old = old} {new = new} {source' = source'} {sink' = sink'} {setting = setting} {desk = desk} {s = s} port source sink script h same head later sink_was opening =
    served_ends W G K k clock port counted old new source sink source' sink' setting script desk doors_rose s same (record { head = head; later = later; sink_was = sink_was; opening = opening }) h
