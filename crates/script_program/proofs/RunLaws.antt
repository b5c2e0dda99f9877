-- The run of a script goes on by one event.
use Rattle.std.proofs.Common.{◌≡◌, ℕ, zero, suc, Option, Some, None, List, [], ◌∷◌, ◌++◌, refl, sym, ap, subst, ◌∙◌, append_assoc}
use Rattle.std.proofs.lemmas.List.{append-nil}
use Rattle.std.specs.Prelude.{Result, Ok, Err, IfOk, slice_get}
use Rattle.cs_store.specs.declared.mem.MemStore.{MemStore}
use Rattle.cs_store.specs.Images.{Images, quiet, formatted_bytes}
use Rattle.cs_store.specs.Mem.{images_of}
use Rattle.peer_messages.specs.declared.setting.Setting.{Setting}
use Rattle.answer_causes.specs.AnswersRight.{AnswersRight}
use Rattle.read_consistency.specs.ReadRight.{ReadRight}
use Rattle.reads_forward.specs.ReadsForward.{ReadsForward}
use Rattle.schema_book.specs.Books.{Book}
use Rattle.schema_book.specs.declared.table.Table.{Table}
use Rattle.chronicle_print.specs.Printed.{IsInPrint}
use Rattle.cluster_model.specs.Beginning.{Begins, IsFormatted, AreFormatted}
use Rattle.cluster_model.specs.State.{ClusterState, IsReached, AreFresh, KeepsOn}
use Rattle.cluster_model.specs.Takes.{Takes}
use Rattle.cluster_model.specs.declared.event.ClusterEvent.{ClusterEvent}
use Rattle.durable_state.specs.State.{Durable}
use Rattle.fault_script.specs.declared.script.Script.{Script}
use Rattle.fault_script.specs.declared.script.ScriptEvent.{ScriptEvent}
use Rattle.script_program.specs.Requests.{IsEventOf, setting_of}
use Rattle.script_program.specs.Runs.{keyspace_after, Plays, IsFresh, IsRunInPrint}
use Rattle.script_program.specs.Stops.{StopsAreNamed}
use Rattle.script_program.proofs.StopLaws.{stops_are_named}

-- ---- one event more

-- what is played from here on is played from the beginning
abbrev pub PlaysOn : Book → ClusterState → List ScriptEvent → Option (List ℕ) → ClusterState → Type 0
PlaysOn book start done keyspace v = (rest : List ScriptEvent) (v' : ClusterState) → Plays book keyspace v rest v' → Plays book None start (done ++ rest) v'

pub plays_none : (book : Book) (start : ClusterState) → PlaysOn book start [] None start
plays_none book start rest v' h = h

pub plays_more : (book : Book) (start v mid : ClusterState) (done : List ScriptEvent) (keyspace : Option (List ℕ)) (e : ScriptEvent) (event : ClusterEvent) → PlaysOn book start done keyspace v
    → IsEventOf book keyspace e event → Takes v event mid → PlaysOn book start (done ++ e ∷ []) (keyspace_after keyspace mid.chronicle) mid
plays_more book start v mid done keyspace e event h is takes rest v' later =
    subst (λ (es : List ScriptEvent). Plays book None start es v') (sym (append_assoc done (e ∷ []) rest)) (h (e ∷ rest) v' (event, mid, is, takes, later))

pub plays_all : (book : Book) (start v : ClusterState) (done : List ScriptEvent) (keyspace : Option (List ℕ)) → PlaysOn book start done keyspace v → Plays book None start done v
plays_all book start v done keyspace h = subst (λ (es : List ScriptEvent). Plays book None start es v) (append-nil done) (h [] v refl)

-- ---- stores

some_same : {X : Type 0} (x y : X) → Some x ≡ Some y → x ≡ y
some_same x y e = cc

nothing_at : (k : ℕ) (x : MemStore) → slice_get [] k ≡ Some x → ⊥
nothing_at zero x e = cc
nothing_at (suc k) x e = cc

formatted_at : (s : MemStore) → ((f : ℕ) → images_of s f ≡ quiet (formatted_bytes f)) → IsFormatted s
formatted_at s files f = sym (ap (λ (i : Images). i.kept) (files f))

pub formatted_more : (stores more : List MemStore) (s : MemStore) → more ≡ stores ++ s ∷ [] → ((f : ℕ) → images_of s f ≡ quiet (formatted_bytes f)) → AreFormatted stores → AreFormatted more
formatted_more [] more s is files are zero x at = subst IsFormatted (some_same s x (subst (λ (ss : List MemStore). slice_get ss zero ≡ Some x) is at)) (formatted_at s files)
formatted_more [] more s is files are (suc k) x at = absurd (nothing_at k x (subst (λ (ss : List MemStore). slice_get ss (suc k) ≡ Some x) is at))
formatted_more (y ∷ ys) more s is files are zero x at = are zero x (subst (λ (ss : List MemStore). slice_get ss zero ≡ Some x) is at)
formatted_more (y ∷ ys) more s is files are (suc k) x at =
    formatted_more ys (ys ++ s ∷ []) s refl files (λ j z there. are (suc j) z there) k x (subst (λ (ss : List MemStore). slice_get ss (suc k) ≡ Some x) is at)

pub none_formatted : AreFormatted []
none_formatted k x at = absurd (nothing_at k x at)

-- ---- what no event changes

pub keeps_itself : (v : ClusterState) → KeepsOn v v
keeps_itself v = record { setting = refl; first = refl }

pub keeps_more : (v mid v' : ClusterState) → KeepsOn v mid → KeepsOn mid v' → KeepsOn v v'
keeps_more v mid v' before then_on = record { setting = then_on.setting ∙ before.setting; first = then_on.first ∙ before.first }

-- ---- the whole run

pub in_print : (script : Script) (text : List ℕ) (tables : List Table) (c : Setting) (before after : ClusterState) (es : List ScriptEvent) → KeepsOn before after → c ≡ setting_of script → IsFresh c before → es ≡ script.events → tables ≡ script.schema.tables
    → Plays script.schema None before es after → IsReached after → (AreFresh after.setting after.first → ReadRight after.setting after.chronicle) → (AreFresh after.setting after.first → ReadsForward after.setting after.chronicle) → (AreFresh after.setting after.first → AnswersRight after.setting after.chronicle) → IsInPrint tables after.chronicle text → IsRunInPrint script text
in_print script text tables c before after es kept setting fresh events same plays reached right forward causes print =
    let same_setting : after.setting ≡ c = kept.setting ∙ fresh.setting in
    let as_first : AreFresh c after.first = subst (AreFresh c) (sym kept.first) fresh.first in
    let of_setting : AreFresh after.setting after.first = subst (λ (d : Setting). AreFresh d after.first) (sym same_setting) as_first in
    record {
      before = before;
      after = after;
      fresh = subst (λ (d : Setting). IsFresh d before) setting fresh;
      plays = subst (λ (xs : List ScriptEvent). Plays script.schema None before xs after) events plays;
      reached = reached;
      named = subst (λ (xs : List ScriptEvent). StopsAreNamed xs after.sites) events (stops_are_named script.schema es before after before.first fresh.sites plays);
      right = subst (λ (d : Setting). ReadRight d after.chronicle) (same_setting ∙ setting) (right of_setting);
      forward = subst (λ (d : Setting). ReadsForward d after.chronicle) (same_setting ∙ setting) (forward of_setting);
      causes = subst (λ (d : Setting). AnswersRight d after.chronicle) (same_setting ∙ setting) (causes of_setting);
      print = subst (λ (ts : List Table). IsInPrint ts after.chronicle text) same print;
    }

pub if_ok_more : {T E : Type 0} {P Q : T → Type 0} (r : Result T E) → IfOk r P → ((t : T) → P t → Q t) → IfOk r Q
if_ok_more (Ok t) h more = more t h
if_ok_more (Err e) h more = h

pub begins_fresh : (stands_for : (ℕ → List ℕ) → Durable → Type 0) (c : Setting) (stores : List MemStore) (v : ClusterState) → Begins stands_for c stores v → AreFresh c v.first → IsFresh c v
begins_fresh stands_for c stores v h fresh = record { setting = h.setting; first = fresh; sites = h.sites; post = h.post; chronicle = h.chronicle }
