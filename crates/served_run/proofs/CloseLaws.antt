-- What is needed to close the lock of a node, and what it gives.
use Rattle.std.proofs.Common.{◌≡◌, ◌≢◌, ◌≤◌, ℕ, List, [], ◌∷◌, length, map, sym, ◌∙◌, ap, subst}
use Rattle.std.specs.List.{All, AllByRecursion}
use Rattle.node_calls.specs.declared.call.NodeCall.{NodeCall}
use Rattle.node_calls.specs.declared.reply.NodeReply.{NodeReply}
use Rattle.node_lock.specs.Histories.{Replays, StartsWith, entries_by}
use Rattle.node_lock.specs.Passes.{IsPassOf, view_of, start_of, seats_of}
use Rattle.node_lock.specs.Views.{PassView}
use Rattle.node_lock.specs.declared.lock.NodeLock.{NodeLock}
use Rattle.node_lock.specs.declared.pass.Pass.{Pass}
use Rattle.served_seats.specs.Seats.{AreApart, IsOwn, SamePassesHaveAllSeats, made_by, seats_in}
use Rattle.served_nodes.specs.declared.node.NodeLeft.{NodeLeft}
use Rattle.served_run.specs.Crews.{IsBack, IsClosed, ends_in, left_of, pass_of}
use Rattle.served_run.specs.declared.closing.NodeBack.{NodeBack}
use Rattle.served_run.proofs.ListLaws.{map_of_map}

module _ {N D Entry : Type 0} (back : NodeBack N D Entry) (passes : List (Pass N NodeCall NodeReply Entry)) (is : passes ≡ map pass_of back.dones.items) where
  -- the passes as they came back
  pub ends_are : map view_of (back.first ∷ passes) ≡ ends_in back
  ends_are = ap (λ (l : List (PassView Entry)). view_of back.first ∷ l) (ap (λ (l : List (Pass N NodeCall NodeReply Entry)). map view_of l) is ∙ map_of_map pass_of view_of back.dones.items)

  pub passes_of : (lock : NodeLock N NodeCall NodeReply Entry) → IsBack lock back → IsPassOf lock back.first × All (IsPassOf lock) passes
  passes_of lock b = (b.first_of, subst (λ (l : List (Pass N NodeCall NodeReply Entry)). All (IsPassOf lock) l) (sym is) b.others_of)

  pub all_seats : (lock : NodeLock N NodeCall NodeReply Entry) → IsBack lock back → SamePassesHaveAllSeats Entry → seats_in (map view_of (back.first ∷ passes)) ≡ seats_of lock
  all_seats lock b law = ap (λ (l : List (PassView Entry)). seats_in l) ends_are ∙ (law b.jobs (ends_in back) b.same).0 ∙ sym b.seats

  pub all_apart : (lock : NodeLock N NodeCall NodeReply Entry) → IsBack lock back → SamePassesHaveAllSeats Entry → AreApart (map view_of (back.first ∷ passes))
  all_apart lock b law = subst (λ (l : List (PassView Entry)). AreApart l) (sym ends_are) (law b.jobs (ends_in back) b.same).1

  pub all_own : (lock : NodeLock N NodeCall NodeReply Entry) → IsBack lock back → AllByRecursion IsOwn (map view_of (back.first ∷ passes))
  all_own lock b = subst (λ (l : List (PassView Entry)). AllByRecursion IsOwn l) (sym ends_are) b.own

  pub closed_so : (steps : N → Entry → N → Type 0) (lock : NodeLock N NodeCall NodeReply Entry) (left : NodeLeft N D Entry)
      → Replays steps (start_of lock) left.history left.state
      → length left.history ≤ 400000
      → AllByRecursion (λ (v : PassView Entry). entries_by v.number left.history ≡ made_by v) (map view_of (back.first ∷ passes))
      → ((n : ℕ) → AllByRecursion (λ (v : PassView Entry). v.number ≢ n) (map view_of (back.first ∷ passes)) → entries_by n left.history ≡ [])
      → AllByRecursion (λ (v : PassView Entry). StartsWith left.history v.seen) (map view_of (back.first ∷ passes))
      → left.jobs.items ≡ map left_of back.dones.items
      → IsClosed steps lock back left
  closed_so steps lock left replays most each none_else seen jobs = record {
    replays = replays;
    most = most;
    each = subst (λ (l : List (PassView Entry)). AllByRecursion (λ (v : PassView Entry). entries_by v.number left.history ≡ made_by v) l) ends_are each;
    none_else = λ n apart. none_else n (subst (λ (l : List (PassView Entry)). AllByRecursion (λ (v : PassView Entry). v.number ≢ n) l) (sym ends_are) apart);
    seen = subst (λ (l : List (PassView Entry)). AllByRecursion (λ (v : PassView Entry). StartsWith left.history v.seen) l) ends_are seen;
    jobs = jobs;
  }
