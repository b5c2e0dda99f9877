-- What a step makes of hints: some are kept, some go, and some are sent.
use Rattle.std.specs.Prelude.{◌≡◌, ℕ, Bool, ◌&&◌, ◌++◌, if◌then◌else◌, not, ◌==◌, Some, List, [], map, filter}
use Rattle.cs_base.specs.Quorums.{is_in}
use Rattle.changes.specs.declared.Mutation.{Mutation}
use Rattle.row_change.specs.declared.entry.Hint as hint
use Rattle.node_steps.specs.State.{Batch}
use Rattle.node_steps.specs.Hints.{KeptHints, push_hints, pushed_hints, drop_hint, number_of, send_hint, waiting_of, with_batch, is_no_number}
use Rattle.node_steps.specs.Keeping.{add_item, gone_item, gone_if_kept}
use Rattle.hint_store.specs.Staged.{IsSameHints, first_of}
use Rattle.node_core.specs.declared.base.Base.{Base}
use Rattle.node_core.specs.declared.work.Given.{Given}
use Rattle.node_core.specs.declared.work.Work.{Work}
use Rattle.node_core.specs.Working.{batches_with}

-- what the step has made, and the hints that are kept then
pub record Stage : Type 0 where
  pub work : Work
  pub hints : KeptHints

abbrev pub at : Work → KeptHints → Stage
at w k = record { work = w; hints = k }

-- ---- hints that come and go

-- a hint for each of these peers comes, where there is room
pub record LeavesHints (peers : List ℕ) (born : ℕ) (m : Mutation) (x x' : Stage) : Type 0 where
  pub hints : IsSameHints (push_hints peers born m x.hints) x'.hints
  pub work : x'.work ≡ record x.work { made = x.work.made ++ map add_item (pushed_hints peers born m x.hints) }

-- a hint goes, if it is kept
pub record DropsHint (peer number : ℕ) (x x' : Stage) : Type 0 where
  pub hints : x'.hints ≡ drop_hint peer number x.hints
  pub work : x'.work ≡ record x.work { gone = x.work.gone ++ map gone_item (gone_if_kept x.hints peer number) }

-- ---- hints that are sent

abbrev pub first_sent : Base → KeptHints → ℕ → List hint.Hint
first_sent b k peer = first_of b.setting k.hints peer

abbrev pub with_first : Base → KeptHints → ℕ → List Batch → List Batch
with_first b k peer batches = with_batch batches peer (map number_of (first_sent b k peer))

-- the first hints of a peer are sent, and are its batch
pub record SendsFirst (b : Base) (peer : ℕ) (k : KeptHints) (w : Work) (g : Given) (w' : Work) : Type 0 where
  pub sends : g.sends ≡ map (send_hint b.me) (first_sent b k peer)
  pub entries : g.entries ≡ []
  pub work : w' ≡ record w { batches = Some (with_first b k peer (batches_with w.batches b.batches)) }

-- ---- an acknowledgement

-- what is waited for behind it
abbrev pub left_of : List Batch → ℕ → ℕ → List ℕ
left_of batches peer number = filter (λ n. not (n == number)) (waiting_of batches peer)

abbrev pub ends_batch : List Batch → ℕ → ℕ → Bool
ends_batch batches peer number = is_in (waiting_of batches peer) number && is_no_number (left_of batches peer number)

-- the hint goes, and behind the last one that was waited for the next ones are sent
pub record HearsHintAck (b : Base) (peer number : ℕ) (x : Stage) (g : Given) (x' : Stage) : Type 0 where
  pub hints : x'.hints ≡ drop_hint peer number x.hints
  pub sends : g.sends ≡ (let batches = batches_with x.work.batches b.batches in if ends_batch batches peer number then map (send_hint b.me) (first_sent b (drop_hint peer number x.hints) peer) else [])
  pub entries : g.entries ≡ []
  pub batches : x'.work.batches ≡ Some (let batches = batches_with x.work.batches b.batches in let left = with_batch batches peer (left_of batches peer number) in if ends_batch batches peer number then with_first b (drop_hint peer number x.hints) peer left else left)
  pub work : x'.work ≡ record x.work { batches = x'.work.batches; gone = x.work.gone ++ map gone_item (gone_if_kept x.hints peer number) }
