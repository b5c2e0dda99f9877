-- Hints that are the same: what is asked of them is the same, and what is done to them makes the same.
use Rattle.std.specs.Prelude.{◌≡◌, ◌↔◌, ℕ, List, Contains}
use Rattle.changes.specs.declared.Mutation.{Mutation}
use Rattle.row_change.specs.declared.entry.Hint.{Hint}
use Rattle.peer_messages.specs.declared.setting.Setting.{Setting}
use Rattle.node_steps.specs.State.{NodeState}
use Rattle.node_steps.specs.Hints.{KeptHints, is_full, push_hint, pushed_hint, push_hints, pushed_hints, with_room, is_kept, drop_hint, first_hints}
use Rattle.hint_store.specs.Staged.{IsSameHints, next_number, first_of}

pub record AreAskedTheSame (k k' : KeptHints) : Type 0 where
  pub full : (peer : ℕ) → is_full k' peer ≡ is_full k peer
  pub next : (peer : ℕ) → next_number k' peer ≡ next_number k peer
  pub room : (peers : List ℕ) → with_room k' peers ≡ with_room k peers
  pub kept : (peer number : ℕ) → is_kept k' peer number ≡ is_kept k peer number
  pub first : (c : Setting) (peer : ℕ) → first_of c k'.hints peer ≡ first_of c k.hints peer
  pub members : (h : Hint) → Contains k'.hints h ↔ Contains k.hints h
  pub pushed : (peer born : ℕ) (m : Mutation) → pushed_hint peer born m k' ≡ pushed_hint peer born m k
  pub pushed_all : (peers : List ℕ) (born : ℕ) (m : Mutation) → pushed_hints peers born m k' ≡ pushed_hints peers born m k

pub record MakeTheSame (k k' : KeptHints) : Type 0 where
  pub push : (peer born : ℕ) (m : Mutation) → IsSameHints (push_hint peer born m k) (push_hint peer born m k')
  pub pushes : (peers : List ℕ) (born : ℕ) (m : Mutation) → IsSameHints (push_hints peers born m k) (push_hints peers born m k')
  pub drop : (peer number : ℕ) → IsSameHints (drop_hint peer number k) (drop_hint peer number k')

-- ---- the laws

abbrev pub IsReflexive : Type 0
IsReflexive = (k : KeptHints) → IsSameHints k k

abbrev pub IsSymmetric : Type 0
IsSymmetric = (k k' : KeptHints) → IsSameHints k k' → IsSameHints k' k

abbrev pub IsTransitive : Type 0
IsTransitive = (k k' k'' : KeptHints) → IsSameHints k k' → IsSameHints k' k'' → IsSameHints k k''

abbrev pub AskTheSame : Type 0
AskTheSame = (k k' : KeptHints) → IsSameHints k k' → AreAskedTheSame k k'

abbrev pub StayTheSame : Type 0
StayTheSame = (k k' : KeptHints) → IsSameHints k k' → MakeTheSame k k'

-- a node's first hints are those of what it keeps
abbrev pub FirstAreKept : Type 0
FirstAreKept = (c : Setting) (s : NodeState) (peer : ℕ) → first_hints c s peer ≡ first_of c s.hints peer
