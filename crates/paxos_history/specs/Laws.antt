-- The laws of lawful histories.
use Rattle.std.specs.Prelude.{◌≡◌, ℕ, ◌≤◌, List}
use Rattle.cs_base.specs.declared.ids.ReqId.{ReqId}
use Rattle.paxos_history.specs.Protocol.{Event, Setup, Result, Ever, IsAcceptance, IsRefusal, IsProposal, IsOwnProposal, Chosen, Lawful, Under, chain, promised}
use Rattle.paxos_history.specs.Serial.{SerialRight}

-- what a replica accepted is at most its promise
abbrev pub AcceptsUptoPromise : Type 0
AcceptsUptoPromise = (w : Setup) (h : List Event) (n b : ℕ) → Lawful w h → Ever (IsAcceptance n b) h → b ≤ promised n h

-- what a replica refused it neither accepted nor ever accepts
abbrev pub RefusesForGood : Type 0
RefusesForGood = (w : Setup) (h : List Event) (n b : ℕ) → Lawful w h → Ever (IsRefusal n b) h → Ever (IsAcceptance n b) h → ⊥

-- a chosen ballot at or below a proposal is in the proposal's chain
abbrev pub ChosenStays : Type 0
ChosenStays = (w : Setup) (a b : ℕ) (h : List Event) → Lawful w h → Chosen w b h → Ever (IsProposal a) h → b ≤ a → Under (chain b h) (chain a h)

-- the request was proposed under this ballot by its own coordinator
abbrev pub WasProposedFor : ReqId → ℕ → List Event → Type 0
WasProposedFor r b h = (c : ℕ) × (y : Result) × (t : List ℕ) × Ever (IsOwnProposal b c r y t) h

abbrev pub WasAccepted : ℕ → List Event → Type 0
WasAccepted b h = (n : ℕ) × Ever (IsAcceptance n b) h

-- of the own proposals of one request at most one is ever accepted anywhere
abbrev pub AcceptedOnce : Type 0
AcceptedOnce = (w : Setup) (h : List Event) (r : ReqId) (a b : ℕ) → Lawful w h → WasProposedFor r a h → WasProposedFor r b h → WasAccepted a h → WasAccepted b h → a ≡ b

abbrev pub HistoriesAreSerial : Type 0
HistoriesAreSerial = (w : Setup) (h : List Event) → Lawful w h → SerialRight w h
