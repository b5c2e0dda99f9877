-- A base is below its proposal: a quorum that promised a ballot below a commit does not have that commit.
use Rattle.std.proofs.Common.{◌≡◌, ℕ, ◌<◌, ◌≤◌, ◌≢◌, Bool, true, List, [], ◌∷◌, ◌⊎◌, inl, inr, sym, subst, arith, le_trans, ◌∙◌}
use Rattle.paxos_history.specs.Protocol.{Event, Promised, Setup, Ever, IsQuorum, IsPromise, promised, commit, Chosen, MayPropose, Allowed, Lawful}
use Rattle.paxos_history.proofs.Histories.{same_or_not, quorums_meet}
use Rattle.paxos_history.proofs.Acceptors.{rises, accepted_below, commit_chosen}
use Rattle.cs_base.specs.declared.ids.ReqId.{ReqId}
use Rattle.changes.specs.declared.Held.{Held}
use Rattle.paxos_history.specs.Protocol.{Result}

abbrev NoSuchPromise : ℕ → ℕ → ℕ → List Event → Type 0
NoSuchPromise n b c h = (a : ℕ) (s : List Held) → Ever (IsPromise n b a c s) h → ⊥

-- a quorum none of which can promise b any more, nor did so with the commit c
record Blocked (w : Setup) (b c : ℕ) (h : List Event) : Type 0 where
  quorum : ℕ → Bool
  big : IsQuorum w quorum
  past : (n : ℕ) → quorum n ≡ true → b ≤ promised n h
  none : (n : ℕ) → quorum n ≡ true → NoSuchPromise n b c h

abbrev Guarded : Setup → ℕ → ℕ → List Event → Type 0
Guarded w b c h = ((n : ℕ) → NoSuchPromise n b c h) ⊎ Blocked w b c h

-- once blocked, always
still_none : (w : Setup) (n b c : ℕ) (e : Event) (h : List Event) → Allowed w e h → b ≤ promised n h → NoSuchPromise n b c h → NoSuchPromise n b c (e ∷ h)
still_none w n b c e h may past none a s (inr was) = none a s was
still_none w n b c (Promised m x a' c' s') h may past none a s (inl is) =
    let above : promised n h < x = rw is.0 at may.above in
    let same = is.1 in
    omega arith
still_none w n b c _ h may past none a s (inl is) = elim is [ ]

still : (w : Setup) (b c : ℕ) (e : Event) (h : List Event) → Allowed w e h → Blocked w b c h → Blocked w b c (e ∷ h)
still w b c e h may k = record {
  quorum = k.quorum;
  big = k.big;
  past = λ n is. le_trans (k.past n is) (rises w n e h may);
  none = λ n is. still_none w n b c e h may (k.past n is) (k.none n is);
}

-- the first promise of b that has the commit c finds c chosen, by a quorum that is past b
first : (w : Setup) (b c : ℕ) (e : Event) (h : List Event) → b ≤ c → 0 < b → Lawful w h → Allowed w e h → ((n : ℕ) → NoSuchPromise n b c h) → Guarded w b c (e ∷ h)
first w b c (Promised m x a' c' s') h le pos ok may none = go (same_or_not c' c)
  where
    go : (c' ≡ c) ⊎ (c' ≢ c) → Guarded w b c (Promised m x a' c' s' ∷ h)
    go (inr other) = inl (λ n a s is. elim is [ inl now ↦ other now.3 | inr was ↦ none n a s was ])
    go (inl same) =
        elim (commit_chosen w m h ok) [
          | inl z ↦ (let e : c' ≡ commit m h = may.commits in absurd (omega arith))
          | inr is ↦ (
              let e : commit m h ≡ c = sym may.commits ∙ same in
              let chosen : Chosen w c h = subst (λ v. Chosen w v h) e is in
              let past : (n : ℕ) → chosen.0 n ≡ true → b ≤ promised n h = λ n there. le_trans le (accepted_below w n c h ok (chosen.2 n there)) in
              inr (record {
                quorum = chosen.0;
                big = chosen.1;
                past = λ n there. le_trans (past n there) (rises w n (Promised m x a' c' s') h may);
                none = λ n there. still_none w n b c (Promised m x a' c' s') h may (past n there) (none n);
              }))
        ]
first w b c e h le pos ok may none = inl (λ n a s is. elim is [ inl now ↦ other e now | inr was ↦ none n a s was ])
  where
    other : (e : Event) → ⊥ → ⊥
    other e x = x

guarded : (w : Setup) (b c : ℕ) (h : List Event) → b ≤ c → 0 < b → Lawful w h → Guarded w b c h
guarded w b c [] le pos ok = inl (λ n a s is. is)
guarded w b c (e ∷ h) le pos ok = elim (guarded w b c h le pos ok.0) [
  | inl none ↦ first w b c e h le pos ok.0 ok.1 none
  | inr k ↦ inr (still w b c e h ok.1 k)
]

-- a proposal that is new rests on a commit below it
pub base_below : (w : Setup) (b c : ℕ) (r : ReqId) (y : Result) (h : List Event) → Lawful w h → MayPropose w h b c r y → c < b
base_below w b c r y h ok may = elim (dec) [ inl lt ↦ lt | inr le ↦ absurd (go le (guarded w b c h le may.positive ok)) ]
  where
    dec : (c < b) ⊎ (b ≤ c)
    dec = grind arith

    go : b ≤ c → Guarded w b c h → ⊥
    go le (inl none) = let n = quorums_meet w may.quorum may.quorum may.big may.big in let p = may.promises n.0 n.1 in none n.0 p.0 p.1 p.2
    go le (inr k) = let n = quorums_meet w may.quorum k.quorum may.big k.big in let p = may.promises n.0 n.1 in k.none n.0 n.2 p.0 p.1 p.2
