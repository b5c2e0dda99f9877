-- Runs, part by part, and what a run keeps of a row.
use Rattle.std.proofs.Common.{◌≡◌, ℕ, ◌<◌, ◌≤◌, inl, inr, Bool, true, false, List, [], ◌∷◌, ◌++◌, refl, sym, subst, ◌∙◌, length, ltb-true}
use Rattle.std.specs.Prelude.{if◌then◌else◌, nat_lt}
use Rattle.std.proofs.lemmas.List.{length-set}
use Rattle.std.proofs.lemmas.Bool.{ltb-false}
use Rattle.row_change.specs.declared.entry.Update.{Update}
use Rattle.row_change.specs.declared.entry.PaxosRow.{PaxosRow}
use Rattle.paxos_acceptor.specs.declared.deciding.Vote.TheVariants as vote
use Rattle.paxos_acceptor.specs.Acceptor.{ballot_of, proposer_of, row_promised, row_accepted, with_commit, row_committed}
use Rattle.paxos_acceptor.specs.Steps.{Reaction, Promised, Ahead, Accepted, Repeated, Passed, Refused, Committed, Step, Steps, Ever}
use Rattle.paxos_acceptor.proofs.Votes.{cause}

-- ---- runs

pub steps_part : (row row' : PaxosRow) (xs ys : List Reaction) → Steps row (xs ++ ys) row' → (between : PaxosRow) × Steps row xs between × Steps between ys row'
steps_part row row' [] ys s = (row, refl, s)
steps_part row row' (x ∷ xs) ys s =
    let rest = steps_part s.0 row' xs ys s.2 in
    (rest.0, (s.0, s.1, rest.1), rest.2)

pub steps_join : (row between row' : PaxosRow) (xs ys : List Reaction) → Steps row xs between → Steps between ys row' → Steps row (xs ++ ys) row'
steps_join row between row' [] ys s t = subst (λ (z : PaxosRow). Steps z ys row') s t
steps_join row between row' (x ∷ xs) ys s t = (s.0, s.1, steps_join s.0 between row' xs ys s.2 t)

pub ever_left : (P : Reaction → Type 0) (xs ys : List Reaction) → Ever P xs → Ever P (xs ++ ys)
ever_left P [] ys e = elim e [ ]
ever_left P (x ∷ xs) ys (inl p) = inl p
ever_left P (x ∷ xs) ys (inr e) = inr (ever_left P xs ys e)

pub ever_right : (P : Reaction → Type 0) (xs ys : List Reaction) → Ever P ys → Ever P (xs ++ ys)
ever_right P [] ys e = e
ever_right P (x ∷ xs) ys e = inr (ever_right P xs ys e)

-- ---- what each step keeps

-- a property that each step keeps
abbrev pub Keeps : (PaxosRow → Type 0) → Type 0
Keeps P = (row row' : PaxosRow) (r : Reaction) → Step row r row' → P row → P row'

pub run_keeps : (P : PaxosRow → Type 0) → Keeps P → (row row' : PaxosRow) (rs : List Reaction) → Steps row rs row' → P row → P row'
run_keeps P keeps row row' [] s p = subst P (sym s) p
run_keeps P keeps row row' (r ∷ rs) s p = run_keeps P keeps s.0 row' rs s.2 (keeps row s.0 r s.1 p)

-- what holds behind such a step holds behind the run; Q holds all along
pub run_makes : (Q P : PaxosRow → Type 0) (R : Reaction → Type 0) → Keeps Q → Keeps P
    → ((row row' : PaxosRow) (r : Reaction) → Step row r row' → Q row → R r → P row')
    → (row row' : PaxosRow) (rs : List Reaction) → Steps row rs row' → Q row → Ever R rs → P row'
run_makes Q P R always keeps makes row row' [] s q e = elim e [ ]
run_makes Q P R always keeps makes row row' (r ∷ rs) s q (inl here) = run_keeps P keeps s.0 row' rs s.2 (makes row s.0 r s.1 q here)
run_makes Q P R always keeps makes row row' (r ∷ rs) s q (inr there) = run_makes Q P R always keeps makes s.0 row' rs s.2 (always row s.0 r s.1 q) there

-- the same, with nothing that holds all along
pub run_shows : (P : PaxosRow → Type 0) (R : Reaction → Type 0) → Keeps P → ((row row' : PaxosRow) (r : Reaction) → Step row r row' → R r → P row')
    → (row row' : PaxosRow) (rs : List Reaction) → Steps row rs row' → Ever R rs → P row'
run_shows P R keeps makes row row' [] s e = elim e [ ]
run_shows P R keeps makes row row' (r ∷ rs) s (inl here) = run_keeps P keeps s.0 row' rs s.2 (makes row s.0 r s.1 here)
run_shows P R keeps makes row row' (r ∷ rs) s (inr there) = run_shows P R keeps makes s.0 row' rs s.2 there

-- what tells of such a step tells so of each of them in the run
pub run_tells : (P : PaxosRow → Type 0) (R : Reaction → Type 0) (T : Type 0) → Keeps P
    → ((row row' : PaxosRow) (r : Reaction) → Step row r row' → P row → R r → T)
    → (row row' : PaxosRow) (rs : List Reaction) → Steps row rs row' → P row → Ever R rs → T
run_tells P R T keeps tells row row' [] s p e = elim e [ ]
run_tells P R T keeps tells row row' (r ∷ rs) s p (inl here) = tells row s.0 r s.1 p here
run_tells P R T keeps tells row row' (r ∷ rs) s p (inr there) = run_tells P R T keeps tells s.0 row' rs s.2 (keeps row s.0 r s.1 p) there

-- ---- the ways in which a row changes

committed_pick : (P : PaxosRow → Type 0) (row : PaxosRow) (b : ℕ) (u : Update)
    → (ballot_of row.commit < b → P (with_commit row b u)) → (b ≤ ballot_of row.commit → P row) → P (row_committed row b u)
committed_pick P row b u newer older = go (nat_lt (ballot_of row.commit) b) refl
  where
    go : (t : Bool) → nat_lt (ballot_of row.commit) b ≡ t → P (if t then with_commit row b u else row)
    go true e = newer (ltb-true (ballot_of row.commit) b e)
    go false e = older (ltb-false (ballot_of row.commit) b e)

-- a property of the row behind a commit
pub after_commit : (P : PaxosRow → Type 0) (row row' : PaxosRow) (b : ℕ) (u : Update) → Step row (Committed b u) row'
    → (ballot_of row.commit < b → P (with_commit row b u)) → (b ≤ ballot_of row.commit → P row) → P row'
after_commit P row row' b u s newer older = subst P (sym s) (committed_pick P row b u newer older)

-- a property of the row behind a step: it promised, accepted, kept a commit, or stayed as it was
pub after_step : (P : PaxosRow → Type 0) (row row' : PaxosRow) (r : Reaction) → Step row r row'
    → ((b : ℕ) → row.promised < b → P (row_promised row b))
    → ((b : ℕ) (u : Update) → proposer_of b < 7 → row.promised ≤ b → P (row_accepted row b u))
    → ((b : ℕ) (u : Update) → ballot_of row.commit < b → P (with_commit row b u))
    → P row → P row'
after_step P row row' (Promised b) s promises accepts commits stays = subst P (sym s.1) (promises b s.0)
after_step P row row' (Ahead b) s promises accepts commits stays = subst P (sym s.1) stays
after_step P row row' (Accepted b u) s promises accepts commits stays =
    let why = cause row b vote.Take s.0 in
    subst P (sym s.1) (accepts b u why.0 why.1)
after_step P row row' (Repeated b) s promises accepts commits stays = subst P (sym s.1) stays
after_step P row row' (Passed b) s promises accepts commits stays = subst P (sym s.1) stays
after_step P row row' (Refused b) s promises accepts commits stays = subst P (sym s.1) stays
after_step P row row' (Committed b u) s promises accepts commits stays = after_commit P row row' b u s (commits b u) (λ _. stays)

-- ---- the places of the proposers

pub places_stay : Keeps (λ row. length row.took ≡ 7)
places_stay row row' r s seven =
    after_step (λ z. length z.took ≡ 7) row row' r s (λ b lt. seven) (λ b u known le. length-set row.took (proposer_of b) b ∙ seven) (λ b u lt. seven) seven
