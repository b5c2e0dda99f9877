-- What is read is a word, and a word is read.
use Rattle.std.proofs.Common.{◌≡◌, ℕ, ◌≤◌, cond, eqb, ltb, leb, inl, inr, List, [], ◌∷◌, length, None, Ok, Err, refl, sym, ap, subst, ◌∙◌, arith}
use Rattle.std.specs.Prelude.{◌&&◌}
use Rattle.std.proofs.lemmas.Bool.{eqb-true, ltb-false, le-ltb}
use Rattle.changes.specs.declared.Change.{Change}
use Rattle.changes.specs.declared.Mutation.{Mutation}
use Rattle.changes.specs.declared.Partition.{Partition}
use Rattle.stored_fields.specs.declared.fault.Fault.TheVariants.{Tag, Order}
use Rattle.stored_fields.specs.Fields.{IsU8, IsU32, IsU64, IsOptional, AreWords}
use Rattle.stored_fields.specs.Reading.{◌>>=◌, Read, u8_at, u32_at, u64_at, i64_at, node_at, request_at, optional_at}
use Rattle.stored_fields.proofs.Words.{bind_ok, guard_ok, chosen, ok_is, Agrees, u8_agrees, u32_agrees, u64_agrees, i64_agrees, node_agrees, request_agrees, optional_agrees}
use Rattle.stored_fields.proofs.Lists.{AgreesBehind, items_words, items_read}
use Rattle.stored_changes.specs.Reading.{change_at, changes_at, partition_at, mutation_at}
use Rattle.stored_changes.proofs.Words.{change_agrees, changes_agree, partition_agrees, mutation_agrees}
use Rattle.row_change.specs.declared.entry.Stamped.{Stamped}
use Rattle.row_change.specs.declared.entry.PaxosRow.{PaxosRow}
use Rattle.row_change.specs.declared.entry.Hint.{Hint}
use Rattle.row_change.specs.declared.entry.Mark as mark
use Rattle.row_change.specs.declared.entry.LogEntry.{LogEntry}
use Rattle.row_change.specs.declared.entry.LogItem.{LogItem}
use Rattle.row_change.specs.declared.entry.LogItem.TheVariants.{Data, Paxos, HintAdd, HintGone, Ceiling, Mark, Purge}
use Rattle.row_change.specs.Grammar.{IsStamped, AreSeven, IsPaxosRow, IsHint, IsMark, kind_of, AreItemFields, IsItem, IsEntry}
use Rattle.row_change.specs.Reading.{stamped_at, seven_at, row_at, hint_at, mark_at, data_item_at, paxos_item_at, hint_item_at, gone_item_at, ceiling_item_at, mark_item_at, purge_item_at, item_fields_of, kind_in, item_at, counted_items_at, entry_at}
use Rattle.row_change.proofs.Order.{Follows, by_kind_from_following, following_from_by_kind}

-- ---- rows of an acceptor

stamped_word : (bytes : List ℕ) (x : Stamped × List ℕ) → stamped_at bytes ≡ Ok x → IsStamped bytes x.0 x.1
unfolding stamped_at
stamped_word bytes x e =
    let a = bind_ok (u64_at bytes) (λ ballot. request_at ballot.1 >>= λ request. u64_at request.1 >>= λ base. changes_at base.1 >>= λ changes.
    Ok (record { ballot = ballot.0; update = record { request = request.0; base = base.0; changes = changes.0 } }, changes.1)) x e in
    let b = bind_ok (request_at a.0.1) (λ request. u64_at request.1 >>= λ base. changes_at base.1 >>= λ changes.
    Ok (record { ballot = a.0.0; update = record { request = request.0; base = base.0; changes = changes.0 } }, changes.1)) x a.2 in
    let d = bind_ok (u64_at b.0.1) (λ base. changes_at base.1 >>= λ changes.
    Ok (record { ballot = a.0.0; update = record { request = b.0.0; base = base.0; changes = changes.0 } }, changes.1)) x b.2 in
    let f = bind_ok (changes_at d.0.1) (λ changes.
    Ok (record { ballot = a.0.0; update = record { request = b.0.0; base = d.0.0; changes = changes.0 } }, changes.1)) x d.2 in
    let made : Stamped × List ℕ = (record { ballot = a.0.0; update = record { request = b.0.0; base = d.0.0; changes = f.0.0 } }, f.0.1) in
    subst (λ (q : Stamped × List ℕ). IsStamped bytes q.0 q.1) {x = made} (ok_is made x f.2)
    (record {
      behind_ballot = a.0.1;
      behind_request = b.0.1;
      behind_base = d.0.1;
      ballot = u64_agrees.is_word bytes a.0 a.1;
      request = request_agrees.is_word a.0.1 b.0 b.1;
      base = u64_agrees.is_word b.0.1 d.0 d.1;
      changes = changes_agree.is_word d.0.1 f.0 f.1;
    })

stamped_read : (bytes : List ℕ) (s : Stamped) (rest : List ℕ) → IsStamped bytes s rest → stamped_at bytes ≡ Ok (s, rest)
unfolding stamped_at
stamped_read bytes s rest word =
    rw (
      u64_agrees.is_read bytes s.ballot word.behind_ballot word.ballot,
      request_agrees.is_read word.behind_ballot s.update.request word.behind_request word.request,
      u64_agrees.is_read word.behind_request s.update.base word.behind_base word.base,
      changes_agree.is_read word.behind_base s.update.changes rest word.changes,
    ) refl

pub stamped_agrees : Agrees stamped_at IsStamped
stamped_agrees = record { is_word = stamped_word; is_read = stamped_read }

pub stamp_agrees : Agrees (optional_at stamped_at) (IsOptional IsStamped)
stamp_agrees = optional_agrees stamped_at IsStamped stamped_agrees

seven_word : (bytes : List ℕ) (x : List ℕ × List ℕ) → seven_at bytes ≡ Ok x → AreSeven bytes x.0 x.1
unfolding seven_at
seven_word bytes x e =
    let a = bind_ok (u64_at bytes) (λ a. u64_at a.1 >>= λ b. u64_at b.1 >>= λ c. u64_at c.1 >>= λ d. u64_at d.1 >>= λ e. u64_at e.1 >>= λ f. u64_at f.1 >>= λ g.
    Ok (a.0 ∷ b.0 ∷ c.0 ∷ d.0 ∷ e.0 ∷ f.0 ∷ g.0 ∷ [], g.1)) x e in
    let b = bind_ok (u64_at a.0.1) (λ b. u64_at b.1 >>= λ c. u64_at c.1 >>= λ d. u64_at d.1 >>= λ e. u64_at e.1 >>= λ f. u64_at f.1 >>= λ g.
    Ok (a.0.0 ∷ b.0 ∷ c.0 ∷ d.0 ∷ e.0 ∷ f.0 ∷ g.0 ∷ [], g.1)) x a.2 in
    let c = bind_ok (u64_at b.0.1) (λ c. u64_at c.1 >>= λ d. u64_at d.1 >>= λ e. u64_at e.1 >>= λ f. u64_at f.1 >>= λ g.
    Ok (a.0.0 ∷ b.0.0 ∷ c.0 ∷ d.0 ∷ e.0 ∷ f.0 ∷ g.0 ∷ [], g.1)) x b.2 in
    let d = bind_ok (u64_at c.0.1) (λ d. u64_at d.1 >>= λ e. u64_at e.1 >>= λ f. u64_at f.1 >>= λ g.
    Ok (a.0.0 ∷ b.0.0 ∷ c.0.0 ∷ d.0 ∷ e.0 ∷ f.0 ∷ g.0 ∷ [], g.1)) x c.2 in
    let h = bind_ok (u64_at d.0.1) (λ e. u64_at e.1 >>= λ f. u64_at f.1 >>= λ g.
    Ok (a.0.0 ∷ b.0.0 ∷ c.0.0 ∷ d.0.0 ∷ e.0 ∷ f.0 ∷ g.0 ∷ [], g.1)) x d.2 in
    let f = bind_ok (u64_at h.0.1) (λ f. u64_at f.1 >>= λ g.
    Ok (a.0.0 ∷ b.0.0 ∷ c.0.0 ∷ d.0.0 ∷ h.0.0 ∷ f.0 ∷ g.0 ∷ [], g.1)) x h.2 in
    let g = bind_ok (u64_at f.0.1) (λ g.
    Ok (a.0.0 ∷ b.0.0 ∷ c.0.0 ∷ d.0.0 ∷ h.0.0 ∷ f.0.0 ∷ g.0 ∷ [], g.1)) x f.2 in
    let made : List ℕ × List ℕ = (a.0.0 ∷ b.0.0 ∷ c.0.0 ∷ d.0.0 ∷ h.0.0 ∷ f.0.0 ∷ g.0.0 ∷ [], g.0.1) in
    subst (λ (q : List ℕ × List ℕ). AreSeven bytes q.0 q.1) {x = made} (ok_is made x g.2)
    (record {
      count = refl {a = 7};
      numbers = (
        a.0.1,
        u64_agrees.is_word bytes a.0 a.1,
        (
          b.0.1,
          u64_agrees.is_word a.0.1 b.0 b.1,
          (
            c.0.1,
            u64_agrees.is_word b.0.1 c.0 c.1,
            (
              d.0.1,
              u64_agrees.is_word c.0.1 d.0 d.1,
              (h.0.1, u64_agrees.is_word d.0.1 h.0 h.1, (f.0.1, u64_agrees.is_word h.0.1 f.0 f.1, (g.0.1, u64_agrees.is_word f.0.1 g.0 g.1, refl {a = g.0.1}))),
            ),
          ),
        ),
      );
    })

-- of a list that has seven
seven_read_of : (bytes : List ℕ) (a b c d e f g : ℕ) (rest : List ℕ) → AreWords IsU64 bytes (a ∷ b ∷ c ∷ d ∷ e ∷ f ∷ g ∷ []) rest
    → seven_at bytes ≡ Ok (a ∷ b ∷ c ∷ d ∷ e ∷ f ∷ g ∷ [], rest)
unfolding seven_at
seven_read_of bytes a b c d e f g rest word =
    let w2 = word.2 in
    let w3 = w2.2 in
    let w4 = w3.2 in
    let w5 = w4.2 in
    let w6 = w5.2 in
    let w7 = w6.2 in
    rw (
      u64_agrees.is_read bytes a word.0 word.1,
      u64_agrees.is_read word.0 b w2.0 w2.1,
      u64_agrees.is_read w2.0 c w3.0 w3.1,
      u64_agrees.is_read w3.0 d w4.0 w4.1,
      u64_agrees.is_read w4.0 e w5.0 w5.1,
      u64_agrees.is_read w5.0 f w6.0 w6.1,
      u64_agrees.is_read w6.0 g w7.0 w7.1,
    )
    (ap (λ (r : List ℕ). Ok (a ∷ b ∷ c ∷ d ∷ e ∷ f ∷ g ∷ [], r)) w7.2)

seven_read : (bytes : List ℕ) (ns : List ℕ) (rest : List ℕ) → AreSeven bytes ns rest → seven_at bytes ≡ Ok (ns, rest)
seven_read bytes (a ∷ b ∷ c ∷ d ∷ e ∷ f ∷ g ∷ []) rest word = seven_read_of bytes a b c d e f g rest word.numbers
seven_read bytes [] rest word = let n = word.count in absurd (omega arith)
seven_read bytes (a ∷ []) rest word = let n = word.count in absurd (omega arith)
seven_read bytes (a ∷ b ∷ []) rest word = let n = word.count in absurd (omega arith)
seven_read bytes (a ∷ b ∷ c ∷ []) rest word = let n = word.count in absurd (omega arith)
seven_read bytes (a ∷ b ∷ c ∷ d ∷ []) rest word = let n = word.count in absurd (omega arith)
seven_read bytes (a ∷ b ∷ c ∷ d ∷ e ∷ []) rest word = let n = word.count in absurd (omega arith)
seven_read bytes (a ∷ b ∷ c ∷ d ∷ e ∷ f ∷ []) rest word = let n = word.count in absurd (omega arith)
seven_read bytes (a ∷ b ∷ c ∷ d ∷ e ∷ f ∷ g ∷ h ∷ more) rest word = let n = word.count in absurd (omega arith)

pub seven_agree : Agrees seven_at AreSeven
seven_agree = record { is_word = seven_word; is_read = seven_read }

row_word : (bytes : List ℕ) (x : PaxosRow × List ℕ) → row_at bytes ≡ Ok x → IsPaxosRow bytes x.0 x.1
unfolding row_at
row_word bytes x e =
    let a = bind_ok (u64_at bytes) (λ promised. seven_at promised.1 >>= λ took. optional_at stamped_at took.1 >>= λ accepted. optional_at stamped_at accepted.1 >>= λ commit.
    Ok (record { promised = promised.0; took = took.0; accepted = accepted.0; commit = commit.0 }, commit.1)) x e in
    let b = bind_ok (seven_at a.0.1) (λ took. optional_at stamped_at took.1 >>= λ accepted. optional_at stamped_at accepted.1 >>= λ commit.
    Ok (record { promised = a.0.0; took = took.0; accepted = accepted.0; commit = commit.0 }, commit.1)) x a.2 in
    let d = bind_ok (optional_at stamped_at b.0.1) (λ accepted. optional_at stamped_at accepted.1 >>= λ commit.
    Ok (record { promised = a.0.0; took = b.0.0; accepted = accepted.0; commit = commit.0 }, commit.1)) x b.2 in
    let f = bind_ok (optional_at stamped_at d.0.1) (λ commit.
    Ok (record { promised = a.0.0; took = b.0.0; accepted = d.0.0; commit = commit.0 }, commit.1)) x d.2 in
    let made : PaxosRow × List ℕ = (record { promised = a.0.0; took = b.0.0; accepted = d.0.0; commit = f.0.0 }, f.0.1) in
    subst (λ (q : PaxosRow × List ℕ). IsPaxosRow bytes q.0 q.1) {x = made} (ok_is made x f.2)
    (record {
      behind_promised = a.0.1;
      behind_took = b.0.1;
      behind_accepted = d.0.1;
      promised = u64_agrees.is_word bytes a.0 a.1;
      took = seven_word a.0.1 b.0 b.1;
      accepted = stamp_agrees.is_word b.0.1 d.0 d.1;
      commit = stamp_agrees.is_word d.0.1 f.0 f.1;
    })

row_read : (bytes : List ℕ) (r : PaxosRow) (rest : List ℕ) → IsPaxosRow bytes r rest → row_at bytes ≡ Ok (r, rest)
unfolding row_at
row_read bytes r rest word =
    rw (
      u64_agrees.is_read bytes r.promised word.behind_promised word.promised,
      seven_read word.behind_promised r.took word.behind_took word.took,
      stamp_agrees.is_read word.behind_took r.accepted word.behind_accepted word.accepted,
      stamp_agrees.is_read word.behind_accepted r.commit rest word.commit,
    ) refl

pub row_agrees : Agrees row_at IsPaxosRow
row_agrees = record { is_word = row_word; is_read = row_read }

-- ---- hints and marks

hint_word : (bytes : List ℕ) (x : Hint × List ℕ) → hint_at bytes ≡ Ok x → IsHint bytes x.0 x.1
unfolding hint_at
hint_word bytes x e =
    let a = bind_ok (node_at bytes) (λ peer. u64_at peer.1 >>= λ number. u64_at number.1 >>= λ born. mutation_at born.1 >>= λ mutation.
    Ok (record { peer = peer.0; number = number.0; born = born.0; mutation = mutation.0 }, mutation.1)) x e in
    let b = bind_ok (u64_at a.0.1) (λ number. u64_at number.1 >>= λ born. mutation_at born.1 >>= λ mutation.
    Ok (record { peer = a.0.0; number = number.0; born = born.0; mutation = mutation.0 }, mutation.1)) x a.2 in
    let d = bind_ok (u64_at b.0.1) (λ born. mutation_at born.1 >>= λ mutation.
    Ok (record { peer = a.0.0; number = b.0.0; born = born.0; mutation = mutation.0 }, mutation.1)) x b.2 in
    let f = bind_ok (mutation_at d.0.1) (λ mutation.
    Ok (record { peer = a.0.0; number = b.0.0; born = d.0.0; mutation = mutation.0 }, mutation.1)) x d.2 in
    let made : Hint × List ℕ = (record { peer = a.0.0; number = b.0.0; born = d.0.0; mutation = f.0.0 }, f.0.1) in
    subst (λ (q : Hint × List ℕ). IsHint bytes q.0 q.1) {x = made} (ok_is made x f.2)
    (record {
      behind_peer = a.0.1;
      behind_number = b.0.1;
      behind_born = d.0.1;
      peer = node_agrees.is_word bytes a.0 a.1;
      number = u64_agrees.is_word a.0.1 b.0 b.1;
      born = u64_agrees.is_word b.0.1 d.0 d.1;
      mutation = mutation_agrees.is_word d.0.1 f.0 f.1;
    })

hint_read : (bytes : List ℕ) (h : Hint) (rest : List ℕ) → IsHint bytes h rest → hint_at bytes ≡ Ok (h, rest)
unfolding hint_at
hint_read bytes h rest word =
    rw (
      node_agrees.is_read bytes h.peer word.behind_peer word.peer,
      u64_agrees.is_read word.behind_peer h.number word.behind_number word.number,
      u64_agrees.is_read word.behind_number h.born word.behind_born word.born,
      mutation_agrees.is_read word.behind_born h.mutation rest word.mutation,
    ) refl

mark_word : (bytes : List ℕ) (x : mark.Mark × List ℕ) → mark_at bytes ≡ Ok x → IsMark bytes x.0 x.1
unfolding mark_at
mark_word bytes x e =
    let a = bind_ok (i64_at bytes) (λ after. i64_at after.1 >>= λ upto. u64_at upto.1 >>= λ snapshot. u64_at snapshot.1 >>= λ sent.
    Ok (record { range = record { after = after.0; upto = upto.0 }; snapshot = snapshot.0; sent = sent.0 }, sent.1)) x e in
    let b = bind_ok (i64_at a.0.1) (λ upto. u64_at upto.1 >>= λ snapshot. u64_at snapshot.1 >>= λ sent.
    Ok (record { range = record { after = a.0.0; upto = upto.0 }; snapshot = snapshot.0; sent = sent.0 }, sent.1)) x a.2 in
    let d = bind_ok (u64_at b.0.1) (λ snapshot. u64_at snapshot.1 >>= λ sent.
    Ok (record { range = record { after = a.0.0; upto = b.0.0 }; snapshot = snapshot.0; sent = sent.0 }, sent.1)) x b.2 in
    let f = bind_ok (u64_at d.0.1) (λ sent.
    Ok (record { range = record { after = a.0.0; upto = b.0.0 }; snapshot = d.0.0; sent = sent.0 }, sent.1)) x d.2 in
    let made : mark.Mark × List ℕ = (record { range = record { after = a.0.0; upto = b.0.0 }; snapshot = d.0.0; sent = f.0.0 }, f.0.1) in
    subst (λ (q : mark.Mark × List ℕ). IsMark bytes q.0 q.1) {x = made} (ok_is made x f.2)
    (record {
      behind_after = a.0.1;
      behind_upto = b.0.1;
      behind_snapshot = d.0.1;
      after = i64_agrees.is_word bytes a.0 a.1;
      upto = i64_agrees.is_word a.0.1 b.0 b.1;
      snapshot = u64_agrees.is_word b.0.1 d.0 d.1;
      sent = u64_agrees.is_word d.0.1 f.0 f.1;
    })

mark_read : (bytes : List ℕ) (m : mark.Mark) (rest : List ℕ) → IsMark bytes m rest → mark_at bytes ≡ Ok (m, rest)
unfolding mark_at
mark_read bytes m rest word =
    rw (
      i64_agrees.is_read bytes m.range.after word.behind_after word.after,
      i64_agrees.is_read word.behind_after m.range.upto word.behind_upto word.upto,
      u64_agrees.is_read word.behind_upto m.snapshot word.behind_snapshot word.snapshot,
      u64_agrees.is_read word.behind_snapshot m.sent rest word.sent,
    ) refl

-- ---- items

-- the fields of an item of this kind
abbrev IsKind : ℕ → List ℕ → LogItem × List ℕ → Type 0
IsKind kind bytes x = (kind_of x.0 ≡ kind) × AreItemFields bytes x.0 x.1

data_word : (bytes : List ℕ) (x : LogItem × List ℕ) → data_item_at bytes ≡ Ok x → IsKind 1 bytes x
unfolding data_item_at
data_word bytes x e =
    let a = bind_ok (u64_at bytes) (λ arrival. mutation_at arrival.1 >>= λ mutation. Ok (Data arrival.0 mutation.0, mutation.1)) x e in
    let b = bind_ok (mutation_at a.0.1) (λ mutation. Ok (Data a.0.0 mutation.0, mutation.1)) x a.2 in
    let made : LogItem × List ℕ = (Data a.0.0 b.0.0, b.0.1) in
    subst (IsKind 1 bytes) {x = made} (ok_is made x b.2) (refl, (a.0.1, u64_agrees.is_word bytes a.0 a.1, mutation_agrees.is_word a.0.1 b.0 b.1))

paxos_word : (bytes : List ℕ) (x : LogItem × List ℕ) → paxos_item_at bytes ≡ Ok x → IsKind 2 bytes x
unfolding paxos_item_at
paxos_word bytes x e =
    let a = bind_ok (partition_at bytes) (λ partition. row_at partition.1 >>= λ row. Ok (Paxos partition.0 row.0, row.1)) x e in
    let b = bind_ok (row_at a.0.1) (λ row. Ok (Paxos a.0.0 row.0, row.1)) x a.2 in
    let made : LogItem × List ℕ = (Paxos a.0.0 b.0.0, b.0.1) in
    subst (IsKind 2 bytes) {x = made} (ok_is made x b.2) (refl, (a.0.1, partition_agrees.is_word bytes a.0 a.1, row_word a.0.1 b.0 b.1))

hint_item_word : (bytes : List ℕ) (x : LogItem × List ℕ) → hint_item_at bytes ≡ Ok x → IsKind 3 bytes x
hint_item_word bytes x e =
    let a = bind_ok (hint_at bytes) (λ hint. Ok (HintAdd hint.0, hint.1)) x e in
    let made : LogItem × List ℕ = (HintAdd a.0.0, a.0.1) in
    subst (IsKind 3 bytes) {x = made} (ok_is made x a.2) (refl, hint_word bytes a.0 a.1)

gone_word : (bytes : List ℕ) (x : LogItem × List ℕ) → gone_item_at bytes ≡ Ok x → IsKind 4 bytes x
unfolding gone_item_at
gone_word bytes x e =
    let a = bind_ok (node_at bytes) (λ peer. u64_at peer.1 >>= λ number. Ok (HintGone peer.0 number.0, number.1)) x e in
    let b = bind_ok (u64_at a.0.1) (λ number. Ok (HintGone a.0.0 number.0, number.1)) x a.2 in
    let made : LogItem × List ℕ = (HintGone a.0.0 b.0.0, b.0.1) in
    subst (IsKind 4 bytes) {x = made} (ok_is made x b.2) (refl, (a.0.1, node_agrees.is_word bytes a.0 a.1, u64_agrees.is_word a.0.1 b.0 b.1))

ceiling_word : (bytes : List ℕ) (x : LogItem × List ℕ) → ceiling_item_at bytes ≡ Ok x → IsKind 5 bytes x
ceiling_word bytes x e =
    let a = bind_ok (u64_at bytes) (λ time. Ok (Ceiling time.0, time.1)) x e in
    let made : LogItem × List ℕ = (Ceiling a.0.0, a.0.1) in
    subst (IsKind 5 bytes) {x = made} (ok_is made x a.2) (refl, u64_agrees.is_word bytes a.0 a.1)

mark_item_word : (bytes : List ℕ) (x : LogItem × List ℕ) → mark_item_at bytes ≡ Ok x → IsKind 6 bytes x
mark_item_word bytes x e =
    let a = bind_ok (mark_at bytes) (λ m. Ok (Mark m.0, m.1)) x e in
    let made : LogItem × List ℕ = (Mark a.0.0, a.0.1) in
    subst (IsKind 6 bytes) {x = made} (ok_is made x a.2) (refl, mark_word bytes a.0 a.1)

purge_word : (bytes : List ℕ) (x : LogItem × List ℕ) → purge_item_at bytes ≡ Ok x → IsKind 7 bytes x
unfolding purge_item_at
purge_word bytes x e =
    let a = bind_ok (partition_at bytes) (λ partition. change_at None partition.1 >>= λ held. Ok (Purge (record { partition = partition.0; held = held.0 }), held.1)) x e in
    let b = bind_ok (change_at None a.0.1) (λ held. Ok (Purge (record { partition = a.0.0; held = held.0 }), held.1)) x a.2 in
    let made : LogItem × List ℕ = (Purge (record { partition = a.0.0; held = b.0.0 }), b.0.1) in
    subst (IsKind 7 bytes) {x = made} (ok_is made x b.2) (refl, (a.0.1, partition_agrees.is_word bytes a.0 a.1, change_agrees.is_word a.0.1 b.0 b.1))

-- one test of the kind
tested : (bytes : List ℕ) (x : LogItem × List ℕ) (kind k : ℕ) (read others : Read LogItem) → (read ≡ Ok x → IsKind k bytes x) → (others ≡ Ok x → IsKind kind bytes x)
    → cond (eqb kind k) read others ≡ Ok x → IsKind kind bytes x
tested bytes x kind k read others here next e = elim (chosen (eqb kind k) read others (Ok x) e) [
  | inl h ↦ subst (λ (t : ℕ). IsKind t bytes x) (sym (eqb-true kind k h.0)) (here h.1)
  | inr h ↦ next h.1
]

fields_word : (left kind : ℕ) (bytes : List ℕ) (x : LogItem × List ℕ) → item_fields_of left kind bytes ≡ Ok x → IsKind kind bytes x
fields_word left kind bytes x e =
    tested bytes x kind 1 _ _ (data_word bytes x) (λ e. tested bytes x kind 2 _ _ (paxos_word bytes x) (λ e. tested bytes x kind 3 _ _ (hint_item_word bytes x)
    (λ e. tested bytes x kind 4 _ _ (gone_word bytes x) (λ e. tested bytes x kind 5 _ _ (ceiling_word bytes x) (λ e. tested bytes x kind 6 _ _ (mark_item_word bytes x)
    (λ e. tested bytes x kind 7 _ _ (purge_word bytes x) (λ e. absurd cc) e) e) e) e) e) e) e

kind_in_ok : (before left byte kind : ℕ) → kind_in before left byte ≡ Ok kind → (byte ≡ kind) × (before ≤ kind)
kind_in_ok before left byte kind e =
    elim (chosen (leb 1 byte && leb byte 7) (cond (ltb byte before) (Err (Order left)) (Ok byte)) (Err (Tag left)) (Ok kind) e) [
      | inl h ↦
          let g = guard_ok (ltb byte before) (Order left) byte kind h.1 in
          (g.1, subst (λ (n : ℕ). before ≤ n) g.1 (ltb-false byte before g.0))
      | inr h ↦ absurd (cc h.1)
    ]

item_word : (before : ℕ) (bytes : List ℕ) (x : LogItem × List ℕ) → item_at before bytes ≡ Ok x → IsItem bytes x.0 x.1 × Follows before x.0
unfolding item_at
item_word before bytes x e =
    let a = bind_ok (u8_at bytes) (λ byte. kind_in before (length bytes) byte.0 >>= λ kind. item_fields_of (length bytes) kind byte.1) x e in
    let b = bind_ok (kind_in before (length bytes) a.0.0) (λ kind. item_fields_of (length bytes) kind a.0.1) x a.2 in
    let k = kind_in_ok before (length bytes) a.0.0 b.0 b.1 in
    let p = fields_word (length bytes) b.0 a.0.1 x b.2 in
    ((a.0.1, subst (λ (t : ℕ). IsU8 bytes t a.0.1) (k.0 ∙ sym p.0) (u8_agrees.is_word bytes a.0 a.1), p.1), subst (λ (n : ℕ). before ≤ n) (sym p.0) k.1)

data_read : (bytes : List ℕ) (arrival : ℕ) (m : Mutation) (rest : List ℕ) → AreItemFields bytes (Data arrival m) rest → data_item_at bytes ≡ Ok (Data arrival m, rest)
unfolding data_item_at
data_read bytes arrival m rest word = rw (u64_agrees.is_read bytes arrival word.0 word.1, mutation_agrees.is_read word.0 m rest word.2) refl

paxos_read : (bytes : List ℕ) (p : Partition) (r : PaxosRow) (rest : List ℕ) → AreItemFields bytes (Paxos p r) rest → paxos_item_at bytes ≡ Ok (Paxos p r, rest)
unfolding paxos_item_at
paxos_read bytes p r rest word = rw (partition_agrees.is_read bytes p word.0 word.1, row_read word.0 r rest word.2) refl

gone_read : (bytes : List ℕ) (peer number : ℕ) (rest : List ℕ) → AreItemFields bytes (HintGone peer number) rest → gone_item_at bytes ≡ Ok (HintGone peer number, rest)
unfolding gone_item_at
gone_read bytes peer number rest word = rw (node_agrees.is_read bytes peer word.0 word.1, u64_agrees.is_read word.0 number rest word.2) refl

purge_read : (bytes : List ℕ) (c : Change) (rest : List ℕ) → AreItemFields bytes (Purge c) rest → purge_item_at bytes ≡ Ok (Purge c, rest)
unfolding purge_item_at
purge_read bytes c rest word = rw (partition_agrees.is_read bytes c.partition word.0 word.1, change_agrees.is_read word.0 c.held rest word.2) refl

fields_read : (left : ℕ) (bytes : List ℕ) (i : LogItem) (rest : List ℕ) → AreItemFields bytes i rest → item_fields_of left (kind_of i) bytes ≡ Ok (i, rest)
fields_read left bytes (Data arrival m) rest word = data_read bytes arrival m rest word
fields_read left bytes (Paxos p r) rest word = paxos_read bytes p r rest word
fields_read left bytes (HintAdd h) rest word = rw (hint_read bytes h rest word) refl
fields_read left bytes (HintGone peer number) rest word = gone_read bytes peer number rest word
fields_read left bytes (Ceiling time) rest word = rw (u64_agrees.is_read bytes time rest word) refl
fields_read left bytes (Mark m) rest word = rw (mark_read bytes m rest word) refl
fields_read left bytes (Purge c) rest word = purge_read bytes c rest word

kind_known : (before left : ℕ) (i : LogItem) → before ≤ kind_of i → kind_in before left (kind_of i) ≡ Ok (kind_of i)
kind_known before left (Data arrival m) le = rw (le-ltb _ _ le) refl
kind_known before left (Paxos p r) le = rw (le-ltb _ _ le) refl
kind_known before left (HintAdd h) le = rw (le-ltb _ _ le) refl
kind_known before left (HintGone peer number) le = rw (le-ltb _ _ le) refl
kind_known before left (Ceiling time) le = rw (le-ltb _ _ le) refl
kind_known before left (Mark m) le = rw (le-ltb _ _ le) refl
kind_known before left (Purge c) le = rw (le-ltb _ _ le) refl

item_read : (before : ℕ) (bytes : List ℕ) (i : LogItem) (rest : List ℕ) → IsItem bytes i rest → Follows before i → item_at before bytes ≡ Ok (i, rest)
unfolding item_at
item_read before bytes i rest word le =
    rw (u8_agrees.is_read bytes (kind_of i) word.0 word.1, kind_known before (length bytes) i le) (fields_read (length bytes) word.0 i rest word.2)

item_agrees_behind : AgreesBehind item_at IsItem Follows
item_agrees_behind = record { is_word = item_word; is_read = item_read }

-- ---- entries

entry_word : (bytes : List ℕ) (x : LogEntry × List ℕ) → entry_at bytes ≡ Ok x → IsEntry bytes x.0 x.1
unfolding entry_at
entry_word bytes x e =
    let a = bind_ok (u32_at bytes) (λ count. counted_items_at count.0 count.1 >>= λ items. Ok (record { items = items.0 }, items.1)) x e in
    let b = bind_ok (counted_items_at a.0.0 a.0.1) (λ items. Ok (record { items = items.0 }, items.1)) x a.2 in
    let p = items_words item_at kind_of IsItem Follows item_agrees_behind a.0.0 0 a.0.1 b.0 b.1 in
    let made : LogEntry × List ℕ = (record { items = b.0.0 }, b.0.1) in
    subst (λ (q : LogEntry × List ℕ). IsEntry bytes q.0 q.1) {x = made} (ok_is made x b.2)
    (record {
      behind_count = a.0.1;
      count = subst (λ (n : ℕ). IsU32 bytes n a.0.1) p.1 (u32_agrees.is_word bytes a.0 a.1);
      items = p.0;
      order = by_kind_from_following 0 b.0.0 p.2;
    })

entry_read : (bytes : List ℕ) (e : LogEntry) (rest : List ℕ) → IsEntry bytes e rest → entry_at bytes ≡ Ok (e, rest)
unfolding entry_at
entry_read bytes e rest word =
    rw (
      u32_agrees.is_read bytes (length e.items) word.behind_count word.count,
      items_read item_at kind_of IsItem Follows item_agrees_behind 0 word.behind_count e.items rest word.items (following_from_by_kind e.items word.order),
    ) refl

pub entry_agrees : Agrees entry_at IsEntry
entry_agrees = record { is_word = entry_word; is_read = entry_read }
