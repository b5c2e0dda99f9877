-- The spelling of a value is its word, and each word is spelled so.
use Rattle.std.proofs.Common.{◌≡◌, ℕ, ◌^◌, List, [], ◌∷◌, ◌++◌, length, Option, Some, None, refl, sym, ap, subst, ◌∙◌, append_assoc}
use Rattle.std.specs.List.{flat_map, AllByRecursion}
use Rattle.stored_fields.specs.Fields.{AreBytes, IsU64, IsOptional, AreWords}
use Rattle.stored_fields.specs.Spelling.{u8, u32, u64, i64, request, optional}
use Rattle.stored_fields.proofs.Spelled.{IsIn, IsSpelled, Spells, Optionally, behind_are_bytes, u32_spells, u64_spells, i64_spells, node_spells, request_spells, optional_spells, words_spell}
use Rattle.stored_changes.specs.Spelling.{change, changes, partition, mutation}
use Rattle.stored_changes.proofs.Spelled.{change_spells, changes_spell, partition_spells, mutation_spells}
use Rattle.row_change.specs.declared.entry.Stamped.{Stamped}
use Rattle.row_change.specs.declared.entry.PaxosRow.{PaxosRow}
use Rattle.row_change.specs.declared.entry.Hint.{Hint}
use Rattle.row_change.specs.declared.entry.Mark as mark
use Rattle.row_change.specs.declared.entry.LogEntry.{LogEntry}
use Rattle.row_change.specs.declared.entry.LogItem.{LogItem}
use Rattle.row_change.specs.declared.entry.LogItem.TheVariants.{Data, Paxos, HintAdd, HintGone, Ceiling, Mark, Purge}
use Rattle.row_change.specs.Grammar.{IsStamped, IsPaxosRow, IsHint, IsMark, kind_of, AreItemFields, IsItem, IsEntry}
use Rattle.row_change.specs.Spelling.{stamped, numbers, row, hint, mark_bytes, item_fields, item, entry, StampedFits, RowFits, ItemFits, IsWide, StampedInRange, OptionInRange, RowInRange, HintInRange, MarkInRange, ItemInRange, EntryHasWord}

abbrev four : List ℕ → List ℕ → List ℕ → List ℕ → List ℕ
four a b c d = a ++ b ++ c ++ d

regroup_four : (a b c d rest : List ℕ) → four a b c d ++ rest ≡ a ++ (b ++ (c ++ (d ++ rest)))
regroup_four a b c d rest = simp append_assoc

-- four parts, one behind another
joined : (bytes a b c d behind_a behind_b behind_c rest : List ℕ) → bytes ≡ a ++ behind_a → behind_a ≡ b ++ behind_b → behind_b ≡ c ++ behind_c → behind_c ≡ d ++ rest → bytes ≡ four a b c d ++ rest
joined bytes a b c d behind_a behind_b behind_c rest p q r s =
    p ∙ ap (λ (t : List ℕ). a ++ t) (q ∙ ap (λ (t : List ℕ). b ++ t) (r ∙ ap (λ (t : List ℕ). c ++ t) s)) ∙ sym (regroup_four a b c d rest)

-- ---- rows of an acceptor

abbrev StampedHasWord : Stamped → Type 0
StampedHasWord s = StampedFits (Some s) × StampedInRange s

stamped_word : (s : Stamped) (rest : List ℕ) → StampedHasWord s → IsStamped (stamped s ++ rest) s rest
stamped_word s rest fits =
    let word : IsStamped (u64 s.ballot ++ (request s.update.request ++ (u64 s.update.base ++ (changes s.update.changes ++ rest)))) s rest = record {
      behind_ballot = request s.update.request ++ (u64 s.update.base ++ (changes s.update.changes ++ rest));
      behind_request = u64 s.update.base ++ (changes s.update.changes ++ rest);
      behind_base = changes s.update.changes ++ rest;
      ballot = u64_spells.is_word s.ballot (request s.update.request ++ (u64 s.update.base ++ (changes s.update.changes ++ rest))) fits.1.ballot;
      request = request_spells.is_word s.update.request (u64 s.update.base ++ (changes s.update.changes ++ rest)) fits.1.request;
      base = u64_spells.is_word s.update.base (changes s.update.changes ++ rest) fits.1.base;
      changes = changes_spell.is_word s.update.changes rest (fits.0, fits.1.changes);
    } in
    subst (λ (b : List ℕ). IsStamped b s rest) (sym (regroup_four (u64 s.ballot) (request s.update.request) (u64 s.update.base) (changes s.update.changes) rest)) word

stamped_spelled : (bytes : List ℕ) (s : Stamped) (rest : List ℕ) → AreBytes bytes → IsStamped bytes s rest → IsSpelled stamped StampedHasWord bytes s rest
stamped_spelled bytes s rest are word =
    let b = u64_spells.is_spelled bytes s.ballot word.behind_ballot are word.ballot in
    let r = request_spells.is_spelled word.behind_ballot s.update.request word.behind_request b.behind word.request in
    let e = u64_spells.is_spelled word.behind_request s.update.base word.behind_base r.behind word.base in
    let c = changes_spell.is_spelled word.behind_base s.update.changes rest e.behind word.changes in
    record {
      parts = joined bytes (u64 s.ballot) (request s.update.request) (u64 s.update.base) (changes s.update.changes) word.behind_ballot word.behind_request word.behind_base rest b.parts r.parts e.parts c.parts;
      fits = (c.fits.0, record { ballot = b.fits; request = r.fits; base = e.fits; changes = c.fits.1 });
      behind = c.behind;
    }

stamped_spells : Spells IsStamped stamped StampedHasWord
stamped_spells = record { is_word = stamped_word; is_spelled = stamped_spelled }

stamp_spells : Spells (IsOptional IsStamped) (optional stamped) (Optionally StampedHasWord)
stamp_spells = optional_spells IsStamped stamped StampedHasWord stamped_spells

optionally : (s : Option Stamped) → StampedFits s → OptionInRange s → Optionally StampedHasWord s
optionally None fits range = tt
optionally (Some s) fits range = (fits, range)

from_optionally : (s : Option Stamped) → Optionally StampedHasWord s → StampedFits s × OptionInRange s
from_optionally None has = (tt, tt)
from_optionally (Some s) has = has

numbers_spell : Spells (AreWords IsU64) numbers (AllByRecursion IsWide)
numbers_spell = words_spell IsU64 u64 (IsIn (2 ^ 64)) u64_spells

abbrev RowHasWord : PaxosRow → Type 0
RowHasWord r = RowFits r × RowInRange r

row_word : (r : PaxosRow) (rest : List ℕ) → RowHasWord r → IsPaxosRow (row r ++ rest) r rest
row_word r rest fits =
    let word : IsPaxosRow (u64 r.promised ++ (numbers r.took ++ (optional stamped r.accepted ++ (optional stamped r.commit ++ rest)))) r rest = record {
      behind_promised = numbers r.took ++ (optional stamped r.accepted ++ (optional stamped r.commit ++ rest));
      behind_took = optional stamped r.accepted ++ (optional stamped r.commit ++ rest);
      behind_accepted = optional stamped r.commit ++ rest;
      promised = u64_spells.is_word r.promised (numbers r.took ++ (optional stamped r.accepted ++ (optional stamped r.commit ++ rest))) fits.1.promised;
      took = record { count = fits.1.count; numbers = numbers_spell.is_word r.took (optional stamped r.accepted ++ (optional stamped r.commit ++ rest)) fits.1.took };
      accepted = stamp_spells.is_word r.accepted (optional stamped r.commit ++ rest) (optionally r.accepted fits.0.accepted fits.1.accepted);
      commit = stamp_spells.is_word r.commit rest (optionally r.commit fits.0.commit fits.1.commit);
    } in
    subst (λ (b : List ℕ). IsPaxosRow b r rest) (sym (regroup_four (u64 r.promised) (numbers r.took) (optional stamped r.accepted) (optional stamped r.commit) rest)) word

row_spelled : (bytes : List ℕ) (r : PaxosRow) (rest : List ℕ) → AreBytes bytes → IsPaxosRow bytes r rest → IsSpelled row RowHasWord bytes r rest
row_spelled bytes r rest are word =
    let p = u64_spells.is_spelled bytes r.promised word.behind_promised are word.promised in
    let t = numbers_spell.is_spelled word.behind_promised r.took word.behind_took p.behind word.took.numbers in
    let a = stamp_spells.is_spelled word.behind_took r.accepted word.behind_accepted t.behind word.accepted in
    let c = stamp_spells.is_spelled word.behind_accepted r.commit rest a.behind word.commit in
    let accepted = from_optionally r.accepted a.fits in
    let commit = from_optionally r.commit c.fits in
    record {
      parts = joined bytes (u64 r.promised) (numbers r.took) (optional stamped r.accepted) (optional stamped r.commit) word.behind_promised word.behind_took word.behind_accepted rest p.parts t.parts a.parts c.parts;
      fits = (record { accepted = accepted.0; commit = commit.0 }, record { promised = p.fits; count = word.took.count; took = t.fits; accepted = accepted.1; commit = commit.1 });
      behind = c.behind;
    }

-- ---- hints and marks

abbrev HintHasWord : Hint → Type 0
HintHasWord h = ItemFits (HintAdd h) × HintInRange h

hint_word : (h : Hint) (rest : List ℕ) → HintHasWord h → IsHint (hint h ++ rest) h rest
hint_word h rest fits =
    let word : IsHint (u8 h.peer ++ (u64 h.number ++ (u64 h.born ++ (mutation h.mutation ++ rest)))) h rest = record {
      behind_peer = u64 h.number ++ (u64 h.born ++ (mutation h.mutation ++ rest));
      behind_number = u64 h.born ++ (mutation h.mutation ++ rest);
      behind_born = mutation h.mutation ++ rest;
      peer = node_spells.is_word h.peer (u64 h.number ++ (u64 h.born ++ (mutation h.mutation ++ rest))) fits.1.peer;
      number = u64_spells.is_word h.number (u64 h.born ++ (mutation h.mutation ++ rest)) fits.1.number;
      born = u64_spells.is_word h.born (mutation h.mutation ++ rest) fits.1.born;
      mutation = mutation_spells.is_word h.mutation rest (fits.0, fits.1.mutation);
    } in
    subst (λ (b : List ℕ). IsHint b h rest) (sym (regroup_four (u8 h.peer) (u64 h.number) (u64 h.born) (mutation h.mutation) rest)) word

hint_spelled : (bytes : List ℕ) (h : Hint) (rest : List ℕ) → AreBytes bytes → IsHint bytes h rest → IsSpelled hint HintHasWord bytes h rest
hint_spelled bytes h rest are word =
    let p = node_spells.is_spelled bytes h.peer word.behind_peer are word.peer in
    let n = u64_spells.is_spelled word.behind_peer h.number word.behind_number p.behind word.number in
    let b = u64_spells.is_spelled word.behind_number h.born word.behind_born n.behind word.born in
    let m = mutation_spells.is_spelled word.behind_born h.mutation rest b.behind word.mutation in
    record {
      parts = joined bytes (u8 h.peer) (u64 h.number) (u64 h.born) (mutation h.mutation) word.behind_peer word.behind_number word.behind_born rest p.parts n.parts b.parts m.parts;
      fits = (m.fits.0, record { peer = p.fits; number = n.fits; born = b.fits; mutation = m.fits.1 });
      behind = m.behind;
    }

mark_word : (m : mark.Mark) (rest : List ℕ) → MarkInRange m → IsMark (mark_bytes m ++ rest) m rest
mark_word m rest fits =
    let word : IsMark (i64 m.range.after ++ (i64 m.range.upto ++ (u64 m.snapshot ++ (u64 m.sent ++ rest)))) m rest = record {
      behind_after = i64 m.range.upto ++ (u64 m.snapshot ++ (u64 m.sent ++ rest));
      behind_upto = u64 m.snapshot ++ (u64 m.sent ++ rest);
      behind_snapshot = u64 m.sent ++ rest;
      after = i64_spells.is_word m.range.after (i64 m.range.upto ++ (u64 m.snapshot ++ (u64 m.sent ++ rest))) fits.after;
      upto = i64_spells.is_word m.range.upto (u64 m.snapshot ++ (u64 m.sent ++ rest)) fits.upto;
      snapshot = u64_spells.is_word m.snapshot (u64 m.sent ++ rest) fits.snapshot;
      sent = u64_spells.is_word m.sent rest fits.sent;
    } in
    subst (λ (b : List ℕ). IsMark b m rest) (sym (regroup_four (i64 m.range.after) (i64 m.range.upto) (u64 m.snapshot) (u64 m.sent) rest)) word

mark_spelled : (bytes : List ℕ) (m : mark.Mark) (rest : List ℕ) → AreBytes bytes → IsMark bytes m rest → IsSpelled mark_bytes MarkInRange bytes m rest
mark_spelled bytes m rest are word =
    let a = i64_spells.is_spelled bytes m.range.after word.behind_after are word.after in
    let u = i64_spells.is_spelled word.behind_after m.range.upto word.behind_upto a.behind word.upto in
    let s = u64_spells.is_spelled word.behind_upto m.snapshot word.behind_snapshot u.behind word.snapshot in
    let t = u64_spells.is_spelled word.behind_snapshot m.sent rest s.behind word.sent in
    record {
      parts = joined bytes (i64 m.range.after) (i64 m.range.upto) (u64 m.snapshot) (u64 m.sent) word.behind_after word.behind_upto word.behind_snapshot rest a.parts u.parts s.parts t.parts;
      fits = record { after = a.fits; upto = u.fits; snapshot = s.fits; sent = t.fits };
      behind = t.behind;
    }

-- ---- items

abbrev pub ItemHasWord : LogItem → Type 0
ItemHasWord i = ItemFits i × ItemInRange i

fields_word : (i : LogItem) (rest : List ℕ) → ItemHasWord i → AreItemFields (item_fields i ++ rest) i rest
fields_word (Data arrival m) rest fits =
    subst (λ (b : List ℕ). AreItemFields b (Data arrival m) rest) (sym (append_assoc (u64 arrival) (mutation m) rest))
    (mutation m ++ rest, u64_spells.is_word arrival (mutation m ++ rest) fits.1.0, mutation_spells.is_word m rest (fits.0, fits.1.1))
fields_word (Paxos p r) rest fits =
    subst (λ (b : List ℕ). AreItemFields b (Paxos p r) rest) (sym (append_assoc (partition p) (row r) rest))
    (row r ++ rest, partition_spells.is_word p (row r ++ rest) (fits.0.0, fits.1.0), row_word r rest (fits.0.1, fits.1.1))
fields_word (HintAdd h) rest fits = hint_word h rest fits
fields_word (HintGone peer number) rest fits = (u64 number ++ rest, node_spells.is_word peer (u64 number ++ rest) fits.1.0, u64_spells.is_word number rest fits.1.1)
fields_word (Ceiling time) rest fits = u64_spells.is_word time rest fits.1
fields_word (Mark m) rest fits = mark_word m rest fits.1
fields_word (Purge c) rest fits =
    subst (λ (b : List ℕ). AreItemFields b (Purge c) rest) (sym (append_assoc (partition c.partition) (change c.held) rest))
    (change c.held ++ rest, partition_spells.is_word c.partition (change c.held ++ rest) (fits.0.0, fits.1.0), change_spells.is_word c.held rest (fits.0.1, fits.1.1))

fields_spelled : (bytes : List ℕ) (i : LogItem) (rest : List ℕ) → AreBytes bytes → AreItemFields bytes i rest → IsSpelled item_fields ItemHasWord bytes i rest
fields_spelled bytes (Data arrival m) rest are word =
    let a = u64_spells.is_spelled bytes arrival word.0 are word.1 in
    let c = mutation_spells.is_spelled word.0 m rest a.behind word.2 in
    record {
      parts = a.parts ∙ ap (λ (b : List ℕ). u64 arrival ++ b) c.parts ∙ sym (append_assoc (u64 arrival) (mutation m) rest);
      fits = (c.fits.0, (a.fits, c.fits.1));
      behind = c.behind;
    }
fields_spelled bytes (Paxos p r) rest are word =
    let a = partition_spells.is_spelled bytes p word.0 are word.1 in
    let c = row_spelled word.0 r rest a.behind word.2 in
    record {
      parts = a.parts ∙ ap (λ (b : List ℕ). partition p ++ b) c.parts ∙ sym (append_assoc (partition p) (row r) rest);
      fits = ((a.fits.0, c.fits.0), (a.fits.1, c.fits.1));
      behind = c.behind;
    }
fields_spelled bytes (HintAdd h) rest are word =
    let a = hint_spelled bytes h rest are word in record { parts = a.parts; fits = a.fits; behind = a.behind }
fields_spelled bytes (HintGone peer number) rest are word =
    let a = node_spells.is_spelled bytes peer word.0 are word.1 in
    let c = u64_spells.is_spelled word.0 number rest a.behind word.2 in
    record { parts = a.parts ∙ ap (λ (b : List ℕ). u8 peer ++ b) c.parts; fits = (tt, (a.fits, c.fits)); behind = c.behind }
fields_spelled bytes (Ceiling time) rest are word =
    let a = u64_spells.is_spelled bytes time rest are word in record { parts = a.parts; fits = (tt, a.fits); behind = a.behind }
fields_spelled bytes (Mark m) rest are word =
    let a = mark_spelled bytes m rest are word in record { parts = a.parts; fits = (tt, a.fits); behind = a.behind }
fields_spelled bytes (Purge x) rest are word =
    let a = partition_spells.is_spelled bytes x.partition word.0 are word.1 in
    let c = change_spells.is_spelled word.0 x.held rest a.behind word.2 in
    record {
      parts = a.parts ∙ ap (λ (b : List ℕ). partition x.partition ++ b) c.parts ∙ sym (append_assoc (partition x.partition) (change x.held) rest);
      fits = ((a.fits.0, c.fits.0), (a.fits.1, c.fits.1));
      behind = c.behind;
    }

item_word : (i : LogItem) (rest : List ℕ) → ItemHasWord i → IsItem (item i ++ rest) i rest
item_word i rest fits = (item_fields i ++ rest, refl, fields_word i rest fits)

item_spelled : (bytes : List ℕ) (i : LogItem) (rest : List ℕ) → AreBytes bytes → IsItem bytes i rest → IsSpelled item ItemHasWord bytes i rest
item_spelled bytes i rest are word =
    let f = fields_spelled word.0 i rest (behind_are_bytes bytes (u8 (kind_of i)) word.0 word.1 are) word.2 in
    record { parts = word.1 ∙ ap (λ (b : List ℕ). kind_of i ∷ b) f.parts; fits = f.fits; behind = f.behind }

item_spells : Spells IsItem item ItemHasWord
item_spells = record { is_word = item_word; is_spelled = item_spelled }

-- ---- entries

both : (items : List LogItem) → AllByRecursion ItemFits items → AllByRecursion ItemInRange items → AllByRecursion ItemHasWord items
both [] fit range = tt
both (x ∷ xs) fit range = ((fit.0, range.0), both xs fit.1 range.1)

first_of_both : (items : List LogItem) → AllByRecursion ItemHasWord items → AllByRecursion ItemFits items
first_of_both [] all = tt
first_of_both (x ∷ xs) all = (all.0.0, first_of_both xs all.1)

second_of_both : (items : List LogItem) → AllByRecursion ItemHasWord items → AllByRecursion ItemInRange items
second_of_both [] all = tt
second_of_both (x ∷ xs) all = (all.0.1, second_of_both xs all.1)

items_spell : Spells (AreWords IsItem) (flat_map item) (AllByRecursion ItemHasWord)
items_spell = words_spell IsItem item ItemHasWord item_spells

entry_word : (e : LogEntry) (rest : List ℕ) → EntryHasWord e → IsEntry (entry e ++ rest) e rest
entry_word e rest fits =
    let word : IsEntry (u32 (length e.items) ++ (flat_map item e.items ++ rest)) e rest = record {
      behind_count = flat_map item e.items ++ rest;
      count = u32_spells.is_word (length e.items) (flat_map item e.items ++ rest) fits.0.count;
      items = items_spell.is_word e.items rest (both e.items fits.0.each fits.1);
      order = fits.0.order;
    } in
    subst (λ (b : List ℕ). IsEntry b e rest) (sym (append_assoc (u32 (length e.items)) (flat_map item e.items) rest)) word

entry_spelled : (bytes : List ℕ) (e : LogEntry) (rest : List ℕ) → AreBytes bytes → IsEntry bytes e rest → IsSpelled entry EntryHasWord bytes e rest
entry_spelled bytes e rest are word =
    let n = u32_spells.is_spelled bytes (length e.items) word.behind_count are word.count in
    let i = items_spell.is_spelled word.behind_count e.items rest n.behind word.items in
    record {
      parts = n.parts ∙ ap (λ (b : List ℕ). u32 (length e.items) ++ b) i.parts ∙ sym (append_assoc (u32 (length e.items)) (flat_map item e.items) rest);
      fits = (record { count = n.fits; each = first_of_both e.items i.fits; order = word.order }, second_of_both e.items i.fits);
      behind = i.behind;
    }

pub entry_spells : Spells IsEntry entry EntryHasWord
entry_spells = record { is_word = entry_word; is_spelled = entry_spelled }
