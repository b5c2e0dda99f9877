-- A file with one entry more.
use Rattle.std.proofs.Common.{◌≡◌, inl, inr, ⊎_elim, ℕ, ◌^◌, ◌<◌, List, [], ◌∷◌, ◌++◌, length, sym}
use Rattle.gate_log.specs.Format.{spelling, spellings, Reads}
use Rattle.gate_log.specs.Format as gates
use Rattle.row_change.specs.declared.entry.LogEntry.{LogEntry}
use Rattle.row_change.specs.Grammar.{IsEntry}
use Rattle.commit_log.specs.Format.{ReadsEntries, Adds, IsBeforeOrAfter, IsAppended}
use Rattle.commit_log.proofs.Readings.{same_entries}
use Rattle.commit_log.proofs.Spellings.{spellings-push, short_push, entries_push}

module _ (entry : LogEntry) (word : List ℕ) (is : IsEntry word entry []) where
  more : (old new : List ℕ) (entries : List LogEntry) (reads : ReadsEntries entries old) → Reads (reads.words ++ word ∷ []) new → ReadsEntries (entries ++ entry ∷ []) new
  more old new entries reads now = record { words = reads.words ++ word ∷ []; reads = now; each = entries_push reads.words entries word entry reads.each is }

  -- what a gate log says of a word is so of its entry
  pub adds : (old new : List ℕ) → gates.Adds word old new → Adds entry old new
  adds old new added entries reads = more old new entries reads (added reads.words reads.reads)

  pub before_or_after : (old new : List ℕ) → gates.IsBeforeOrAfter word old new → IsBeforeOrAfter entry old new
  before_or_after old new either entries reads =
      ⊎_elim
      (λ without. inl (record { words = reads.words; reads = without; each = reads.each }))
      (λ with. inr (more old new entries reads with))
      (either reads.words reads.reads)

  pub appended : length word < 2 ^ 32 → IsAppended entry word
  appended fits entries old reads =
      let new = spellings reads.words ++ (spelling word ++ 0 ∷ []) in
      let now : Reads (reads.words ++ word ∷ []) new = record {
        gate = 0;
        rest = [];
        split = sym (spellings-push reads.words word (0 ∷ []));
        closed = λ (e : 0 ≡ 197). cc;
        short = short_push reads.words word reads.reads.short fits;
      } in
      let all = more old new entries reads now in
      (all, λ es others. same_entries new es (entries ++ entry ∷ []) others all)
