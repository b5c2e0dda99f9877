-- The words of a log, one after another, and their entries.
use Rattle.std.proofs.Common.{◌≡◌, ℕ, zero, suc, ◌+◌, ◌^◌, ◌<◌, Option, Some, None, List, [], ◌∷◌, ◌++◌, length, get_or, take, refl, sym, ◌∙◌, ap, subst, arith, append_assoc, length-append}
use Rattle.std.proofs.Math.Seq.{take-suc}
use Rattle.gate_log.specs.Format.{spelling, spellings, AreShort, IsFound}
use Rattle.row_change.specs.declared.entry.LogEntry.{LogEntry}
use Rattle.row_change.specs.Grammar.{IsEntry}
use Rattle.commit_log.specs.Format.{AreEntries, BreaksEntry, BreaksInEntry}

-- ---- one word more

pub spellings-push : (ws : List (List ℕ)) (w rest : List ℕ) → spellings (ws ++ w ∷ []) ++ rest ≡ spellings ws ++ (spelling w ++ rest)
spellings-push [] w rest = append_assoc (spelling w) [] rest
spellings-push (x ∷ ws) w rest =
    append_assoc (spelling x) (spellings (ws ++ w ∷ [])) rest
    ∙ ap (λ (l : List ℕ). spelling x ++ l) (spellings-push ws w rest)
    ∙ sym (append_assoc (spelling x) (spellings ws) (spelling w ++ rest))

pub short_push : (ws : List (List ℕ)) (w : List ℕ) → AreShort ws → length w < 2 ^ 32 → AreShort (ws ++ w ∷ [])
short_push [] w short fits = (fits, tt)
short_push (x ∷ ws) w short fits = (short.0, short_push ws w short.1 fits)

pub entries_push : (ws : List (List ℕ)) (es : List LogEntry) (w : List ℕ) (e : LogEntry) → AreEntries ws es → IsEntry w e [] → AreEntries (ws ++ w ∷ []) (es ++ e ∷ [])
entries_push [] [] w e each is = (is, tt)
entries_push [] (f ∷ es) w e each is = absurd each
entries_push (x ∷ ws) [] w e each is = absurd each
entries_push (x ∷ ws) (f ∷ es) w e each is = (each.0, entries_push ws es w e each.1 is)

-- ---- one of the words

pub record At (words : List (List ℕ)) (i : ℕ) : Type 0 where
  pub behind : List ℕ
  pub split : spellings words ≡ spellings (take i words) ++ (spelling (get_or words i []) ++ behind)
  pub next : length (spellings (take (suc i) words)) ≡ length (spellings (take i words)) + 5 + length (get_or words i [])

pub at : (words : List (List ℕ)) (i : ℕ) → i < length words → At words i
at [] i inside = absurd (omega arith)
at (w ∷ ws) zero inside = record {
  behind = spellings ws;
  split = refl;
  next = omega (arith, length-append (spelling w) []);
}
at (w ∷ ws) (suc i) inside =
    let rest = at ws i (omega arith) in
    let next = rest.next in
    record {
      behind = rest.behind;
      split = ap (λ (l : List ℕ). spelling w ++ l) rest.split ∙ sym (append_assoc (spelling w) (spellings (take i ws)) (spelling (get_or ws i []) ++ rest.behind));
      next = omega (arith, next, length-append (spelling w) (spellings (take (suc i) ws)), length-append (spelling w) (spellings (take i ws)));
    }

pub entries_more : (ws : List (List ℕ)) (i : ℕ) (es : List LogEntry) (w : List ℕ) (e : LogEntry) → i < length ws → w ≡ get_or ws i [] → AreEntries (take i ws) es → IsEntry w e [] → AreEntries (take (i + 1) ws) (es ++ e ∷ [])
entries_more ws i es w e inside is each word =
    let one : i + 1 ≡ suc i = omega arith in
    let taken : take (i + 1) ws ≡ take i ws ++ w ∷ [] =
    ap (λ (k : ℕ). take k ws) one ∙ take-suc ws i [] inside ∙ ap (λ (l : List ℕ). take i ws ++ l ∷ []) (sym is) in
    subst (λ (l : List (List ℕ)). AreEntries l (es ++ e ∷ [])) (sym taken) (entries_push (take i ws) es w e each word)

short_take : (words : List (List ℕ)) (i : ℕ) → AreShort words → AreShort (take i words)
short_take words zero short = tt
short_take [] (suc i) short = tt
short_take (w ∷ ws) (suc i) short = (short.0, short_take ws i short.1)

short_at : (words : List (List ℕ)) (i : ℕ) → AreShort words → i < length words → length (get_or words i []) < 2 ^ 32
short_at [] i short inside = absurd (omega arith)
short_at (w ∷ ws) zero short inside = short.0
short_at (w ∷ ws) (suc i) short inside = short_at ws i short.1 (omega arith)

-- ---- a word that is no entry's

-- Among words, those before one are entries', and that one is none: it breaks at this place of the file.
pub record BreaksInWord (words : List (List ℕ)) (place : ℕ) : Type 0 where
  pub index : ℕ
  pub entries : List LogEntry
  pub offset : ℕ
  pub inside : index < length words
  pub each : AreEntries (take index words) entries
  pub breaks : BreaksEntry (get_or words index []) offset
  pub there : place ≡ length (spellings (take index words)) + 5 + offset

-- what is found begins with the words
pub record Begins (words : List (List ℕ)) (file : List ℕ) : Type 0 where
  pub rest : List ℕ
  pub split : file ≡ spellings words ++ rest
  pub short : AreShort words

begins : (words : List (List ℕ)) (damage : Option ℕ) (file : List ℕ) → IsFound words damage file → Begins words file
begins words None file found = record { rest = found.gate ∷ found.rest; split = found.split; short = found.short }
begins words (Some p) file found = record { rest = found.rest; split = found.split; short = found.short }

pub broken : (words : List (List ℕ)) (damage : Option ℕ) (file : List ℕ) (place : ℕ) → IsFound words damage file → BreaksInWord words place → BreaksInEntry place file
broken words damage file place found b =
    let front = begins words damage file found in
    let here = at words b.index b.inside in
    let word = get_or words b.index [] in
    record {
      words = take b.index words;
      entries = b.entries;
      word = word;
      rest = here.behind ++ front.rest;
      offset = b.offset;
      split = front.split ∙ ap (λ (l : List ℕ). l ++ front.rest) here.split
          ∙ append_assoc (spellings (take b.index words)) (spelling word ++ here.behind) front.rest
          ∙ ap (λ (l : List ℕ). spellings (take b.index words) ++ l) (append_assoc (spelling word) here.behind front.rest);
      short = short_take words b.index front.short;
      fits = short_at words b.index front.short b.inside;
      each = b.each;
      breaks = b.breaks;
      there = b.there;
    }
