-- What is refused, and where.
use Rattle.std.proofs.Common.{◌≡◌, ℕ, suc, ◌+◌, ◌-◌, ◌<◌, List, [], length, get_or, take, refl, sym, ap, subst, ◌∙◌, arith}
use Rattle.gate_log.specs.Format.{spellings}
use Rattle.gate_log.specs.declared.error.GateError.{GateError}
use Rattle.gate_log.specs.declared.error.GateError.TheVariants as gates
use Rattle.row_change.specs.declared.entry.LogEntry.{LogEntry}
use Rattle.commit_log.specs.declared.error.LogError.TheVariants.{Failed}
use Rattle.commit_log.specs.Errors.{log_error}
use Rattle.commit_log.specs.Format.{AreEntries, BreaksEntry}
use Rattle.commit_log.proofs.Spellings.{BreaksInWord, at}

pub not_failed : (e : GateError) → log_error e ≡ Failed → e ≡ gates.Failed
not_failed gates.Failed is = refl
not_failed (gates.Damaged p) is = absurd cc
not_failed gates.Full is = absurd cc
not_failed gates.NoMemory is = absurd cc

-- the word at an index, which begins at this place of the file
module _ (words : List (List ℕ)) (i : ℕ) (inside : i < length words) (word : List ℕ) (is : word ≡ get_or words i []) (next : ℕ) (ends : next ≡ length (spellings (take (i + 1) words))) where
  pub begins_at : next ≡ length (spellings (take i words)) + 5 + length word
  begins_at =
      let one : i + 1 ≡ suc i = omega arith in
      ends ∙ ap (λ (k : ℕ). length (spellings (take k words))) one ∙ (at words i inside).next
      ∙ ap (λ (w : List ℕ). length (spellings (take i words)) + 5 + length w) (sym is)

  pub broken_here : (es : List LogEntry) (start p : ℕ) → AreEntries (take i words) es → start ≡ next - length word → (offset : ℕ) × BreaksEntry word offset × (p ≡ start + offset) → BreaksInWord words p
  broken_here es start p each starts (offset, breaks, there) = record {
    index = i;
    entries = es;
    offset = offset;
    inside = inside;
    each = each;
    breaks = subst (λ (w : List ℕ). BreaksEntry w offset) is breaks;
    there = let begins = begins_at in omega (arith, begins, starts, there);
  }
