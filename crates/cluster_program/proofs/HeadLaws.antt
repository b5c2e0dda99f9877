-- Heads that are read.
use Rattle.std.proofs.Common.{◌≡◌, ℕ, ◌+◌, ◌<◌, inl, inr, Bool, List, [], ◌++◌, length, take, drop, Option, Some, None, sym, ◌∙◌, ap, subst, arith, IfSome, add-one}
use Rattle.std.specs.Prelude.{Result, Ok, Err, IfOk, IfErr}
use Rattle.std.proofs.lemmas.Bool.{cases_lt, lt-ltb}
use Rattle.std.proofs.lemmas.List.{take_all, length-take-le}
use Rattle.fault_script.specs.Script.{IsRead, IsReadBy, longest_script}
use Rattle.fault_script.specs.declared.script.Script.{Script}
use Rattle.fault_script.specs.declared.script.ScriptError.{ScriptError}
use Rattle.fault_script.specs.declared.script.ScriptError.TheVariants.{TooLong}
use Rattle.script_program.specs.Endings.{IsRefused}
use Rattle.script_program.specs.declared.program.Refusal.{Refusal}
use Rattle.script_program.specs.declared.program.Refusal.TheVariants as refusal
use Rattle.source_lines.specs.Heads.{head_of, GivesHead}
use Rattle.source_lines.specs.Lines.{Reading, left_of}
use Rattle.cluster_program.specs.Heads.{IsHead, listening_line, listening_lines}

-- nothing was read ahead
pub head_given : (longest : ℕ) (ahead : List ℕ) (o m : Option (List ℕ)) (text : List ℕ) → ahead ≡ [] → IfSome (left_of ahead o) (λ left. GivesHead longest left text m) → IfSome o (λ left. GivesHead longest left text m)
head_given longest ahead None m text none h = tt
head_given longest ahead (Some left) m text none h = subst (λ (a : List ℕ). GivesHead longest (a ++ left) text m) none h

-- a text is refused where it is longer than any script
refuse_long : (text : List ℕ) (r : Result Script ScriptError) → longest_script < length text → r ≡ Err TooLong → IsRead text r
refuse_long text r long is = subst (λ (b : Bool). IsReadBy b text r) (sym (lt-ltb longest_script (length text) long)) is

is_refused_long : (text : List ℕ) (r : Result Script ScriptError) → longest_script < length text → IsRead text r → r ≡ Err TooLong
is_refused_long text r long read = subst (λ (b : Bool). IsReadBy b text r) (lt-ltb longest_script (length text) long) read

cut_length : (longest : ℕ) (head text : List ℕ) → text ≡ take (longest + 1) head → longest < length head → length text ≡ longest + 1
cut_length longest head text is long = ap length is ∙ length-take-le (longest + 1) head (omega arith)

-- the head reads as the beginning of it that is no more than a byte too long for a script
whole_head : (longest : ℕ) (head text : List ℕ) (r : Result Script ScriptError) → longest ≡ longest_script → text ≡ take (longest + 1) head → IsRead text r → IsRead head r
whole_head longest head text r same is read =
    elim (cases_lt longest (length head)) [
      | inl long ↦
          let cut = cut_length longest head text is long in
          refuse_long head r (omega arith) (is_refused_long text r (omega arith) read)
      | inr short ↦ subst (λ (t : List ℕ). IsRead t r) (is ∙ take_all (longest + 1) head (omega arith)) read
    ]

no_long_script : (script : Script) → Ok script ≡ Err TooLong → ⊥
no_long_script script is = cc

-- of a script all was read
script_head : (longest : ℕ) (head text : List ℕ) (script : Script) → longest ≡ longest_script → text ≡ take (longest + 1) head → IsRead text (Ok script) → text ≡ head
script_head longest head text script same is read =
    elim (cases_lt longest (length head)) [
      | inl long ↦
          let cut = cut_length longest head text is long in
          absurd (no_long_script script (is_refused_long text (Ok script) (omega arith) read))
      | inr short ↦ is ∙ take_all (longest + 1) head (omega arith)
    ]

script_given : (longest : ℕ) (o left' : Option (List ℕ)) (text : List ℕ) (script : Script) (lines : Reading) → longest ≡ longest_script → IfSome o (λ left. GivesHead longest left text (left_of lines.ahead left'))
    → IsRead text (Ok script) → IfSome o (λ left. IsHead left script lines left')
script_given longest None left' text script lines same h read = tt
script_given longest (Some left) left' text script lines same h read = record {
  is_read = whole_head longest (head_of left) text (Ok script) same h.head_is read;
  rest = h.rest_is ∙ ap (λ (t : List ℕ). Some (drop (length t) left)) (script_head longest (head_of left) text script same h.head_is read);
}

refusal_given : (longest : ℕ) (o m : Option (List ℕ)) (text : List ℕ) (e : Refusal) → longest ≡ longest_script → IfSome o (λ left. GivesHead longest left text m) → IsRefused text e → IfSome o (λ left. IsRefused (head_of left) e)
refusal_given longest None m text e same h read = tt
refusal_given longest (Some left) m text (refusal.Script e) same h read = whole_head longest (head_of left) text (Err e) same h.head_is read
refusal_given longest (Some left) m text refusal.ReadFault same h read = tt
refusal_given longest (Some left) m text refusal.NoMemory same h read = tt

-- ---- what comes of the bytes that were read

pub read_from : (longest : ℕ) (o left' : Option (List ℕ)) (text bytes : List ℕ) (r : Result Script Refusal) (lines : Reading) → longest ≡ longest_script → IfSome o (λ left. GivesHead longest left text (left_of lines.ahead left'))
    → bytes ≡ text → IfOk r (λ script. IsRead bytes (Ok script)) → IfOk r (λ script. IfSome o (λ left. IsHead left script lines left'))
read_from longest o left' text bytes (Ok script) lines same h is read = script_given longest o left' text script lines same h (subst (λ (t : List ℕ). IsRead t (Ok script)) is read)
read_from longest o left' text bytes (Err e) lines same h is read = tt

pub refused_from : (longest : ℕ) (o m : Option (List ℕ)) (text bytes : List ℕ) (r : Result Script Refusal) → longest ≡ longest_script → IfSome o (λ left. GivesHead longest left text m)
    → bytes ≡ text → IfErr r (IsRefused bytes) → IfErr r (λ e. IfSome o (λ left. IsRefused (head_of left) e))
refused_from longest o m text bytes (Ok script) same h is read = tt
refused_from longest o m text bytes (Err e) same h is read = refusal_given longest o m text e same h (subst (λ (t : List ℕ). IsRefused t e) is read)

-- a line more
pub listening_more : (port node : ℕ) (text text' : List ℕ) → text ≡ listening_lines port node → text' ≡ text ++ listening_line node (port + node) → text' ≡ listening_lines port (node + 1)
listening_more port node text text' so_far is = is ∙ ap (λ (t : List ℕ). t ++ listening_line node (port + node)) so_far ∙ ap (listening_lines port) (sym (add-one node))
