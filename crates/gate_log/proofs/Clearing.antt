-- What a crash leaves while a log is emptied.
use Rattle.std.proofs.Common.{◌≡◌, ◌≢◌, inl, inr, ℕ, ◌<◌, min, List, [], ◌∷◌, ◌++◌, length, get_or, take, drop, refl, sym, ◌∙◌, ap, subst, arith, take-append-drop, length-append}
use Rattle.std.proofs.lemmas.Bool.{cases_eq}
use Rattle.std.proofs.lemmas.List.{take_all, drop_more}
use Rattle.cs_store.specs.Disk.{overwritten, Torn, Cut}
use Rattle.gate_log.specs.Format.{spelling, spellings, Reads, IsBeforeOrEmpty}
use Rattle.gate_log.specs.Place.{IsAtRest, IsOpen}

-- behind a closed gate at the beginning nothing counts
pub reads_none : (gate : ℕ) (rest c : List ℕ) → c ≡ gate ∷ rest → gate ≢ 197 → Reads [] c
reads_none gate rest c is closed = record { gate = gate; rest = rest; split = is; closed = closed; short = tt }

-- a file of entries begins with an open gate
begins_open : (entries : List (List ℕ)) (byte : ℕ) (file : List ℕ) → file ≡ spellings entries ++ byte ∷ [] → 0 < length (spellings entries) → IsOpen file
begins_open [] byte file is some = absurd (omega arith)
begins_open (e ∷ es) byte file is some = record { rest = drop 1 (spelling e ++ spellings es ++ byte ∷ []); split = is }

pub rest_opens : (gate : ℕ) (file : List ℕ) → IsAtRest gate file → 0 < gate → IsOpen file
rest_opens gate file rest some = let place = rest.place in begins_open rest.entries rest.byte file rest.split (omega (arith, place))

no_entry : (entries : List (List ℕ)) (byte : ℕ) (file : List ℕ) → file ≡ spellings entries ++ byte ∷ [] → 0 ≡ length (spellings entries) → byte ≢ 197 → Reads [] file
no_entry [] byte file is none closed = reads_none byte [] file is closed
no_entry (e ∷ es) byte file is none closed = absurd (omega (arith, none, length-append (spelling e) (spellings es)))

-- a log whose first gate is closed has no entry
pub rest_empty : (gate : ℕ) (file : List ℕ) → IsAtRest gate file → gate ≡ 0 → Reads [] file
rest_empty gate file rest none = let place = rest.place in no_entry rest.entries rest.byte file rest.split (sym none ∙ place) rest.closed

pub empty_rests : (file : List ℕ) → file ≡ 0 ∷ [] → IsAtRest 0 file
empty_rests file is = record { entries = []; byte = 0; split = is; closed = λ (e : 0 ≡ 197). cc; short = tt; place = refl }

module _ (file : List ℕ) (opens : IsOpen file) where
  -- the first gate is closed, or open as before
  pub first_torn : (c : List ℕ) → Torn 0 1 file c → IsBeforeOrEmpty file c
  first_torn c torn entries reads =
      let size = ap length opens.split in
      let low = torn.no_shorter in
      let high = torn.no_longer in
      let long : length c ≡ length file = omega (arith, low, high, size) in
      let after : drop 1 c ≡ opens.rest = ap (λ (l : List ℕ). drop 1 l) (sym (take_all (length file) c (omega (arith, long)))) ∙ torn.after ∙ ap (λ (l : List ℕ). drop 1 l) opens.split in
      let x = get_or c 0 0 in
      let is : c ≡ x ∷ opens.rest = drop_more c 0 0 (omega (arith, long, size)) ∙ ap (λ (l : List ℕ). x ∷ l) after in
      elim (cases_eq x 197) [
        | inl open_gate ↦ inl (subst (λ (l : List ℕ). Reads entries l) (opens.split ∙ ap (λ (k : ℕ). k ∷ opens.rest) (sym open_gate) ∙ sym is) reads)
        | inr shut ↦ inr (reads_none x opens.rest c is shut)
      ]

  -- it is closed, and the file is cut
  module _ (staged : List ℕ) (is_staged : staged ≡ overwritten file 0 (0 ∷ [])) where
    staged_is : staged ≡ 0 ∷ opens.rest
    staged_is = is_staged ∙ ap (λ (l : List ℕ). overwritten l 0 (0 ∷ [])) opens.split

    pub cut_torn : (c : List ℕ) → Cut 1 staged c → IsBeforeOrEmpty file c
    cut_torn c cut entries reads =
        let size = ap length staged_is in
        let whole : min 1 (length staged) ≡ 1 = omega (arith, size) in
        let front : take 1 c ≡ 0 ∷ [] = ap (λ (k : ℕ). take k c) (sym whole) ∙ cut.before ∙ ap (λ (l : List ℕ). take 1 l) staged_is in
        inr (reads_none 0 (drop 1 c) c (sym (take-append-drop 1 c) ∙ ap (λ (l : List ℕ). l ++ drop 1 c) front) (λ (e : 0 ≡ 197). cc))

    pub cut_empty : take 1 staged ≡ 0 ∷ []
    cut_empty = ap (λ (l : List ℕ). take 1 l) staged_is
