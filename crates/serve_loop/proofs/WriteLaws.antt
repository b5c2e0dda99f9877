-- Writes one after another, and faults one after another.
use Rattle.std.proofs.Common.{◌≡◌, ℕ, ◌+◌, ◌-◌, ◌<◌, ◌≤◌, inl, inr, List, [], ◌++◌, length, take, drop, Option, Some, None, refl, sym, ◌∙◌, ap, subst, arith, append_assoc, length-drop, take-add}
use Rattle.std.specs.Option.{option_map}
use Rattle.std.proofs.lemmas.Bool.{cases_lt}
use Rattle.std.proofs.lemmas.List.{take_all, append-nil, drop-drop}
use Rattle.cs_base.specs.Faults.{HasRisen}
use Rattle.serve_loop.specs.Steps.{Writes, WritesFront}

pub writes_none : (o : Option (List ℕ)) → Writes o o []
writes_none None = refl
writes_none (Some held) = ap (λ (h : List ℕ). Some h) (sym (append-nil held))

pub writes_more : (old mid new : Option (List ℕ)) (a b : List ℕ) → Writes old mid a → Writes mid new b → Writes old new (a ++ b)
writes_more None mid new a b h w = w ∙ ap (option_map (λ (held : List ℕ). held ++ b)) h
writes_more (Some held) mid new a b h w = w ∙ ap (option_map (λ (held : List ℕ). held ++ b)) h ∙ ap (λ (x : List ℕ). Some x) (append_assoc held a b)

-- the same bytes
pub writes_same : (old new : Option (List ℕ)) (a b : List ℕ) → a ≡ b → Writes old new a → Writes old new b
writes_same old new a b e w = subst (Writes old new) e w

-- nothing, where nothing changed
pub writes_still : (old new : Option (List ℕ)) → new ≡ old → Writes old new []
writes_still old new e = subst (λ (o : Option (List ℕ)). Writes old o []) (sym e) (writes_none old)

-- a front of the bytes was written, and this is the rest
pub record IsWritten (old new : Option (List ℕ)) (whole rest : List ℕ) : Type 0 where
  pub count : ℕ
  pub within : count ≤ length whole
  pub behind : rest ≡ drop count whole
  pub front : Writes old new (take count whole)

pub none_written : (old : Option (List ℕ)) (whole : List ℕ) → IsWritten old old whole whole
none_written old whole = record { count = 0; within = omega arith; behind = refl; front = writes_none old }

pub written_more : (old mid new : Option (List ℕ)) (whole rest : List ℕ) (k : ℕ) → IsWritten old mid whole rest → k ≤ length rest → Writes mid new (take k rest) → IsWritten old new whole (drop k rest)
written_more old mid new whole rest k h within w =
    let long : length rest ≡ length whole - h.count = ap length h.behind ∙ length-drop h.count whole in
    let split : take (h.count + k) whole ≡ take h.count whole ++ take k rest =
    take-add h.count k whole ∙ ap (λ (r : List ℕ). take h.count whole ++ take k r) (sym h.behind) in
    record {
      count = h.count + k;
      within = omega (arith, h.within, within, long);
      behind = ap (drop k) h.behind ∙ drop-drop k h.count whole;
      front = subst (Writes old new) (sym split) (writes_more old mid new (take h.count whole) (take k rest) h.front w);
    }

pub all_written : (old new : Option (List ℕ)) (whole rest : List ℕ) → IsWritten old new whole rest → length rest ≡ 0 → Writes old new whole
all_written old new whole rest h none =
    let long : length rest ≡ length whole - h.count = ap length h.behind ∙ length-drop h.count whole in
    subst (Writes old new) (take_all h.count whole (omega (arith, long, none))) h.front

-- where some are left
pub front_written : (old mid new : Option (List ℕ)) (whole rest : List ℕ) → IsWritten old mid whole rest → 0 < length rest → new ≡ mid → WritesFront old new whole
front_written old mid new whole rest h some same =
    let long : length rest ≡ length whole - h.count = ap length h.behind ∙ length-drop h.count whole in
    record {
      count = h.count;
      short = omega (arith, long, some);
      front = subst (λ (o : Option (List ℕ)). Writes old o (take h.count whole)) (sym same) h.front;
    }

-- a write that took nothing changed nothing
pub took_none : (mid new : Option (List ℕ)) (k : ℕ) (rest : List ℕ) → k ≡ 0 → Writes mid new (take k rest) → new ≡ mid
took_none None new k rest e w = w
took_none (Some held) new k rest e w = w ∙ ap (λ (n : ℕ). Some (held ++ take n rest)) e ∙ ap (λ (x : List ℕ). Some x) (append-nil held)

-- a count that rose later rose
pub risen_later : (before mid now : ℕ) → before ≤ mid → mid ≤ now → HasRisen mid now → HasRisen before now
risen_later before mid now p q (inl r) = inl (omega arith)
risen_later before mid now p q (inr r) = elim (cases_lt before now) [ inl less ↦ inl less | inr not_less ↦ inr (omega arith) ]

-- and so did one that rose before
pub risen_before : (before mid now : ℕ) → mid ≤ now → HasRisen before mid → HasRisen before now
risen_before before mid now p (inl r) = inl (omega arith)
risen_before before mid now p (inr r) = inr r
