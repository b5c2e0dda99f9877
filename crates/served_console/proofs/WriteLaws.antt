-- Texts that are written piece by piece.
use Rattle.std.proofs.Common.{◌≡◌, ℕ, ◌+◌, ◌-◌, ◌<◌, ◌≤◌, inl, inr, List, [], ◌++◌, length, take, drop, Option, Some, None, Result, Ok, Err, OnErr, refl, sym, ◌∙◌, ap, subst, arith, append_assoc, append-nil, length-append, length-drop, take-add}
use Rattle.std.specs.Option.{option_map}
use Rattle.std.proofs.lemmas.List.{take_all, take-append-le, drop-drop}
use Rattle.std.proofs.Math.Seq.{take-append-add}
use Rattle.std.proofs.lemmas.Bool.{cases_lt}
use Rattle.cs_base.specs.Faults.{HasRisen}
use Rattle.served_console.specs.Writing.{WritesAll, WritesPart}

-- a front of the text was written, and this is the rest
pub record IsWritten (old new : Option (List ℕ)) (text rest : List ℕ) : Type 0 where
  pub count : ℕ
  pub within : count ≤ length text
  pub behind : rest ≡ drop count text
  pub front : WritesAll old new (take count text)

pub writes_none : (old : Option (List ℕ)) → WritesAll old old []
writes_none None = refl
writes_none (Some held) = ap (λ (h : List ℕ). Some h) (sym (append-nil held))

pub none_written : (old : Option (List ℕ)) (text : List ℕ) → IsWritten old old text text
none_written old text = record { count = 0; within = omega arith; behind = refl; front = writes_none old }

pub writes_more : (old mid new : Option (List ℕ)) (a b : List ℕ) → WritesAll old mid a → WritesAll mid new b → WritesAll old new (a ++ b)
writes_more None mid new a b h w = w ∙ ap (option_map (λ (held : List ℕ). held ++ b)) h
writes_more (Some held) mid new a b h w = w ∙ ap (option_map (λ (held : List ℕ). held ++ b)) h ∙ ap (λ (x : List ℕ). Some x) (append_assoc held a b)

pub written_more : (old mid new : Option (List ℕ)) (text rest : List ℕ) (k : ℕ) → IsWritten old mid text rest → k ≤ length rest → new ≡ option_map (λ held. held ++ take k rest) mid → IsWritten old new text (drop k rest)
written_more old mid new text rest k h within w =
    let long : length rest ≡ length text - h.count = ap length h.behind ∙ length-drop h.count text in
    let split : take (h.count + k) text ≡ take h.count text ++ take k rest =
    take-add h.count k text ∙ ap (λ (r : List ℕ). take h.count text ++ take k r) (sym h.behind) in
    record {
      count = h.count + k;
      within = omega (arith, h.within, within, long);
      behind = ap (drop k) h.behind ∙ drop-drop k h.count text;
      front = subst (WritesAll old new) (sym split) (writes_more old mid new (take h.count text) (take k rest) h.front w);
    }

pub all_written : (old new : Option (List ℕ)) (text rest : List ℕ) → IsWritten old new text rest → length rest ≡ 0 → WritesAll old new text
all_written old new text rest h none =
    let long : length rest ≡ length text - h.count = ap length h.behind ∙ length-drop h.count text in
    subst (WritesAll old new) (take_all h.count text (omega (arith, long, none))) h.front

pub part_written : (old new : Option (List ℕ)) (text rest : List ℕ) → IsWritten old new text rest → 0 < length rest → WritesPart old new text
part_written old new text rest h some =
    let long : length rest ≡ length text - h.count = ap length h.behind ∙ length-drop h.count text in
    (h.count, omega (arith, long, some), h.front)

-- ---- texts one after another

pub part_of_first : (old new : Option (List ℕ)) (a b : List ℕ) → WritesPart old new a → WritesPart old new (a ++ b)
part_of_first old new a b (n, short, w) =
    let whole : take n (a ++ b) ≡ take n a = take-append-le n a b (omega arith) in
    (n, omega (arith, length-append a b), subst (WritesAll old new) (sym whole) w)

pub part_of_second : (old mid new : Option (List ℕ)) (a b : List ℕ) → WritesAll old mid a → WritesPart mid new b → WritesPart old new (a ++ b)
part_of_second old mid new a b h (n, short, w) = (length a + n, omega (arith, length-append a b), subst (WritesAll old new) (sym (take-append-add a b n)) (writes_more old mid new a (take n b) h w))

pub on_err : {T E : Type 0} → (r : Result T E) (P : Type 0) → P → OnErr r P
on_err (Ok x) P p = tt
on_err (Err e) P p = p

pub on_err_more : {T E : Type 0} → (r : Result T E) (P Q : Type 0) → (P → Q) → OnErr r P → OnErr r Q
on_err_more (Ok x) P Q f h = tt
on_err_more (Err e) P Q f h = f h

-- ---- counts

pub risen_later : (before mid now : ℕ) → before ≤ mid → mid ≤ now → HasRisen mid now → HasRisen before now
risen_later before mid now p q (inl r) = inl (omega arith)
risen_later before mid now p q (inr r) = elim (cases_lt before now) [ inl less ↦ inl less | inr not_less ↦ inr (omega arith) ]
