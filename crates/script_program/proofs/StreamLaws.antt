-- Reads and writes one after another.
use Rattle.std.proofs.Common.{◌≡◌, ℕ, ◌+◌, ◌-◌, ◌<◌, ◌≤◌, inl, inr, List, [], ◌++◌, length, take, drop, Option, Some, None, refl, sym, ◌∙◌, ap, subst, arith, append_assoc, length-drop, IfSome, take-add}
use Rattle.std.specs.Option.{option_map}
use Rattle.std.proofs.lemmas.List.{take-append-le, take_all, take-append-drop, length-take-le, append-nil, drop-drop}
use Rattle.std.proofs.lemmas.Bool.{cases_lt}
use Rattle.std.proofs.Math.Seq.{take-append_seam}
use Rattle.cs_base.specs.Faults.{HasRisen}
use Rattle.cs_io.specs.Streams.{Takes}
use Rattle.fault_script.specs.Script.{longest_script}
use Rattle.script_program.specs.Streams.{IsAllOf, WritesAll, WritesFront}

-- the text is a front of what was left, and the source has the rest
pub record IsFrontOf (left text : List ℕ) (left' : Option (List ℕ)) : Type 0 where
  pub rest : List ℕ
  pub remaining : left' ≡ Some rest
  pub whole : left ≡ text ++ rest

front_read : (rest buffer buffer' : List ℕ) (n : ℕ) → n ≤ length rest → buffer' ≡ take n rest ++ drop n buffer → take n buffer' ≡ take n rest
front_read rest buffer buffer' n within is =
    let long : length (take n rest) ≡ n = length-take-le n rest within in
    ap (take n) is ∙ take-append-le n (take n rest) (drop n buffer) (omega (arith, long)) ∙ take_all n (take n rest) (omega (arith, long))

front_more : (left text buffer buffer' : List ℕ) (mid left' : Option (List ℕ)) (n : ℕ) (h : IsFrontOf left text mid) → Takes n h.rest buffer buffer' left' → IsFrontOf left (text ++ take n buffer') left'
front_more left text buffer buffer' mid left' n h t = record {
  rest = drop n h.rest;
  remaining = t.rest;
  whole =
      h.whole ∙ ap (λ (r : List ℕ). text ++ r) (sym (take-append-drop n h.rest)) ∙ sym (append_assoc text (take n h.rest) (drop n h.rest))
      ∙ ap (λ (r : List ℕ). (text ++ r) ++ drop n h.rest) (sym (front_read h.rest buffer buffer' n t.within t.bytes));
}

taken_of : (mid left' : Option (List ℕ)) (n : ℕ) (left text buffer buffer' : List ℕ) (h : IsFrontOf left text mid) → IfSome mid (λ r. Takes n r buffer buffer' left') → Takes n h.rest buffer buffer' left'
taken_of mid left' n left text buffer buffer' h t = subst (λ (o : Option (List ℕ)). IfSome o (λ r. Takes n r buffer buffer' left')) h.remaining t

pub front_step : (o mid left' : Option (List ℕ)) (text buffer buffer' : List ℕ) (n : ℕ) → IfSome o (λ left. IsFrontOf left text mid) → IfSome mid (λ r. Takes n r buffer buffer' left') → IfSome o (λ left. IsFrontOf left (text ++ take n buffer') left')
front_step None mid left' text buffer buffer' n h t = tt
front_step (Some left) mid left' text buffer buffer' n h t = front_more left text buffer buffer' mid left' n h (taken_of mid left' n left text buffer buffer' h t)

nothing_left : (left text : List ℕ) (mid left' : Option (List ℕ)) (h : IsFrontOf left text mid) → h.rest ≡ [] → left' ≡ Some (drop 0 h.rest) → IsAllOf left text left'
nothing_left left text mid left' h none is =
    inl (sym (h.whole ∙ ap (λ (r : List ℕ). text ++ r) none ∙ append-nil text), is ∙ ap (λ (r : List ℕ). Some r) none)

-- at the end of the source
pub all_read : (o mid left' : Option (List ℕ)) (text buffer buffer' : List ℕ) (n : ℕ) → n ≡ 0 → 0 < length buffer → IfSome o (λ left. IsFrontOf left text mid) → IfSome mid (λ r. Takes n r buffer buffer' left') → IfSome o (λ left. IsAllOf left text left')
all_read None mid left' text buffer buffer' n zero room h t = tt
all_read (Some left) mid left' text buffer buffer' n zero room h t =
    let taken = taken_of mid left' n left text buffer buffer' h t in
    nothing_left left text mid left' h (taken.end zero room) (taken.rest ∙ ap (λ (k : ℕ). Some (drop k h.rest)) zero)

-- past the longest script
pub long_read : (o mid : Option (List ℕ)) (text : List ℕ) → longest_script < length text → IfSome o (λ left. IsFrontOf left text mid) → IfSome o (λ left. IsAllOf left text mid)
long_read None mid text long h = tt
long_read (Some left) mid text long h = inr (sym (ap (take (length text)) h.whole ∙ take-append_seam text h.rest), long)

-- a front of the text was written, and this is the rest
pub record IsWritten (old new : Option (List ℕ)) (text rest : List ℕ) : Type 0 where
  pub count : ℕ
  pub within : count ≤ length text
  pub behind : rest ≡ drop count text
  pub front : WritesAll old new (take count text)

pub none_written : (old : Option (List ℕ)) (text : List ℕ) → IsWritten old old text text
none_written None text = record { count = 0; within = omega arith; behind = refl; front = refl }
none_written (Some held) text = record { count = 0; within = omega arith; behind = refl; front = ap (λ (h : List ℕ). Some h) (sym (append-nil held)) }

writes_more : (old mid new : Option (List ℕ)) (a b : List ℕ) → WritesAll old mid a → new ≡ option_map (λ held. held ++ b) mid → WritesAll old new (a ++ b)
writes_more None mid new a b h w = w ∙ ap (option_map (λ (held : List ℕ). held ++ b)) h
writes_more (Some held) mid new a b h w = w ∙ ap (option_map (λ (held : List ℕ). held ++ b)) h ∙ ap (λ (x : List ℕ). Some x) (append_assoc held a b)

pub written_more : (old mid new : Option (List ℕ)) (text rest : List ℕ) (k : ℕ) → IsWritten old mid text rest → k ≤ length rest → new ≡ option_map (λ held. held ++ take k rest) mid → IsWritten old new text (drop k rest)
written_more old mid new text rest k h within w =
    let long : length rest ≡ length text - h.count = ap length h.behind ∙ length-drop h.count text in
    let split : take (h.count + k) text ≡ take h.count text ++ take k rest =
    take-add h.count k text ∙ ap (λ (r : List ℕ). take h.count text ++ take k r) (sym h.behind) in
    record {
      count = h.count + k;
      within = omega (arith, h.within, within, long);
      behind = ap (drop k) h.behind ∙ drop-drop k h.count text;
      front = subst (WritesAll old new) (sym split) (writes_more old mid new (take h.count text) (take k rest) h.front w);
    }

pub all_written : (old new : Option (List ℕ)) (text rest : List ℕ) → IsWritten old new text rest → length rest ≡ 0 → WritesAll old new text
all_written old new text rest h none =
    let long : length rest ≡ length text - h.count = ap length h.behind ∙ length-drop h.count text in
    subst (WritesAll old new) (take_all h.count text (omega (arith, long, none))) h.front

pub front_written : (old new : Option (List ℕ)) (text rest : List ℕ) → IsWritten old new text rest → WritesFront old new text
front_written old new text rest h = (h.count, h.within, h.front)

-- a count that rose later rose
pub risen_later : (before mid now : ℕ) → before ≤ mid → mid ≤ now → HasRisen mid now → HasRisen before now
risen_later before mid now p q (inl r) = inl (omega arith)
risen_later before mid now p q (inr r) = elim (cases_lt before now) [ inl less ↦ inl less | inr not_less ↦ inr (omega arith) ]
