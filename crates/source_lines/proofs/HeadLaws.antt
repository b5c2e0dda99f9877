-- A head that is read byte by byte.
use Rattle.std.proofs.Common.{◌≡◌, ℕ, ◌+◌, ◌≤◌, ◌<◌, Bool, true, false, ◌&&◌, inl, inr, not, nat_le, ◌==◌, if◌then◌else◌, cond, ◌-◌, List, [], ◌∷◌, ◌++◌, length, take, drop, codes, Option, Some, None, IfSome, Result, Ok, Err, OnErr, refl, sym, ◌∙◌, ap, subst, arith, append_assoc, append-nil, length-append}
use Rattle.std.specs.Str.{bytes_eq}
use Rattle.std.proofs.Math.Seq.{take-append_seam}
use Rattle.std.proofs.lemmas.List.{length-take, drop-append-le, drop_all, take_all}
use Rattle.std.proofs.lemmas.Bool.Decides.{nat_tests}
use Rattle.source_lines.specs.Lines.{GivesByte}
use Rattle.source_lines.specs.Heads.{head_from, head_of, GivesHead, LosesFront, HeadSoFar, with_byte, ended_here, with_next, TakesNext, LosesOne}

-- what a head may still take of the bytes that are left
abbrev still : HeadSoFar → List ℕ → List ℕ
still h rest = if h.ended then [] else head_from h.line rest

-- a beginning of the head was read
pub record IsHeadUpTo (left : List ℕ) (h : HeadSoFar) (left' : Option (List ℕ)) : Type 0 where
  pub rest : List ℕ
  pub remaining : left' ≡ Some rest
  pub whole : left ≡ h.bytes ++ rest
  pub head : head_of left ≡ h.bytes ++ still h rest

pub head_starts : (o : Option (List ℕ)) (h : HeadSoFar) → h ≡ record { bytes = []; line = []; ended = false } → IfSome o (λ left. IsHeadUpTo left h o)
head_starts None h e = tt
head_starts (Some left) h e =
    let P : HeadSoFar → Type 0 = λ k. IsHeadUpTo left k (Some left) in
    subst P (sym e) (record { rest = left; remaining = refl; whole = refl; head = refl })

-- ---- a byte more

one_test : (t u : Bool) (line rest : List ℕ)
    → (if t then (if u then [] else head_from [] rest) else head_from line rest) ≡ (if t && u then [] else head_from (if t then [] else line) rest)
one_test true true line rest = refl
one_test true false line rest = refl
one_test false u line rest = refl

still_more : (h : HeadSoFar) (b : ℕ) (rest : List ℕ) → h.ended ≡ false → still h (b ∷ rest) ≡ b ∷ still (with_byte h b) rest
still_more h b rest going =
    ap (λ (t : Bool). cond t [] (head_from h.line (b ∷ rest))) going
    ∙ ap (λ (l : List ℕ). b ∷ l) (one_test (b == 10) (bytes_eq h.line (codes "run")) (h.line ++ b ∷ []) rest)

byte_more : (left rest : List ℕ) (h : HeadSoFar) (b : ℕ) (mid left' : Option (List ℕ)) (u : IsHeadUpTo left h mid) → h.ended ≡ false → u.rest ≡ b ∷ rest → left' ≡ Some rest
    → IsHeadUpTo left (with_byte h b) left'
byte_more left rest h b mid left' u going is remaining = record {
  rest = rest;
  remaining = remaining;
  whole = u.whole ∙ ap (λ (r : List ℕ). h.bytes ++ r) is ∙ sym (append_assoc h.bytes (b ∷ []) rest);
  head =
      u.head ∙ ap (λ (r : List ℕ). h.bytes ++ still h r) is ∙ ap (λ (r : List ℕ). h.bytes ++ r) (still_more h b rest going)
      ∙ sym (append_assoc h.bytes (b ∷ []) (still (with_byte h b) rest));
}

end_here : (left : List ℕ) (h : HeadSoFar) (mid left' : Option (List ℕ)) (u : IsHeadUpTo left h mid) → h.ended ≡ false → u.rest ≡ [] → left' ≡ Some [] → IsHeadUpTo left (ended_here h) left'
end_here left h mid left' u going is remaining = record {
  rest = [];
  remaining = remaining;
  whole = u.whole ∙ ap (λ (r : List ℕ). h.bytes ++ r) is;
  head = u.head ∙ ap (λ (r : List ℕ). h.bytes ++ still h r) is ∙ ap (λ (t : Bool). h.bytes ++ cond t [] []) going;
}

next_here : (left : List ℕ) (h : HeadSoFar) (byte : Option ℕ) (mid left' : Option (List ℕ)) (u : IsHeadUpTo left h mid) → h.ended ≡ false → GivesByte byte u.rest left'
    → IsHeadUpTo left (with_next h byte) left'
next_here left h None mid left' u going g = end_here left h mid left' u going g.0 g.1
next_here left h (Some b) mid left' u going g = byte_more left g.0 h b mid left' u going g.1 g.2

pub head_more : (o mid left' : Option (List ℕ)) (h h' : HeadSoFar) → h.ended ≡ false → IfSome o (λ left. IsHeadUpTo left h mid) → TakesNext mid h h' left'
    → IfSome o (λ left. IsHeadUpTo left h' left')
head_more None mid left' h h' going u t = tt
head_more (Some left) mid left' h h' going u t =
    let gives : GivesByte t.byte u.rest left' = subst (λ (o : Option (List ℕ)). IfSome o (λ rest. GivesByte t.byte rest left')) u.remaining t.gives in
    let P : HeadSoFar → Type 0 = λ k. IsHeadUpTo left k left' in
    subst P (sym t.head_is) (next_here left h t.byte mid left' u going gives)

-- ---- the head

taken_whole : (longest : ℕ) (left : List ℕ) (h : HeadSoFar) (mid : Option (List ℕ)) (u : IsHeadUpTo left h mid) → length h.bytes ≤ longest + 1
    → (ended : Bool) → h.ended ≡ ended → (not ended && nat_le (length h.bytes) longest) ≡ false → h.bytes ≡ take (longest + 1) (head_of left)
taken_whole longest left h mid u short true is over =
    let whole : head_of left ≡ h.bytes = u.head ∙ ap (λ (t : Bool). h.bytes ++ cond t [] (head_from h.line u.rest)) is ∙ append-nil h.bytes in
    sym (ap (take (longest + 1)) whole ∙ take_all (longest + 1) h.bytes short)
taken_whole longest left h mid u short false is over =
    let long : length h.bytes ≡ longest + 1 = grind (arith, nat_tests) in
    sym (ap (take (longest + 1)) u.head ∙ ap (λ (n : ℕ). take n (h.bytes ++ still h u.rest)) (sym long) ∙ take-append_seam h.bytes (still h u.rest))

left_behind : (bytes rest left : List ℕ) → left ≡ bytes ++ rest → rest ≡ drop (length bytes) left
left_behind bytes rest left whole = sym (ap (drop (length bytes)) whole ∙ drop-append-le (length bytes) bytes rest (omega arith) ∙ ap (λ (l : List ℕ). l ++ rest) (drop_all (length bytes) bytes (omega arith)))

pub head_read : (o mid : Option (List ℕ)) (longest : ℕ) (h : HeadSoFar) → length h.bytes ≤ longest + 1 → (not h.ended && nat_le (length h.bytes) longest) ≡ false
    → IfSome o (λ left. IsHeadUpTo left h mid) → IfSome o (λ left. GivesHead longest left h.bytes mid)
head_read None mid longest h short over u = tt
head_read (Some left) mid longest h short over u = record {
  head_is = taken_whole longest left h mid u short h.ended refl over;
  rest_is = u.remaining ∙ ap (λ (r : List ℕ). Some r) (left_behind h.bytes u.rest left u.whole);
}

-- ---- a head that is lost

pub on_err : {T E : Type 0} → (r : Result T E) (P : Type 0) → P → OnErr r P
on_err (Ok x) P p = tt
on_err (Err e) P p = p

short_front : (longest count : ℕ) (left front more : List ℕ) → head_of left ≡ front ++ more → length front ≡ count → count ≤ longest + 1 → count ≤ length (take (longest + 1) (head_of left))
short_front longest count left front more is long within =
    let e : length (head_of left) ≡ length front + length more = ap length is ∙ length-append front more in
    omega (arith, length-take (longest + 1) (head_of left), e, long, within)

unread : (left : List ℕ) (left' mid : Option (List ℕ)) (longest : ℕ) (h : HeadSoFar) (u : IsHeadUpTo left h mid) → length h.bytes ≤ longest + 1 → left' ≡ Some u.rest → LosesFront longest left left'
unread left left' mid longest h u short is = record {
  count = length h.bytes;
  within = short_front longest (length h.bytes) left h.bytes (still h u.rest) u.head refl short;
  rest_is = is ∙ ap (λ (r : List ℕ). Some r) (left_behind h.bytes u.rest left u.whole);
}

lost_here : (left : List ℕ) (mid left' : Option (List ℕ)) (longest : ℕ) (h : HeadSoFar) (u : IsHeadUpTo left h mid) → h.ended ≡ false → length h.bytes ≤ longest → LosesOne u.rest left'
    → LosesFront longest left left'
lost_here left mid left' longest h u going short (inl same) = unread left left' mid longest h u (omega arith) same
lost_here left mid left' longest h u going short (inr g) =
    let long : length (with_byte h g.0).bytes ≤ longest + 1 = omega (arith, length-append h.bytes (g.0 ∷ [])) in
    let more = byte_more left g.1.0 h g.0 mid left' u going g.1.1 g.1.2 in
    unread left left' left' longest (with_byte h g.0) more long more.remaining

pub head_lost : (o mid left' : Option (List ℕ)) (longest : ℕ) (h : HeadSoFar) → h.ended ≡ false → length h.bytes ≤ longest → IfSome o (λ left. IsHeadUpTo left h mid)
    → IfSome mid (λ rest. LosesOne rest left') → IfSome o (λ left. LosesFront longest left left')
head_lost None mid left' longest h going short u t = tt
head_lost (Some left) mid left' longest h going short u t =
    let loses : LosesOne u.rest left' = subst (λ (o : Option (List ℕ)). IfSome o (λ rest. LosesOne rest left')) u.remaining t in
    lost_here left mid left' longest h u going short loses

-- ---- how long it gets

pub longer_by_one : (h h' : HeadSoFar) (byte : Option ℕ) → h' ≡ with_next h byte → length h'.bytes ≤ length h.bytes + 1
longer_by_one h h' None e = let same : length h'.bytes ≡ length h.bytes = ap (λ (k : HeadSoFar). length k.bytes) e in omega arith
longer_by_one h h' (Some b) e =
    let more : length h'.bytes ≡ length (h.bytes ++ b ∷ []) = ap (λ (k : HeadSoFar). length k.bytes) e in
    omega (arith, more, length-append h.bytes (b ∷ []))

-- a head that has ended takes no more
abbrev pub last_step : Bool → ℕ
last_step true = 0
last_step false = 1

last_step_short : (t : Bool) → last_step t ≤ 1
last_step_short true = omega arith
last_step_short false = omega arith

pub room_left : (longest : ℕ) (h h' : HeadSoFar) (byte : Option ℕ) → h.ended ≡ false → length h.bytes ≤ longest → h' ≡ with_next h byte
    → (longest + 1 - length h'.bytes) + last_step h'.ended < (longest + 1 - length h.bytes) + last_step h.ended
room_left longest h h' None going short e =
    let same : length h'.bytes ≡ length h.bytes = ap (λ (k : HeadSoFar). length k.bytes) e in
    let now : last_step h'.ended ≡ 0 = ap (λ (k : HeadSoFar). last_step k.ended) e in
    let before : last_step h.ended ≡ 1 = ap last_step going in
    omega (arith, same, now, before)
room_left longest h h' (Some b) going short e =
    let more : length h'.bytes ≡ length (h.bytes ++ b ∷ []) = ap (λ (k : HeadSoFar). length k.bytes) e in
    let now : last_step h'.ended ≤ 1 = last_step_short h'.ended in
    let before : last_step h.ended ≡ 1 = ap last_step going in
    omega (arith, more, length-append h.bytes (b ∷ []), now, before)

-- what the test says with which the head goes on
pub goes_on : (ended : Bool) (n longest : ℕ) → (not ended && nat_le n longest) ≡ true → (ended ≡ false) × (n ≤ longest)
goes_on true n longest e = cc
goes_on false n longest e = (refl, grind (arith, nat_tests))
