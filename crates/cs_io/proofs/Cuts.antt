-- Pieces of bytes, and a place in the first of them.
use Rattle.std.proofs.Common.{◌≡◌, ℕ, ◌+◌, ◌-◌, ◌<◌, ◌≤◌, min, inl, inr, Bool, true, false, List, [], ◌∷◌, ◌++◌, Some, length, get_or, take, drop, refl, sym, ◌∙◌, ap, subst, arith}
use Rattle.std.specs.Prelude.{◌==◌, if◌then◌else◌, slice_get}
use Rattle.std.specs.List.{concat}
use Rattle.std.proofs.lemmas.Bool.{eqb-true, le-leb}
use Rattle.std.proofs.lemmas.Bool.Decides.{leb_tells}
use Rattle.std.proofs.lemmas.List.{drop_more, drop-drop, length-drop, length-append, take-append-le, drop-append-le}
use Rattle.std.proofs.lemmas.Option.{slice_get_within, get_or_from_slice_get}
use Rattle.std.proofs.Math.Seq.{drop-append_seam}
use Rattle.std.proofs.Math.ListN.{drop_of_length-le}
use Rattle.cs_io.specs.Links.{idles_of}
use Rattle.cs_io.specs.Pieces.{past, behind}
use Rattle.cs_io.specs.Streams.{Takes}

-- what stands at a place comes first from there on
drop-at : {X : Type 0} (xs : List X) (i : ℕ) (x : X) → i < length xs → x ≡ get_or xs i x → drop i xs ≡ x ∷ drop (i + 1) xs
drop-at xs i x lt at = drop_more xs i x lt ∙ ap (λ (y : _). y ∷ drop (i + 1) xs) (sym at)

-- a list by its first item
pub by-first : {X : Type 0} (xs : List X) (x : X) → slice_get xs 0 ≡ Some x → xs ≡ x ∷ drop 1 xs
by-first xs x at = drop-at xs 0 x (slice_get_within xs 0 x at) (sym (get_or_from_slice_get xs 0 x x at))

-- past the last piece nothing is left
pub behind-end : (pieces : List (List ℕ)) (next at : ℕ) → length pieces ≤ next → behind at (drop next pieces) ≡ []
behind-end pieces next at le = ap (behind at) (drop_of_length-le pieces le)

pub behind-zero : (pieces : List (List ℕ)) → behind 0 pieces ≡ pieces
behind-zero [] = refl
behind-zero (piece ∷ pieces) = refl

pub past-gone : (n : ℕ) (piece : List ℕ) (rest : List (List ℕ)) → length piece ≤ n → past n (piece ∷ rest) ≡ rest
past-gone n piece rest le = ap (λ (b : Bool). if b then rest else drop n piece ∷ rest) (le-leb (length piece) n le)

pub past-kept : (n : ℕ) (piece : List ℕ) (rest : List (List ℕ)) → n < length piece → past n (piece ∷ rest) ≡ drop n piece ∷ rest
past-kept n piece rest lt =
    elim (leb_tells (length piece) n) [
      | inl gone ↦ absurd (let le = gone.1 in omega (arith, le, lt))
      | inr kept ↦ ap (λ (b : Bool). if b then rest else drop n piece ∷ rest) kept.0
    ]

-- a step to the next piece
pub goes_past : (pieces : List (List ℕ)) (next at n : ℕ) (piece : List ℕ) → next < length pieces → piece ≡ get_or pieces next piece → length piece - at ≤ n → behind 0 (drop (next + 1) pieces) ≡ past n (behind at (drop next pieces))
goes_past pieces next at n piece there is le =
    rw (drop-at pieces next piece there is) (
    behind-zero (drop (next + 1) pieces)
    ∙ sym (past-gone n (drop at piece) (drop (next + 1) pieces) (rw (length-drop at piece) le)))

-- a step within a piece
pub goes_on : (pieces : List (List ℕ)) (next at n : ℕ) (piece : List ℕ) → next < length pieces → piece ≡ get_or pieces next piece → n < length piece - at → behind (at + n) (drop next pieces) ≡ past n (behind at (drop next pieces))
goes_on pieces next at n piece there is lt =
    rw (drop-at pieces next piece there is) (
    ap (λ (left : List ℕ). left ∷ drop (next + 1) pieces) (sym (drop-drop n at piece))
    ∙ sym (past-kept n (drop at piece) (drop (next + 1) pieces) (rw (length-drop at piece) lt)))

-- more room than a piece has bytes makes no difference
pub past-min : (n : ℕ) (piece : List ℕ) (rest : List (List ℕ)) → past (min (length piece) n) (piece ∷ rest) ≡ past n (piece ∷ rest)
past-min n piece rest =
    elim (leb_tells (length piece) n) [
      | inl gone ↦ past-gone (min (length piece) n) piece rest (let le = gone.1 in omega (arith, le)) ∙ sym (past-gone n piece rest gone.1)
      | inr kept ↦ ap (λ (m : ℕ). past m (piece ∷ rest)) (let lt = kept.1 in omega (arith, lt))
    ]

-- the bytes behind the first of a piece
pub concat-past : (n : ℕ) (piece : List ℕ) (rest : List (List ℕ)) → n ≤ length piece → concat (past n (piece ∷ rest)) ≡ drop n (piece ++ concat rest)
concat-past n piece rest within =
    elim (leb_tells (length piece) n) [
      | inl gone ↦
          let le = gone.1 in
          let e : length piece ≡ n = omega (arith, le, within) in
          ap concat (past-gone n piece rest gone.1) ∙ subst (λ (m : ℕ). concat rest ≡ drop m (piece ++ concat rest)) e (sym (drop-append_seam piece (concat rest)))
      | inr kept ↦ ap concat (past-kept n piece rest kept.1) ∙ sym (drop-append-le n piece (concat rest) within)
    ]

pub is-nil : (xs : List ℕ) → (length xs == 0) ≡ true → xs ≡ []
is-nil [] none = refl
is-nil (x ∷ xs) none = absurd (let e = eqb-true (length (x ∷ xs)) 0 none in omega (arith, e))

pub is-more : (xs : List ℕ) → (length xs == 0) ≡ false → 0 < length xs
is-more [] some = cc
is-more (x ∷ xs) some = omega arith

pub idles_of-more : (piece : List ℕ) (rest : List (List ℕ)) → 0 < length piece → idles_of (piece ∷ rest) ≡ 0
idles_of-more [] rest some = omega (arith, some)
idles_of-more (b ∷ piece) rest some = refl

-- what a read that finds bytes takes
pub takes-bytes :
    (pieces rest pieces' : List (List ℕ)) (left buffer filled : List ℕ) (count : ℕ)
    → pieces ≡ left ∷ rest
    → 0 < length left
    → count ≡ min (length left) (length buffer)
    → filled ≡ take count left
    → pieces' ≡ past count pieces
    → Takes count (concat pieces) buffer (filled ++ drop count buffer) (Some (concat pieces'))
takes-bytes pieces rest pieces' left buffer filled count by some amount fill after =
    let within : count ≤ length left = omega (arith, amount) in
    let all : concat pieces ≡ left ++ concat rest = ap concat by in
    record {
      within = rw all (let sum = length-append left (concat rest) in omega (arith, within, sum));
      bytes =
          ap (λ (v : List ℕ). v ++ drop count buffer)
          (fill ∙ sym (take-append-le count left (concat rest) within) ∙ sym (ap (take count) all));
      rest =
          ap Some
          (ap concat (after ∙ ap (past count) by) ∙ concat-past count left rest within ∙ sym (ap (drop count) all));
      end = λ none room. absurd (omega (arith, some, amount, none, room));
    }
