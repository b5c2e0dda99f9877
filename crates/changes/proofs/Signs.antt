-- The order of rows and bounds: total, equal only for the same, and told by the bytes unless one is a beginning of the
-- other. The ends are no bytes, so two signs that differ do so before either is over.
use Rattle.std.proofs.Common.{◌≡◌, ◌≢◌, ℕ, ◌⊎◌, inl, inr, List, [], ◌∷◌, ◌++◌, Bool, true, false, ◌==◌, ◌&&◌, eqb-true, eq-eqb, refl, sym, ◌∙◌, ap, subst, arith}
use Rattle.std.proofs.lemmas.Bool.{false≢true, true≢false}
use Rattle.std.specs.Cmp.Lexicographic.{slice_cmp}
use Rattle.std.specs.List.{starts_with}
use Rattle.std.specs.Ordering.{nat_cmp, bool_cmp, ordering_then}
use Rattle.std.specs.declared.cmp.Ordering.{Ordering}
use Rattle.std.specs.declared.cmp.Ordering.TheVariants.{Less, Equal, Greater}
use Rattle.std.proofs.lemmas.Cmp.{nat_cmp_total, nat_list_cmp_total, tied_itself}
use Rattle.std.proofs.lemmas.Map.Lookups.{exact_unsigned}
use Rattle.changes.specs.declared.Bound.{Bound}
use Rattle.changes.specs.Order.{signs, end_of, row_signs, bound_signs, sign_cmp, signs_cmp, StandsBelow, NotAbove}
use Rattle.changes.specs.Places.{bound_cmp}
use Rattle.changes.specs.Tests.{is_past}
use Rattle.changes.specs.Totals.{signs_total}
use Rattle.changes.proofs.Orderings.{then_assoc, then_end, then_equal, then_less, then_on, cases_ordering, lists_exact, bytes_exact, less_back, greater_back}

pair_made : {a b : ℕ × ℕ} → a.0 ≡ b.0 → a.1 ≡ b.1 → a ≡ b
pair_made {a} {b} p q = ap (λ (n : ℕ). let r : ℕ × ℕ = (n, a.1) in r) p ∙ ap (λ (n : ℕ). let r : ℕ × ℕ = (b.0, n) in r) q

sign_exact : (a b : ℕ × ℕ) → sign_cmp a b ≡ Equal → a ≡ b
sign_exact a b p =
    let parts = then_equal _ _ p in
    pair_made (exact_unsigned a.0 b.0 parts.0) (exact_unsigned a.1 b.1 parts.1)

pub signs_exact : (a b : List (ℕ × ℕ)) → signs_cmp a b ≡ Equal → a ≡ b
signs_exact a b p = lists_exact sign_cmp sign_exact a b p

-- ---- below and above

-- neither above the other: one
pub one_from_both : (a b : List (ℕ × ℕ)) → NotAbove a b → NotAbove b a → a ≡ b
one_from_both a b p q =
    elim (cases_ordering (signs_cmp a b)) [
      | inl less ↦ absurd (q (less_back signs_total a b less))
      | inr (inl equal) ↦ signs_exact a b equal
      | inr (inr greater) ↦ absurd (p greater)
    ]

pub NotAbove_trans : (a b c : List (ℕ × ℕ)) → NotAbove a b → NotAbove b c → NotAbove a c
NotAbove_trans a b c p q over =
    elim (cases_ordering (signs_cmp a b)) [
      | inl less ↦ q (less_back signs_total c b (signs_total.trans c a b (greater_back signs_total a c over) less))
      | inr (inl equal) ↦ q (sym (signs_total.congr a b c equal) ∙ over)
      | inr (inr greater) ↦ p greater
    ]

pub below_on : (a b c : List (ℕ × ℕ)) → NotAbove a b → StandsBelow b c → StandsBelow a c
below_on a b c p q =
    elim (cases_ordering (signs_cmp a b)) [
      | inl less ↦ signs_total.trans a b c less q
      | inr (inl equal) ↦ signs_total.congr a b c equal ∙ q
      | inr (inr greater) ↦ absurd (p greater)
    ]

pub below_upto : (a b c : List (ℕ × ℕ)) → StandsBelow a b → NotAbove b c → StandsBelow a c
below_upto a b c p q =
    elim (cases_ordering (signs_cmp b c)) [
      | inl less ↦ signs_total.trans a b c p less
      | inr (inl equal) ↦ let e : b ≡ c = signs_exact b c equal in subst (StandsBelow a) e p
      | inr (inr greater) ↦ absurd (q greater)
    ]

-- two steps up
pub below_not_above : (a b c : List (ℕ × ℕ)) → StandsBelow a b → StandsBelow b c → NotAbove a c
below_not_above a b c p q over = let r = signs_total.trans a b c p q in cc

pub NotAbove_refl : (a : List (ℕ × ℕ)) → NotAbove a a
NotAbove_refl a p = let e = tied_itself signs_total a in cc

-- ---- what follows two lists counts only if they are equal

abbrev Lead : List (ℕ × ℕ) → List (ℕ × ℕ) → Type 0
Lead xs ys = (us vs : List (ℕ × ℕ)) → signs_cmp (xs ++ us) (ys ++ vs) ≡ ordering_then (signs_cmp xs ys) (signs_cmp us vs)

lead_one : (x y : ℕ × ℕ) → Lead (x ∷ []) (y ∷ [])
lead_one x y us vs = ap (λ (o : Ordering). ordering_then o (signs_cmp us vs)) (sym (then_end (sign_cmp x y)))

then_apart : (a b c d : Ordering) → a ≢ Equal → ordering_then a b ≡ ordering_then (ordering_then a c) d
then_apart Less b c d p = refl
then_apart Equal b c d p = absurd (p refl)
then_apart Greater b c d p = refl

end_apart : (m x : ℕ) → m ≢ 2 → sign_cmp (m, 0) (2, x) ≢ Equal
end_apart m x p e = p (exact_unsigned m 2 (then_equal _ _ e).0)

byte_apart : (n x : ℕ) → n ≢ 2 → sign_cmp (2, x) (n, 0) ≢ Equal
byte_apart n x p e = p (sym (exact_unsigned 2 n (then_equal _ _ e).0))

lead_signs : (a b : List ℕ) (m n : ℕ) → m ≢ 2 → n ≢ 2 → Lead (signs a m) (signs b n)
lead_signs [] [] m n p q us vs = lead_one (m, 0) (n, 0) us vs
lead_signs [] (y ∷ ys) m n p q us vs =
    then_apart (sign_cmp (m, 0) (2, y)) (signs_cmp us (signs ys n ++ vs)) (signs_cmp [] (signs ys n)) (signs_cmp us vs) (end_apart m y p)
lead_signs (x ∷ xs) [] m n p q us vs =
    then_apart (sign_cmp (2, x) (n, 0)) (signs_cmp (signs xs m ++ us) vs) (signs_cmp (signs xs m) []) (signs_cmp us vs) (byte_apart n x q)
lead_signs (x ∷ xs) (y ∷ ys) m n p q us vs =
    ap (ordering_then (sign_cmp (2, x) (2, y))) (lead_signs xs ys m n p q us vs) ∙ sym (then_assoc (sign_cmp (2, x) (2, y)) (signs_cmp (signs xs m) (signs ys n)) (signs_cmp us vs))

-- ---- rows and bounds

-- rows in one order with their bytes
pub rows_by_bytes : (a b : List ℕ) → signs_cmp (row_signs a) (row_signs b) ≡ slice_cmp nat_cmp a b
rows_by_bytes [] [] = refl
rows_by_bytes [] (y ∷ ys) = refl
rows_by_bytes (x ∷ xs) [] = refl
rows_by_bytes (x ∷ xs) (y ∷ ys) = ap (ordering_then (nat_cmp x y)) (rows_by_bytes xs ys)

end_not_byte : (b : Bool) → end_of b ≢ 2
end_not_byte false p = omega (arith, p)
end_not_byte true p = omega (arith, p)

pub lead_bounds : (a b : Bound) → Lead (bound_signs a) (bound_signs b)
lead_bounds a b = lead_signs a.at b.at (end_of a.after) (end_of b.after) (end_not_byte a.after) (end_not_byte b.after)

pub lead_rows : (a b : List ℕ) → Lead (row_signs a) (row_signs b)
lead_rows a b = lead_signs a b 1 1 (λ p. omega (arith, p)) (λ p. omega (arith, p))

-- the bytes and the ends are determined
ends_exact : (a b : List ℕ) (m n : ℕ) → m ≢ 2 → n ≢ 2 → signs_cmp (signs a m) (signs b n) ≡ Equal → (a ≡ b) × (m ≡ n)
ends_exact [] [] m n p q e = (refl, exact_unsigned m n (then_equal _ _ (then_equal _ _ e).0).0)
ends_exact [] (y ∷ ys) m n p q e = absurd (end_apart m y p (then_equal _ _ e).0)
ends_exact (x ∷ xs) [] m n p q e = absurd (byte_apart n x q (then_equal _ _ e).0)
ends_exact (x ∷ xs) (y ∷ ys) m n p q e =
    let parts = then_equal _ _ e in
    let head : x ≡ y = exact_unsigned x y parts.0 in
    let rest = ends_exact xs ys m n p q parts.1 in
    (ap (λ (z : ℕ). z ∷ xs) head ∙ ap (λ (zs : List ℕ). y ∷ zs) rest.0, rest.1)

end_exact : (a b : Bool) → end_of a ≡ end_of b → a ≡ b
end_exact false false p = refl
end_exact false true p = absurd (omega (arith, p))
end_exact true false p = absurd (omega (arith, p))
end_exact true true p = refl

pub bound_made : {a b : Bound} → a.at ≡ b.at → a.after ≡ b.after → a ≡ b
bound_made {a} {b} p q =
    ap (λ (n : List ℕ). let r : Bound = record { at = n; after = a.after } in r) p ∙ ap (λ (n : Bool). let r : Bound = record { at = b.at; after = n } in r) q

pub bound_exact : (a b : Bound) → bound_cmp a b ≡ Equal → a ≡ b
bound_exact a b e =
    let parts = ends_exact a.at b.at (end_of a.after) (end_of b.after) (end_not_byte a.after) (end_not_byte b.after) e in
    bound_made parts.0 (end_exact a.after b.after parts.1)

end_not_row : (b : Bool) → end_of b ≢ 1
end_not_row false p = omega (arith, p)
end_not_row true p = omega (arith, p)

pub bound_from_signs : (a b : Bound) → bound_signs a ≡ bound_signs b → a ≡ b
bound_from_signs a b e = bound_exact a b (subst (λ (l : List (ℕ × ℕ)). signs_cmp (bound_signs a) l ≡ Equal) e (tied_itself signs_total (bound_signs a)))

-- a bound is no row
bound_not_row : (b : Bound) (row : List ℕ) → signs_cmp (bound_signs b) (row_signs row) ≢ Equal
bound_not_row b row e = end_not_row b.after (ends_exact b.at row (end_of b.after) 1 (end_not_byte b.after) (λ p. omega (arith, p)) e).1

pub row_behind : (b : Bound) (row : List ℕ) → (StandsBelow (row_signs row) (bound_signs b) → ⊥) → StandsBelow (bound_signs b) (row_signs row)
row_behind b row not_below =
    elim (cases_ordering (signs_cmp (bound_signs b) (row_signs row))) [
      | inl less ↦ less
      | inr (inl equal) ↦ absurd (bound_not_row b row equal)
      | inr (inr greater) ↦ absurd (not_below (greater_back signs_total (bound_signs b) (row_signs row) greater))
    ]

pub not_both_below : (a b : List (ℕ × ℕ)) → StandsBelow a b → StandsBelow b a → ⊥
not_both_below a b p q = let back = less_back signs_total b a q in cc

-- ---- told by the bytes

and_both : (a b : Bool) → (a && b) ≡ true → (a ≡ true) × (b ≡ true)
and_both true b p = (refl, p)
and_both false b p = absurd (false≢true p)

and_on : (a b : Bool) → a ≡ true → (a && b) ≡ b
and_on a b p = ap (λ (t : Bool). t && b) p

tied_same : (x y : ℕ) → (x == y) ≡ true → nat_cmp x y ≡ Equal
tied_same x y p = subst (λ (z : ℕ). nat_cmp x z ≡ Equal) (eqb-true x y p) (tied_itself nat_cmp_total x)

same_tied : (x y : ℕ) → nat_cmp x y ≡ Equal → (x == y) ≡ true
same_tied x y p = eq-eqb x y (exact_unsigned x y p)

-- bytes that begin others stand below them, and their end behind all rows above
end_behind : (a b : List ℕ) (n : ℕ) → slice_cmp nat_cmp a b ≡ Less → starts_with ◌==◌ b a ≡ true → signs_cmp (signs a 3) (signs b n) ≡ Greater
end_behind [] [] n p q = cc
end_behind [] (y ∷ ys) n p q = refl
end_behind (x ∷ xs) [] n p q = cc
end_behind (x ∷ xs) (y ∷ ys) n p q =
    let parts = and_both (x == y) (starts_with ◌==◌ ys xs) q in
    let tied : nat_cmp x y ≡ Equal = tied_same x y parts.0 in
    then_on (nat_cmp x y) (signs_cmp (signs xs 3) (signs ys n)) tied ∙ end_behind xs ys n (sym (then_on (nat_cmp x y) (slice_cmp nat_cmp xs ys) tied) ∙ p) parts.1

below_byte : (m y : ℕ) (o : Ordering) → nat_cmp m 2 ≡ Less → ordering_then (sign_cmp (m, 0) (2, y)) o ≡ Less
below_byte m y o p = ap (λ (z : Ordering). ordering_then (ordering_then z (nat_cmp 0 y)) o) p

-- otherwise the order of bytes is that of the signs
less_below : (a b : List ℕ) (m n : ℕ) → slice_cmp nat_cmp a b ≡ Less → (nat_cmp m 2 ≡ Less) ⊎ (starts_with ◌==◌ b a ≡ false) → signs_cmp (signs a m) (signs b n) ≡ Less
less_below [] [] m n p q = cc
less_below [] (y ∷ ys) m n p (inl q) = below_byte m y (signs_cmp [] (signs ys n)) q
less_below [] (y ∷ ys) m n p (inr q) = absurd (true≢false q)
less_below (x ∷ xs) [] m n p q = cc
less_below (x ∷ xs) (y ∷ ys) m n p q =
    elim (then_less (nat_cmp x y) (slice_cmp nat_cmp xs ys) p) [
      | inl less ↦ ap (λ (o : Ordering). ordering_then o (signs_cmp (signs xs m) (signs ys n))) less
      | inr (tied, rest) ↦
          then_on (nat_cmp x y) (signs_cmp (signs xs m) (signs ys n)) tied
          ∙ less_below xs ys m n rest
          (elim q [ inl low ↦ inl low | inr apart ↦ inr (sym (and_on (x == y) (starts_with ◌==◌ ys xs) (same_tied x y tied)) ∙ apart) ])
    ]

greater_above : (a b : List ℕ) (m n : ℕ) → slice_cmp nat_cmp a b ≡ Greater → (nat_cmp n 2 ≡ Less) ⊎ (starts_with ◌==◌ a b ≡ false) → signs_cmp (signs a m) (signs b n) ≡ Greater
greater_above a b m n p q = less_back signs_total (signs b n) (signs a m) (less_below b a n m (greater_back nat_list_cmp_total a b p) q)

same_bytes : (a : List ℕ) (m n : ℕ) → signs_cmp (signs a m) (signs a n) ≡ nat_cmp m n
same_bytes [] m n = then_end (ordering_then (nat_cmp m n) Equal) ∙ then_end (nat_cmp m n)
same_bytes (x ∷ xs) m n = then_on (nat_cmp x x) (signs_cmp (signs xs m) (signs xs n)) (tied_itself nat_cmp_total x) ∙ same_bytes xs m n

not_past : (after starts : Bool) → (after && starts) ≡ false → (nat_cmp (end_of after) 2 ≡ Less) ⊎ (starts ≡ false)
not_past false starts p = inl refl
not_past true starts p = inr p

-- how two bounds compare
pub past_above : (a b : Bound) → slice_cmp nat_cmp a.at b.at ≡ Less → is_past a b.at ≡ true → signs_cmp (bound_signs a) (bound_signs b) ≡ Greater
past_above a b p q =
    let parts = and_both a.after (starts_with ◌==◌ b.at a.at) q in
    ap (λ (t : Bool). signs_cmp (signs a.at (end_of t)) (bound_signs b)) parts.0 ∙ end_behind a.at b.at (end_of b.after) p parts.1

pub past_below : (a b : Bound) → slice_cmp nat_cmp a.at b.at ≡ Greater → is_past b a.at ≡ true → signs_cmp (bound_signs a) (bound_signs b) ≡ Less
past_below a b p q = greater_back signs_total (bound_signs b) (bound_signs a) (past_above b a (greater_back nat_list_cmp_total a.at b.at p) q)

pub bytes_below : (a b : Bound) → slice_cmp nat_cmp a.at b.at ≡ Less → is_past a b.at ≡ false → signs_cmp (bound_signs a) (bound_signs b) ≡ Less
bytes_below a b p q = less_below a.at b.at (end_of a.after) (end_of b.after) p (not_past a.after (starts_with ◌==◌ b.at a.at) q)

pub bytes_above : (a b : Bound) → slice_cmp nat_cmp a.at b.at ≡ Greater → is_past b a.at ≡ false → signs_cmp (bound_signs a) (bound_signs b) ≡ Greater
bytes_above a b p q = greater_above a.at b.at (end_of a.after) (end_of b.after) p (not_past b.after (starts_with ◌==◌ a.at b.at) q)

ends_by_side : (a b : Bool) → nat_cmp (end_of a) (end_of b) ≡ bool_cmp a b
ends_by_side false false = refl
ends_by_side false true = refl
ends_by_side true false = refl
ends_by_side true true = refl

pub sides_tell : (a b : Bound) → slice_cmp nat_cmp a.at b.at ≡ Equal → signs_cmp (bound_signs a) (bound_signs b) ≡ bool_cmp a.after b.after
sides_tell a b p =
    subst (λ (at : List ℕ). signs_cmp (bound_signs a) (signs at (end_of b.after)) ≡ bool_cmp a.after b.after) (bytes_exact a.at b.at p)
    (same_bytes a.at (end_of a.after) (end_of b.after) ∙ ends_by_side a.after b.after)

-- how a row and a bound compare
pub row_below_bytes : (row : List ℕ) (b : Bound) → slice_cmp nat_cmp row b.at ≡ Less → StandsBelow (row_signs row) (bound_signs b)
row_below_bytes row b p = less_below row b.at 1 (end_of b.after) p (inl refl)

row_at_end : (after : Bool) → nat_cmp 1 (end_of after) ≡ Less → after ≡ true
row_at_end true p = refl
row_at_end false p = cc

row_before_end : (after : Bool) → after ≡ true → nat_cmp 1 (end_of after) ≡ Less
row_before_end true p = refl
row_before_end false p = cc

same_row : (row : List ℕ) (b : Bound) → slice_cmp nat_cmp row b.at ≡ Equal → signs_cmp (row_signs row) (bound_signs b) ≡ nat_cmp 1 (end_of b.after)
same_row row b p = subst (λ (at : List ℕ). signs_cmp (row_signs row) (signs at (end_of b.after)) ≡ nat_cmp 1 (end_of b.after)) (bytes_exact row b.at p) (same_bytes row 1 (end_of b.after))

pub row_below_after : (row : List ℕ) (b : Bound) → slice_cmp nat_cmp row b.at ≡ Equal → b.after ≡ true → StandsBelow (row_signs row) (bound_signs b)
row_below_after row b p t = same_row row b p ∙ row_before_end b.after t

pub after_from_below : (row : List ℕ) (b : Bound) → slice_cmp nat_cmp row b.at ≡ Equal → StandsBelow (row_signs row) (bound_signs b) → b.after ≡ true
after_from_below row b p s = row_at_end b.after (sym (same_row row b p) ∙ s)

pub row_below_past : (row : List ℕ) (b : Bound) → slice_cmp nat_cmp row b.at ≡ Greater → is_past b row ≡ true → StandsBelow (row_signs row) (bound_signs b)
row_below_past row b p q =
    let parts = and_both b.after (starts_with ◌==◌ row b.at) q in
    ap (λ (t : Bool). signs_cmp (row_signs row) (signs b.at (end_of t))) parts.0
    ∙ greater_back signs_total (signs b.at 3) (row_signs row) (end_behind b.at row 1 (greater_back nat_list_cmp_total row b.at p) parts.1)

past_or_not : (t : Bool) → (t ≡ true) ⊎ (t ≡ false)
past_or_not true = inl refl
past_or_not false = inr refl

pub past_from_below : (row : List ℕ) (b : Bound) → slice_cmp nat_cmp row b.at ≡ Greater → StandsBelow (row_signs row) (bound_signs b) → is_past b row ≡ true
past_from_below row b p s =
    elim (past_or_not (is_past b row)) [
      | inl past ↦ past
      | inr apart ↦ let above : signs_cmp (row_signs row) (bound_signs b) ≡ Greater = greater_above row b.at 1 (end_of b.after) p (not_past b.after (starts_with ◌==◌ row b.at) apart) in cc
    ]
