-- Laws of groups.
use Rattle.std.proofs.Common.{◌≡◌, ℕ, suc, ◌+◌, ◌*◌, ◌-◌, ◌≤◌, List, [], ◌∷◌, ◌++◌, length, take, drop, refl, sym, ◌∙◌, ap, append_assoc, append-nil, arith, subst, Vec, Global}
use Rattle.std.proofs.Math.Nat.{suc-mul, zero-mul}
use Rattle.std.proofs.lemmas.List.{length-append}
use Rattle.std.specs.List.{AllByRecursion, AllZip}
use Rattle.item_groups.specs.Groups.{flat, HasSize}

pub flat-push : {A : Type 0} (groups : List (Vec A Global)) (group : Vec A Global) → flat (groups ++ group ∷ []) ≡ flat groups ++ group.items
flat-push [] group = append-nil group.items
flat-push (g ∷ groups) group = ap (λ rest. g.items ++ rest) (flat-push groups group) ∙ sym (append_assoc g.items (flat groups) group.items)

-- what stands in two lists, one behind the other, has parts that stand in each
module _ {A B : Type 0} (R : A → B → Type 0) where
  record Parted (xs ys : List A) (zs : List B) : Type 0 where
    front : List B
    back : List B
    is : zs ≡ front ++ back
    fronts : AllZip R xs front
    backs : AllZip R ys back
    long : length front ≡ length xs

  parted : (xs ys : List A) (zs : List B) → AllZip R (xs ++ ys) zs → Parted xs ys zs
  parted [] ys zs h = record { front = []; back = zs; is = refl; fronts = tt; backs = h; long = refl }
  parted (x ∷ xs) ys [] h = absurd h
  parted (x ∷ xs) ys (z ∷ zs) h =
      let p = parted xs ys zs h.1 in
      record { front = z ∷ p.front; back = p.back; is = ap (λ l. z ∷ l) p.is; fronts = (h.0, p.fronts); backs = p.backs; long = ap suc p.long }

front-same : {A : Type 0} (a b c d : List A) → length a ≡ length b → a ++ c ≡ b ++ d → (a ≡ b) × (c ≡ d)
front-same [] [] c d long same = (refl, same)
front-same [] (y ∷ b) c d long same = absurd (omega (arith, long))
front-same (x ∷ a) [] c d long same = absurd (omega (arith, long))
front-same (x ∷ a) (y ∷ b) c d long same =
    let head : x ≡ y = cc in
    let tail : a ++ c ≡ b ++ d = cc in
    let rest = front-same a b c d (omega (arith, long)) tail in
    ((λ i. head i ∷ rest.0 i), rest.1)

-- Where items of groups of one size stand beside items of groups of this size, so do the groups' items.
pub groups_zip : {A B : Type 0} (R : A → B → Type 0) (size : ℕ) (gs : List (Vec A Global)) (hs : List (Vec B Global))
    → AllByRecursion (HasSize size) gs → AllByRecursion (HasSize size) hs → length gs ≡ length hs → AllZip R (flat gs) (flat hs)
    → AllZip (λ (g : Vec A Global) (h : Vec B Global). AllZip R g.items h.items) gs hs
groups_zip R size [] [] a b long h = tt
groups_zip R size [] (y ∷ hs) a b long h = absurd (omega (arith, long))
groups_zip R size (x ∷ gs) [] a b long h = absurd (omega (arith, long))
groups_zip R size (x ∷ gs) (y ∷ hs) a b long h =
    let p = parted R x.items (flat gs) (y.items ++ flat hs) h in
    let s = front-same p.front y.items p.back (flat hs) (p.long ∙ a.0 ∙ sym b.0) (sym p.is) in (
      subst (λ l. AllZip R x.items l) s.0 p.fronts,
      groups_zip R size gs hs a.1 b.1 (omega (arith, long)) (subst (λ l. AllZip R (flat gs) l) s.1 p.backs),
    )

pub goes-on : {X : Type 0} (front rest rest' all : List X) (x : X) → front ++ rest ≡ all → rest ≡ x ∷ rest' → (front ++ x ∷ []) ++ rest' ≡ all
goes-on {X} front rest rest' all x was step = append_assoc front (x ∷ []) rest' ∙ ap (λ (more : List X). front ++ more) (sym step) ∙ was

-- a count of items of groups that are left, and of one group fewer
pub one_more : (count at size len : ℕ) → suc at ≤ count → len ≡ (count - at) * size → len ≡ (count - suc at) * size + size
one_more count at size len less is = let e : count - at ≡ suc (count - suc at) = omega (arith, less) in is ∙ ap (λ (n : ℕ). n * size) e ∙ suc-mul (count - suc at) size

pub of_none : {A : Type 0} (xs : List A) → length xs ≡ 0 → xs ≡ []
of_none [] none = refl
of_none (x ∷ xs) none = absurd (omega (arith, none))

pub sizes-push : {A : Type 0} (size : ℕ) (groups : List (Vec A Global)) (group : Vec A Global) → AllByRecursion (HasSize size) groups → HasSize size group → AllByRecursion (HasSize size) (groups ++ group ∷ [])
sizes-push size [] group all here = (here, tt)
sizes-push size (g ∷ groups) group all here = (all.0, sizes-push size groups group all.1 here)

pub enough : (count at size len : ℕ) → suc at ≤ count → len ≡ (count - at) * size → size ≤ len
enough count at size len less is = let e = one_more count at size len less is in let rest : ℕ = (count - suc at) * size in bound rest size len e where
  bound : (rest size len : ℕ) → len ≡ rest + size → size ≤ len
  bound rest size len e = omega arith

pub has_room : (count at len capacity : ℕ) → suc at ≤ count → len ≡ at → count ≤ capacity → suc len ≤ capacity
has_room count at len capacity less is fits = omega arith

pub moved : (count at size len behind : ℕ) → suc at ≤ count → len ≡ (count - at) * size → behind + size ≡ len → behind ≡ (count - (at + 1)) * size
moved count at size len behind less is parted =
    let e : suc at ≡ at + 1 = omega arith in
    same behind ((count - suc at) * size) size (parted ∙ one_more count at size len less is) ∙ ap (λ (n : ℕ). (count - n) * size) e where
      same : (a b size : ℕ) → a + size ≡ b + size → a ≡ b
      same a b size e = omega arith

pub none_left : (count at size len : ℕ) → count ≤ at → len ≡ (count - at) * size → len ≡ 0
none_left count at size len done is = let e : count - at ≡ 0 = omega arith in is ∙ ap (λ (n : ℕ). n * size) e ∙ zero-mul size

pub len_left : {X : Type 0} (xs all front : List X) → front ++ xs ≡ all → length xs ≡ 0 → front ≡ all
len_left xs all front is none = sym (append-nil front) ∙ ap (λ l. front ++ l) (sym (of_none xs none)) ∙ is

pub length-flat : {A : Type 0} (size : ℕ) (groups : List (Vec A Global)) → AllByRecursion (HasSize size) groups → length (flat groups) ≡ length groups * size
length-flat size [] all = sym (zero-mul size)
length-flat size (g ∷ groups) all =
    length-append g.items (flat groups)
    ∙ (λ i. all.0 i + length-flat size groups all.1 i)
    ∙ swap size (length groups * size)
    ∙ sym (suc-mul (length groups) size) where
      swap : (a b : ℕ) → a + b ≡ b + a
      swap a b = omega arith
