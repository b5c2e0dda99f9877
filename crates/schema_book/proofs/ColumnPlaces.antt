-- The places of columns, by name, with one column more.
use Rattle.std.proofs.Common.{◌≡◌, ◌<◌, ◌+◌, ◌++◌, ◌∷◌, [], ℕ, suc, arith, Bool, true, false, cond, List, length, get_or, take, Option, Some, None, refl, sym, ap, ◌∙◌}
use Rattle.std.specs.List.{position, position_from}
use Rattle.std.specs.Option.{option_or}
use Rattle.std.specs.Str.{bytes_eq}
use Rattle.std.proofs.lemmas.Iterator.Adapters.{position_from-zero}
use Rattle.std.proofs.lemmas.List.{length-take-le}
use Rattle.std.proofs.Math.Seq.{take-suc}
use Rattle.schema_book.specs.declared.index.Names.{Names}
use Rattle.schema_book.specs.declared.table.ColumnDef.{ColumnDef}
use Rattle.schema_book.specs.Columns.{ArePlacesOf}
use Rattle.schema_book.specs.Places.{lone_place, Enters}

from_more : {A : Type 0} (p : A → Bool) (i n : ℕ) (xs : List A) (y : A) → i + length xs ≡ n
    → position_from p i (xs ++ y ∷ []) ≡ option_or (position_from p i xs) (cond (p y) (Some n) None)
from_more p i n [] y at = ap (λ (m : ℕ). cond (p y) (Some m) None) (omega (arith, at))
from_more p i n (x ∷ xs) y at = by (p x) (from_more p (i + 1) n xs y (omega (arith, at)))
  where
    by : (b : Bool) → position_from p (i + 1) (xs ++ y ∷ []) ≡ option_or (position_from p (i + 1) xs) (cond (p y) (Some n) None)
        → cond b (Some i) (position_from p (i + 1) (xs ++ y ∷ [])) ≡ option_or (cond b (Some i) (position_from p (i + 1) xs)) (cond (p y) (Some n) None)
    by true rest = refl
    by false rest = rest

place_more : {A : Type 0} (p : A → Bool) (xs : List A) (y : A) → position p (xs ++ y ∷ []) ≡ option_or (position p xs) (cond (p y) (Some (length xs)) None)
place_more p xs y =
    position_from-zero p (xs ++ y ∷ [])
    ∙ (from_more p 0 (length xs) xs y (omega arith)
    ∙ ap (λ (o : Option ℕ). option_or o (cond (p y) (Some (length xs)) None)) (sym (position_from-zero p xs)))

pub places_more : (defs : List ColumnDef) (i : ℕ) (def : ColumnDef) (names names' : Names) → i < length defs → ArePlacesOf (take i defs) names
    → get_or defs i def ≡ def → Enters names def.name i names' → ArePlacesOf (take (i + 1) defs) names'
places_more defs i def names names' low are item enters = λ name.
    let p : ColumnDef → Bool = λ d. bytes_eq d.name name in
    let more : take (i + 1) defs ≡ take i defs ++ def ∷ [] =
    ap (λ (n : ℕ). take n defs) (next i) ∙ (take-suc defs i def low ∙ ap (λ (d : ColumnDef). take i defs ++ d ∷ []) item) in
    let count : length (take i defs) ≡ i = length-take-le i defs (omega (arith, low)) in
    enters name
    ∙ (ap (λ (o : Option ℕ). option_or o (lone_place i def.name name)) (are name)
    ∙ (ap (λ (n : ℕ). option_or (position p (take i defs)) (cond (p def) (Some n) None)) (sym count)
    ∙ (sym (place_more p (take i defs) def)
    ∙ ap (λ (ds : List ColumnDef). position p ds) (sym more))))
  where
    next : (i : ℕ) → i + 1 ≡ suc i
    next i = omega arith
