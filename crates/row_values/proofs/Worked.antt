-- The definitions at worked rows.
use Rattle.std.proofs.Common.{◌≡◌, ℕ, zero, suc, take, Some, None, List, [], ◌∷◌, true, false, inl, inr, arith, refl}
use Rattle.std.specs.Prelude.{codes, pos}
use Rattle.cql_values.specs.declared.value.CqlValue.TheVariants.{Boolean, Int, Text}
use Rattle.schema_book.specs.declared.table.ColumnDef.{ColumnDef}
use Rattle.schema_book.specs.declared.table.ColumnKind.TheVariants.{Clustering}
use Rattle.row_values.specs.Keys.{key_parts}
use Rattle.row_values.specs.Prints.{values_text}
use Rattle.row_values.specs.Values.{AreRead, HasNoFront, value_in}
use Rattle.cql_values.specs.declared.value.CqlType.TheVariants as types

-- an `a` and an empty part
whole : key_parts 2 (0 ∷ 1 ∷ 97 ∷ 0 ∷ 0 ∷ 0 ∷ 0 ∷ []) ≡ Some (97 ∷ []) ∷ Some [] ∷ []
whole = refl

-- a one stands where the first part's zero byte is to stand
broken : key_parts 2 (0 ∷ 1 ∷ 97 ∷ 1 ∷ 0 ∷ 0 ∷ 0 ∷ []) ≡ None ∷ None ∷ []
broken = refl

-- one column's part is the whole key
single : key_parts 1 (0 ∷ 1 ∷ 97 ∷ 0 ∷ []) ≡ Some (0 ∷ 1 ∷ 97 ∷ 0 ∷ []) ∷ []
single = refl

number : value_in types.Int (0 ∷ 0 ∷ 1 ∷ 2 ∷ []) ≡ Some (Int (pos 258))
number = refl

no_number : value_in types.Int (0 ∷ 1 ∷ 2 ∷ []) ≡ None
no_number = refl

text : values_text (Some (Boolean true) ∷ None ∷ Some (Text (39 ∷ [])) ∷ []) (2 ∷ 0 ∷ 1 ∷ 9 ∷ []) ≡ codes "'''' | true | null | null"
text = refl

-- a boolean in a DESC column, and a byte behind it that is none
abbrev falling : ColumnDef
falling = record { name = codes "c"; ty = types.Boolean; kind = Clustering; is_descending = true }

no_word : HasNoFront falling (7 ∷ [])
no_word zero (Boolean true) f = absurd (let e : ◌≡◌ {A = List ℕ} [] (254 ∷ []) = f.word.2 in cc)
no_word zero (Boolean false) f = absurd (let e : ◌≡◌ {A = List ℕ} [] (255 ∷ []) = f.word.2 in cc)
no_word (suc n) (Boolean true) f = absurd (let e : ◌≡◌ {A = List ℕ} (7 ∷ take n []) (254 ∷ []) = f.word.2 in cc)
no_word (suc n) (Boolean false) f = absurd (let e : ◌≡◌ {A = List ℕ} (7 ∷ take n []) (255 ∷ []) = f.word.2 in cc)
no_word n v f = absurd (let e = f.word.0 in cc)

row : AreRead (falling ∷ falling ∷ []) (254 ∷ 7 ∷ []) (Some (Boolean true) ∷ None ∷ [])
row = inl (1, Boolean true, None ∷ [], record { ordered = λ e. absurd (cc); within = omega arith; word = (refl, tt, refl) }, inr (no_word, refl), refl)
