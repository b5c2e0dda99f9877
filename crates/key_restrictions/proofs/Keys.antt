-- The bytes of keys of one column and of several.
use Rattle.std.proofs.Common.{◌≡◌, ◌&&◌, ◌∷◌, [], Bool, true, false, cond, not, List, refl, flat_map}
use Rattle.cql_values.specs.declared.value.CqlValue.{CqlValue}
use Rattle.schema_book.specs.declared.table.ColumnDef.{ColumnDef}
use Rattle.key_restrictions.specs.declared.restriction.Restriction.{Restriction}
use Rattle.key_restrictions.specs.Places.{is_partition, is_partition_at, fixing}
use Rattle.key_restrictions.specs.Rows.{bytes_in, parts_from, key_parts, framed, joined, key_bytes}

-- the partition key is of one column
abbrev pub IsSingle : List ColumnDef → Bool → Type 0
IsSingle columns b = (is_partition_at columns 0 && not (is_partition_at columns 1)) ≡ b

pub single_bytes : (columns : List ColumnDef) (rs : List (Restriction CqlValue)) → IsSingle columns true → bytes_in (fixing rs 0) ≡ key_bytes columns rs
single_bytes [] rs h = absurd (cc)
single_bytes (d ∷ []) rs h = go (is_partition d.kind) h
  where
    go : (a : Bool) → (a && true) ≡ true → bytes_in (fixing rs 0) ≡ joined (cond a (bytes_in (fixing rs 0) ∷ []) [])
    go true h = refl
    go false h = absurd (cc)
single_bytes (d ∷ e ∷ ds) rs h = go (is_partition d.kind) (is_partition e.kind) h
  where
    go : (a b : Bool) → (a && not b) ≡ true
        → bytes_in (fixing rs 0) ≡ joined (cond a (bytes_in (fixing rs 0) ∷ cond b (bytes_in (fixing rs 1) ∷ parts_from rs 2 ds) []) [])
    go true true h = absurd (cc)
    go true false h = refl
    go false b h = absurd (cc)

pub composite_bytes : (columns : List ColumnDef) (rs : List (Restriction CqlValue)) → IsSingle columns false → flat_map framed (key_parts columns rs) ≡ key_bytes columns rs
composite_bytes [] rs h = refl
composite_bytes (d ∷ []) rs h = go (is_partition d.kind) h
  where
    go : (a : Bool) → (a && true) ≡ false → flat_map framed (cond a (bytes_in (fixing rs 0) ∷ []) []) ≡ joined (cond a (bytes_in (fixing rs 0) ∷ []) [])
    go true h = absurd (cc)
    go false h = refl
composite_bytes (d ∷ e ∷ ds) rs h = go (is_partition d.kind) (is_partition e.kind) h
  where
    go : (a b : Bool) → (a && not b) ≡ false
        → flat_map framed (cond a (bytes_in (fixing rs 0) ∷ cond b (bytes_in (fixing rs 1) ∷ parts_from rs 2 ds) []) [])
        ≡ joined (cond a (bytes_in (fixing rs 0) ∷ cond b (bytes_in (fixing rs 1) ∷ parts_from rs 2 ds) []) [])
    go true true h = refl
    go true false h = absurd (cc)
    go false b h = refl
