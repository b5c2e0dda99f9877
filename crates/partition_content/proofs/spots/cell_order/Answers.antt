use Rattle.std.proofs.Common.{◌≡◌, ◌∙◌, Less, Equal, Greater, List, ℕ, refl, ap}
use Rattle.std.specs.Cmp.Lexicographic.{slice_cmp}
use Rattle.std.specs.Ordering.{nat_cmp}
use Rattle.changes.specs.declared.Place.TheVariants.{Cell}
use Rattle.changes.proofs.Places.{rows_by_steps}
use Rattle.partition_content.proofs.spots.cell_order.Goals as goal

pub returns-in-Equal : goal.returns-in-Equal
returns-in-Equal c =
    let first : Equal ≡ slice_cmp nat_cmp c.args.row.now c.args.beside.now =
    c.in-Equal.ensures ∙ ap (λ (l : List ℕ). slice_cmp nat_cmp l c.as_slice-2.result.now) c.as_slice.ensures ∙ ap (λ (l : List ℕ). slice_cmp nat_cmp c.args.row.now l) c.as_slice-2.ensures in
    rows_by_steps (Cell c.args.row.now c.args.column) (Cell c.args.beside.now c.args.facing) c.args.row.now c.args.beside.now (2, c.args.column) (2, c.args.facing) Equal c.cmp.result c.cmp.result refl refl refl refl first
    c.cmp.ensures refl

-- where the rows are apart they decide
pub returns-in-Less : goal.returns-in-Less
returns-in-Less c =
    let first : Less ≡ slice_cmp nat_cmp c.args.row.now c.args.beside.now =
    c.in-Less.ensures ∙ ap (λ (l : List ℕ). slice_cmp nat_cmp l c.as_slice-2.result.now) c.as_slice.ensures ∙ ap (λ (l : List ℕ). slice_cmp nat_cmp c.args.row.now l) c.as_slice-2.ensures in
    rows_by_steps (Cell c.args.row.now c.args.column) (Cell c.args.beside.now c.args.facing) c.args.row.now c.args.beside.now (2, c.args.column) (2, c.args.facing) Less (nat_cmp c.args.column c.args.facing) Less refl refl refl refl first
    refl refl

pub returns-in-Greater : goal.returns-in-Greater
returns-in-Greater c =
    let first : Greater ≡ slice_cmp nat_cmp c.args.row.now c.args.beside.now =
    c.in-Greater.ensures ∙ ap (λ (l : List ℕ). slice_cmp nat_cmp l c.as_slice-2.result.now) c.as_slice.ensures ∙ ap (λ (l : List ℕ). slice_cmp nat_cmp c.args.row.now l) c.as_slice-2.ensures in
    rows_by_steps (Cell c.args.row.now c.args.column) (Cell c.args.beside.now c.args.facing) c.args.row.now c.args.beside.now (2, c.args.column) (2, c.args.facing) Greater (nat_cmp c.args.column c.args.facing) Greater refl refl refl refl first
    refl refl
