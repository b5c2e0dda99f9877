use Rattle.std.proofs.Common.{◌≡◌, ◌∙◌, sym, ap, ℕ, Bool, true, false, not, cond, ◌&&◌, ◌==◌, nat_lt, refl, arith}
use Rattle.std.specs.Ordering.{is_eq, ordering_then, nat_cmp, int_cmp, int_eq}
use Rattle.std.specs.Cmp.Lexicographic.{slice_cmp}
use Rattle.std.specs.declared.cmp.Ordering.{Ordering}
use Rattle.std.specs.declared.cmp.Ordering.TheVariants.{Less, Equal, Greater}
use Rattle.std.specs.Str.{bytes_eq}
use Rattle.std.proofs.lemmas.Bool.Decides.{nat_tests}
use Rattle.std.proofs.lemmas.Map.Text.{is_eq-slice_cmp}
use Rattle.changes.specs.declared.Partition.{Partition}
use Rattle.changes.specs.Order.{partition_cmp}
use Rattle.statement_binder.proofs.writes.is_elsewhere.Goals as goal

then_both : (o p : Ordering) → is_eq (ordering_then o p) ≡ (is_eq o && is_eq p)
then_both Less p = refl
then_both Equal p = refl
then_both Greater p = refl

nat_same : (x y : ℕ) → is_eq (nat_cmp x y) ≡ (x == y)
nat_same x y = go (nat_lt x y) (x == y) refl refl
  where
    go : (a b : Bool) → nat_lt x y ≡ a → (x == y) ≡ b → is_eq (cond a Less (cond b Equal Greater)) ≡ b
    go true true e f = absurd (grind (arith, nat_tests))
    go true false e f = refl
    go false true e f = refl
    go false false e f = refl

same_fields : (a b : Partition) → is_eq (partition_cmp a b) ≡ (int_eq a.token b.token && (a.table == b.table && bytes_eq a.key b.key))
same_fields a b =
    let rest = ordering_then (nat_cmp a.table b.table) (slice_cmp nat_cmp a.key b.key) in
    then_both (int_cmp a.token b.token) rest
    ∙ ap (λ (t : Bool). int_eq a.token b.token && t)
    (then_both (nat_cmp a.table b.table) (slice_cmp nat_cmp a.key b.key)
    ∙ (ap (λ (t : Bool). t && is_eq (slice_cmp nat_cmp a.key b.key)) (nat_same a.table b.table)
    ∙ ap (λ (t : Bool). (a.table == b.table) && t) (is_eq-slice_cmp a.key b.key)))

pub returns : goal.returns
returns c = c.ne.ensures ∙ sym (ap not (same_fields c.args.partition.now c.args.piece.now.partition))
