use Rattle.std.proofs.Common.{◌≡◌, ℕ, List, refl, sym, ◌∙◌, ap, subst}
use Rattle.cs_io.specs.Pieces.{past}
use Rattle.cs_io.proofs.Cuts.{behind-end, goes_past, goes_on}
use Rattle.cs_io.proofs.pieces.Pieces.advance.Goals as goal

pub returns-in_default : goal.returns-in_default
returns-in_default c =
    let none = rw c.deref.ensures.value at c.in_default.ensures.lookup.3 in
    subst (λ (v : List (List ℕ)). v ≡ past c.args.count v) (sym (behind-end _ _ _ none) ∙ c.self.view_is) refl

pub returns-then-as_slice-self : goal.returns-then-as_slice-self
returns-then-as_slice-self c =
    let there = rw c.deref.ensures.value at c.in-Some.ensures.lookup.3.0 in
    let is = rw c.deref.ensures.value at c.in-Some.ensures.lookup.1 in
    let gone = rw c.as_slice.ensures at c.if-as_slice-self.true in
    goes_past c.self.inside.pieces.items c.self.inside.next c.self.inside.at c.args.count c.in-Some.piece.now there is gone
    ∙ ap (past c.args.count) c.self.view_is

pub returns-else-as_slice-self : goal.returns-else-as_slice-self
returns-else-as_slice-self c =
    let there = rw c.deref.ensures.value at c.in-Some.ensures.lookup.3.0 in
    let is = rw c.deref.ensures.value at c.in-Some.ensures.lookup.1 in
    let left = rw c.as_slice.ensures at c.if-as_slice-self.false in
    goes_on c.self.inside.pieces.items c.self.inside.next c.self.inside.at c.args.count c.in-Some.piece.now there is left
    ∙ ap (past c.args.count) c.self.view_is
