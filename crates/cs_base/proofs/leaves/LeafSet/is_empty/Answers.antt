use Rattle.std.proofs.Common.{◌∙◌, ap, sym}
use Rattle.std.specs.Prelude.{[], ◌∷◌}
use Rattle.std.specs.Cmp.Lexicographic.{bytes_decides}
use Rattle.cs_base.specs.Leaves.{leaves_of_bits}
use Rattle.cs_base.proofs.LeafSets.{zeros_hold_none, zeros_from_none}
use Rattle.cs_base.proofs.leaves.LeafSet.is_empty.Goals as goal

pub returns : goal.returns
returns c =
    let same = bytes_decides c.self.inside.bits (0 ∷ 0 ∷ 0 ∷ 0 ∷ []) in (
      λ t. sym c.self.view_is ∙ ap leaves_of_bits (same.0 (sym c.eq.ensures ∙ t)) ∙ zeros_hold_none,
      λ none. c.eq.ensures ∙ same.1 (zeros_from_none c.self.inside.bits c.self.invariant.0 c.self.invariant.1 (c.self.view_is ∙ none)),
    )
