use Rattle.std.proofs.Common.{◌≡◌, ◌+◌, ◌∙◌, [], ◌∷◌, Option, ap, arith}
use Rattle.std.specs.List.{sum_by}
use Rattle.std.specs.Option.{option_to_list}
use Rattle.std.proofs.lemmas.List.Sums.{sum_by-cons}
use Rattle.changes.specs.Lengths.{held_length}
use Rattle.partition_content.specs.declared.Arrived.{Arrived}
use Rattle.partition_content.specs.Slots.{held_in}
use Rattle.partition_content.proofs.slots.length_in.Goals as goal

alone : (a : Arrived) → sum_by held_length (a.held ∷ []) ≡ held_length a.held
alone a = let h : sum_by held_length (a.held ∷ []) ≡ held_length a.held + 0 = sum_by-cons held_length a.held [] in omega (arith, h)

pub returns-in-Some : goal.returns-in-Some
returns-in-Some c =
    let same : sum_by held_length (option_to_list (held_in c.args.slot.now)) ≡ held_length c.in-Some.there.held = ap (λ (o : Option Arrived). sum_by held_length (option_to_list (held_in o))) c.in-Some.is ∙ alone c.in-Some.there in
    let fits = c.requires in
    let told = c.encoded_length.ensures in omega (arith, same, fits, told)
