use Rattle.std.proofs.Common.{◌≡◌, ◌++◌, ◌∙◌, ap, append_assoc, ℕ, ℤ, List, rules, w64}
use mir.Val.{SFits}
use Rattle.std.proofs.lemmas.Int.{to_z-of_z}
use Rattle.std.proofs.lemmas.Result.{on_ok_weaker}
use Rattle.stored_fields.specs.Spelling.{i64, u64}
use Rattle.row_change.proofs.item.write_mark.Goals as goal

four : (start first second third last a b c d : List ℕ) → first ≡ start ++ a → second ≡ first ++ b → third ≡ second ++ c → last ≡ third ++ d → last ≡ start ++ (a ++ (b ++ (c ++ d)))
four start first second third last a b c d is_first is_second is_third is_last =
    is_last ∙ ap (λ (l : List ℕ). l ++ d) (is_third ∙ ap (λ (l : List ℕ). l ++ c) (is_second ∙ ap (λ (l : List ℕ). l ++ b) is_first))
    ∙ append_assoc ((start ++ a) ++ b) c d ∙ append_assoc (start ++ a) b (c ++ d) ∙ append_assoc start a (b ++ (c ++ d))

pub returns-clause-written : goal.returns-clause-written
unfolding i64 u64
returns-clause-written c =
    let after : SFits w64 c.args.mark.now.range.after = search rules in
    let upto : SFits w64 c.args.mark.now.range.upto = search rules in
    on_ok_weaker c.write_u64-2.result
    (λ written.
    four c.args.out.now.items c.write_i64.new.out.items c.write_i64-2.new.out.items c.write_u64.new.out.items c.write_u64-2.new.out.items (i64 c.args.mark.now.range.after) (i64 c.args.mark.now.range.upto) (u64 c.args.mark.now.snapshot) (u64 c.args.mark.now.sent)
    (c.in_ok-write_i64.ensures ∙ ap (λ (n : ℤ). c.args.out.now.items ++ i64 n) (to_z-of_z w64 c.args.mark.now.range.after after))
    (c.in_ok-write_i64-2.ensures ∙ ap (λ (n : ℤ). c.write_i64.new.out.items ++ i64 n) (to_z-of_z w64 c.args.mark.now.range.upto upto))
    (c.in_ok-write_u64.ensures ∙ ap (λ (n : ℕ). c.write_i64-2.new.out.items ++ u64 n) c.count.ensures) (written ∙ ap (λ (n : ℕ). c.write_u64.new.out.items ++ u64 n) c.count-2.ensures))
    c.write_u64-2.ensures
