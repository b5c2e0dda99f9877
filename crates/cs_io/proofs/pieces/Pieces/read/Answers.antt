use Rattle.std.proofs.Common.{◌≡◌, ℕ, ◌+◌, min, List, [], ◌∷◌, Some, length, drop, refl, sym, ◌∙◌, ap, subst, arith}
use Rattle.std.specs.List.{concat}
use Rattle.cs_io.specs.Links.{idles_of}
use Rattle.cs_io.specs.Pieces.{past}
use Rattle.cs_io.proofs.Cuts.{by-first, past-gone, past-min, is-nil, is-more, idles_of-more, takes-bytes}
use Rattle.cs_io.proofs.pieces.Pieces.read.Goals as goal

pub returns-in_default-clause-rest : goal.returns-in_default-clause-rest
returns-in_default-clause-rest c = c.in_default.ensures ∙ sym (ap (past (length c.args.buffer.now)) c.in_default.ensures)

-- the pieces begin with an empty one
by-idle : (c : goal.After-advance) → c.args.self.now ≡ [] ∷ drop 1 c.args.self.now
by-idle c =
    by-first c.args.self.now c.in-Some.left.now c.in-Some.ensures
    ∙ ap (λ (left : List ℕ). left ∷ drop 1 c.args.self.now) (is-nil c.in-Some.left.now (sym c.is_empty.ensures ∙ c.if-is_empty.true))

past-idle : (n : ℕ) (c : goal.After-advance) → past n c.args.self.now ≡ drop 1 c.args.self.now
past-idle n c = ap (past n) (by-idle c) ∙ past-gone n [] (drop 1 c.args.self.now) (omega arith)

pub returns-then-is_empty-clause-rest : goal.returns-then-is_empty-clause-rest
returns-then-is_empty-clause-rest c = c.advance.ensures ∙ past-idle 0 c ∙ sym (past-idle (length c.args.buffer.now) c)

pub returns-then-is_empty-clause-heard : goal.returns-then-is_empty-clause-heard
returns-then-is_empty-clause-heard c =
    (refl, ap Some (ap concat (c.advance.ensures ∙ past-idle 0 c) ∙ sym (ap concat (by-idle c))))

pub returns-then-is_empty-clause-idle : goal.returns-then-is_empty-clause-idle
returns-then-is_empty-clause-idle c =
    let before : idles_of c.args.self.now ≡ idles_of (drop 1 c.args.self.now) + 1 = ap idles_of (by-idle c) in
    let after = ap idles_of (c.advance.ensures ∙ past-idle 0 c) in
    (omega (arith, before), ap Some (omega (arith, before, after)))

by-left : (c : goal.After-advance-2) → c.args.self.now ≡ c.in-Some.left.now ∷ drop 1 c.args.self.now
by-left c = by-first c.args.self.now c.in-Some.left.now c.in-Some.ensures

pub returns-clause-rest : goal.returns-clause-rest
returns-clause-rest c =
    c.advance-2.ensures
    ∙ ap (λ (n : ℕ). past n c.args.self.now) c.min-count.ensures
    ∙ subst (λ (v : List (List ℕ)). past (min (length c.in-Some.left.now) (length c.args.buffer.now)) v ≡ past (length c.args.buffer.now) v) (sym (by-left c))
    (past-min (length c.args.buffer.now) c.in-Some.left.now (drop 1 c.args.self.now))

pub returns-clause-heard : goal.returns-clause-heard
returns-clause-heard c =
    takes-bytes c.args.self.now (drop 1 c.args.self.now) c.advance-2.new.self c.in-Some.left.now c.args.buffer.now
    c.copy_from_slice.new.self c.min-count.result (by-left c) (is-more c.in-Some.left.now (sym c.if-is_empty.ensures))
    c.min-count.ensures c.copy_from_slice.ensures.after c.advance-2.ensures

pub returns-clause-idle : goal.returns-clause-idle
returns-clause-idle c =
    ap idles_of (by-left c)
    ∙ idles_of-more c.in-Some.left.now (drop 1 c.args.self.now) (is-more c.in-Some.left.now (sym c.if-is_empty.ensures))
