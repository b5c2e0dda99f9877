use Rattle.std.proofs.Common.{rules, tests, List, ℕ, Bor, sym, ◌∙◌}
use Rattle.std.proofs.lemmas.Iterator.Search.{all_from_yields_List}
use Rattle.std.proofs.lemmas.Iterator.{YieldsList-from_slice}
use Rattle.std.proofs.lemmas.List.Folds.{list_all-map}
use Rattle.script_words.specs.Words.{is_signed_number}
use Rattle.fault_script.proofs.head.all_signed.Goals as goal

pub returns : goal.returns
returns c =
    all_from_yields_List (λ (w : Bor (List ℕ)). is_signed_number w.now) _ _ c.all.result c.all.ensures.ran (YieldsList-from_slice c.args.words.now cc) (λ x b q k. search (rules, tests))
    ∙ sym (list_all-map is_signed_number (λ (w : Bor (List ℕ)). w.now) c.args.words.now)
