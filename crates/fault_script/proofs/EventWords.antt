-- The words of a line `put`.
use Rattle.std.proofs.Common.{◌≡◌, ◌⊎◌, inl, inr, ℕ, ◌<◌, List, [], ◌∷◌, Option, Some, None, Err, cond, length, refl, ◌∙◌, ap, arith, Bor, Bool, true, false}
use Rattle.std.proofs.lemmas.Bool.{and_from}
use Rattle.cs_base.specs.declared.level.Level.{Level}
use Rattle.fault_script.specs.declared.script.Fault.TheVariants as fault
use Rattle.script_words.specs.Words.{node_of, level_of, is_number, is_signed_number, is_long_word, long_of, signed_value}
use Rattle.fault_script.specs.Lines.{put_line, put_of, understood}
use Rattle.script_words.specs.Texts.{texts_of}
use Rattle.script_words.proofs.WordLaws.{word_at}

pub put_of_other_length : (nodes : ℕ) (ws : List (Bor (List ℕ))) → (length ws < 6) ⊎ (6 < length ws) → put_line nodes (texts_of ws) ≡ Err fault.Line
put_of_other_length nodes [] h = refl
put_of_other_length nodes (a ∷ []) h = refl
put_of_other_length nodes (a ∷ b ∷ []) h = refl
put_of_other_length nodes (a ∷ b ∷ c ∷ []) h = refl
put_of_other_length nodes (a ∷ b ∷ c ∷ d ∷ []) h = refl
put_of_other_length nodes (a ∷ b ∷ c ∷ d ∷ e ∷ []) h = refl
put_of_other_length nodes (a ∷ b ∷ c ∷ d ∷ e ∷ f ∷ []) (inl low) = absurd (omega (arith, low))
put_of_other_length nodes (a ∷ b ∷ c ∷ d ∷ e ∷ f ∷ []) (inr high) = absurd (omega (arith, high))
put_of_other_length nodes (a ∷ b ∷ c ∷ d ∷ e ∷ f ∷ g ∷ ws) h = refl

no_timestamp : (node : Option ℕ) (level : Option Level) (key row value : List ℕ) → put_of node level key row None value ≡ None
no_timestamp None level key row value = refl
no_timestamp (Some node) None key row value = refl
no_timestamp (Some node) (Some level) key row value = refl

pub put_without_timestamp : (nodes : ℕ) (ws : List (Bor (List ℕ))) → length ws ≡ 6 → is_number (word_at ws 0) ≡ true → is_signed_number (word_at ws 4) ≡ true → is_long_word (word_at ws 4) ≡ false → put_line nodes (texts_of ws) ≡ Err fault.Number
put_without_timestamp nodes [] six number signed long = absurd (omega (arith, six))
put_without_timestamp nodes (a ∷ []) six number signed long = absurd (omega (arith, six))
put_without_timestamp nodes (a ∷ b ∷ []) six number signed long = absurd (omega (arith, six))
put_without_timestamp nodes (a ∷ b ∷ c ∷ []) six number signed long = absurd (omega (arith, six))
put_without_timestamp nodes (a ∷ b ∷ c ∷ d ∷ []) six number signed long = absurd (omega (arith, six))
put_without_timestamp nodes (a ∷ b ∷ c ∷ d ∷ e ∷ []) six number signed long = absurd (omega (arith, six))
put_without_timestamp nodes (a ∷ b ∷ c ∷ d ∷ e ∷ f ∷ []) six number signed long =
    ap (λ (t : Bool). understood fault.Line t (put_of (node_of nodes a.now) (level_of b.now) c.now d.now (long_of e.now) f.now)) (and_from (is_number a.now) (is_signed_number e.now) number signed)
    ∙ ap (λ (t : Bool). understood fault.Line true (put_of (node_of nodes a.now) (level_of b.now) c.now d.now (cond t (Some (signed_value e.now)) None) f.now)) long
    ∙ ap (understood fault.Line true) (no_timestamp (node_of nodes a.now) (level_of b.now) c.now d.now f.now)
put_without_timestamp nodes (a ∷ b ∷ c ∷ d ∷ e ∷ f ∷ g ∷ ws) six number signed long = absurd (omega (arith, six))
