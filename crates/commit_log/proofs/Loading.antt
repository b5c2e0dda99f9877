-- What a load finds.
use Rattle.std.proofs.Common.{inl, ℕ, Option, List}
use Rattle.gate_log.specs.Format.{IsFound}
use Rattle.commit_log.specs.Format.{IsDamaged}
use Rattle.commit_log.proofs.Spellings.{BreaksInWord, broken}

pub broken_file : (words : List (List ℕ)) (damage : Option ℕ) (file : List ℕ) (p : ℕ) → IsFound words damage file → BreaksInWord words p → IsDamaged p file
broken_file words damage file p found b = inl (broken words damage file p found b)
