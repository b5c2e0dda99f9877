-- What is read is spelled so, and what is spelled so is read.
use Rattle.std.proofs.Common.{◌≡◌, Result, Ok, Err, IfOk, subst, arith}
use Rattle.cql_values.specs.Protocol.{Answers, IsWord}
use Rattle.cql_values.specs.declared.value.CqlValue.{CqlValue}
use Rattle.cql_values.specs.declared.error.ValueError.{ValueError}
use Rattle.cql_values.proofs.Words.{decoded_is_word, word_is_decoded}
use Rattle.cql_values.proofs.protocol.decode.Goals as goal

found : (P : CqlValue → Type 0) (r answer : Result CqlValue ValueError) → Answers r answer → ((v : CqlValue) → answer ≡ Ok v → P v) → IfOk r P
found P (Ok v) answer is h = h v is
found P (Err e) answer is h = tt

pub returns-clause-found : goal.returns-clause-found
returns-clause-found c =
    found (IsWord c.args.ty c.args.bytes.now) c.read.result _ c.read.ensures
    (λ v e. decoded_is_word c.args.ty c.args.bytes.now v (λ i. omega (arith, c.type_inv.bytes i)) e)

pub returns-clause-only : goal.returns-clause-only
returns-clause-only c =
    λ v word. subst (Answers c.read.result) (word_is_decoded c.args.ty c.args.bytes.now v word) c.read.ensures
