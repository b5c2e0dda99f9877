use Rattle.std.proofs.Common.{◌-◌, ℕ, List, [], length, refl, subst, arith}
use Rattle.std.proofs.lemmas.Result.{IfOk-weaker}
use Rattle.row_change.specs.Grammar.{IsEntry}
use Rattle.commit_log.proofs.Loading.{broken_file}
use Rattle.commit_log.proofs.Refusals.{begins_at, broken_here}
use Rattle.commit_log.proofs.Spellings.{entries_more}
use Rattle.commit_log.proofs.reading.LogReading.entry.Goals as goal

pub overflow_sub-start : goal.overflow_sub-start
overflow_sub-start c =
    let begins = begins_at c.args.self.now.gates.entries c.args.i c.requires c.entry-word.result.now c.entry-word.ensures c.place.result c.place.ensures.place in
    omega (arith, begins)

pub returns-clause-next : goal.returns-clause-next
returns-clause-next c =
    IfOk-weaker c.decode_word.result _ _
    (λ entry is before each. entries_more c.args.self.now.gates.entries c.args.i before c.entry-word.result.now entry c.requires c.entry-word.ensures each is)
    c.decode_word.ensures.entry

pub returns-clause-damaged : goal.returns-clause-damaged
returns-clause-damaged c file before found each p is =
    let words = c.args.self.now.gates.entries in
    let broken = broken_here words c.args.i c.requires c.entry-word.result.now c.entry-word.ensures c.place.result c.place.ensures.place before (c.place.result - length c.entry-word.result.now) p each refl (c.decode_word.ensures.damaged p is) in
    broken_file words c.args.self.now.gates.damage file p found broken
