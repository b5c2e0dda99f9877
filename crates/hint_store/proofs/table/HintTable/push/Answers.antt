use Rattle.std.proofs.Common.{◌≡◌, ℕ, ◌+◌, true, List, sym, subst, arith}
use Rattle.std.specs.List.{list_any}
use Rattle.std.specs.BTreeMap.{is_at}
use Rattle.row_change.specs.declared.entry.Hint.{Hint}
use Rattle.hint_store.specs.Tables.{Filed, number_cmp, age_cmp, IsTable, IsPushed}
use Rattle.hint_store.proofs.Keys.{number_total, age_total}
use Rattle.hint_store.proofs.Places.{pushed}
use Rattle.hint_store.proofs.Indexing.{number_is_free, age_is_free, is_there, table_gains}
use Rattle.hint_store.proofs.table.HintTable.push.Goals as goal

pub enter-requires-clause-numbers : goal.enter-requires-clause-numbers
enter-requires-clause-numbers c = number_is_free c.self.inside.next c.args.hint.peer c.args.hint.number c.self.inside.by_place.entries c.self.inside.by_number.keys c.self.invariant.filed c.self.invariant.by_number

pub enter-requires-clause-ages : goal.enter-requires-clause-ages
enter-requires-clause-ages c = age_is_free c.self.inside.next c.args.hint.born c.args.hint.peer c.args.hint.number c.self.inside.by_place.entries c.self.inside.by_age.keys c.self.invariant.filed c.self.invariant.by_age

pub leave-requires-clause-numbers : goal.leave-requires-clause-numbers
leave-requires-clause-numbers c =
    subst (λ (h : Hint). list_any (is_at (number_cmp (h.peer, h.number, c.self.inside.next))) c.enter.new.numbers.keys ≡ true) (sym c.in-Err.ensures.back)
    (is_there number_cmp number_total (c.args.hint.peer, c.args.hint.number, c.self.inside.next) c.self.inside.by_number.keys c.enter.new.numbers.keys c.in_ok-enter.ensures.numbers)

pub leave-requires-clause-ages : goal.leave-requires-clause-ages
leave-requires-clause-ages c =
    subst (λ (h : Hint). list_any (is_at (age_cmp (h.born, h.peer, h.number, c.self.inside.next))) c.enter.new.ages.keys ≡ true) (sym c.in-Err.ensures.back)
    (is_there age_cmp age_total (c.args.hint.born, c.args.hint.peer, c.args.hint.number, c.self.inside.next) c.self.inside.by_age.keys c.enter.new.ages.keys c.in_ok-enter.ensures.ages)

pub invariant_of-self-2 : goal.invariant_of-self-2
invariant_of-self-2 c =
    let next : c.self.inside.next + 1 ≡ c.in-Some.next = omega (arith, c.in-Some.ensures) in
    subst (λ (n : ℕ). IsTable c.put_in.new.by_place.entries c.enter.new.numbers.keys c.enter.new.ages.keys n) next
    (table_gains c.self.inside.next c.args.hint c.self.inside.by_place.entries c.put_in.new.by_place.entries c.self.inside.by_number.keys c.enter.new.numbers.keys c.self.inside.by_age.keys c.enter.new.ages.keys c.self.invariant
    c.in_default-put_in.ensures.entries c.in_default-put_in.ensures.ordered c.in_ok-enter.ensures.numbers c.in_ok-enter.ensures.ages)

pub returns-clause-ok : goal.returns-clause-ok
returns-clause-ok c =
    subst (λ (v : Filed). IsPushed v.entries (c.args.hint.peer, v.next) c.args.hint c.put_in.new.by_place.entries) c.self.view_is
    (subst (λ (es : List ((ℕ × ℕ) × Hint)). IsPushed c.self.inside.by_place.entries (c.args.hint.peer, c.self.inside.next) c.args.hint es) (sym c.in_default-put_in.ensures.entries)
    (pushed c.self.inside.next c.args.hint c.self.inside.by_place.entries c.self.invariant.filed c.self.invariant.sorted))
