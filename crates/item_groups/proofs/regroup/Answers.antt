use Rattle.std.proofs.Common.{◌≡◌, ◌++◌, vec_len, length, sym, ◌∙◌, ap, subst, append_assoc, arith, rules}
use Rattle.std.proofs.lemmas.List.{take-append-drop}
use Rattle.std.specs.List.{AllByRecursion}
use Rattle.item_groups.specs.Groups.{flat, HasSize}
use Rattle.item_groups.proofs.GroupLaws.{flat-push, sizes-push, enough, moved, has_room, none_left, len_left}
use Rattle.item_groups.proofs.regroup.Goals as goal

pub split_off-requires : goal.split_off-requires
split_off-requires g c = enough c.args.count c.loop.counter c.args.size (vec_len c.loop.rest) c.loop-test.true c.loop.invariant.1

pub push_reserved-requires : goal.push_reserved-requires
push_reserved-requires g c =
    let was = c.loop.invariant in has_room c.args.count c.loop.counter _ _ c.loop-test.true was.2 was.3

pub loop-preserved : goal.loop-preserved
loop-preserved g c =
    let was = c.loop.invariant in
    let parts = c.in_ok-behind.ensures in
    let pushed = c.push_reserved.ensures in
    let whole : c.split_off.new.self.items ++ c.in_ok-behind.behind.items ≡ c.loop.rest.items =
    (λ i. parts.items i ++ parts.tail i) ∙ take-append-drop c.args.size c.loop.rest.items in
    let long : vec_len c.split_off.new.self ≡ length c.split_off.new.self.items = search rules in (
      ap (λ l. flat l ++ c.in_ok-behind.behind.items) pushed.items
          ∙ ap (λ l. l ++ c.in_ok-behind.behind.items) (flat-push c.loop.groups.items c.split_off.new.self)
          ∙ append_assoc (flat c.loop.groups.items) c.split_off.new.self.items c.in_ok-behind.behind.items
          ∙ ap (λ l. flat c.loop.groups.items ++ l) whole
          ∙ was.0,
      moved c.args.count c.loop.counter c.args.size _ _ c.loop-test.true was.1 parts.tail_len,
      search rules,
      search rules,
      subst (λ l. AllByRecursion (HasSize c.args.size) l) (sym pushed.items) (sizes-push c.args.size c.loop.groups.items c.split_off.new.self was.4 (sym long ∙ parts.len)),
    )

pub returns-clause-items : goal.returns-clause-items
returns-clause-items g c =
    let was = c.loop.invariant in
    let long : vec_len c.loop.rest ≡ length c.loop.rest.items = search rules in
    len_left c.loop.rest.items _ (flat c.loop.groups.items) was.0 (sym long ∙ none_left c.args.count c.loop.counter c.args.size _ c.loop-test.false was.1)

pub returns-clause-count : goal.returns-clause-count
returns-clause-count g c =
    let is = c.loop.invariant.2 in let a = c.loop-test.false in let b = c.loop.auto.counter-end in omega arith
