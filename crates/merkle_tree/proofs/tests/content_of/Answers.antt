use Rattle.std.proofs.Common.{◌^◌, ◌<◌, ap, arith, Contains, length, List, subst}
use Rattle.changes.specs.declared.Held.{Held}
use Rattle.changes.specs.Contents.{IsContent}
use Rattle.changes.proofs.Sorted.{all_at, all_from}
use Rattle.stored_changes.specs.Spelling.{ChangeFits}
use Rattle.merkle_tree.proofs.tests.content_of.Goals as goal

pub returns : goal.returns
returns c =
    let is : IsContent c.in_ok-content.content (Contains c.args.mutation.changes) =
    subst (λ (changes : List Held). IsContent c.in_ok-content.content (Contains changes)) c.into_vec.ensures c.in_ok-content.ensures in
    let few = ap length c.as_slice.ensures.value in
    let count : length c.in_ok-content.content < 2 ^ 32 = omega arith in
    record {
      key = c.requires.key;
      changes = record {
        count = count;
        each = all_from ChangeFits c.in_ok-content.content (λ x at. all_at ChangeFits c.args.mutation.changes x c.requires.changes.each (is.within x at));
        order = c.as_slice.ensures.ordered;
      };
    }
