use Rattle.std.proofs.Common.{◌≡◌, ◌++◌, ◌+◌, ◌<◌, ◌^◌, length, Contains}
use Rattle.std.specs.List.{sum_by}
use Rattle.std.specs.Vec.Iter.{into_iter_items}
use Rattle.changes.specs.Contents.{Either, IsContent}
use Rattle.changes.specs.Lengths.{held_length, changes_length}
use Rattle.partition_content.specs.Slots.{changes_of, IsGood, helds_in, helds_of, spots_in}
use Rattle.partition_content.proofs.ArrivalLemmas.{HaveCome}
use Rattle.partition_content.proofs.taking.put_all.Given as goal

-- the changes so far are taken in
abbrev pub invariant-loop-x : goal.invariant-loop-x
invariant-loop-x l = record {
  split : l.yielded ++ into_iter_items l.x-iterator ≡ l.fn.changes.items;
  count : l.at ≡ length l.yielded;
  content : IsContent (changes_of (helds_in l.slots.entries)) (Either (Contains (changes_of (helds_in l.fn.slots.entries))) (Contains l.yielded));
  come : HaveCome l.time l.fn.slots.entries l.slots.entries;
  good : IsGood (helds_of l.slots);
  same : spots_in (helds_of l.slots) ≡ spots_in (helds_of l.fn.slots);
  long : l.length ≡ changes_length (changes_of (helds_in l.slots.entries));
  fits : changes_length (changes_of (helds_in l.slots.entries)) + sum_by held_length (into_iter_items l.x-iterator) < 2 ^ 64;
}
