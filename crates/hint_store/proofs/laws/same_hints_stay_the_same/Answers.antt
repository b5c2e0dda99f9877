use Rattle.hint_store.proofs.Same.{same_full, same_next, same_room, same_kept, same_first, same_member, same_pushed, same_pushed_all, same_push, same_pushes, same_drop, first_hints_are}
use Rattle.hint_store.proofs.laws.same_hints_stay_the_same.Goals as goal

pub returns : goal.returns
returns c = record {
  ask = λ k k' s. record {
    full = same_full k k' s;
    next = same_next k k' s;
    room = same_room k k' s;
    kept = same_kept k k' s;
    first = same_first k k' s;
    members = same_member k k' s;
    pushed = same_pushed k k' s;
    pushed_all = λ peers born m. same_pushed_all peers k k' s born m;
  };
  stay = λ k k' s. record {
    push = same_push k k' s;
    pushes = λ peers born m. same_pushes peers k k' s born m;
    drop = same_drop k k' s;
  };
  first = first_hints_are;
}
