use Rattle.std.proofs.Common.{rules, ◌≡◌, ℕ, ap, subst, ◌∙◌}
use Rattle.std.specs.Prelude.{slice_get}
use Rattle.std.specs.Vec.Iter.{into_iter_items}
use Rattle.peer_messages.specs.declared.setting.Setting.{Setting}
use Rattle.cluster_model.specs.Sites.{keeper}
use Rattle.cluster_model.specs.Beginning.{IsSeated}
use Rattle.cluster_model.proofs.Begun.{seated_next, next_there, next_split, next_count}
use Rattle.cluster_model.proofs.cluster.all_seats.Goals as goal

pub returns-in_err-seat_of-clause-damaged : goal.returns-in_err-seat_of-clause-damaged
returns-in_err-seat_of-clause-damaged g c = λ k f p is.
    let me : c.unwrap-me.result ≡ c.loop-store.number = search rules in
    let from = c.in_err-seat_of.ensures.damaged k f p (search rules) in
    (c.in-Some.store, ap (λ (n : ℕ). slice_get c.args.stores.items n) (from.0 ∙ me ∙ c.loop-store.invariant.count) ∙ next_there c.args.stores.items c.loop-store.yielded (into_iter_items c.loop-store.store-iterator) (into_iter_items c.next.new.self) c.in-Some.store c.loop-store.invariant.split c.in-Some.ensures.steps.0, from.1)

pub loop-store-preserved : goal.loop-store-preserved
loop-store-preserved g c =
    let m = keeper g.R.Replica.stands_for g.R.Replica.durable g.R.Replica.disk g.R.Replica.is_whole in
    let me : c.unwrap-me.result ≡ c.loop-store.number = search rules in
    record {
      split = next_split c.args.stores.items c.loop-store.yielded (into_iter_items c.loop-store.store-iterator) (into_iter_items c.next.new.self) c.in-Some.store c.loop-store.invariant.split c.in-Some.ensures.steps.0;
      count = next_count c.loop-store.yielded c.in-Some.store c.loop-store.number c.loop-store.invariant.count;
      seated = seated_next m c.args.setting.now c.loop-store.yielded c.loop-store.seats.items _ c.in-Some.store c.in_ok-seat_of.field-0 c.loop-store.number c.unwrap-me.result c.loop-store.invariant.seated c.loop-store.invariant.count me
          (subst (λ (d : Setting). IsSeated m d c.unwrap-me.result c.in-Some.store c.in_ok-seat_of.field-0) c.in_ok-setting.ensures c.in_ok-seat_of.ensures.seat) c.in_ok-push.ensures.items;
    }
