use Rattle.std.proofs.Common.{List, [], ◌∷◌, ◌++◌, Bool, map, sym, ap, subst, ◌∙◌}
use Rattle.std.proofs.lemmas.List.{map-append}
use Rattle.peer_messages.specs.declared.message.Message.{Message}
use Rattle.wired_node.specs.Sending.{AreLostUnlinked, ArePut, message_in}
use Rattle.wired_node.proofs.Puts.{are_none, are_on, distinct_put, lost_push, same_links}
use Rattle.wired_node.proofs.senders.put_all.Goals as goal

pub loop-message-init : goal.loop-message-init
loop-message-init c = record {
  sent = ap (λ (xs : List (Message × Bool)). map message_in xs) c.new-sent.ensures;
  put = subst (λ (xs : List (Message × Bool)). ArePut xs c.args.senders.now c.args.senders.now) (sym c.new-sent.ensures) (are_none c.args.senders.now);
  unlinked = subst (λ (xs : List (Message × Bool)). AreLostUnlinked xs c.args.senders.now) (sym c.new-sent.ensures) tt;
  distinct = c.requires;
}

pub loop-message-preserved : goal.loop-message-preserved
loop-message-preserved c =
    let next = c.put_next-sent.ensures in
    let one = (c.in-Some.message, next.0) ∷ [] in
    record {
      sent = ap (λ (xs : List (Message × Bool)). map message_in xs) next.1
          ∙ (map-append message_in c.loop-message.sent.items one ∙ ap (λ (ms : List Message). ms ++ c.in-Some.message ∷ []) c.loop-message.invariant.sent);
      put = subst (λ (xs : List (Message × Bool)). ArePut xs c.args.senders.now c.put_next-sent.new.senders) (sym next.1)
          (are_on c.loop-message.sent.items one c.args.senders.now c.loop-message.senders c.put_next-sent.new.senders c.loop-message.invariant.put next.2);
      unlinked = subst (λ (xs : List (Message × Bool)). AreLostUnlinked xs c.args.senders.now) (sym next.1)
          (lost_push c.loop-message.sent.items c.in-Some.message next.0 c.args.senders.now c.loop-message.invariant.unlinked
          (λ none. next.3 (same_links c.loop-message.sent.items c.in-Some.message.upto c.args.senders.now c.loop-message.senders c.loop-message.invariant.put ∙ none)));
      distinct = distinct_put one c.loop-message.senders c.put_next-sent.new.senders next.2 c.loop-message.invariant.distinct;
    }
