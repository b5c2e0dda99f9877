-- The same end of a link at several moments.
use Rattle.std.proofs.Common.{refl, sym, ◌∙◌}
use Rattle.node_links.specs.Ends.{IsLink, IsSameSender, IsSameReceiver}
use Rattle.node_links.specs.declared.ends.Sender.{Sender}
use Rattle.node_links.specs.declared.ends.Receiver.{Receiver}

module _ {M : Type 0} where
  pub same_sender-refl : (a : Sender M) → IsSameSender a a
  same_sender-refl a = ((refl, refl, refl, refl), refl)

  pub same_sender-trans : (a b c : Sender M) → IsSameSender a b → IsSameSender b c → IsSameSender a c
  same_sender-trans a b c p q = ((q.0.0 ∙ p.0.0, q.0.1 ∙ p.0.1, q.0.2 ∙ p.0.2, q.0.3 ∙ p.0.3), q.1 ∙ p.1)

  pub same_receiver-trans : (a b c : Receiver M) → IsSameReceiver a b → IsSameReceiver b c → IsSameReceiver a c
  same_receiver-trans a b c p q = ((q.0.0 ∙ p.0.0, q.0.1 ∙ p.0.1, q.0.2 ∙ p.0.2, q.0.3 ∙ p.0.3), q.1 ∙ p.1)

  -- a sender that stayed the same end is still of the link
  pub same_link : (a b : Sender M) (r : Receiver M) → IsSameSender a b → IsLink a r → IsLink b r
  same_link a b r p l = (l.0 ∙ sym p.0.0, l.1 ∙ sym p.0.1, l.2 ∙ sym p.0.2, l.3 ∙ sym p.0.3)

  pub same_link-receiver : (s : Sender M) (a b : Receiver M) → IsSameReceiver a b → IsLink s a → IsLink s b
  same_link-receiver s a b p l = (p.0.0 ∙ l.0, p.0.1 ∙ l.1, p.0.2 ∙ l.2, p.0.3 ∙ l.3)
