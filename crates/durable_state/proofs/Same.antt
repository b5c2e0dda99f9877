-- To keep the same is an equivalence.
use Rattle.std.proofs.Common.{refl, sym, ◌∙◌}
use Rattle.durable_state.specs.Laws.{KeptIsItself, KeptIsMutual, KeptIsPassedOn}

pub same_itself : KeptIsItself
same_itself d = record {
  ceiling = refl;
  content = λ x. (λ h. h, λ h. h);
  rows = λ p. refl;
  hints = λ peer. refl;
  numbers = λ peer. refl;
  marks = λ m. (λ h. h, λ h. h);
}

pub same_back : KeptIsMutual
same_back a b s = record {
  ceiling = sym s.ceiling;
  content = λ x. ((s.content x).1, (s.content x).0);
  rows = λ p. sym (s.rows p);
  hints = λ peer. sym (s.hints peer);
  numbers = λ peer. sym (s.numbers peer);
  marks = λ m. ((s.marks m).1, (s.marks m).0);
}

pub same_on : KeptIsPassedOn
same_on a b c s t = record {
  ceiling = t.ceiling ∙ s.ceiling;
  content = λ x. (λ h. (s.content x).0 ((t.content x).0 h), λ h. (t.content x).1 ((s.content x).1 h));
  rows = λ p. t.rows p ∙ s.rows p;
  hints = λ peer. t.hints peer ∙ s.hints peer;
  numbers = λ peer. t.numbers peer ∙ s.numbers peer;
  marks = λ m. (λ h. (s.marks m).0 ((t.marks m).0 h), λ h. (t.marks m).1 ((s.marks m).1 h));
}
