-- Messages that are put into links, one after another.
use Rattle.std.proofs.Common.{◌≡◌, ◌≢◌, ◌<◌, ◌≤◌, ◌+◌, ◌++◌, ℕ, inl, inr, zero, suc, Bool, true, false, cond, eqb, Option, Some, None, List, [], ◌∷◌, length, get_or, set, map, IfSome, IfNone, OnSome, refl, sym, ap, subst, ◌∙◌, arith, append_assoc}
use Rattle.std.specs.Prelude.{not, is_some, ◌&&◌, ◌||◌}
use Rattle.std.specs.List.{AllByRecursion, list_any}
use Rattle.std.proofs.lemmas.Bool.{eq-eqb, eqb-false, ne_eqb, or_cases}
use Rattle.std.proofs.lemmas.List.{append-nil, length-append, map-append}
use Rattle.std.proofs.lemmas.List.Elements.{filter-append}
use Rattle.peer_messages.specs.declared.message.Message.{Message}
use Rattle.node_links.specs.declared.ends.Sender.{Sender}
use Rattle.node_links.specs.Ends.{put_by, known_taken, IsSameSender}
use Rattle.node_links.proofs.SameEnds.{same_sender-refl, same_sender-trans}
use Rattle.wired_node.specs.declared.senders.NodeSender.{NodeSender}
use Rattle.wired_node.specs.Sending.{AreDistinct, AreLostUnlinked, ArePut, IsPut, goes_to, gone_to, is_lost_to, leads_to, message_in}
use Rattle.wired_node.proofs.Pieces.{any_append}

-- ---- the messages to a node

gone_append : (node : ℕ) (xs ys : List (Message × Bool)) → gone_to node (xs ++ ys) ≡ gone_to node xs ++ gone_to node ys
gone_append node xs ys = ap (map message_in) (filter-append (goes_to node) xs ys) ∙ map-append message_in _ _

gone_lost : (node : ℕ) (m : Message) → gone_to node ((m, true) ∷ []) ≡ []
gone_lost node m = at (eqb m.upto node)
  where
    at : (b : Bool) → map message_in (cond (b && false) ((m, true) ∷ []) []) ≡ []
    at true = refl
    at false = refl

gone_same : (node : ℕ) (m : Message) → m.upto ≡ node → gone_to node ((m, false) ∷ []) ≡ m ∷ []
gone_same node m e = ap (λ (b : Bool). map message_in (cond (b && true) ((m, false) ∷ []) [])) (eq-eqb m.upto node e)

gone_other : (node : ℕ) (m : Message) (lost : Bool) → m.upto ≢ node → gone_to node ((m, lost) ∷ []) ≡ []
gone_other node m lost differ = ap (λ (b : Bool). map message_in (cond (b && not lost) ((m, lost) ∷ []) [])) (ne_eqb m.upto node differ)

-- ---- a message that is lost

false_true : false ≡ true → ⊥
false_true e = cc

kept_any : (node : ℕ) (m : Message) → list_any (is_lost_to node) ((m, false) ∷ []) ≡ false
kept_any node m = at (eqb m.upto node)
  where
    at : (b : Bool) → (b && false) || false ≡ false
    at true = refl
    at false = refl

other_any : (node : ℕ) (m : Message) (lost : Bool) → m.upto ≢ node → list_any (is_lost_to node) ((m, lost) ∷ []) ≡ false
other_any node m lost differ = ap (λ (b : Bool). (b && lost) || false) (ne_eqb m.upto node differ)

-- ---- one link

put_nothing : (sent : List (Message × Bool)) (s : NodeSender) → gone_to s.upto sent ≡ [] → list_any (is_lost_to s.upto) sent ≡ false → IsPut sent s s
put_nothing sent s none none_lost = record {
  upto = refl;
  same = same_sender-refl s.sender;
  put = sym (ap (λ (l : List Message). put_by s.sender ++ l) none ∙ append-nil (put_by s.sender));
  known = omega arith;
  full = λ lost. absurd (false_true (sym none_lost ∙ lost));
}

put_on : (xs ys : List (Message × Bool)) (s s1 s2 : NodeSender) → IsPut xs s s1 → IsPut ys s1 s2 → IsPut (xs ++ ys) s s2
put_on xs ys s s1 s2 p q = record {
  upto = q.upto ∙ p.upto;
  same = same_sender-trans s.sender s1.sender s2.sender p.same q.same;
  put = q.put ∙ (ap (λ (l : List Message). l ++ gone_to s1.upto ys) p.put
      ∙ (append_assoc (put_by s.sender) (gone_to s.upto xs) (gone_to s1.upto ys)
      ∙ (ap (λ (n : ℕ). put_by s.sender ++ (gone_to s.upto xs ++ gone_to n ys)) p.upto
      ∙ ap (λ (l : List Message). put_by s.sender ++ l) (sym (gone_append s.upto xs ys)))));
  known = let a = p.known in let b = q.known in omega arith;
  full = λ lost. elim (or_cases (list_any (is_lost_to s.upto) xs) (list_any (is_lost_to s.upto) ys) (sym (any_append (is_lost_to s.upto) xs ys) ∙ lost)) [
    | inl first ↦ let a = p.full first in let more = ap (λ (l : List Message). length l) q.put ∙ length-append (put_by s1.sender) (gone_to s1.upto ys) in omega arith
    | inr later ↦ let a = p.known in let b = q.full (ap (λ (n : ℕ). list_any (is_lost_to n) ys) p.upto ∙ later) in omega arith
  ];
}

-- one message is put
pub is_put : (m : Message) (s : NodeSender) (sender : Sender Message) (back : Option Message) → s.upto ≡ m.upto
    → IfNone back (put_by sender ≡ put_by s.sender ++ m ∷ []) → IfSome back (λ x. (x ≡ m) × (put_by sender ≡ put_by s.sender)) → OnSome back (length (put_by sender) ≡ known_taken sender + 4096)
    → known_taken s.sender ≤ known_taken sender → IsSameSender s.sender sender → IsPut ((m, is_some back) ∷ []) s (record s { sender = sender })
is_put m s sender None up none some full known same = record {
  upto = refl;
  same = same;
  put = none ∙ ap (λ (l : List Message). put_by s.sender ++ l) (sym (gone_same s.upto m (sym up)));
  known = known;
  full = λ lost. absurd (false_true (sym (kept_any s.upto m) ∙ lost));
}
is_put m s sender (Some x) up none some full known same = record {
  upto = refl;
  same = same;
  put = some.1 ∙ sym (ap (λ (l : List Message). put_by s.sender ++ l) (gone_lost s.upto m) ∙ append-nil (put_by s.sender));
  known = known;
  full = λ lost. omega arith;
}

-- ---- all links

head_false : (b more : Bool) → b || more ≡ false → (b ≡ false) × (more ≡ false)
head_false true more h = absurd (false_true (sym h))
head_false false more h = (refl, h)

pub are_lost : (m : Message) (ss : List NodeSender) → list_any (leads_to m.upto) ss ≡ false → ArePut ((m, true) ∷ []) ss ss
are_lost m [] none = tt
are_lost m (s ∷ ss) none =
    let both = head_false (leads_to m.upto s) (list_any (leads_to m.upto) ss) none in
    (put_nothing ((m, true) ∷ []) s (gone_lost s.upto m) (other_any s.upto m true (λ e. eqb-false s.upto m.upto both.0 (sym e))), are_lost m ss both.1)

pub are_none : (ss : List NodeSender) → ArePut [] ss ss
are_none [] = tt
are_none (s ∷ ss) = (put_nothing [] s refl refl, are_none ss)

pub are_on : (xs ys : List (Message × Bool)) (ss ss1 ss2 : List NodeSender) → ArePut xs ss ss1 → ArePut ys ss1 ss2 → ArePut (xs ++ ys) ss ss2
are_on xs ys [] [] [] p q = tt
are_on xs ys [] [] (c ∷ cs) p q = absurd q
are_on xs ys [] (b ∷ bs) cs p q = absurd p
are_on xs ys (s ∷ ss) [] cs p q = absurd p
are_on xs ys (s ∷ ss) (b ∷ bs) [] p q = absurd q
are_on xs ys (s ∷ ss) (b ∷ bs) (c ∷ cs) p q = (put_on xs ys s b c p.0 q.0, are_on xs ys ss bs cs p.1 q.1)

abbrev Others : ℕ → List NodeSender → Type 0
Others node ss = AllByRecursion (λ (t : NodeSender). t.upto ≢ node) ss

others_put : (xs : List (Message × Bool)) (node : ℕ) (ss ss1 : List NodeSender) → ArePut xs ss ss1 → Others node ss → Others node ss1
others_put xs node [] [] p o = tt
others_put xs node [] (b ∷ bs) p o = absurd p
others_put xs node (s ∷ ss) [] p o = absurd p
others_put xs node (s ∷ ss) (b ∷ bs) p o = (λ e. o.0 (sym p.0.upto ∙ e), others_put xs node ss bs p.1 o.1)

pub distinct_put : (xs : List (Message × Bool)) (ss ss1 : List NodeSender) → ArePut xs ss ss1 → AreDistinct ss → AreDistinct ss1
distinct_put xs [] [] p d = tt
distinct_put xs [] (b ∷ bs) p d = absurd p
distinct_put xs (s ∷ ss) [] p d = absurd p
distinct_put xs (s ∷ ss) (b ∷ bs) p d = (subst (λ (n : ℕ). Others n bs) (sym p.0.upto) (others_put xs s.upto ss bs p.1 d.0), distinct_put xs ss bs p.1 d.1)

-- ---- a message is put into the link that leads to its node

other_links : (m : Message) (lost : Bool) (ss : List NodeSender) → Others m.upto ss → ArePut ((m, lost) ∷ []) ss ss
other_links m lost [] o = tt
other_links m lost (s ∷ ss) o = (put_nothing ((m, lost) ∷ []) s (gone_other s.upto m lost (λ e. o.0 (sym e))) (other_any s.upto m lost (λ e. o.0 (sym e))), other_links m lost ss o.1)

others_at : (node : ℕ) (ss : List NodeSender) (i : ℕ) (d : NodeSender) → Others node ss → i < length ss → (get_or ss i d).upto ≢ node
others_at node [] i d o below = absurd (omega arith)
others_at node (s ∷ ss) zero d o below = o.0
others_at node (s ∷ ss) (suc i) d o below = others_at node ss i d o.1 (omega arith)

pub put_at : (m : Message) (lost : Bool) (ss : List NodeSender) (i : ℕ) (d s' : NodeSender) → AreDistinct ss → i < length ss → (get_or ss i d).upto ≡ m.upto → IsPut ((m, lost) ∷ []) (get_or ss i d) s' → ArePut ((m, lost) ∷ []) ss (set ss i s')
put_at m lost [] i d s' distinct below up put = absurd (omega arith)
put_at m lost (s ∷ ss) zero d s' distinct below up put = (put, other_links m lost ss (subst (λ (n : ℕ). Others n ss) up distinct.0))
put_at m lost (s ∷ ss) (suc i) d s' distinct below up put =
    let lt : i < length ss = omega arith in
    let other = λ (e : m.upto ≡ s.upto). others_at s.upto ss i d distinct.0 lt (up ∙ e) in
    (put_nothing ((m, lost) ∷ []) s (gone_other s.upto m lost other) (other_any s.upto m lost other), put_at m lost ss i d s' distinct.1 lt up put)

-- ---- a message to a node to which no link leads

pub same_links : (xs : List (Message × Bool)) (node : ℕ) (ss ss1 : List NodeSender) → ArePut xs ss ss1 → list_any (leads_to node) ss1 ≡ list_any (leads_to node) ss
same_links xs node [] [] p = refl
same_links xs node [] (b ∷ bs) p = absurd p
same_links xs node (s ∷ ss) [] p = absurd p
same_links xs node (s ∷ ss) (b ∷ bs) p = ap (λ (n : ℕ). eqb n node || list_any (leads_to node) bs) p.0.upto ∙ ap (λ (more : Bool). leads_to node s || more) (same_links xs node ss bs p.1)

pub lost_push : (xs : List (Message × Bool)) (m : Message) (lost : Bool) (ss : List NodeSender) → AreLostUnlinked xs ss → (list_any (leads_to m.upto) ss ≡ false → lost ≡ true) → AreLostUnlinked (xs ++ (m, lost) ∷ []) ss
lost_push [] m lost ss all last = (last, tt)
lost_push (x ∷ xs) m lost ss all last = (all.0, lost_push xs m lost ss all.1 last)
