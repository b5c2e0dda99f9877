-- A step's time rises and all that is due is done before the event's own matter is taken.
use Rattle.std.proofs.Common.{◌≡◌, ◌≢◌, ℕ, inl, inr, ◌+◌, Bool, true, false, Option, Some, None, List, [], ◌∷◌, ◌++◌, append-nil, append_assoc, refl, sym, ap, subst, ◌∙◌, arith, Contains}
use Rattle.std.specs.Prelude.{if◌then◌else◌, nat_lt}
use Rattle.std.proofs.lemmas.List.Elements.{Contains-append_cases}
use Rattle.cs_base.specs.declared.ids.ReqId.{ReqId}
use Rattle.cs_base.specs.Requests.{is_request}
use Rattle.cs_base.proofs.Members.{contains_nil, contains_here, contains_there, contains_one}
use Rattle.peer_messages.specs.declared.chronicle.Entry.{Entry}
use Rattle.peer_messages.specs.declared.chronicle.Entry.TheVariants.{Refused}
use Rattle.peer_messages.specs.declared.chronicle.Refusal.{Refusal}
use Rattle.peer_messages.specs.declared.chronicle.Refusal.TheVariants.{WriteTimeout, ReadTimeout}
use Rattle.peer_messages.specs.declared.setting.Setting.{Setting}
use Rattle.node_steps.specs.State.{NodeState, OpenWrite, OpenRead}
use Rattle.node_steps.specs.Effects.{Effects, nothing, open_at}
use Rattle.node_steps.specs.Writes.{acks_of, write_needs}
use Rattle.node_steps.specs.Reads.{replies_of, read_needs, received_of}
use Rattle.node_steps.specs.Acts.{Act, Rises, Hears, Asks, Marks, DeadlineComes, HintExpires, Deed, Does, Ends, EndsRead, Chain, own_sends}
use Rattle.node_steps.specs.Acts.Chain.{begun, own, matter}
use Rattle.cluster_runs.proofs.Submissions.{same_request}
use Rattle.answer_causes.specs.Story.{answers_to, one_if}
use Rattle.answer_causes.specs.Causes.{IsTimeout}
use Rattle.answer_causes.proofs.Steps.{deed_of}

-- ---- moves that send nothing

abbrev pub IsQuiet : Act → Type 0
IsQuiet (Rises t) = Unit {0}
IsQuiet (DeadlineComes id) = Unit {0}
IsQuiet (HintExpires peer number) = Unit {0}
IsQuiet (Hears m) = ⊥
IsQuiet (Asks ask) = ⊥
IsQuiet (Marks peer up) = ⊥

sends_none : (k : ℕ) (o p : Effects) → o ≡ p → own_sends k p.sends ≡ [] → own_sends k o.sends ≡ []
sends_none k o p is none = ap (λ (x : Effects). own_sends k x.sends) is ∙ none

ends_read_quiet : (c : Setting) (k : ℕ) (id : ReqId) (r : Option OpenRead) (s : NodeState) (o : Effects) (s' : NodeState) → EndsRead c id r s o s' → own_sends k o.sends ≡ []
ends_read_quiet c k id None s o s' h = sends_none k o nothing h.0 refl
ends_read_quiet c k id (Some r) s o s' h = sends_none k o _ h.0 refl

ends_quiet : (c : Setting) (k : ℕ) (id : ReqId) (w : Option OpenWrite) (s : NodeState) (o : Effects) (s' : NodeState) → Ends c id w s o s' → own_sends k o.sends ≡ []
ends_quiet c k id None s o s' h = ends_read_quiet c k id (open_at s.reads id) s o s' h
ends_quiet c k id (Some w) s o s' h = sends_none k o _ h.0 refl

quiet_sends : (c : Setting) (k : ℕ) (s : NodeState) (a : Act) (o : Effects) (s' : NodeState) → IsQuiet a → Does c k s a o s' → own_sends k o.sends ≡ []
quiet_sends c k s (Rises t) o s' quiet h = sends_none k o nothing h.1 refl
quiet_sends c k s (DeadlineComes id) o s' quiet h = ends_quiet c k id (open_at s.writes id) s o s' h
quiet_sends c k s (HintExpires peer number) o s' quiet h = sends_none k o nothing h.0 refl
quiet_sends c k s (Hears m) o s' quiet h = absurd quiet
quiet_sends c k s (Asks ask) o s' quiet h = absurd quiet
quiet_sends c k s (Marks peer up) o s' quiet h = absurd quiet

abbrev pub AreQuiet : List Act → Type 0
AreQuiet xs = (a : Act) → Contains xs a → IsQuiet a

-- ---- two parts of a chain

-- the first matters are being done, or they are done and the others are under way
pub data Split (c : Setting) (k : ℕ) (s : NodeState) (xs ys : List Act) (deeds : List Deed) (s' : NodeState) (pending left : List Act) : Type 0 where
  early : (l : List Act) → left ≡ l ++ ys → pending ≡ [] → AreQuiet l → Chain c k s xs deeds s' [] l → Split c k s xs ys deeds s' pending left
  late : (ds es : List Deed) (m : NodeState) → Chain c k s xs ds m [] [] → deeds ≡ ds ++ es → Chain c k m ys es s' pending left → Split c k s xs ys deeds s' pending left

nil_cons : {X : Type 0} (x : X) (xs : List X) → [] ≡ x ∷ xs → ⊥
nil_cons x xs e = cc

heads : (a b : Act) (xs ys : List Act) → a ∷ xs ≡ b ∷ ys → (a ≡ b) × (xs ≡ ys)
heads a b xs ys e = (cc, cc)

push_assoc : (ds es : List Deed) (d : Deed) (deeds : List Deed) → deeds ≡ ds ++ es → deeds ++ d ∷ [] ≡ ds ++ (es ++ d ∷ [])
push_assoc ds es d deeds is = ap (λ (xs : List Deed). xs ++ d ∷ []) is ∙ append_assoc ds es (d ∷ [])

own_split : (c : Setting) (k : ℕ) (s : NodeState) (xs ys : List Act) (deeds : List Deed) (mid s' : NodeState) (a : Act) (p pending left : List Act) (o : Effects) → Split c k s xs ys deeds mid p left → p ≡ a ∷ pending → Does c k mid a o s'
    → Split c k s xs ys (deeds ++ deed_of k a mid s' o ∷ []) s' (pending ++ own_sends k o.sends) left
own_split c k s xs ys deeds mid s' a p pending left o (early l is none quiet chain) e does = absurd (nil_cons a pending (sym none ∙ e))
own_split c k s xs ys deeds mid s' a p pending left o (late ds es m first is chain) e does =
    late ds (es ++ deed_of k a mid s' o ∷ []) m first (push_assoc ds es (deed_of k a mid s' o) deeds is) (own es mid s' a pending left o (subst (λ (zs : List Act). Chain c k m ys es mid zs left) e chain) does)

early_step : (c : Setting) (k : ℕ) (s : NodeState) (xs ys : List Act) (deeds : List Deed) (mid s' : NodeState) (a : Act) (left l : List Act) (o : Effects) → a ∷ left ≡ l ++ ys → AreQuiet l → Chain c k s xs deeds mid [] l → Does c k mid a o s'
    → Split c k s xs ys (deeds ++ deed_of k a mid s' o ∷ []) s' (own_sends k o.sends) left
early_step c k s xs ys deeds mid s' a left [] o is quiet chain does =
    late deeds (deed_of k a mid s' o ∷ []) mid chain refl (matter [] mid s' a left o (subst (λ (zs : List Act). Chain c k mid ys [] mid [] zs) (sym is) begun) does)
early_step c k s xs ys deeds mid s' a left (b ∷ l) o is quiet chain does =
    let h = heads a b left (l ++ ys) is in
    let first : IsQuiet a = subst (λ (x : Act). IsQuiet x) (sym h.0) (quiet b (contains_here b l)) in
    let none = quiet_sends c k mid a o s' first does in
    early l h.1 none (λ x there. quiet x (contains_there b l x there))
    (subst (λ (zs : List Act). Chain c k s xs (deeds ++ deed_of k a mid s' o ∷ []) s' zs l) none (matter deeds mid s' a l o (subst (λ (x : Act). Chain c k s xs deeds mid [] (x ∷ l)) (sym h.0) chain) does))

matter_split : (c : Setting) (k : ℕ) (s : NodeState) (xs ys : List Act) (deeds : List Deed) (mid s' : NodeState) (a : Act) (p left : List Act) (o : Effects) → Split c k s xs ys deeds mid p (a ∷ left) → p ≡ [] → Does c k mid a o s'
    → Split c k s xs ys (deeds ++ deed_of k a mid s' o ∷ []) s' (own_sends k o.sends) left
matter_split c k s xs ys deeds mid s' a p left o (early l is none quiet chain) e does = early_step c k s xs ys deeds mid s' a left l o is quiet chain does
matter_split c k s xs ys deeds mid s' a p left o (late ds es m first is chain) e does =
    late ds (es ++ deed_of k a mid s' o ∷ []) m first (push_assoc ds es (deed_of k a mid s' o) deeds is) (matter es mid s' a left o (subst (λ (zs : List Act). Chain c k m ys es mid zs (a ∷ left)) e chain) does)

split : (c : Setting) (k : ℕ) (s : NodeState) (xs ys : List Act) → AreQuiet xs → (deeds : List Deed) (s' : NodeState) (pending left : List Act) → Chain c k s (xs ++ ys) deeds s' pending left → Split c k s xs ys deeds s' pending left
split c k s xs ys quiet _ _ _ _ begun = early xs refl refl quiet begun
split c k s xs ys quiet _ _ _ _ (own deeds mid s' a pending left o chain does) = own_split c k s xs ys deeds mid s' a (a ∷ pending) pending left o (split c k s xs ys quiet deeds mid (a ∷ pending) left chain) refl does
split c k s xs ys quiet _ _ _ _ (matter deeds mid s' a left o chain does) = matter_split c k s xs ys deeds mid s' a [] left o (split c k s xs ys quiet deeds mid [] (a ∷ left) chain) refl does

-- a whole step in its two parts
pub record Parts (c : Setting) (k : ℕ) (s : NodeState) (xs ys : List Act) (deeds : List Deed) (s' : NodeState) : Type 0 where
  pub first : List Deed
  pub second : List Deed
  pub between : NodeState
  pub due : Chain c k s xs first between [] []
  pub all : deeds ≡ first ++ second
  pub rest : Chain c k between ys second s' [] []

empty_both : (xs ys : List Act) → [] ≡ xs ++ ys → (xs ≡ []) × (ys ≡ [])
empty_both [] ys e = (refl, sym e)
empty_both (x ∷ xs) ys e = absurd (nil_cons x (xs ++ ys) e)

parts_of : (c : Setting) (k : ℕ) (s : NodeState) (xs ys : List Act) (deeds : List Deed) (s' : NodeState) (pending left : List Act) → pending ≡ [] → left ≡ [] → Split c k s xs ys deeds s' pending left → Parts c k s xs ys deeds s'
parts_of c k s xs ys deeds s' pending left p e (early l is none quiet chain) =
    let both = empty_both l ys (sym e ∙ is) in
    record {
      first = deeds;
      second = [];
      between = s';
      due = subst (λ (zs : List Act). Chain c k s xs deeds s' [] zs) both.0 chain;
      all = sym (append-nil deeds);
      rest = subst (λ (zs : List Act). Chain c k s' zs [] s' [] []) (sym both.1) begun;
    }
parts_of c k s xs ys deeds s' pending left p e (late ds es m first is chain) = record {
  first = ds;
  second = es;
  between = m;
  due = first;
  all = is;
  rest = subst (λ (zs : List Act). Chain c k m ys es s' zs []) p (subst (λ (zs : List Act). Chain c k m ys es s' pending zs) e chain);
}

pub parts : (c : Setting) (k : ℕ) (s : NodeState) (xs ys : List Act) (deeds : List Deed) (s' : NodeState) → AreQuiet xs → Chain c k s (xs ++ ys) deeds s' [] [] → Parts c k s xs ys deeds s'
parts c k s xs ys deeds s' quiet chain = parts_of c k s xs ys deeds s' [] [] refl refl (split c k s xs ys quiet deeds s' [] [] chain)

-- ---- what a quiet move answers is a timeout

abbrev pub TellsTimeout : List Entry → ReqId → Type 0
TellsTimeout es id = (r : Refusal) × IsTimeout r × Contains es (Refused id r)

none_told : (es fs : List Entry) (id : ReqId) → es ≡ fs → answers_to fs id ≡ 0 → answers_to es id ≢ 0 → ⊥
none_told es fs id is none some = some (ap (λ (xs : List Entry). answers_to xs id) is ∙ none)

one_told : (b : Bool) (es : List Entry) (r id : ReqId) (refusal : Refusal) → is_request r id ≡ b → es ≡ Refused r refusal ∷ [] → IsTimeout refusal → answers_to es id ≢ 0 → TellsTimeout es id
one_told true es r id refusal test is timeout some =
    (refusal, timeout, subst (λ (xs : List Entry). Contains xs (Refused id refusal)) (sym is) (subst (λ (x : ReqId). Contains (Refused r refusal ∷ []) (Refused x refusal)) (same_request r id test) (contains_here (Refused r refusal) [])))
one_told false es r id refusal test is timeout some =
    absurd (some (ap (λ (xs : List Entry). answers_to xs id) is ∙ ap (λ (b : Bool). one_if b + 0) test ∙ (let e : 0 + 0 ≡ 0 = omega arith in e)))

ends_read_told : (c : Setting) (r id : ReqId) (x : Option OpenRead) (s : NodeState) (o : Effects) (s' : NodeState) → EndsRead c r x s o s' → answers_to o.entries id ≢ 0 → TellsTimeout o.entries id
ends_read_told c r id None s o s' h some = absurd (none_told o.entries [] id (ap (λ (x : Effects). x.entries) h.0) refl some)
ends_read_told c r id (Some x) s o s' h some =
    one_told (is_request r id) o.entries r id (ReadTimeout (received_of c x) (read_needs c x) (nat_lt 0 (replies_of c x))) refl (ap (λ (x : Effects). x.entries) h.0) tt some

write_end_told : (b : Bool) (es : List Entry) (r id : ReqId) (refusal : Refusal) → es ≡ (if b then [] else Refused r refusal ∷ []) → IsTimeout refusal → answers_to es id ≢ 0 → TellsTimeout es id
write_end_told true es r id refusal is timeout some = absurd (none_told es [] id is refl some)
write_end_told false es r id refusal is timeout some = one_told (is_request r id) es r id refusal refl is timeout some

ends_told : (c : Setting) (r id : ReqId) (x : Option OpenWrite) (s : NodeState) (o : Effects) (s' : NodeState) → Ends c r x s o s' → answers_to o.entries id ≢ 0 → TellsTimeout o.entries id
ends_told c r id None s o s' h some = ends_read_told c r id (open_at s.reads r) s o s' h some
ends_told c r id (Some w) s o s' h some = write_end_told w.answered o.entries r id (WriteTimeout (acks_of c w) (write_needs c w)) (ap (λ (x : Effects). x.entries) h.0) tt some

pub quiet_told : (c : Setting) (k : ℕ) (s : NodeState) (a : Act) (o : Effects) (s' : NodeState) (id : ReqId) → IsQuiet a → Does c k s a o s' → answers_to o.entries id ≢ 0 → TellsTimeout o.entries id
quiet_told c k s (Rises t) o s' id quiet h some = absurd (none_told o.entries [] id (ap (λ (x : Effects). x.entries) h.1) refl some)
quiet_told c k s (DeadlineComes r) o s' id quiet h some = ends_told c r id (open_at s.writes r) s o s' h some
quiet_told c k s (HintExpires peer number) o s' id quiet h some = absurd (none_told o.entries [] id (ap (λ (x : Effects). x.entries) h.0) refl some)
quiet_told c k s (Hears m) o s' id quiet h some = absurd quiet
quiet_told c k s (Asks ask) o s' id quiet h some = absurd quiet
quiet_told c k s (Marks peer up) o s' id quiet h some = absurd quiet

-- all moves of a quiet chain are quiet
pub quiet_acts : (c : Setting) (k : ℕ) (s : NodeState) (ms : List Act) → AreQuiet ms → (deeds : List Deed) (s' : NodeState) (pending left : List Act) → Chain c k s ms deeds s' pending left
    → (pending ≡ []) × (AreQuiet left × ((d : Deed) → Contains deeds d → IsQuiet d.act))
quiet_acts c k s ms quiet _ _ _ _ begun = (refl, (quiet, λ d h. absurd (contains_nil d h)))
quiet_acts c k s ms quiet _ _ _ _ (own deeds mid s' a pending left o chain does) = absurd (nil_cons a pending (sym (quiet_acts c k s ms quiet deeds mid (a ∷ pending) left chain).0))
quiet_acts c k s ms quiet _ _ _ _ (matter deeds mid s' a left o chain does) =
    let prev = quiet_acts c k s ms quiet deeds mid [] (a ∷ left) chain in
    let this = prev.1.0 a (contains_here a left) in (
      quiet_sends c k mid a o s' this does,
      (
        λ b h. prev.1.0 b (contains_there a left b h),
        λ d h. elim (Contains-append_cases deeds _ d h) [ inl old ↦ prev.1.1 d old | inr last ↦ subst (λ (x : Deed). IsQuiet x.act) (contains_one _ d last) this ],
      ),
    )
