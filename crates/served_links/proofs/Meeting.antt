-- Nodes that meet a new one, one after another.
use Rattle.std.proofs.Common.{◌≡◌, ℕ, suc, ◌<◌, List, [], ◌∷◌, ◌++◌, length, map, Some, slice_get, refl, ap, sym, subst, ◌∙◌, arith, append_assoc, append-nil}
use Rattle.std.specs.List.{AllByRecursion}
use Rattle.std.proofs.lemmas.List.{length-append, map-append}
use Rattle.node_links.specs.Pairs.{below}
use Rattle.served_links.specs.Ends.{Ends, EachLink, IsEven, AreEven, LeadToOthers}
use Rattle.served_links.specs.Meetings.{Met, meeting, IsMet, AreMet}
use Rattle.served_links.proofs.Growing.{Any, befores, afters, each_met, each_with, each_without, part_off}
use Rattle.served_links.proofs.Places.{length_map, all_at, all_from, from_map, get_kept, get_last, get_map, last_of}
use Rattle.served_links.proofs.Rows.{LeadsOn, lead_more, met_even}

all_more : {A : Type 0} (P : A → Type 0) (xs : List A) (x : A) → AllByRecursion P xs → P x → AllByRecursion P (xs ++ x ∷ [])
all_more P [] x all one = (one, tt)
all_more P (y ∷ xs) x all one = (all.0, all_more P xs x all.1 one)

all_parts : {A : Type 0} (P : A → Type 0) (xs : List A) (x : A) → AllByRecursion P (xs ++ x ∷ []) → AllByRecursion P xs × P x
all_parts P [] x all = (tt, all.0)
all_parts P (y ∷ xs) x all = let rest = all_parts P xs x all.1 in ((all.0, rest.0), rest.1)

all_weaker : {A : Type 0} (P Q : A → Type 0) → ((x : A) → P x → Q x) → (xs : List A) → AllByRecursion P xs → AllByRecursion Q xs
all_weaker P Q f [] all = tt
all_weaker P Q f (x ∷ xs) all = (f x all.0, all_weaker P Q f xs all.1)

-- lists with one element more are the same only where both parts are
same_parts : {A : Type 0} (xs ys : List A) (x y : A) → xs ++ x ∷ [] ≡ ys ++ y ∷ [] → (xs ≡ ys) × (x ≡ y)
same_parts [] [] x y e = (refl, cc)
same_parts {A} [] (z ∷ ys) x y e = let long : length {A = A} (x ∷ []) ≡ length (z ∷ (ys ++ y ∷ [])) = ap (λ (l : List A). length l) e in absurd (omega (arith, long, length-append ys (y ∷ [])))
same_parts {A} (w ∷ xs) [] x y e = let long : length (w ∷ (xs ++ x ∷ [])) ≡ length {A = A} (y ∷ []) = ap (λ (l : List A). length l) e in absurd (omega (arith, long, length-append xs (x ∷ [])))
same_parts (w ∷ xs) (z ∷ ys) x y e =
    let head : w ≡ z = cc in
    let tail : xs ++ x ∷ [] ≡ ys ++ y ∷ [] = cc in
    let rest = same_parts xs ys x y tail in
    ((λ i. head i ∷ rest.0 i), rest.1)

module _ {S R : Type 0} where
  -- ---- the last of those that met

  pub met_put : (P : S → R → Type 0) (mets : List (Met S R)) (ys : List (Ends S R)) (ss : List S) (rs : List R) (m : Met S R)
      → AreMet P mets ys ss rs → IsMet P m → AreMet P (mets ++ m ∷ []) (ys ++ m.after ∷ []) (ss ++ m.sender ∷ []) (rs ++ m.receiver ∷ [])
  met_put P mets ys ss rs m met one = (
    map-append (λ (x : Met S R). x.after) mets (m ∷ []) ∙ ap (λ (l : List (Ends S R)). l ++ m.after ∷ []) met.0,
    map-append (λ (x : Met S R). x.sender) mets (m ∷ []) ∙ ap (λ (l : List S). l ++ m.sender ∷ []) met.1,
    map-append (λ (x : Met S R). x.receiver) mets (m ∷ []) ∙ ap (λ (l : List R). l ++ m.receiver ∷ []) met.2,
    all_more (IsMet P) mets m met.3 one,
  )

  pub met_parts : (P : S → R → Type 0) (mets : List (Met S R)) (ys : List (Ends S R)) (ss : List S) (rs : List R) (y : Ends S R) (s : S) (r : R)
      → AreMet P mets (ys ++ y ∷ []) (ss ++ s ∷ []) (rs ++ r ∷ []) → (front : List (Met S R)) × AreMet P front ys ss rs × ((before : Ends S R) × IsMet P (meeting before y s r))
  met_parts P mets ys ss rs y s r met =
      let long : length mets ≡ length (ys ++ y ∷ []) = sym (length_map (λ (x : Met S R). x.after) mets) ∙ ap (λ (l : List (Ends S R)). length l) met.0 in
      let parts = last_of mets (omega (arith, long, length-append ys (y ∷ []))) in
      let front = parts.0 in let m = parts.1 in
      let is : mets ≡ front ++ m ∷ [] = parts.2 in
      let all = all_parts (IsMet P) front m (subst (λ (l : List (Met S R)). AllByRecursion (IsMet P) l) is met.3) in
      let a = same_parts (afters front) ys m.after y (sym (map-append (λ (x : Met S R). x.after) front (m ∷ [])) ∙ (ap (λ (l : List (Met S R)). afters l) (sym is) ∙ met.0)) in
      let b = same_parts (map (λ (x : Met S R). x.sender) front) ss m.sender s
      (sym (map-append (λ (x : Met S R). x.sender) front (m ∷ [])) ∙ (ap (λ (l : List (Met S R)). map (λ (x : Met S R). x.sender) l) (sym is) ∙ met.1)) in
      let d = same_parts (map (λ (x : Met S R). x.receiver) front) rs m.receiver r
      (sym (map-append (λ (x : Met S R). x.receiver) front (m ∷ [])) ∙ (ap (λ (l : List (Met S R)). map (λ (x : Met S R). x.receiver) l) (sym is) ∙ met.2)) in
      (front, (a.0, b.0, d.0, all.0), (m.before, subst (λ (x : Ends S R × S × R). IsMet P (meeting m.before x.0 x.1 x.2)) (λ i. (a.1 i, b.1 i, d.1 i)) all.1))

  -- as many as met
  pub met_count : (P : S → R → Type 0) (mets : List (Met S R)) (ys : List (Ends S R)) (ss : List S) (rs : List R) → AreMet P mets ys ss rs
      → (length mets ≡ length ys) × (length ss ≡ length ys) × (length rs ≡ length ys)
  met_count P mets ys ss rs met =
      let a : length mets ≡ length ys = sym (length_map (λ (x : Met S R). x.after) mets) ∙ ap (λ (l : List (Ends S R)). length l) met.0 in
      let b : length mets ≡ length ss = sym (length_map (λ (x : Met S R). x.sender) mets) ∙ ap (λ (l : List S). length l) met.1 in
      let d : length mets ≡ length rs = sym (length_map (λ (x : Met S R). x.receiver) mets) ∙ ap (λ (l : List R). length l) met.2 in
      (a, omega arith, omega arith)

  -- ---- all but the rest have met the new one

  module _ (upto_of : S → ℕ) (P : S → R → Type 0) (before : List (Ends S R)) (new : ℕ) where
    pub record HaveMet (rest after : List (Ends S R)) (senders : List S) (receivers : List R) : Type 0 where
      pub mets : List (Met S R)
      pub met : AreMet P mets after senders receivers
      pub split : befores mets ++ rest ≡ before
      pub on : AllByRecursion (LeadsOn upto_of new) mets
      pub own : map upto_of senders ≡ below (length after)

    pub met_none : HaveMet before [] [] []
    met_none = record { mets = []; met = (refl, refl, refl, tt); split = refl; on = tt; own = refl }

    met_one : (rest after : List (Ends S R)) (ss : List S) (rs : List R) (m : Met S R) → HaveMet (m.before ∷ rest) after ss rs → IsMet P m → LeadsOn upto_of new m → upto_of m.sender ≡ length after
        → HaveMet rest (after ++ m.after ∷ []) (ss ++ m.sender ∷ []) (rs ++ m.receiver ∷ [])
    met_one rest after ss rs m was met on leads =
        let long : length (after ++ m.after ∷ []) ≡ suc (length after) = omega (arith, length-append after (m.after ∷ [])) in
        record {
          mets = was.mets ++ m ∷ [];
          met = met_put P was.mets after ss rs m was.met met;
          split = ap (λ (l : List (Ends S R)). l ++ rest) (map-append (λ (x : Met S R). x.before) was.mets (m ∷ [])) ∙ (append_assoc (befores was.mets) (m.before ∷ []) rest ∙ was.split);
          on = all_more (LeadsOn upto_of new) was.mets m was.on on;
          own = map-append upto_of ss (m.sender ∷ []) ∙ ((λ i. was.own i ++ leads i ∷ []) ∙ ap below (sym long));
        }

    -- one more of nodes that are seen by their ends
    pub met_next : {N : Type 0} (f : N → Ends S R) (rest rest' after after' : List N) (x y : N) (ss ss' : List S) (rs rs' : List R) (s : S) (r : R) → HaveMet (map f rest) (map f after) ss rs → rest ≡ x ∷ rest'
        → IsMet P (meeting (f x) (f y) s r) → LeadsOn upto_of new (meeting (f x) (f y) s r) → upto_of s ≡ length after → after' ≡ after ++ y ∷ [] → ss' ≡ ss ++ s ∷ [] → rs' ≡ rs ++ r ∷ []
        → HaveMet (map f rest') (map f after') ss' rs'
    met_next {N} f rest rest' after after' x y ss ss' rs rs' s r was next met on leads a b d =
        let one = met_one (map f rest') (map f after) ss rs (meeting (f x) (f y) s r) (subst (λ (l : List N). HaveMet (map f l) (map f after) ss rs) next was) met on (leads ∙ sym (length_map f after)) in
        subst (λ (t : List (Ends S R) × List S × List R). HaveMet (map f rest') t.0 t.1 t.2) (λ i. (sym (ap (λ (l : List N). map f l) a ∙ map-append f after (y ∷ [])) i, sym b i, sym d i)) one

    -- while some have not met it, fewer have than there are
    pub met_within : (rest after : List (Ends S R)) (ss : List S) (rs : List R) → HaveMet rest after ss rs → length before ≡ new → 0 < length rest → length after < new
    met_within rest after ss rs was many some =
        let count = met_count P was.mets after ss rs was.met in let c = count.0 in
        let long : length before ≡ length (befores was.mets ++ rest) = ap (λ (l : List (Ends S R)). length l) (sym was.split) in
        omega (arith, long, length-append (befores was.mets) rest, length_map (λ (x : Met S R). x.before) was.mets)

    met_whole : (after : List (Ends S R)) (last : Ends S R) → HaveMet [] after last.senders last.receivers → LeadToOthers upto_of new before → EachLink P before
        → LeadToOthers upto_of (suc new) (after ++ last ∷ []) × EachLink P (after ++ last ∷ [])
    met_whole after last was lead each =
        let count = met_count P was.mets after last.senders last.receivers was.met in
        let all : befores was.mets ≡ before = sym (append-nil (befores was.mets)) ∙ was.split in
        let k : new ≡ length was.mets = sym lead.0 ∙ (ap (λ (l : List (Ends S R)). length l) (sym all) ∙ length_map (λ (x : Met S R). x.before) was.mets) in
        let lead' : LeadToOthers upto_of (length was.mets) (befores was.mets) = subst (λ (t : ℕ × List (Ends S R)). LeadToOthers upto_of t.0 t.1) (λ i. (k i, sym all i)) lead in
        let each' : EachLink P (befores was.mets) = subst (λ (l : List (Ends S R)). EachLink P l) (sym all) each in
        let on' : AllByRecursion (LeadsOn upto_of (length was.mets)) was.mets = subst (λ (n : ℕ). AllByRecursion (LeadsOn upto_of n) was.mets) k was.on in
        let own' : map upto_of last.senders ≡ below (length was.mets) = was.own ∙ ap below (sym count.0) in
        let one = lead_more upto_of P was.mets last was.met.3 on' lead' own' was.met.2 in
        let two = each_with P was.mets was.met.3 (met_even upto_of was.mets lead') last was.met.1 was.met.2 each' in (
          subst (λ (t : ℕ × List (Ends S R)). LeadToOthers upto_of (suc t.0) (t.1 ++ last ∷ [])) (λ i. (sym k i, was.met.0 i)) one,
          subst (λ (l : List (Ends S R)). EachLink P (l ++ last ∷ [])) was.met.0 two,
        )

    -- once all have met it
    pub met_all : {N : Type 0} (f : N → Ends S R) (rest after after' : List N) (last : N) → HaveMet (map f rest) (map f after) (f last).senders (f last).receivers → length rest ≡ 0
        → LeadToOthers upto_of new before → EachLink P before → after' ≡ after ++ last ∷ [] → LeadToOthers upto_of (suc new) (map f after') × EachLink P (map f after')
    met_all {N} f [] after after' last was none lead each is =
        subst (λ (l : List (Ends S R)). LeadToOthers upto_of (suc new) l × EachLink P l) (sym (ap (λ (l : List N). map f l) is ∙ map-append f after (last ∷ []))) (met_whole (map f after) (f last) was lead each)
    met_all f (x ∷ rest) after after' last was none lead each is = absurd (omega (arith, none))

  -- ---- a node and those before it

  -- those that met the last one were even before
  even_before : (P : S → R → Type 0) (mets : List (Met S R)) → AllByRecursion (IsMet P) mets → ((i : ℕ) (y : Ends S R) → slice_get (afters mets) i ≡ Some y → IsEven (suc (length mets)) y)
      → AllByRecursion (λ (m : Met S R). IsEven (length mets) m.before) mets
  even_before P mets met even = all_from (λ (m : Met S R). IsEven (length mets) m.before) mets (λ i m at.
      let e = even i m.after (get_map (λ (x : Met S R). x.after) mets i m at) in let e₀ = e.0 in let e₁ = e.1 in
      let one = all_at (IsMet P) mets i m met at in
      let a : length m.after.senders ≡ length (m.before.senders ++ one.0 ∷ []) = ap (λ (l : List S). length l) one.2 in
      let b : length m.after.receivers ≡ length (m.before.receivers ++ one.1 ∷ []) = ap (λ (l : List R). length l) one.3 in
      (omega (arith, a, length-append m.before.senders (one.0 ∷ [])), omega (arith, b, length-append m.before.receivers (one.1 ∷ []))))

  module _ (nodes : ℕ) (all ys : List (Ends S R)) (last : Ends S R) (is : all ≡ ys ++ last ∷ []) (even : AreEven nodes all) where
    count : suc (length ys) ≡ nodes
    count = let long : length all ≡ length (ys ++ last ∷ []) = ap (λ (l : List (Ends S R)). length l) is in let e = even.0 in omega (arith, long, length-append ys (last ∷ []))

    even_front : (i : ℕ) (y : Ends S R) → slice_get ys i ≡ Some y → IsEven nodes y
    even_front i y at = even.1 i y (ap (λ (l : List (Ends S R)). slice_get l i) is ∙ get_kept ys (last ∷ []) i y at)

    even_last : IsEven nodes last
    even_last = even.1 (length ys) last (ap (λ (l : List (Ends S R)). slice_get l (length ys)) is ∙ get_last ys last (length ys) refl)

    met_even_before : (P : S → R → Type 0) (mets : List (Met S R)) → AreMet P mets ys last.senders last.receivers → AllByRecursion (λ (m : Met S R). IsEven (length mets) m.before) mets
    met_even_before P mets met =
        let k : nodes ≡ suc (length mets) = sym count ∙ ap suc (sym (met_count P mets ys last.senders last.receivers met).0) in
        even_before P mets met.3 (λ i y at. subst (λ (n : ℕ). IsEven n y) k (even_front i y (ap (λ (l : List (Ends S R)). slice_get l i) (sym met.0) ∙ at)))

    -- the last one's links with those before it
    pub with_last : (P : S → R → Type 0) → EachLink P all → (mets : List (Met S R)) × AreMet P mets ys last.senders last.receivers
    with_last P each =
        let c = count in let e = even_last in let e₀ = e.0 in let e₁ = e.1 in
        let shapes = part_off ys last.senders last.receivers nodes (omega arith) (omega arith) even_front (omega arith) in
        let each' : EachLink P (afters shapes.0 ++ last ∷ []) = subst (λ (l : List (Ends S R)). EachLink P l) (is ∙ ap (λ (l : List (Ends S R)). l ++ last ∷ []) (sym shapes.1.0)) each in (
          shapes.0,
          (
            shapes.1.0,
            shapes.1.1,
            shapes.1.2,
            each_met P shapes.0 last shapes.1.3 shapes.1.1 shapes.1.2 each' (met_even_before Any shapes.0 shapes.1),
          ),
        )

    -- and what these are without it
    pub without_last : (P Q : S → R → Type 0) (mets : List (Met S R)) → EachLink P all → AreMet Q mets ys last.senders last.receivers → AreEven (length ys) (befores mets) × EachLink P (befores mets)
    without_last P Q mets each met =
        let k = (met_count Q mets ys last.senders last.receivers met).0 in
        let evens = met_even_before Q mets met in
        let shapes = all_weaker (IsMet Q) (IsMet Any) (λ m one. (one.0, one.1, one.2, one.3, tt, tt)) mets met.3 in
        let each' : EachLink P (afters mets ++ last ∷ []) = subst (λ (l : List (Ends S R)). EachLink P l) (is ∙ ap (λ (l : List (Ends S R)). l ++ last ∷ []) (sym met.0)) each in (
          (
            length_map (λ (x : Met S R). x.before) mets ∙ k,
            λ me a at.
                let m = from_befores mets me a at in
                subst (λ (t : ℕ × Ends S R). IsEven t.0 t.1) (λ i. (k i, m.2 i)) (all_at (λ (x : Met S R). IsEven (length mets) x.before) mets me m.0 evens m.1),
          ),
          each_without P mets last shapes met.1 met.2 each',
        )
      where
        from_befores : (mets : List (Met S R)) (i : ℕ) (a : Ends S R) → slice_get (befores mets) i ≡ Some a → (m : Met S R) × (slice_get mets i ≡ Some m) × (m.before ≡ a)
        from_befores mets i a at = from_map (λ (x : Met S R). x.before) mets i a at

    -- what holds of its links and of those without it holds of all
    pub all_with_last : (Q : S → R → Type 0) (mets : List (Met S R)) → AreMet Q mets ys last.senders last.receivers → EachLink Q (befores mets) → EachLink Q all
    all_with_last Q mets met each =
        subst (λ (l : List (Ends S R)). EachLink Q l) (ap (λ (l : List (Ends S R)). l ++ last ∷ []) met.0 ∙ sym is) (each_with Q mets met.3 (met_even_before Q mets met) last met.1 met.2 each)

  -- ---- the same of nodes that are seen by their ends

  pub met_off : {N : Type 0} (f : N → Ends S R) (P : S → R → Type 0) (mets : List (Met S R)) (ys ys' : List N) (y : N) (ss ss' : List S) (s : S) (rs rs' : List R) (r : R)
      → AreMet P mets (map f ys) ss rs → ys ≡ ys' ++ y ∷ [] → ss ≡ ss' ++ s ∷ [] → rs ≡ rs' ++ r ∷ []
      → (front : List (Met S R)) × AreMet P front (map f ys') ss' rs' × ((before : Ends S R) × IsMet P (meeting before (f y) s r))
  met_off {N} f P mets ys ys' y ss ss' s rs rs' r met a b d =
      met_parts P mets (map f ys') ss' rs' (f y) s r
      (subst (λ (t : List (Ends S R) × List S × List R). AreMet P mets t.0 t.1 t.2) (λ i. ((ap (λ (l : List N). map f l) a ∙ map-append f ys' (y ∷ [])) i, b i, d i)) met)

  pub met_on : {N : Type 0} (f : N → Ends S R) (P : S → R → Type 0) (mets : List (Met S R)) (xs xs' ys ys' : List N) (x y : N) (ss ss' : List S) (s : S) (rs rs' : List R) (r : R)
      → AreMet P mets (map f ys') ss' rs' → befores mets ≡ map f xs' → IsMet P (meeting (f x) (f y) s r) → xs ≡ xs' ++ x ∷ [] → ys ≡ ys' ++ y ∷ [] → ss ≡ ss' ++ s ∷ [] → rs ≡ rs' ++ r ∷ []
      → (all : List (Met S R)) × AreMet P all (map f ys) ss rs × (befores all ≡ map f xs)
  met_on {N} f P mets xs xs' ys ys' x y ss ss' s rs rs' r met left one z a b d =
      let m : Met S R = meeting (f x) (f y) s r in
      let more = met_put P mets (map f ys') ss' rs' m met one in (
        mets ++ m ∷ [],
        subst (λ (t : List (Ends S R) × List S × List R). AreMet P (mets ++ m ∷ []) t.0 t.1 t.2) (λ i. (sym (ap (λ (l : List N). map f l) a ∙ map-append f ys' (y ∷ [])) i, sym b i, sym d i)) more,
        map-append (λ (n : Met S R). n.before) mets (m ∷ []) ∙ (ap (λ (l : List (Ends S R)). l ++ f x ∷ []) left ∙ (sym (map-append f xs' (x ∷ [])) ∙ ap (λ (l : List N). map f l) (sym z))),
      )

  module _ {N : Type 0} (f : N → Ends S R) (nodes : ℕ) (all rest : List N) (last : N) (rs : List R) (is : all ≡ rest ++ last ∷ []) (takes : rs ≡ (f last).receivers) (even : AreEven nodes (map f all)) where
    whole : map f all ≡ map f rest ++ f last ∷ []
    whole = ap (λ (l : List N). map f l) is ∙ map-append f rest (last ∷ [])

    pub last_off : (P : S → R → Type 0) → EachLink P (map f all) → (mets : List (Met S R)) × AreMet P mets (map f rest) (f last).senders rs
    last_off P each =
        let off = with_last nodes (map f all) (map f rest) (f last) whole even P each in
        (off.0, subst (λ (l : List R). AreMet P off.0 (map f rest) (f last).senders l) (sym takes) off.1)

    pub left_off : (P Q : S → R → Type 0) (mets : List (Met S R)) (left : List N) → EachLink P (map f all) → AreMet Q mets (map f rest) (f last).senders rs → befores mets ≡ map f left
        → AreEven (length left) (map f left) × EachLink P (map f left)
    left_off P Q mets left each met are =
        let met' = subst (λ (l : List R). AreMet Q mets (map f rest) (f last).senders l) takes met in
        let off = without_last nodes (map f all) (map f rest) (f last) whole even P Q mets each met' in
        let long : length (map f rest) ≡ length left = sym off.0.0 ∙ (ap (λ (l : List (Ends S R)). length l) are ∙ length_map f left) in
        subst (λ (t : ℕ × List (Ends S R)). AreEven t.0 t.1 × EachLink P t.1) (λ i. (long i, are i)) off

    pub last_on : (Q : S → R → Type 0) (mets : List (Met S R)) (left : List N) → AreMet Q mets (map f rest) (f last).senders rs → befores mets ≡ map f left → EachLink Q (map f left) → EachLink Q (map f all)
    last_on Q mets left met are each =
        all_with_last nodes (map f all) (map f rest) (f last) whole even Q mets (subst (λ (l : List R). AreMet Q mets (map f rest) (f last).senders l) takes met)
        (subst (λ (l : List (Ends S R)). EachLink Q l) (sym are) each)
