-- Links between nodes, with those of one node more and without them.
use Rattle.std.proofs.Common.{◌≡◌, ◌≢◌, ℕ, suc, ◌+◌, ◌<◌, List, [], ◌∷◌, ◌++◌, length, map, Some, slice_get, refl, ap, sym, subst, ◌∙◌, ⊎_elim, arith}
use Rattle.std.specs.List.{AllByRecursion}
use Rattle.served_links.specs.Ends.{Ends, EachLink, IsEven, place_of}
use Rattle.served_links.specs.Meetings.{Met, meeting, IsMet, AreMet}
use Rattle.served_links.proofs.Places.{length_map, same_some, get_below, get_front, get_kept, get_last, get_cases, all_at, all_from, last_of, get_map, from_map, place_below, place_above, place_within}

module _ {S R : Type 0} where
  -- the nodes without the new one's links, and with them
  abbrev pub befores : List (Met S R) → List (Ends S R)
  befores mets = map (λ (m : Met S R). m.before) mets

  abbrev pub afters : List (Met S R) → List (Ends S R)
  afters mets = map (λ (m : Met S R). m.after) mets

  pub met_push : (P : S → R → Type 0) (mets : List (Met S R)) (m : Met S R) → AllByRecursion (IsMet P) mets → IsMet P m → AllByRecursion (IsMet P) (mets ++ m ∷ [])
  met_push P [] m all one = (one, tt)
  met_push P (x ∷ mets) m all one = (all.0, met_push P mets m all.1 one)

  -- no end to or from the new node stands where one to or from an old one does
  sender_before : (P : S → R → Type 0) (m : Met S R) (nodes at : ℕ) (s : S) → IsMet P m → IsEven nodes m.before → at + 1 < nodes
      → slice_get m.after.senders at ≡ Some s → slice_get m.before.senders at ≡ Some s
  sender_before P m nodes at s met even within there =
      let long = even.0 in
      sym (get_front m.before.senders (met.0 ∷ []) at (omega arith)) ∙ (ap (λ (l : List S). slice_get l at) (sym met.2) ∙ there)

  receiver_before : (P : S → R → Type 0) (m : Met S R) (nodes at : ℕ) (r : R) → IsMet P m → IsEven nodes m.before → at + 1 < nodes
      → slice_get m.after.receivers at ≡ Some r → slice_get m.before.receivers at ≡ Some r
  receiver_before P m nodes at r met even within there =
      let long = even.1 in
      sym (get_front m.before.receivers (met.1 ∷ []) at (omega arith)) ∙ (ap (λ (l : List R). slice_get l at) (sym met.3) ∙ there)

  -- the ends to and from the new node stand last
  sender_new : (P : S → R → Type 0) (m : Met S R) (nodes at : ℕ) → (met : IsMet P m) → IsEven nodes m.before → at + 1 ≡ nodes → slice_get m.after.senders at ≡ Some met.0
  sender_new P m nodes at met even here =
      let long = even.0 in
      ap (λ (l : List S). slice_get l at) met.2 ∙ get_last m.before.senders met.0 at (omega arith)

  receiver_new : (P : S → R → Type 0) (m : Met S R) (nodes at : ℕ) → (met : IsMet P m) → IsEven nodes m.before → at + 1 ≡ nodes → slice_get m.after.receivers at ≡ Some met.1
  receiver_new P m nodes at met even here =
      let long = even.1 in
      ap (λ (l : List R). slice_get l at) met.3 ∙ get_last m.before.receivers met.1 at (omega arith)

  -- ---- one node more

  module _ (P : S → R → Type 0) (mets : List (Met S R)) (all_met : AllByRecursion (IsMet P) mets) (even : AllByRecursion (λ (m : Met S R). IsEven (length mets) m.before) mets) where
    between_old : EachLink P (befores mets) → (from to : ℕ) (m m' : Met S R) (s : S) (r : R) → from ≢ to → slice_get mets from ≡ Some m → slice_get mets to ≡ Some m'
        → slice_get m.after.senders (place_of to from) ≡ Some s → slice_get m'.after.receivers (place_of from to) ≡ Some r → P s r
    between_old old from to m m' s r apart at_from at_to s_at r_at =
        let low = get_below mets from m at_from in let high = get_below mets to m' at_to in
        old from to m.before m'.before s r apart (get_map (λ (x : Met S R). x.before) mets from m at_from) (get_map (λ (x : Met S R). x.before) mets to m' at_to)
        (sender_before P m (length mets) (place_of to from) s (all_at (IsMet P) mets from m all_met at_from)
        (all_at (λ (x : Met S R). IsEven (length mets) x.before) mets from m even at_from) (place_within (length mets) to from high low (λ e. apart (sym e))) s_at)
        (receiver_before P m' (length mets) (place_of from to) r (all_at (IsMet P) mets to m' all_met at_to)
        (all_at (λ (x : Met S R). IsEven (length mets) x.before) mets to m' even at_to) (place_within (length mets) from to low high apart) r_at)

    to_new : (from to : ℕ) (m : Met S R) (s : S) (r : R) → slice_get mets from ≡ Some m → to ≡ length mets
        → slice_get m.after.senders (place_of to from) ≡ Some s → slice_get (map (λ (x : Met S R). x.receiver) mets) (place_of from to) ≡ Some r → P s r
    to_new from to m s r at_from new s_at r_at =
        let below = get_below mets from m at_from in
        let met = all_at (IsMet P) mets from m all_met at_from in
        let last : place_of to from + 1 ≡ length mets = (let e = place_above to from (omega arith) in omega arith) in
        let own : place_of from to ≡ from = place_below from to (omega arith) in
        let is_s : met.0 ≡ s = same_some met.0 s (sym (sender_new P m (length mets) (place_of to from) met (all_at (λ (x : Met S R). IsEven (length mets) x.before) mets from m even at_from) last) ∙ s_at) in
        let is_r : m.receiver ≡ r = same_some m.receiver r (sym (get_map (λ (x : Met S R). x.receiver) mets from m at_from)
        ∙ (ap (λ (i : ℕ). slice_get (map (λ (x : Met S R). x.receiver) mets) i) (sym own) ∙ r_at)) in
        subst (λ (x : S × R). P x.0 x.1) (λ i. (is_s i, is_r i)) met.4

    from_new : (from to : ℕ) (m : Met S R) (s : S) (r : R) → slice_get mets to ≡ Some m → from ≡ length mets
        → slice_get (map (λ (x : Met S R). x.sender) mets) (place_of to from) ≡ Some s → slice_get m.after.receivers (place_of from to) ≡ Some r → P s r
    from_new from to m s r at_to new s_at r_at =
        let below = get_below mets to m at_to in
        let met = all_at (IsMet P) mets to m all_met at_to in
        let last : place_of from to + 1 ≡ length mets = (let e = place_above from to (omega arith) in omega arith) in
        let own : place_of to from ≡ to = place_below to from (omega arith) in
        let is_r : met.1 ≡ r = same_some met.1 r (sym (receiver_new P m (length mets) (place_of from to) met (all_at (λ (x : Met S R). IsEven (length mets) x.before) mets to m even at_to) last) ∙ r_at) in
        let is_s : m.sender ≡ s = same_some m.sender s (sym (get_map (λ (x : Met S R). x.sender) mets to m at_to)
        ∙ (ap (λ (i : ℕ). slice_get (map (λ (x : Met S R). x.sender) mets) i) (sym own) ∙ s_at)) in
        subst (λ (x : S × R). P x.0 x.1) (λ i. (is_s i, is_r i)) met.5

    -- where a node met each of the others, P holds of their links and of its own
    pub each_with : (last : Ends S R) → map (λ (m : Met S R). m.sender) mets ≡ last.senders → map (λ (m : Met S R). m.receiver) mets ≡ last.receivers
        → EachLink P (befores mets) → EachLink P (afters mets ++ last ∷ [])
    each_with last leads takes old from to a b s r apart at_from at_to s_at r_at =
        let count = length_map (λ (m : Met S R). m.after) mets in
        ⊎_elim
        (λ (f : (from < length (afters mets)) × (slice_get (afters mets) from ≡ Some a)).
        let m = from_map (λ (m : Met S R). m.after) mets from a f.1 in
        let s_there : slice_get m.0.after.senders (place_of to from) ≡ Some s = ap (λ (x : Ends S R). slice_get x.senders (place_of to from)) m.2 ∙ s_at in
        ⊎_elim
        (λ (t : (to < length (afters mets)) × (slice_get (afters mets) to ≡ Some b)).
        let m' = from_map (λ (m : Met S R). m.after) mets to b t.1 in
        between_old old from to m.0 m'.0 s r apart m.1 m'.1 s_there (ap (λ (x : Ends S R). slice_get x.receivers (place_of from to)) m'.2 ∙ r_at))
        (λ (t : (to ≡ length (afters mets)) × (last ≡ b)).
        to_new from to m.0 s r m.1 (t.0 ∙ count) s_there
        (ap (λ (l : List R). slice_get l (place_of from to)) takes ∙ (ap (λ (x : Ends S R). slice_get x.receivers (place_of from to)) t.1 ∙ r_at)))
        (get_cases (afters mets) last b to at_to))
        (λ (f : (from ≡ length (afters mets)) × (last ≡ a)).
        ⊎_elim
        (λ (t : (to < length (afters mets)) × (slice_get (afters mets) to ≡ Some b)).
        let m' = from_map (λ (m : Met S R). m.after) mets to b t.1 in
        from_new from to m'.0 s r m'.1 (f.0 ∙ count)
        (ap (λ (l : List S). slice_get l (place_of to from)) leads ∙ (ap (λ (x : Ends S R). slice_get x.senders (place_of to from)) f.1 ∙ s_at))
        (ap (λ (x : Ends S R). slice_get x.receivers (place_of from to)) m'.2 ∙ r_at))
        (λ (t : (to ≡ length (afters mets)) × (last ≡ b)). absurd (apart (f.0 ∙ sym t.0)))
        (get_cases (afters mets) last b to at_to))
        (get_cases (afters mets) last a from at_from)

  -- ---- one node less

  -- whatever holds of a node's links
  abbrev pub Any : S → R → Type 0
  Any s r = Unit {0}

  -- what the nodes before the last one have
  pub part_off : (ys : List (Ends S R)) (ss : List S) (rs : List R) (nodes : ℕ) → length ss ≡ length ys → length rs ≡ length ys
      → ((i : ℕ) (y : Ends S R) → slice_get ys i ≡ Some y → IsEven nodes y) → length ys < nodes → (mets : List (Met S R)) × AreMet Any mets ys ss rs
  part_off [] [] [] nodes l₁ l₂ even many = ([], (refl, refl, refl, tt))
  part_off [] (s ∷ ss) rs nodes l₁ l₂ even many = absurd (omega arith)
  part_off [] [] (r ∷ rs) nodes l₁ l₂ even many = absurd (omega arith)
  part_off (y ∷ ys) [] rs nodes l₁ l₂ even many = absurd (omega arith)
  part_off (y ∷ ys) (s ∷ ss) [] nodes l₁ l₂ even many = absurd (omega arith)
  part_off (y ∷ ys) (s ∷ ss) (r ∷ rs) nodes l₁ l₂ even many =
      let e = even 0 y refl in let e₀ = e.0 in let e₁ = e.1 in
      let out = last_of y.senders (omega arith) in
      let inn = last_of y.receivers (omega arith) in
      let one : Met S R = meeting (record { senders = out.0; receivers = inn.0 }) y s r in
      let rest = part_off ys ss rs nodes (omega arith) (omega arith) (λ i z h. even (suc i) z h) (omega arith) in
      (one ∷ rest.0, ((λ i. y ∷ rest.1.0 i), (λ i. s ∷ rest.1.1 i), (λ i. r ∷ rest.1.2 i), ((out.1, inn.1, out.2, inn.2, tt, tt), rest.1.3)))

  module _ (P : S → R → Type 0) (mets : List (Met S R)) (last : Ends S R) (shapes : AllByRecursion (IsMet Any) mets)
      (leads : map (λ (m : Met S R). m.sender) mets ≡ last.senders) (takes : map (λ (m : Met S R). m.receiver) mets ≡ last.receivers)
      (each : EachLink P (afters mets ++ last ∷ [])) where
    there : (i : ℕ) (m : Met S R) → slice_get mets i ≡ Some m → slice_get (afters mets ++ last ∷ []) i ≡ Some m.after
    there i m at = get_kept (afters mets) (last ∷ []) i m.after (get_map (λ (x : Met S R). x.after) mets i m at)

    -- P holds of the links between the others
    pub each_without : EachLink P (befores mets)
    each_without from to a b s r apart at_from at_to s_at r_at =
        let m = from_map (λ (x : Met S R). x.before) mets from a at_from in
        let m' = from_map (λ (x : Met S R). x.before) mets to b at_to in
        let shape = all_at (IsMet Any) mets from m.0 shapes m.1 in
        let shape' = all_at (IsMet Any) mets to m'.0 shapes m'.1 in
        each from to m.0.after m'.0.after s r apart (there from m.0 m.1) (there to m'.0 m'.1)
        (ap (λ (l : List S). slice_get l (place_of to from)) shape.2
        ∙ get_kept m.0.before.senders (shape.0 ∷ []) (place_of to from) s (ap (λ (x : Ends S R). slice_get x.senders (place_of to from)) m.2 ∙ s_at))
        (ap (λ (l : List R). slice_get l (place_of from to)) shape'.3
        ∙ get_kept m'.0.before.receivers (shape'.1 ∷ []) (place_of from to) r (ap (λ (x : Ends S R). slice_get x.receivers (place_of from to)) m'.2 ∙ r_at))

    -- and of those to and from the last
    pub each_met : AllByRecursion (λ (m : Met S R). IsEven (length mets) m.before) mets → AllByRecursion (IsMet P) mets
    each_met even = all_from (IsMet P) mets (λ i m at.
        let below = get_below mets i m at in
        let count = length_map (λ (x : Met S R). x.after) mets in
        let shape = all_at (IsMet Any) mets i m shapes at in
        let is_even = all_at (λ (x : Met S R). IsEven (length mets) x.before) mets i m even at in
        let k : ℕ = length mets in
        let here = get_last (afters mets) last k (sym count) in
        let own : place_of i k ≡ i = place_below i k below in
        let new : place_of k i + 1 ≡ k = (let e = place_above k i (omega arith) in omega arith) in
        let s_new = sender_new Any m k (place_of k i) shape is_even new in
        let r_new = receiver_new Any m k (place_of k i) shape is_even new in
        let s_own = ap (λ (l : List S). slice_get l (place_of i k)) (sym leads) ∙ (ap (λ (j : ℕ). slice_get (map (λ (x : Met S R). x.sender) mets) j) own ∙ get_map (λ (x : Met S R). x.sender) mets i m at) in
        let r_own = ap (λ (l : List R). slice_get l (place_of i k)) (sym takes) ∙ (ap (λ (j : ℕ). slice_get (map (λ (x : Met S R). x.receiver) mets) j) own ∙ get_map (λ (x : Met S R). x.receiver) mets i m at) in (
          shape.0,
          shape.1,
          shape.2,
          shape.3,
          each i k m.after last shape.0 m.receiver (λ e. absurd (omega arith)) (there i m at) here s_new r_own,
          each k i last m.after m.sender shape.1 (λ e. absurd (omega arith)) here (there i m at) s_own r_new,
        ))
