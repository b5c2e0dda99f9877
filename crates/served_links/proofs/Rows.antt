-- Which nodes a node's links lead to, and what stays of its ends.
use Rattle.std.proofs.Common.{◌≡◌, ℕ, zero, suc, ◌<◌, List, [], ◌∷◌, ◌++◌, length, map, Some, slice_get, refl, ap, sym, subst, ◌∙◌, ⊎_elim, arith}
use Rattle.std.specs.List.{AllByRecursion, AllZip}
use Rattle.std.proofs.lemmas.List.{length-append}
use Rattle.node_links.specs.Pairs.{below, others_of}
use Rattle.served_links.specs.Ends.{Ends, EachLink, IsEven, AreEven, LeadsToOthers, LeadToOthers, HasSameEnds, place_of}
use Rattle.served_links.specs.Meetings.{Met, IsMet}
use Rattle.served_links.proofs.Growing.{befores, afters}
use Rattle.served_links.proofs.Numbers.{others_more, others_last, length_others}
use Rattle.served_links.proofs.Places.{length_map, get_below, get_cases, all_at, all_from, get_map, from_map, same_some}

module _ {S R : Type 0} (upto_of : S → ℕ) where
  pub even_one : (nodes me : ℕ) (a : Ends S R) → me < nodes → LeadsToOthers upto_of nodes me a → IsEven nodes a
  even_one nodes me a below leads =
      let long : length a.senders ≡ length (others_of me nodes) = sym (length_map upto_of a.senders) ∙ ap (λ (l : List ℕ). length l) leads.0 in
      let others = length_others me nodes below in
      (omega arith, leads.1)

  pub are_even : (nodes : ℕ) (all : List (Ends S R)) → LeadToOthers upto_of nodes all → AreEven nodes all
  are_even nodes all lead = (lead.0, λ me a at. let below = get_below all me a at in let count = lead.0 in even_one nodes me a (omega arith) (lead.1 me a at))

  -- one link more leads from the node, to the node of this number
  abbrev pub LeadsOn : ℕ → Met S R → Type 0
  LeadsOn new m = map upto_of m.after.senders ≡ map upto_of m.before.senders ++ new ∷ []

  pub met_even : (mets : List (Met S R)) → LeadToOthers upto_of (length mets) (befores mets) → AllByRecursion (λ (m : Met S R). IsEven (length mets) m.before) mets
  met_even mets lead = all_from (λ (m : Met S R). IsEven (length mets) m.before) mets
      (λ i m at. even_one (length mets) i m.before (get_below mets i m at) (lead.1 i m.before (get_map (λ (x : Met S R). x.before) mets i m at)))

  -- where a node met the others, all lead to the others
  pub lead_more : (P : S → R → Type 0) (mets : List (Met S R)) (last : Ends S R) → AllByRecursion (IsMet P) mets → AllByRecursion (LeadsOn (length mets)) mets
      → LeadToOthers upto_of (length mets) (befores mets) → map upto_of last.senders ≡ below (length mets) → map (λ (m : Met S R). m.receiver) mets ≡ last.receivers
      → LeadToOthers upto_of (suc (length mets)) (afters mets ++ last ∷ [])
  lead_more P mets last met on lead own takes =
      let k : ℕ = length mets in
      let count = length_map (λ (m : Met S R). m.after) mets in (
        omega (arith, length-append (afters mets) (last ∷ [])),
        λ me a at. ⊎_elim
            (λ (t : (me < length (afters mets)) × (slice_get (afters mets) me ≡ Some a)).
            let m = from_map (λ (x : Met S R). x.after) mets me a t.1 in
            let below_k = get_below mets me m.0 m.1 in
            let was = lead.1 me m.0.before (get_map (λ (x : Met S R). x.before) mets me m.0 m.1) in
            let one = all_at (IsMet P) mets me m.0 met m.1 in
            let long : length m.0.after.receivers ≡ length (m.0.before.receivers ++ one.1 ∷ []) = ap (λ (l : List R). length l) one.3 in
            let before = was.1 in
            subst (LeadsToOthers upto_of (suc k) me) m.2 (
              all_at (LeadsOn k) mets me m.0 on m.1 ∙ (ap (λ (l : List ℕ). l ++ k ∷ []) was.0 ∙ sym (others_more me k (λ e. absurd (omega arith)))),
              omega (arith, length-append m.0.before.receivers (one.1 ∷ [])),
            ))
            (λ (t : (me ≡ length (afters mets)) × (last ≡ a)).
            let here : me ≡ k = t.0 ∙ count in
            let long : length last.receivers ≡ k = ap (λ (l : List R). length l) (sym takes) ∙ length_map (λ (m : Met S R). m.receiver) mets in
            subst (LeadsToOthers upto_of (suc k) me) t.1 (own ∙ (sym (others_last k) ∙ ap (λ (n : ℕ). others_of n (suc k)) (sym here)), omega arith))
            (get_cases (afters mets) last a me at),
      )

-- ---- at two moments

module _ {A : Type 0} (Same : A → A → Type 0) where
  pub zip_at : (xs ys : List A) (i : ℕ) (y : A) → AllZip Same xs ys → slice_get ys i ≡ Some y → (x : A) × (slice_get xs i ≡ Some x) × Same x y
  zip_at [] [] i y same at = absurd (omega (arith, get_below [] i y at))
  zip_at [] (z ∷ ys) i y same at = absurd same
  zip_at (x ∷ xs) [] i y same at = absurd same
  zip_at (x ∷ xs) (z ∷ ys) zero y same at = (x, refl, subst (λ (w : A). Same x w) (same_some z y at) same.0)
  zip_at (x ∷ xs) (z ∷ ys) (suc i) y same at = zip_at xs ys i y same.1 at

  pub zip_length : (xs ys : List A) → AllZip Same xs ys → length ys ≡ length xs
  zip_length [] [] same = refl
  zip_length [] (y ∷ ys) same = absurd same
  zip_length (x ∷ xs) [] same = absurd same
  zip_length (x ∷ xs) (y ∷ ys) same = omega (arith, zip_length xs ys same.1)

module _ {S R : Type 0} (SameS : S → S → Type 0) (SameR : R → R → Type 0) where
  -- what same ends keep of links that are
  pub same_each : (P Q : S → R → Type 0) → ((s s' : S) (r r' : R) → SameS s s' → SameR r r' → P s r → Q s' r') → (all all' : List (Ends S R))
      → EachLink P all → AllZip (HasSameEnds SameS SameR) all all' → EachLink Q all'
  same_each P Q keeps all all' each same from to a b s r apart at_from at_to s_at r_at =
      let a₀ = zip_at (HasSameEnds SameS SameR) all all' from a same at_from in
      let b₀ = zip_at (HasSameEnds SameS SameR) all all' to b same at_to in
      let s₀ = zip_at SameS a₀.0.senders a.senders (place_of to from) s a₀.2.0 s_at in
      let r₀ = zip_at SameR b₀.0.receivers b.receivers (place_of from to) r b₀.2.1 r_at in
      keeps s₀.0 s r₀.0 r s₀.2 r₀.2 (each from to a₀.0 b₀.0 s₀.0 r₀.0 apart a₀.1 b₀.1 s₀.1 r₀.1)

  pub same_even : (nodes : ℕ) (all all' : List (Ends S R)) → AreEven nodes all → AllZip (HasSameEnds SameS SameR) all all' → AreEven nodes all'
  same_even nodes all all' even same =
      let count = even.0 in (
        omega (arith, zip_length (HasSameEnds SameS SameR) all all' same),
        λ me a at.
            let a₀ = zip_at (HasSameEnds SameS SameR) all all' me a same at in
            let e = even.1 me a₀.0 a₀.1 in let e₀ = e.0 in let e₁ = e.1 in
            (omega (arith, zip_length SameS a₀.0.senders a.senders a₀.2.0), omega (arith, zip_length SameR a₀.0.receivers a.receivers a₀.2.1)),
      )
