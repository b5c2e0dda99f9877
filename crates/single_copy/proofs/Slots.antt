-- Which places act on a slot, and whether a draft of an update does: both can be told.
use Rattle.std.proofs.Common.{◌≡◌, ◌≢◌, ◌⊎◌, ℕ, inl, inr, List, [], ◌∷◌, refl, sym, ap, subst, ◌∙◌, Contains}
use Rattle.std.specs.Ordering.{nat_cmp}
use Rattle.std.specs.Cmp.Lexicographic.{slice_cmp}
use Rattle.std.specs.declared.cmp.Ordering.{Ordering}
use Rattle.std.specs.declared.cmp.Ordering.TheVariants.{Less, Equal, Greater}
use Rattle.std.proofs.lemmas.Cmp.{nat_list_cmp_total, tied_itself}
use Rattle.cs_base.proofs.Members.{contains_nil, contains_here, contains_there, contains_cases}
use Rattle.changes.specs.declared.Bound.{Bound}
use Rattle.changes.specs.declared.Place.{Place}
use Rattle.changes.specs.declared.Place.TheVariants.{Cell, Marker, RowGone, RangeGone, PartGone}
use Rattle.changes.specs.declared.Draft.{Draft}
use Rattle.changes.specs.Order.{Encloses, IsBetween, bound_signs, row_signs, signs_cmp}
use Rattle.changes.proofs.Orderings.{bytes_exact}
use Rattle.changes.proofs.Places.{same_place_or_not}
use Rattle.single_copy.specs.Maps.{Slot, InCell, AtMarker, place_of, ActsOn}

less_or_not : (o : Ordering) → (o ≡ Less) ⊎ (o ≢ Less)
less_or_not Less = inl refl
less_or_not Equal = inr (λ e. cc)
less_or_not Greater = inr (λ e. cc)

same_bytes : (a b : List ℕ) → (a ≡ b) ⊎ (a ≢ b)
same_bytes a b = go (slice_cmp nat_cmp a b) refl
  where
    other : (o : Ordering) → slice_cmp nat_cmp a b ≡ o → o ≢ Equal → a ≢ b
    other o e ne s = ne (sym e ∙ sym (ap (λ z. slice_cmp nat_cmp a z) s) ∙ tied_itself nat_list_cmp_total a)

    go : (o : Ordering) → slice_cmp nat_cmp a b ≡ o → (a ≡ b) ⊎ (a ≢ b)
    go Equal e = inl (bytes_exact a b e)
    go Less e = inr (other Less e (λ s. cc))
    go Greater e = inr (other Greater e (λ s. cc))

between_or_not : (from upto : Bound) (row : List ℕ) → IsBetween from upto row ⊎ (IsBetween from upto row → ⊥)
between_or_not from upto row = elim (less_or_not (signs_cmp (bound_signs from) (row_signs row))) [
  | inl a ↦ elim (less_or_not (signs_cmp (row_signs row) (bound_signs upto))) [ inl b ↦ inl (a, b) | inr b ↦ inr (λ x. b x.1) ]
  | inr a ↦ inr (λ x. a x.0)
]

encloses_or_not : (p : Place) (k : Slot) → Encloses p (place_of k) ⊎ (Encloses p (place_of k) → ⊥)
encloses_or_not (Cell r c) k = inr (λ x. x)
encloses_or_not (Marker r) k = inr (λ x. x)
encloses_or_not (RowGone r) (InCell row column) = same_bytes r row
encloses_or_not (RowGone r) (AtMarker row) = same_bytes r row
encloses_or_not (RangeGone a b) (InCell row column) = between_or_not a b row
encloses_or_not (RangeGone a b) (AtMarker row) = between_or_not a b row
encloses_or_not PartGone (InCell row column) = inl tt
encloses_or_not PartGone (AtMarker row) = inl tt

pub acts_or_not : (p : Place) (k : Slot) → ActsOn p k ⊎ (ActsOn p k → ⊥)
acts_or_not p k = elim (same_place_or_not p (place_of k)) [
  | inl a ↦ inl (inl a)
  | inr a ↦ elim (encloses_or_not p k) [ inl b ↦ inl (inr b) | inr b ↦ inr (λ x. elim x [ inl e ↦ a e | inr f ↦ b f ]) ]
]

-- some draft acts on the slot, or none does
pub drafts_act : (ds : List Draft) (k : Slot) → ((d : Draft) × Contains ds d × ActsOn d.place k) ⊎ ((d : Draft) → Contains ds d → ActsOn d.place k → ⊥)
drafts_act [] k = inr (λ d h a. contains_nil d h)
drafts_act (d ∷ ds) k = elim (acts_or_not d.place k) [
  | inl a ↦ inl (d, contains_here d ds, a)
  | inr not' ↦ elim (drafts_act ds k) [
    | inl r ↦ inl (r.0, contains_there d ds r.0 r.1, r.2)
    | inr none ↦ inr (λ e h a. elim (contains_cases d ds e h) [ inl same ↦ not' (subst (λ (z : Draft). ActsOn z.place k) (sym same) a) | inr rest ↦ none e rest a ])
  ]
]
