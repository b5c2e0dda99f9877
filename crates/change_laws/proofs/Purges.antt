-- A content that stands for a set, but for changes that are gone.
use Rattle.std.proofs.Common.{inl, inr, Contains, sym, subst, arith, refl}
use Rattle.std.proofs.lemmas.Cmp.{tied_itself}
use Rattle.std.proofs.lemmas.Int.{ints}
use Rattle.changes.specs.declared.Held.{Held}
use Rattle.changes.specs.Order.{IsDeletion, Covers, Outranks}
use Rattle.changes.specs.Contents.{Either, IsContent}
use Rattle.change_laws.specs.Kept.{ContentStands, StandsForSame, StandsForOnto, StandsForMerge, StandsForSlice, StandsForPurged}
use Rattle.changes.proofs.Orderings.{greater_back}
use Rattle.changes.proofs.Ranks.{rank_total, beats_late}
use Rattle.change_laws.proofs.Contents.{reached_on, Either_swap, IsContent-same}
use Rattle.change_laws.proofs.Slices.{meets_above}

pub content_stands : (S : Held → Type 0) → ContentStands S
content_stands S kept = (
  λ h. record { within = h.within; reached = λ x s. inl (h.reached x s); apart = h.apart },
  λ h. record { within = h.within; reached = λ x s. elim (h.reached x s) [ inl r ↦ r | inr g ↦ absurd g ]; apart = h.apart },
)

pub stands_for_same : (S T gone more : Held → Type 0) → StandsForSame S T gone more
stands_for_same S T gone more kept same grows h =
    record {
      within = λ x k. (same x).0 (h.within x k);
      reached = λ x t. elim (h.reached x ((same x).1 t)) [ inl r ↦ inl r | inr g ↦ inr (grows x g) ];
      apart = h.apart;
    }

pub stands_for_onto : (S T gone : Held → Type 0) → StandsForOnto S T gone
stands_for_onto S T gone a kept f h =
    record {
      within = λ x k. elim (h.within x k) [ inl old ↦ inl (f.within x old) | inr new ↦ inr new ];
      reached = λ x u. elim u [
        | inl s ↦ elim (f.reached x s) [ inl r ↦ inl (reached_on a kept T h x r) | inr g ↦ inr g ]
        | inr t ↦ inl (h.reached x (inr t))
      ];
      apart = h.apart;
    }

pub stands_for_merge : (S T gone : Held → Type 0) → StandsForMerge S T gone
stands_for_merge S T gone a b kept f s h =
    let turned : IsContent kept (Either (Contains b) (Contains a)) = IsContent-same kept _ _ (Either_swap (Contains a) (Contains b)) (Either_swap (Contains b) (Contains a)) h in
    record {
      within = λ x k. elim (h.within x k) [ inl old ↦ inl (f.within x old) | inr new ↦ inr (s.within x new) ];
      reached = λ x u. elim u [
        | inl p ↦ elim (f.reached x p) [ inl r ↦ inl (reached_on a kept (Contains b) h x r) | inr g ↦ inr g ]
        | inr q ↦ elim (s.reached x q) [ inl r ↦ inl (reached_on b kept (Contains a) turned x r) | inr g ↦ inr g ]
      ];
      apart = h.apart;
    }

pub stands_for_slice : (S gone : Held → Type 0) → StandsForSlice S gone
stands_for_slice S gone from upto kept part h slice =
    record {
      within = λ x k. let parts = (slice x).0 k in (h.within x parts.0, parts.1);
      reached = λ x s. elim (h.reached x s.0) [
        | inl r ↦ inl (elim r [
          | inl here ↦ inl ((slice x).1 (here, s.1))
          | inr (y, here, over) ↦ inr (y, (slice y).1 (here, meets_above from upto y x over s.1), over)
        ])
        | inr g ↦ inr g
      ];
      apart = λ x y kx ky. h.apart x y ((slice x).0 kx).0 ((slice y).0 ky).0;
    }

-- a deletion covers what it outranks, and itself
deletion_covers : (x y : Held) → IsDeletion x → Outranks x y → Covers x y
deletion_covers x y d (inl (same, greater)) = (d, inl same, beats_late x y greater, λ b. let back = greater_back rank_total y x b.1 in cc)
deletion_covers x y d (inr (c, other)) = c

covers_itself : (x : Held) → IsDeletion x → Covers x x
covers_itself x d = (d, inl refl, omega (arith, ints), λ b. let e = tied_itself rank_total x in let g = b.1 in cc)

pub stands_for_purged : (S gone more : Held → Type 0) → StandsForPurged S gone more
stands_for_purged S gone more kept left x d leaves grows covered h =
    record {
      within = λ y k. h.within y (leaves.0 y k);
      reached = λ y s. elim (h.reached y s) [
        | inl r ↦ elim r [
          | inl here ↦ elim (leaves.1 y here) [ inl still ↦ inl (inl still) | inr e ↦ inr (covered y (subst (Covers x) (sym e) (covers_itself x d))) ]
          | inr (z, here, over) ↦ elim (leaves.1 z here) [
            | inl still ↦ inl (inr (z, still, over))
            | inr e ↦ inr (covered y (deletion_covers x y d (subst (λ (v : Held). Outranks v y) e over)))
          ]
        ]
        | inr g ↦ inr (grows y g)
      ];
      apart = λ y z ky kz. h.apart y z (leaves.0 y ky) (leaves.0 z kz);
    }
