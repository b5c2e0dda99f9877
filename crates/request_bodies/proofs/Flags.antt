-- The flags of query parameters: each is set exactly where its part is, and they are no other number.
use Rattle.std.proofs.Common.{◌≡◌, ℕ, zero, suc, ◌+◌, ◌<◌, Bool, true, false, cond, not, eqb, ◌&&◌, ◌||◌, refl, sym, subst, ◌∙◌, arith, inl, inr}
use Rattle.std.specs.Prelude.{is_some}
use Rattle.std.proofs.lemmas.Bool.{eqb-true, cases_lt}
use Rattle.body_notations.specs.Reading.{is_set}
use Rattle.request_bodies.specs.Requests.{AreKnown}
use Rattle.request_bodies.specs.Spelling.{flags_of, values_flags}
use Rattle.request_bodies.specs.declared.parameters.Values.{Values}
use Rattle.request_bodies.specs.declared.parameters.Values.TheVariants as given
use Rattle.request_bodies.specs.declared.parameters.QueryParameters.{QueryParameters}

-- ---- tests that are computed

abbrev same : Bool → Bool → Bool
same true b = b
same false b = not b

same_is : (a b : Bool) → same a b ≡ true → a ≡ b
same_is true true e = refl
same_is true false e = absurd (cc (e))
same_is false true e = absurd (cc (e))
same_is false false e = refl

both : (a b : Bool) → (a && b) ≡ true → (a ≡ true) × (b ≡ true)
both true b e = (refl, e)
both false b e = absurd (cc (e))

abbrev either : (Bool → Bool) → Bool
either p = p true && p false

either_is : (p : Bool → Bool) → either p ≡ true → (b : Bool) → p b ≡ true
either_is p e true = (both (p true) (p false) e).0
either_is p e false = (both (p true) (p false) e).1

-- ---- each flag is set where its part is

abbrev sum : ℕ → Bool → Bool → Bool → Bool → Bool → ℕ
sum v s n g c t = v + cond s 2 0 + cond n 4 0 + cond g 8 0 + cond c 16 0 + cond t 32 0

-- the flags tell each of these
abbrev tells : ℕ → Bool → Bool → Bool → Bool → Bool → Bool → Bool → Bool
tells flags present named s n g c t =
    same (is_set flags 1) present && (same (is_set flags 64) named && (same (is_set flags 2) s && (same (is_set flags 4) n
    && (same (is_set flags 8) g && (same (is_set flags 16) c && (same (is_set flags 32) t && same (is_set flags 128) false))))))

abbrev all_tell : ℕ → Bool → Bool → Bool
all_tell v present named = either (λ s. either (λ n. either (λ g. either (λ c. either (λ t. tells (sum v s n g c t) present named s n g c t)))))

all_tell_is : (v : ℕ) (present named : Bool) → all_tell v present named ≡ true → (s n g c t : Bool) → tells (sum v s n g c t) present named s n g c t ≡ true
all_tell_is v present named e s n g c t =
    either_is (λ t. tells (sum v s n g c t) present named s n g c t)
    (either_is (λ c. either (λ t. tells (sum v s n g c t) present named s n g c t))
    (either_is (λ g. either (λ c. either (λ t. tells (sum v s n g c t) present named s n g c t)))
    (either_is (λ n. either (λ g. either (λ c. either (λ t. tells (sum v s n g c t) present named s n g c t))))
    (either_is (λ s. either (λ n. either (λ g. either (λ c. either (λ t. tells (sum v s n g c t) present named s n g c t))))) e s) n) g) c) t

abbrev pub is_present : Values → Bool
is_present given.Absent = false
is_present (given.ByPlace vs) = true
is_present (given.ByName vs) = true

abbrev pub is_named : Values → Bool
is_named given.Absent = false
is_named (given.ByPlace vs) = false
is_named (given.ByName vs) = true

-- what the flags of parameters tell
pub record FlagsTell (flags : ℕ) (p : QueryParameters) : Type 0 where
  pub present : is_set flags 1 ≡ is_present p.values
  pub named : is_set flags 64 ≡ is_named p.values
  pub skip_metadata : is_set flags 2 ≡ p.skip_metadata
  pub page_size : is_set flags 4 ≡ is_some p.page_size
  pub paging_state : is_set flags 8 ≡ is_some p.paging_state
  pub serial : is_set flags 16 ≡ is_some p.serial_consistency
  pub timestamp : is_set flags 32 ≡ is_some p.timestamp
  pub no_other : is_set flags 128 ≡ false

told : (flags : ℕ) (p : QueryParameters)
    → tells flags (is_present p.values) (is_named p.values) p.skip_metadata (is_some p.page_size) (is_some p.paging_state) (is_some p.serial_consistency) (is_some p.timestamp) ≡ true → FlagsTell flags p
told flags p e =
    let a = both _ _ e in let b = both _ _ a.1 in let c = both _ _ b.1 in let d = both _ _ c.1 in
    let f = both _ _ d.1 in let g = both _ _ f.1 in let h = both _ _ g.1 in
    record {
      present = same_is _ _ a.0;
      named = same_is _ _ b.0;
      skip_metadata = same_is _ _ c.0;
      page_size = same_is _ _ d.0;
      paging_state = same_is _ _ f.0;
      serial = same_is _ _ g.0;
      timestamp = same_is _ _ h.0;
      no_other = same_is _ _ h.1;
    }

values_told : (vs : Values) (s n g c t : Bool) → tells (sum (values_flags vs) s n g c t) (is_present vs) (is_named vs) s n g c t ≡ true
values_told given.Absent s n g c t = all_tell_is 0 false false refl s n g c t
values_told (given.ByPlace vs) s n g c t = all_tell_is 1 true false refl s n g c t
values_told (given.ByName vs) s n g c t = all_tell_is 65 true true refl s n g c t

pub flags_tell : (p : QueryParameters) → FlagsTell (flags_of p) p
flags_tell p = told (flags_of p) p (values_told p.values p.skip_metadata (is_some p.page_size) (is_some p.paging_state) (is_some p.serial_consistency) (is_some p.timestamp))

named_are_present : (vs : Values) → is_named vs ≡ true → is_present vs ≡ true
named_are_present given.Absent e = absurd (cc (e))
named_are_present (given.ByPlace vs) e = refl
named_are_present (given.ByName vs) e = refl

pub flags_known : (p : QueryParameters) → AreKnown (flags_of p)
flags_known p =
    let told = flags_tell p in
    record { no_other = told.no_other; names_of_values = λ h. told.present ∙ named_are_present p.values (sym told.named ∙ h) }

-- ---- flags that tell the same are the same

abbrev all_below : ℕ → (ℕ → Bool) → Bool
all_below zero p = true
all_below (suc n) p = p n && all_below n p

all_below_is : (n : ℕ) (p : ℕ → Bool) → all_below n p ≡ true → (k : ℕ) → k < n → p k ≡ true
all_below_is zero p e k lt = absurd (omega arith)
all_below_is (suc n) p e k lt =
    let parts = both (p n) (all_below n p) e in
    elim (cases_lt k n) [
      | inl low ↦ all_below_is n p parts.1 k low
      | inr high ↦ let is : k ≡ n = omega arith in subst (λ (m : ℕ). p m ≡ true) (sym is) parts.0
    ]

abbrev values_sum : ℕ → ℕ
values_sum flags = cond (is_set flags 64) 65 (cond (is_set flags 1) 1 0)

abbrev flags_sum : ℕ → ℕ
flags_sum flags = sum (values_sum flags) (is_set flags 2) (is_set flags 4) (is_set flags 8) (is_set flags 16) (is_set flags 32)

-- they are their sum, or are not known
abbrev add_up : ℕ → Bool
add_up flags = eqb flags (flags_sum flags) || (is_set flags 128 || (is_set flags 64 && not (is_set flags 1)))

all_add_up : all_below 256 add_up ≡ true
all_add_up = refl

sum_is : (flags : ℕ) (a b c d : Bool) → eqb flags (flags_sum flags) ≡ a → b ≡ false → (c ≡ true → d ≡ true) → (a || (b || (c && not d))) ≡ true → flags ≡ flags_sum flags
sum_is flags true b c d e unused names h = eqb-true _ _ e
sum_is flags false true c d e unused names h = absurd (cc (unused))
sum_is flags false false true true e unused names h = absurd (cc (h))
sum_is flags false false true false e unused names h = absurd (cc (names refl))
sum_is flags false false false d e unused names h = absurd (cc (h))

values_sum_is : (flags : ℕ) (vs : Values) → is_set flags 1 ≡ is_present vs → is_set flags 64 ≡ is_named vs → values_sum flags ≡ values_flags vs
values_sum_is flags given.Absent present named = rw (named, present) refl
values_sum_is flags (given.ByPlace vs) present named = rw (named, present) refl
values_sum_is flags (given.ByName vs) present named = rw named refl

pub flags_same : (flags : ℕ) (p : QueryParameters) → flags < 256 → AreKnown flags → FlagsTell flags p → flags ≡ flags_of p
flags_same flags p small known told =
    let adds = all_below_is 256 add_up all_add_up flags small in
    let whole = sum_is flags _ _ _ _ refl known.no_other known.names_of_values adds in
    whole ∙ rw (values_sum_is flags p.values told.present told.named, told.skip_metadata, told.page_size, told.paging_state, told.serial, told.timestamp) refl
