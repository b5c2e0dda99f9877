-- The laws of a stored value, from what its notation's sides are.
use Rattle.std.proofs.Common.{◌≡◌, ℕ, suc, ◌-◌, Bool, true, false, eqb, List, [], ◌∷◌, ◌++◌, length, Result, Ok, Err, refl, sym, ap, subst, ◌∙◌, arith}
use Rattle.std.specs.Prelude.{IfOk}
use Rattle.std.proofs.lemmas.Bool.{eqb-true}
use Rattle.std.proofs.lemmas.List.{append-nil, length-append}
use Rattle.stored_fields.specs.declared.fault.CodecError.{CodecError}
use Rattle.stored_fields.specs.declared.fault.CodecError.TheVariants as errors
use Rattle.stored_fields.specs.Fields.{AreBytes}
use Rattle.stored_fields.specs.Reading.{Read, ended, whole, Answers}
use Rattle.stored_fields.specs.Laws.{HasOneReading, ReadsItsWords, DecodingUndoesEncoding, EncodingUndoesDecoding}
use Rattle.stored_fields.proofs.Words.{Agrees, ok_is}
use Rattle.stored_fields.proofs.Spelled.{Spells}

not_none : (n : ℕ) → eqb (suc n) 0 ≡ false
not_none n = go (eqb (suc n) 0) refl
  where
    go : (b : Bool) → eqb (suc n) 0 ≡ b → b ≡ false
    go true e = let none : suc n ≡ 0 = eqb-true (suc n) 0 e in absurd (omega arith)
    go false e = refl

ended_more : {A : Type 0} (total : ℕ) (x : A) (b : ℕ) (rest : List ℕ) → ended total x (b ∷ rest) ≡ Err (errors.Trailing (total - length (b ∷ rest)))
ended_more total x b rest = rw (not_none (length rest)) refl

ended_ok : {A : Type 0} (total : ℕ) (x y : A) (rest : List ℕ) → ended total x rest ≡ Ok y → (x ≡ y) × (rest ≡ [])
ended_ok total x y [] e = (cc, refl)
ended_ok total x y (b ∷ rest) e = absurd (cc (ended_more total x b rest, e))

abbrev pair : {A : Type 0} → A → List ℕ → Read A
pair x rest = Ok (x, rest)

whole_ok : {A : Type 0} (total : ℕ) (read : Read A) (y : A) → whole total read ≡ Ok y → read ≡ Ok (y, [])
whole_ok {A} total (Ok x) y e =
    let p = ended_ok total x.0 y x.1 e in
    ap (λ (v : A). pair v x.1) p.0 ∙ ap (pair y) p.1
whole_ok total (Err f) y e = absurd cc

pub reads_words : {A : Type 0} (read : List ℕ → Read A) (N : List ℕ → A → List ℕ → Type 0) → Agrees read N → ReadsItsWords (λ bytes. whole (length bytes) (read bytes)) N
reads_words {A} read N agrees = λ bytes x. (
  (λ e. agrees.is_word bytes (x, []) (whole_ok (length bytes) (read bytes) x e)),
  (λ word. ap (whole (length bytes)) (agrees.is_read bytes x [] word)),
)

pub one_reading : {A : Type 0} (read : List ℕ → Read A) (N : List ℕ → A → List ℕ → Type 0) → Agrees read N → HasOneReading N
one_reading {A} read N agrees = λ bytes x y a b.
    ap (λ (q : A × List ℕ). q.0) (ok_is (x, []) (y, []) (sym (agrees.is_read bytes x [] a) ∙ agrees.is_read bytes y [] b))

pub decoding_undoes_encoding : {A : Type 0} (read : List ℕ → Read A) (N : List ℕ → A → List ℕ → Type 0) (spelling : A → List ℕ) (Fits : A → Type 0)
    → Agrees read N → Spells N spelling Fits → DecodingUndoesEncoding (λ bytes. whole (length bytes) (read bytes)) spelling Fits
decoding_undoes_encoding {A} read N spelling Fits agrees spells = λ x fits.
    let word : N (spelling x) x [] = subst (λ (b : List ℕ). N b x []) (append-nil (spelling x)) (spells.is_word x [] fits) in (
      ap (whole (length (spelling x))) (agrees.is_read (spelling x) x [] word),
      (λ b more.
          let k : length (spelling x ++ b ∷ more) - length (b ∷ more) ≡ length (spelling x) = omega (arith, length-append (spelling x) (b ∷ more)) in
          ap (whole (length (spelling x ++ b ∷ more))) (agrees.is_read (spelling x ++ b ∷ more) x (b ∷ more) (spells.is_word x (b ∷ more) fits))
          ∙ ended_more (length (spelling x ++ b ∷ more)) x b more
          ∙ ap (λ (n : ℕ). Err (errors.Trailing n)) k),
    )

pub encoding_undoes_decoding : {A : Type 0} (read : List ℕ → Read A) (N : List ℕ → A → List ℕ → Type 0) (spelling : A → List ℕ) (Fits : A → Type 0)
    → Agrees read N → Spells N spelling Fits → EncodingUndoesDecoding (λ bytes. whole (length bytes) (read bytes)) spelling Fits
encoding_undoes_decoding {A} read N spelling Fits agrees spells = λ bytes x are e.
    let p = spells.is_spelled bytes x [] are (agrees.is_word bytes (x, []) (whole_ok (length bytes) (read bytes) x e)) in
    (p.fits, sym (p.parts ∙ append-nil (spelling x)))

-- ---- what an answer says

pub found : {A : Type 0} (read : List ℕ → Read A) (N : List ℕ → A → List ℕ → Type 0) → Agrees read N
    → (bytes : List ℕ) (result : Result A CodecError) → Answers result (whole (length bytes) (read bytes)) → IfOk result (λ x. N bytes x [])
found read N agrees bytes (Ok x) answer = agrees.is_word bytes (x, []) (whole_ok (length bytes) (read bytes) x answer)
found read N agrees bytes (Err e) answer = tt

pub only : {A : Type 0} (read : List ℕ → Read A) (N : List ℕ → A → List ℕ → Type 0) → Agrees read N
    → (bytes : List ℕ) (result : Result A CodecError) → Answers result (whole (length bytes) (read bytes)) → (x : A) → N bytes x [] → Answers result (Ok x)
only {A} read N agrees bytes result answer x word =
    let e : whole (length bytes) (read bytes) ≡ Ok x = ap (whole (length bytes)) (agrees.is_read bytes x [] word) in
    subst (λ (r : Result A CodecError). Answers result r) e answer

-- the spelling alone is a word
pub is_whole_word : {A : Type 0} (N : List ℕ → A → List ℕ → Type 0) (spelling : A → List ℕ) (Fits : A → Type 0) → Spells N spelling Fits
    → (bytes : List ℕ) (x : A) → bytes ≡ spelling x → Fits x → N bytes x []
is_whole_word N spelling Fits spells bytes x e fits =
    subst (λ (b : List ℕ). N b x []) (append-nil (spelling x) ∙ sym e) (spells.is_word x [] fits)

-- what was found has a word
pub found_fits : {A : Type 0} (read : List ℕ → Read A) (N : List ℕ → A → List ℕ → Type 0) (spelling : A → List ℕ) (Fits P : A → Type 0) → Agrees read N → Spells N spelling Fits → ((x : A) → Fits x → P x)
    → (bytes : List ℕ) (result : Result A CodecError) → AreBytes bytes → Answers result (whole (length bytes) (read bytes)) → IfOk result P
found_fits read N spelling Fits P agrees spells f bytes (Ok x) are answer =
    f x (spells.is_spelled bytes x [] are (agrees.is_word bytes (x, []) (whole_ok (length bytes) (read bytes) x answer))).fits
found_fits read N spelling Fits P agrees spells f bytes (Err e) are answer = tt
