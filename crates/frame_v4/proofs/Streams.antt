-- The laws of streams.
use Rattle.std.proofs.Common.{◌≡◌, ℕ, zero, suc, ◌+◌, ◌<◌, List, [], ◌∷◌, ◌++◌, length, get_or, take, drop, Option, Some, None, refl, sym, ap, subst, ◌∙◌, append_assoc, arith}
use Rattle.std.specs.List.{flat_map, concat}
use Rattle.std.proofs.lemmas.List.{append-nil, length-take, take_more, take-append-drop}
use Rattle.std.proofs.lemmas.List.Concat.{flat_map-append}
use Rattle.frame_v4.specs.declared.error.FrameError.{FrameError}
use Rattle.frame_v4.specs.declared.frame.Frame.{Frame}
use Rattle.frame_v4.specs.Spelling.{header_bytes, request_bytes}
use Rattle.frame_v4.specs.Stream.{IsPartial, nothing, in_header, IsFault, at_version, at_header, Splits, Breaks, Reads}
use Rattle.frame_v4.specs.Laws.{OneReading, GoesOn, RefusalStands, RefusalComes, FirstFrame}
use Rattle.frame_v4.proofs.Frames.{each_append}
use Rattle.frame_v4.proofs.Holding.{fault_more}
use Rattle.frame_v4.proofs.Uniqueness.{partial_has_none, fault_has_none, partial_no_fault, same_fault, same_frame, same_frames}

pub one_reading : OneReading
one_reading stream frames others rest more None None p q =
    let same = same_frames frames others rest more p.each q.each (partial_has_none rest p.partial) (partial_has_none more q.partial) (sym p.whole ∙ q.whole) in
    (same.0, refl, λ _. same.1)
one_reading stream frames others rest more None (Some error) p q =
    let same = same_frames frames others rest q.rest p.each q.each (partial_has_none rest p.partial) (fault_has_none q.rest error q.fault) (sym p.whole ∙ q.whole) in
    absurd (partial_no_fault q.rest error (subst IsPartial same.1 p.partial) q.fault)
one_reading stream frames others rest more (Some error) None p q =
    let same = same_frames frames others p.rest more p.each q.each (fault_has_none p.rest error p.fault) (partial_has_none more q.partial) (sym p.whole ∙ q.whole) in
    absurd (partial_no_fault p.rest error (subst IsPartial (sym same.1) q.partial) p.fault)
one_reading stream frames others rest more (Some a) (Some b) p q =
    let same = same_frames frames others p.rest q.rest p.each q.each (fault_has_none p.rest a p.fault) (fault_has_none q.rest b q.fault) (sym p.whole ∙ q.whole) in
    let error : a ≡ b = same_fault q.rest a b (subst (λ (x : List ℕ). IsFault x a) same.1 p.fault) q.fault in
    (same.0, ap Some error, λ e. absurd cc)

-- bytes of a stream behind frames of it
behind : (stream piece held rest : List ℕ) (before frames : List Frame) → stream ≡ flat_map request_bytes before ++ held → held ++ piece ≡ flat_map request_bytes frames ++ rest
    → stream ++ piece ≡ flat_map request_bytes (before ++ frames) ++ rest
behind stream piece held rest before frames p q =
    ap (λ (x : List ℕ). x ++ piece) p ∙ append_assoc (flat_map request_bytes before) held piece ∙ ap (λ (x : List ℕ). flat_map request_bytes before ++ x) q
    ∙ sym (append_assoc (flat_map request_bytes before) (flat_map request_bytes frames) rest) ∙ ap (λ (x : List ℕ). x ++ rest) (sym (flat_map-append request_bytes before frames))

pub goes_on : GoesOn
goes_on stream piece held rest before frames None p q = record {
  whole = behind stream piece held rest before frames p.whole q.whole;
  each = each_append before frames p.each q.each;
  partial = q.partial;
}
goes_on stream piece held rest before frames (Some error) p q = record {
  rest = q.rest;
  whole = behind stream piece held q.rest before frames p.whole q.whole;
  each = each_append before frames p.each q.each;
  fault = q.fault;
}

pub refusal_stands : RefusalStands
refusal_stands stream more frames error p = record {
  rest = p.rest ++ more;
  whole = ap (λ (x : List ℕ). x ++ more) p.whole ∙ append_assoc (flat_map request_bytes frames) p.rest more;
  each = p.each;
  fault = fault_more p.rest more error p.fault;
}

-- the beginning of a header
begun : (bytes rest : List ℕ) (count : ℕ) → bytes ≡ 4 ∷ rest → count < 9 → IsPartial (take count bytes)
begun bytes rest zero e few = nothing refl
begun bytes rest (suc count) e few = in_header (take count rest) (ap (take (suc count)) e) (omega (arith, length-take (suc count) bytes))

pub refusal_comes : RefusalComes
refusal_comes frames each = (
  λ version other. (
    record { whole = sym (append-nil (flat_map request_bytes frames)); each = each; partial = nothing refl },
    record { rest = version ∷ []; whole = refl; each = each; fault = at_version version [] other refl refl },
  ),
  λ h error fits fault. (
    λ count few. record { whole = refl; each = each; partial = begun (header_bytes 4 h) (drop 1 (header_bytes 4 h)) count refl few },
    record { rest = header_bytes 4 h; whole = refl; each = each; fault = at_header h [] fits fault (sym (append-nil (header_bytes 4 h))) },
  ),
)

-- what follows the first frame of a stream
pub first_frame : FirstFrame
first_frame f after rest [] None is p = absurd (partial_has_none rest p.partial f after is (sym p.whole))
first_frame f after rest [] (Some error) is p = absurd (fault_has_none p.rest error p.fault f after is (sym p.whole))
first_frame f after rest (g ∷ gs) None is p =
    let same = same_frame f g after (flat_map request_bytes gs ++ rest) is p.each.0 (p.whole ∙ append_assoc (request_bytes g) (flat_map request_bytes gs) rest) in
    (gs, (λ i. sym same.0 i ∷ gs), record { whole = same.1; each = p.each.1; partial = p.partial })
first_frame f after rest (g ∷ gs) (Some error) is p =
    let same = same_frame f g after (flat_map request_bytes gs ++ p.rest) is p.each.0 (p.whole ∙ append_assoc (request_bytes g) (flat_map request_bytes gs) p.rest) in
    (gs, (λ i. sym same.0 i ∷ gs), record { rest = p.rest; whole = same.1; each = p.each.1; fault = p.fault })

-- ---- what `feed` answers

pub not_refused : (stream rest : List ℕ) (frames others : List Frame) (error : FrameError) → Splits stream frames rest → Breaks stream others error → ⊥
not_refused stream rest frames others error p q = let same = one_reading stream frames others rest [] None (Some error) p q in absurd cc

pub same_refusal : (stream : List ℕ) (frames others : List Frame) (a b : FrameError) → Breaks stream frames a → Breaks stream others b → a ≡ b
same_refusal stream frames others a b p q = let same = one_reading stream frames others [] [] (Some a) (Some b) p q in some_is a b same.1
  where
    some_is : (a b : FrameError) → Some a ≡ Some b → a ≡ b
    some_is a b e = cc

pub at_none : (stream same rest : List ℕ) (frames : List Frame) (refusal : Option FrameError) → stream ≡ same → refusal ≡ None → Reads stream frames rest refusal → Splits same frames rest
at_none stream same rest frames refusal e is reads = let P : List ℕ × Option FrameError → Type 0 = λ x. Reads x.0 frames rest x.1 in subst P (λ i. (e i, is i)) reads

pub at_some : (stream same rest : List ℕ) (frames : List Frame) (refusal : Option FrameError) (error : FrameError) → stream ≡ same → refusal ≡ Some error → Reads stream frames rest refusal → Breaks same frames error
at_some stream same rest frames refusal error e is reads = let P : List ℕ × Option FrameError → Type 0 = λ x. Reads x.0 frames rest x.1 in subst P (λ i. (e i, is i)) reads

-- ---- pieces

concat-append : (xs ys : List (List ℕ)) → concat (xs ++ ys) ≡ concat xs ++ concat ys
concat-append [] ys = refl
concat-append (x ∷ xs) ys = ap (λ (r : List ℕ). x ++ r) (concat-append xs ys) ∙ sym (append_assoc x (concat xs) (concat ys))

-- the stream with one piece more
pub one_more : (pieces : List (List ℕ)) (i : ℕ) (piece bytes : List ℕ) → i < length pieces → piece ≡ get_or pieces i piece → bytes ≡ piece → concat (take i pieces) ++ bytes ≡ concat (take (i + 1) pieces)
one_more pieces i piece bytes within is same =
    ap (λ (x : List ℕ). concat (take i pieces) ++ x) (same ∙ sym (append-nil piece)) ∙ sym (concat-append (take i pieces) (piece ∷ []))
    ∙ ap (λ (x : List ℕ). concat (take i pieces ++ x ∷ [])) is ∙ ap concat (sym (take_more pieces i piece within))

-- all pieces are those that came and the others
pub all_pieces : (pieces : List (List ℕ)) (i : ℕ) → concat pieces ≡ concat (take i pieces) ++ concat (drop i pieces)
all_pieces pieces i = ap concat (sym (take-append-drop i pieces)) ∙ concat-append (take i pieces) (drop i pieces)

pub carried : (stream same rest : List ℕ) (frames others : List Frame) → stream ≡ same → others ≡ frames → Splits stream frames rest → Splits same others rest
carried stream same rest frames others e is splits = let P : List ℕ × List Frame → Type 0 = λ x. Splits x.0 x.1 rest in subst P (λ i. (e i, sym is i)) splits

-- a refusal stands where more pieces come
pub refused_by : (stream more same : List ℕ) (frames others : List Frame) (error : FrameError) → same ≡ stream ++ more → others ≡ frames → Breaks stream frames error → Breaks same others error
refused_by stream more same frames others error e is breaks =
    let P : List ℕ × List Frame → Type 0 = λ x. Breaks x.0 x.1 error in subst P (λ i. (sym e i, sym is i)) (refusal_stands stream more frames error breaks)

pub only_reading : (stream rest : List ℕ) (frames : List Frame) (refusal : Option FrameError) → Reads stream frames rest refusal → (others : List Frame) (more : List ℕ) (other : Option FrameError) → Reads stream others more other → (frames ≡ others) × (refusal ≡ other)
only_reading stream rest frames refusal p others more other q = let same = one_reading stream frames others rest more refusal other p q in (same.0, same.1)
