-- Frames read from the front of a stream.
use Rattle.std.proofs.Common.{◌≡◌, ℕ, ◌<◌, Bool, true, false, cond, List, [], ◌∷◌, ◌++◌, length, drop, pos, Option, Some, None, Ok, refl, sym, ap, subst, ◌∙◌, append_assoc, arith}
use Rattle.std.specs.List.{flat_map, AllByRecursion}
use Rattle.std.proofs.lemmas.Bool.{ltb-false}
use Rattle.std.proofs.lemmas.Int.{ints}
use Rattle.std.proofs.lemmas.List.{append-nil, length-append}
use Rattle.std.proofs.lemmas.List.Concat.{flat_map-append}
use Rattle.frame_v4.specs.declared.error.FrameError.{FrameError}
use Rattle.frame_v4.specs.declared.frame.Frame.{Frame}
use Rattle.frame_v4.specs.declared.header.RequestHeader.{RequestHeader}
use Rattle.frame_v4.specs.Spelling.{header_bytes, request_bytes}
use Rattle.frame_v4.specs.Stream.{is_compressed, longest_body, IsFrame, IsPartial, in_body, IsFault}
use Rattle.frame_v4.specs.Reading.{header_fields, Passes, ReadsHeader, frame_of, IsFrameAndRest, AddsFrames}

-- where the header has not come whole
pub none_whole : (bytes : List ℕ) (o : Option RequestHeader) → o ≡ None → ReadsHeader bytes (Ok o) → IsPartial bytes
none_whole bytes None is reads = reads.0
none_whole bytes (Some h) is reads = absurd cc

pub header_read : (bytes : List ℕ) (o : Option RequestHeader) (h : RequestHeader) → o ≡ Some h → ReadsHeader bytes (Ok o) → Passes h × (bytes ≡ header_bytes 4 (header_fields h) ++ drop 9 bytes)
header_read bytes o h is reads = let P : Option RequestHeader → Type 0 = λ x. ReadsHeader bytes (Ok x) in subst P is reads

-- where less of the body has come
pub body_partial : (bytes body : List ℕ) (h : RequestHeader) → Passes h → bytes ≡ header_bytes 4 (header_fields h) ++ body → length body < h.body_len → IsPartial bytes
body_partial bytes body h passes whole less = in_body (header_fields h) body passes.fits passes.no_fault whole (omega (arith, ints))

pub all_false : (a b c : Bool) (x y z : FrameError) → cond a (Some x) (cond b (Some y) (cond c (Some z) None)) ≡ None → (a ≡ false) × (b ≡ false) × (c ≡ false)
all_false true b c x y z e = absurd cc
all_false false true c x y z e = absurd cc
all_false false false true x y z e = absurd cc
all_false false false false x y z e = (refl, refl, refl)

-- a header in which no fault is, with as many bytes as it says
pub passing_frame : (h : RequestHeader) (body : List ℕ) → Passes h → length body ≡ h.body_len → IsFrame (frame_of h body)
passing_frame h body passes len =
    let tests = all_false (is_compressed h.flags) _ _ _ _ _ passes.no_fault in
    record { stream = passes.fits.stream; uncompressed = tests.0; within = omega (arith, ltb-false longest_body h.body_len tests.2) }

pub spelled_frame : (h : RequestHeader) (body : List ℕ) → length body ≡ h.body_len → request_bytes (frame_of h body) ≡ header_bytes 4 (header_fields h) ++ body
spelled_frame h body len = ap (λ n. header_bytes 4 (record { flags = h.flags; stream = h.stream; opcode = h.opcode; body_length = pos n }) ++ body) len

pub each_append : (xs ys : List Frame) → AllByRecursion IsFrame xs → AllByRecursion IsFrame ys → AllByRecursion IsFrame (xs ++ ys)
each_append [] ys p q = q
each_append (x ∷ xs) ys p q = (p.0, each_append xs ys p.1 q)

-- the loop has read these frames of the bytes, and the rest is left
pub record IsRead (before now : List Frame) (bytes rest : List ℕ) : Type 0 where
  pub more : List Frame
  pub added : now ≡ before ++ more
  pub whole : bytes ≡ flat_map request_bytes more ++ rest
  pub each : AllByRecursion IsFrame more

pub read_none : (before : List Frame) (bytes : List ℕ) → IsRead before before bytes bytes
read_none before bytes = record { more = []; added = sym (append-nil before); whole = refl; each = tt }

pub read_more : (before now new : List Frame) (bytes rest body after : List ℕ) (h : RequestHeader) → IsRead before now bytes rest → IsFrameAndRest rest h body after → new ≡ now ++ frame_of h body ∷ [] → IsRead before new bytes after
read_more before now new bytes rest body after h read found push =
    let f : Frame = frame_of h body in
    let one : rest ≡ request_bytes f ++ after = found.whole ∙ ap (λ (x : List ℕ). x ++ after) (sym (spelled_frame h body found.body_length)) in
    record {
      more = read.more ++ f ∷ [];
      added = push ∙ ap (λ (x : List Frame). x ++ f ∷ []) read.added ∙ append_assoc before read.more (f ∷ []);
      whole = read.whole ∙ ap (λ (x : List ℕ). flat_map request_bytes read.more ++ x) one ∙ sym (append_assoc (flat_map request_bytes read.more) (request_bytes f) after)
          ∙ ap (λ (x : List ℕ). (flat_map request_bytes read.more ++ x) ++ after) (sym (append-nil (request_bytes f)))
          ∙ ap (λ (x : List ℕ). x ++ after) (sym (flat_map-append request_bytes read.more (f ∷ [])));
      each = each_append read.more (f ∷ []) read.each (passing_frame h body found.passes found.body_length, tt);
    }

pub read_to_partial : (before now : List Frame) (bytes rest : List ℕ) → IsRead before now bytes rest → IsPartial rest → AddsFrames before now bytes rest None
read_to_partial before now bytes rest read partial = record { more = read.more; added = read.added; reads = record { whole = read.whole; each = read.each; partial = partial } }

pub read_to_fault : (before now : List Frame) (bytes rest : List ℕ) (error : FrameError) → IsRead before now bytes rest → IsFault rest error → AddsFrames before now bytes rest (Some error)
read_to_fault before now bytes rest error read fault = record { more = read.more; added = read.added; reads = record { rest = rest; whole = read.whole; each = read.each; fault = fault } }

pub shorter : (rest body after : List ℕ) (h : RequestHeader) → IsFrameAndRest rest h body after → length after < length rest
shorter rest body after h found = omega (arith, ap length found.whole, length-append body after)
