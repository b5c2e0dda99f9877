-- Each string of bytes is read in some way.
use Rattle.std.proofs.Common.{◌≡◌, ℕ, zero, suc, ◌+◌, ◌<◌, ◌≤◌, true, false, List, [], ◌∷◌, ◌++◌, length, get_or, take, drop, ℤ, pos, negsuc, Option, Some, None, refl, sym, ap, subst, ◌∙◌, inl, inr, append_assoc, arith}
use Rattle.std.specs.Prelude.{All}
use Rattle.std.proofs.lemmas.Bool.{cases_eq, cases_lt, true≢false}
use Rattle.std.proofs.lemmas.List.{take-append-drop, length-take, length-drop, get_or-drop, get_or_past}
use Rattle.frame_v4.specs.declared.error.FrameError.{FrameError}
use Rattle.frame_v4.specs.declared.error.FrameError.TheVariants.{Version, Compressed, NegativeLength, TooLong}
use Rattle.frame_v4.specs.declared.frame.Frame.{Frame}
use Rattle.frame_v4.specs.declared.header.RequestHeader.{RequestHeader}
use Rattle.frame_v4.specs.Spelling.{Header, header_bytes, request_bytes}
use Rattle.frame_v4.specs.Stream.{is_compressed, IsHeader, IsPartial, nothing, in_header, IsFault, at_version, at_header, header_fault, Reads}
use Rattle.frame_v4.specs.Reading.{header_fields, Passes, frame_of}
use Rattle.frame_v4.specs.Laws.{EachIsRead}
use Rattle.frame_v4.proofs.Headers.{IsBytes, spelled, spelled_fits, spelled_bytes}
use Rattle.frame_v4.proofs.Frames.{all_false, body_partial, passing_frame, spelled_frame}
use Rattle.frame_v4.proofs.Holding.{reads_behind}

record IsRead (stream : List ℕ) : Type 0 where
  frames : List Frame
  rest : List ℕ
  refusal : Option FrameError
  reads : Reads stream frames rest refusal

stands : (bytes : List ℕ) → IsPartial bytes → IsRead bytes
stands bytes partial = record { frames = []; rest = bytes; refusal = None; reads = record { whole = refl; each = tt; partial = partial } }

fails : (bytes : List ℕ) (error : FrameError) → IsFault bytes error → IsRead bytes
fails bytes error fault = record { frames = []; rest = []; refusal = Some error; reads = record { rest = bytes; whole = refl; each = tt; fault = fault } }

follows : (bytes after : List ℕ) (h : RequestHeader) (body : List ℕ) → Passes h → length body ≡ h.body_len → bytes ≡ header_bytes 4 (header_fields h) ++ body ++ after → IsRead after → IsRead bytes
follows bytes after h body passes len whole read =
    let f : Frame = frame_of h body in
    let is : request_bytes f ++ after ≡ bytes = ap (λ (x : List ℕ). x ++ after) (spelled_frame h body len) ∙ sym whole in
    record {
      frames = f ∷ read.frames;
      rest = read.rest;
      refusal = read.refusal;
      reads = subst (λ (s : List ℕ). Reads s (f ∷ read.frames) read.rest read.refusal) is (reads_behind f after read.frames read.rest read.refusal (passing_frame h body passes len) read.reads);
    }

-- the length in a header that is no fault
length_of : (flags : ℕ) (stream size : ℤ) (opcode : ℕ) → header_fault (record { flags = flags; stream = stream; opcode = opcode; body_length = size }) ≡ None → (n : ℕ) × (size ≡ pos n)
length_of flags stream (pos n) opcode e = (n, refl)
length_of flags stream (negsuc n) opcode e =
    let tests = all_false (is_compressed flags) true false (Compressed stream) (NegativeLength stream (negsuc n)) (TooLong stream (suc n)) e in
    absurd (true≢false tests.1)

-- what the fields of a header without a fault are as the code has them
passing : (bytes : List ℕ) → IsBytes bytes → get_or bytes 0 0 ≡ 4 → 9 ≤ length bytes → header_fault (spelled bytes) ≡ None → (h : RequestHeader) × Passes h × (bytes ≡ header_bytes 4 (header_fields h) ++ drop 9 bytes)
passing bytes fits version long none =
    let h = spelled bytes in
    let n = length_of h.flags h.stream h.body_length h.opcode none in
    let made : RequestHeader = record { flags = h.flags; stream = h.stream; opcode = h.opcode; body_len = n.0 } in
    let same : h ≡ header_fields made = λ i. record { flags = h.flags; stream = h.stream; opcode = h.opcode; body_length = n.1 i } in
    (made, record { fits = subst IsHeader same (spelled_fits bytes fits); no_fault = ap header_fault (sym same) ∙ none }, spelled_bytes bytes fits version long ∙ ap (λ (k : Header). header_bytes 4 k ++ drop 9 bytes) same)

drop_fits : (n : ℕ) (bytes : List ℕ) → IsBytes bytes → IsBytes (drop n bytes)
drop_fits n bytes fits i = rw get_or-drop (fits (n + i))

first_is : (b : ℕ) (bytes : List ℕ) → get_or (b ∷ bytes) 0 0 ≡ 4 → b ∷ bytes ≡ 4 ∷ bytes
first_is b bytes e = ap (λ x. x ∷ bytes) e

-- a whole header, where shorter bytes are read
behind_header : (n : ℕ) (bytes : List ℕ) → ((fewer : List ℕ) → length fewer ≤ n → IsBytes fewer → IsRead fewer) → length bytes ≤ suc n → IsBytes bytes → get_or bytes 0 0 ≡ 4 → 9 ≤ length bytes
    → (fault : Option FrameError) → header_fault (spelled bytes) ≡ fault → IsRead bytes
behind_header n bytes again few fits version long (Some error) is = fails bytes error (at_header (spelled bytes) (drop 9 bytes) (spelled_fits bytes fits) is (spelled_bytes bytes fits version long))
behind_header n bytes again few fits version long None is =
    let passes = passing bytes fits version long is in
    let h : RequestHeader = passes.0 in
    let after : List ℕ = drop 9 bytes in
    elim (cases_lt (length after) h.body_len) [
      | inl less ↦ stands bytes (body_partial bytes after h passes.1 passes.2 less)
      | inr enough ↦
          let rest : List ℕ = drop h.body_len after in
          let whole : bytes ≡ header_bytes 4 (header_fields h) ++ take h.body_len after ++ rest =
          passes.2 ∙ ap (λ (x : List ℕ). header_bytes 4 (header_fields h) ++ x) (sym (take-append-drop h.body_len after)) ∙ sym (append_assoc (header_bytes 4 (header_fields h)) (take h.body_len after) rest) in
          follows bytes rest h (take h.body_len after) passes.1 (omega (arith, length-take h.body_len after)) whole
          (again rest (omega (arith, length-drop h.body_len after, length-drop 9 bytes)) (drop_fits h.body_len after (drop_fits 9 bytes fits)))
    ]

read_up_to : (n : ℕ) (bytes : List ℕ) → length bytes ≤ n → IsBytes bytes → IsRead bytes
read_up_to n [] few fits = stands [] (nothing refl)
read_up_to zero (b ∷ rest) few fits = absurd (omega arith)
read_up_to (suc n) (b ∷ rest) few fits =
    let bytes : List ℕ = b ∷ rest in
    elim (cases_eq b 4) [
      | inr other ↦ fails bytes (Version b) (at_version b rest other refl refl)
      | inl version ↦ elim (cases_lt (length bytes) 9) [
        | inl short ↦ stands bytes (in_header rest (first_is b rest version) short)
        | inr long ↦ behind_header n bytes (read_up_to n) few fits version long (header_fault (spelled bytes)) refl
      ]
    ]

bytes_fit : (bytes : List ℕ) → All (λ byte. byte < 256) bytes → IsBytes bytes
bytes_fit bytes all i = elim (cases_lt i (length bytes)) [ inl within ↦ all i 0 within | inr past ↦ rw (get_or_past bytes i 0 past) (omega arith) ]

pub each_is_read : EachIsRead
each_is_read stream all = let read = read_up_to (length stream) stream (omega arith) (bytes_fit stream all) in (read.frames, read.rest, read.refusal, read.reads)
