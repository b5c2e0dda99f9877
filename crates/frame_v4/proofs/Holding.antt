-- What is held of a frame that is not whole.
use Rattle.std.proofs.Common.{◌≡◌, ℕ, ◌+◌, ◌-◌, ◌<◌, ◌≤◌, min, List, [], ◌∷◌, ◌++◌, length, take, drop, Option, Some, None, Result, Ok, Err, refl, sym, ap, subst, ◌∙◌, inl, inr, append_assoc, arith}
use Rattle.std.specs.Prelude.{OnOk, OnErr}
use Rattle.std.specs.List.{flat_map}
use Rattle.std.proofs.lemmas.Bool.{cases_lt}
use Rattle.std.proofs.lemmas.Int.{ints}
use Rattle.std.proofs.lemmas.List.{append-nil, length-append, length-take, length-take-le, take-append-drop, take_all, drop_all, nil_from_length}
use Rattle.frame_v4.specs.declared.error.FrameError.{FrameError}
use Rattle.frame_v4.specs.declared.frame.Frame.{Frame}
use Rattle.frame_v4.specs.declared.header.RequestHeader.{RequestHeader}
use Rattle.frame_v4.specs.declared.held.Held.{Held}
use Rattle.frame_v4.specs.Spelling.{header_bytes, request_bytes}
use Rattle.frame_v4.specs.Stream.{IsFrame, IsPartial, IsFault, at_version, at_header, Reads}
use Rattle.frame_v4.specs.Reading.{header_fields, Passes, frame_of, held_bytes, IsHeld, HoldsSame, CompletesFrame}
use Rattle.frame_v4.proofs.Frames.{body_partial, passing_frame, spelled_frame}
use Rattle.frame_v4.proofs.Uniqueness.{partial_body}

-- bytes put into their places
pub placed : (held : Held) (bytes : List ℕ) → held.header_len ≡ min (length bytes) 9 → held.body.items ≡ drop held.header_len bytes → held_bytes held ≡ bytes → IsPartial bytes → IsHeld held
placed held bytes len body all partial = record {
  within = omega arith;
  in_order = λ less. body ∙ drop_all held.header_len bytes (omega (arith, less));
  partial = subst IsPartial (sym all) partial;
}

-- ---- one piece

pub parts : (k : ℕ) (piece front after : List ℕ) → front ≡ take k piece → after ≡ drop k piece → piece ≡ front ++ after
parts k piece front after p q = sym (take-append-drop k piece) ∙ (λ i. sym p i ++ sym q i)

-- Where the header takes the front of a piece, or all of the header is there, the stream goes on behind the body.
pub joined : (n : ℕ) (head body piece front after : List ℕ) → (n < 9 → body ≡ []) → length front ≤ 9 - n → piece ≡ front ++ after → (head ++ body) ++ piece ≡ (head ++ front) ++ body ++ after
joined n head body piece front after in_order few split =
    elim (cases_lt n 9) [
      | inl less ↦
          let none = in_order less in
          (λ i. (head ++ none i) ++ split i) ∙ ap (λ (x : List ℕ). x ++ (front ++ after)) (append-nil head) ∙ sym (append_assoc head front after)
          ∙ ap (λ (x : List ℕ). x ++ after) (sym (append-nil (head ++ front))) ∙ ap (λ (x : List ℕ). (head ++ front) ++ x ++ after) (sym none)
      | inr all ↦
          let none : front ≡ [] = nil_from_length front (omega arith) in
          (λ i. (head ++ body) ++ (split ∙ ap (λ (x : List ℕ). x ++ after) none) i) ∙ ap (λ (x : List ℕ). x ++ body ++ after) (sym (append-nil head)) ∙ ap (λ (x : List ℕ). (head ++ x) ++ body ++ after) (sym none)
    ]

pub fault_more : (bytes more : List ℕ) (error : FrameError) → IsFault bytes error → IsFault (bytes ++ more) error
fault_more bytes more error (at_version v x other begins named) = at_version v (x ++ more) other (ap (λ (b : List ℕ). b ++ more) begins) named
fault_more bytes more error (at_header h x fits fault begins) = at_header h (x ++ more) fits fault (ap (λ (b : List ℕ). b ++ more) begins ∙ append_assoc (header_bytes 4 h) x more)

-- a fault in the place of the first frame
pub breaks_here : (stream bytes more rest : List ℕ) (frames : List Frame) (error : FrameError) (refusal : Option FrameError) → stream ≡ bytes ++ more → IsFault bytes error → frames ≡ [] → refusal ≡ Some error → Reads stream frames rest refusal
breaks_here stream bytes more rest frames error refusal e fault none is =
    let breaks : Reads stream [] rest (Some error) = record { rest = stream; whole = refl; each = tt; fault = subst (λ (s : List ℕ). IsFault s error) (sym e) (fault_more bytes more error fault) } in
    let P : List Frame × Option FrameError → Type 0 = λ x. Reads stream x.0 rest x.1 in
    subst P (λ i. (sym none i, sym is i)) breaks

-- less than a frame
pub splits_here : (stream rest : List ℕ) (frames : List Frame) (refusal : Option FrameError) → stream ≡ rest → IsPartial rest → frames ≡ [] → refusal ≡ None → Reads stream frames rest refusal
splits_here stream rest frames refusal e partial none is =
    let splits : Reads stream [] rest None = record { whole = e; each = tt; partial = partial } in
    let P : List Frame × Option FrameError → Type 0 = λ x. Reads stream x.0 rest x.1 in
    subst P (λ i. (sym none i, sym is i)) splits

-- one more frame in front
pub reads_behind : (f : Frame) (after : List ℕ) (others : List Frame) (rest : List ℕ) (refusal : Option FrameError) → IsFrame f → Reads after others rest refusal → Reads (request_bytes f ++ after) (f ∷ others) rest refusal
reads_behind f after others rest None is reads = record {
  whole = ap (λ (x : List ℕ). request_bytes f ++ x) reads.whole ∙ sym (append_assoc (request_bytes f) (flat_map request_bytes others) rest);
  each = (is, reads.each);
  partial = reads.partial;
}
reads_behind f after others rest (Some error) is reads = record {
  rest = reads.rest;
  whole = ap (λ (x : List ℕ). request_bytes f ++ x) reads.whole ∙ sym (append_assoc (request_bytes f) (flat_map request_bytes others) reads.rest);
  each = (is, reads.each);
  fault = reads.fault;
}

-- the frame that a piece completes, and those behind it
pub completed : (bytes body piece last after : List ℕ) (h : RequestHeader) (frames : List Frame) (rest : List ℕ) (refusal : Option FrameError)
    → piece ≡ last ++ after → Passes h → bytes ≡ header_bytes 4 (header_fields h) → length (body ++ last) ≡ h.body_len → CompletesFrame (frame_of h (body ++ last)) after frames rest refusal
    → Reads (bytes ++ body ++ piece) frames rest refusal
completed bytes body piece last after h frames rest refusal split passes spelled len done =
    let first : Frame = frame_of h (body ++ last) in
    let whole : bytes ++ body ++ piece ≡ request_bytes first ++ after =
    ap (λ (x : List ℕ). bytes ++ body ++ x) split ∙ sym (append_assoc (bytes ++ body) last after)
    ∙ ap (λ (x : List ℕ). x ++ after) (append_assoc bytes body last) ∙ ap (λ (x : List ℕ). (x ++ (body ++ last)) ++ after) spelled
    ∙ ap (λ (x : List ℕ). x ++ after) (sym (spelled_frame h (body ++ last) len)) in
    let read = reads_behind first after done.others rest refusal (passing_frame h (body ++ last) passes len) done.reads in
    let P : List ℕ × List Frame → Type 0 = λ x. Reads x.0 x.1 rest refusal in
    subst P (λ i. (sym whole i, sym done.is i)) read

-- ---- what stays held

pub same_held : (old new : Held) → HoldsSame old new → IsHeld old → IsHeld new
same_held old new same is =
    let all : held_bytes old ≡ held_bytes new = λ i. take (sym same.header_len i) (sym same.header i) ++ sym same.body i in
    record {
      within = omega (arith, same.header_len, is.within);
      in_order = λ less. same.body ∙ is.in_order (omega (arith, same.header_len, less));
      partial = subst IsPartial all is.partial;
    }

-- a call that either moves on or holds the same
pub held_after : {X E : Type 0} (r : Result X E) (old new : Held) → IsHeld old → OnOk r (IsHeld new) → OnErr r (HoldsSame old new) → IsHeld new
held_after (Ok x) old new is ok err = ok
held_after (Err e) old new is ok err = same_held old new err is

-- the whole header, and some of the body
pub body_on : (held new : Held) (piece : List ℕ) (h : RequestHeader) → Passes h → new.header ≡ header_bytes 4 (header_fields h) → new.header_len ≡ 9
    → new.body.items ≡ held.body.items ++ piece → length held.body.items + length piece < h.body_len → (new.header ++ held.body.items ++ piece ≡ held_bytes new) × IsHeld new
body_on held new piece h passes spelled len body less =
    let all : take new.header_len new.header ≡ new.header = take_all new.header_len new.header (omega (arith, len, ap length spelled)) in
    let whole : new.header ++ held.body.items ++ piece ≡ held_bytes new = append_assoc new.header held.body.items piece ∙ (λ i. sym all i ++ sym body i) in
    let begun : held_bytes new ≡ header_bytes 4 (header_fields h) ++ new.body.items = λ i. (all ∙ spelled) i ++ new.body.items in
    let size : length new.body.items < h.body_len = omega (arith, ap length body, length-append held.body.items piece) in
    (whole, record { within = omega (arith, len); in_order = λ fewer. absurd (omega (arith, fewer, len)); partial = body_partial (held_bytes new) new.body.items h passes begun size })

-- less than a header
pub header_on : (held new : Held) (k : ℕ) (piece front after : List ℕ) → IsHeld held → k ≡ min (length piece) (9 - held.header_len) → front ≡ take k piece → after ≡ drop k piece
    → new.header_len ≡ held.header_len + length front → take new.header_len new.header ≡ take held.header_len held.header ++ front → length new.header ≡ 9
    → new.body.items ≡ held.body.items → IsPartial (take new.header_len new.header) → length (take new.header_len new.header) < 9
    → (held_bytes held ++ piece ≡ held_bytes new) × IsHeld new
header_on held new k piece front after is k-is front-is after-is len put long body partial short =
    let size : length front ≡ k = ap length front-is ∙ length-take-le k piece (omega arith) in
    let fewer : new.header_len < 9 = omega (arith, short, length-take new.header_len new.header, long) in
    let none : held.body.items ≡ [] = is.in_order (omega (arith, len)) in
    let taken : after ≡ [] = after-is ∙ drop_all k piece (omega (arith, len, size, fewer)) in
    let on = joined held.header_len (take held.header_len held.header) held.body.items piece front after is.in_order (omega (arith, size)) (parts k piece front after front-is after-is) in
    let whole : held_bytes held ++ piece ≡ held_bytes new = on ∙ ap (λ (x : List ℕ). (take held.header_len held.header ++ front) ++ held.body.items ++ x) taken
    ∙ append-nil ((take held.header_len held.header ++ front) ++ held.body.items) ∙ (λ i. sym put i ++ sym body i) in
    let only : held_bytes new ≡ take new.header_len new.header = ap (λ (x : List ℕ). take new.header_len new.header ++ x) (body ∙ none) ∙ append-nil (take new.header_len new.header) in
    (whole, record { within = omega (arith, fewer); in_order = λ _. body ∙ none; partial = subst IsPartial (sym only) partial })

-- the whole header, which is all of the nine bytes
pub whole_header : (bytes : List ℕ) (n : ℕ) (h : RequestHeader) → length bytes ≡ 9 → n ≤ 9 → take n bytes ≡ header_bytes 4 (header_fields h) ++ drop 9 (take n bytes) → (n ≡ 9) × (bytes ≡ header_bytes 4 (header_fields h))
whole_header bytes n h long within spelled =
    let all : n ≡ 9 = omega (arith, length-take n bytes, ap length spelled) in
    let bytes-is : take n bytes ≡ bytes = take_all n bytes (omega arith) in
    let nothing_more : drop 9 (take n bytes) ≡ [] = drop_all 9 (take n bytes) (omega (arith, length-take n bytes)) in
    (all, sym bytes-is ∙ spelled ∙ ap (λ (x : List ℕ). header_bytes 4 (header_fields h) ++ x) nothing_more)

-- no more is held of a body than its header says
pub body_fits : (held : Held) (bytes front : List ℕ) (h : RequestHeader) → IsHeld held → take (held.header_len + length front) bytes ≡ take held.header_len held.header ++ front → length front ≤ 9 - held.header_len → held.header_len + length front ≡ 9 → length bytes ≡ 9 → Passes h → bytes ≡ header_bytes 4 (header_fields h)
    → length held.body.items ≤ h.body_len
body_fits held bytes front h is put few all long passes spelled =
    elim (cases_lt held.header_len 9) [
      | inl less ↦ omega (arith, ap length (is.in_order less))
      | inr whole ↦
          let none : front ≡ [] = nil_from_length front (omega arith) in
          let header : take held.header_len held.header ≡ header_bytes 4 (header_fields h) =
          sym (append-nil (take held.header_len held.header)) ∙ ap (λ (x : List ℕ). take held.header_len held.header ++ x) (sym none) ∙ sym put ∙ take_all (held.header_len + length front) bytes (omega arith) ∙ spelled in
          let partial : IsPartial (header_bytes 4 (header_fields h) ++ held.body.items) = subst (λ (x : List ℕ). IsPartial (x ++ held.body.items)) header is.partial in
          let less = partial_body (header_fields h) held.body.items passes.fits partial in
          omega (arith, ints)
    ]
