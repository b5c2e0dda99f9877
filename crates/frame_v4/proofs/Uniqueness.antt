-- A stream is read in one way.
use Rattle.std.proofs.Common.{◌≡◌, ℕ, ◌<◌, ◌^◌, Bool, false, cond, ltb, List, [], ◌∷◌, ◌++◌, length, take, drop, to_z, of_z, ℤ, pos, ◌<ℤ◌, Some, None, FitsSigned, refl, sym, ap, subst, ◌∙◌, append_assoc, arith}
use Rattle.std.specs.Int.{w16, w32, to_be_bytes, from_be_bytes}
use Rattle.std.specs.List.{flat_map, AllByRecursion}
use Rattle.std.proofs.Math.Facts.{Fits-of_z}
use Rattle.std.proofs.lemmas.Int.{to_z-of_z, ints}
use Rattle.std.proofs.lemmas.Bool.{le-ltb}
use Rattle.std.proofs.lemmas.List.{length-append, take_at, drop_at}
use Rattle.std.proofs.lemmas.Nat.{from_be_bytes-to_be_bytes_2, from_be_bytes-to_be_bytes_4}
use Rattle.frame_v4.specs.declared.error.FrameError.{FrameError}
use Rattle.frame_v4.specs.declared.error.FrameError.TheVariants.{Version}
use Rattle.frame_v4.specs.declared.frame.Frame.{Frame}
use Rattle.frame_v4.specs.Spelling.{Header, header_bytes, header_of, request_bytes}
use Rattle.frame_v4.specs.Stream.{longest_body, IsFrame, IsHeader, header_fault, IsPartial, nothing, in_header, in_body, IsFault, at_version, at_header}

-- ---- headers

same_header_fields : (h k : Header) → h.flags ≡ k.flags → h.stream ≡ k.stream → h.opcode ≡ k.opcode → h.body_length ≡ k.body_length → h ≡ k
same_header_fields h k p q r s = λ i. record { flags = p i; stream = q i; opcode = r i; body_length = s i }

same_short : (a b : ℤ) → FitsSigned w16 a → FitsSigned w16 b → to_be_bytes w16 (of_z w16 a) ≡ to_be_bytes w16 (of_z w16 b) → a ≡ b
same_short a b f g e =
    let bits : of_z w16 a ≡ of_z w16 b = sym (from_be_bytes-to_be_bytes_2 (of_z w16 a) (Fits-of_z f).fits) ∙ ap (from_be_bytes w16) e ∙ from_be_bytes-to_be_bytes_2 (of_z w16 b) (Fits-of_z g).fits in
    sym (to_z-of_z w16 a f) ∙ ap (to_z w16) bits ∙ to_z-of_z w16 b g

same_int : (a b : ℤ) → FitsSigned w32 a → FitsSigned w32 b → to_be_bytes w32 (of_z w32 a) ≡ to_be_bytes w32 (of_z w32 b) → a ≡ b
same_int a b f g e =
    let bits : of_z w32 a ≡ of_z w32 b = sym (from_be_bytes-to_be_bytes_4 (of_z w32 a) (Fits-of_z f).fits) ∙ ap (from_be_bytes w32) e ∙ from_be_bytes-to_be_bytes_4 (of_z w32 b) (Fits-of_z g).fits in
    sym (to_z-of_z w32 a f) ∙ ap (to_z w32) bits ∙ to_z-of_z w32 b g

pub same_header : (h k : Header) (x y : List ℕ) → IsHeader h → IsHeader k → header_bytes 4 h ++ x ≡ header_bytes 4 k ++ y → (h ≡ k) × (x ≡ y)
same_header h k x y f g e =
    let flags : h.flags ≡ k.flags = cc in
    let opcode : h.opcode ≡ k.opcode = cc in
    let stream : to_be_bytes w16 (of_z w16 h.stream) ≡ to_be_bytes w16 (of_z w16 k.stream) = cc in
    let size : to_be_bytes w32 (of_z w32 h.body_length) ≡ to_be_bytes w32 (of_z w32 k.body_length) = cc in
    let after : x ≡ y = cc in
    (same_header_fields h k flags (same_short _ _ f.stream g.stream stream) opcode (same_int _ _ f.body_length g.body_length size), after)

-- ---- what may stand in the place of a frame

frame_header : (f : Frame) → IsFrame f → IsHeader (header_of f)
frame_header f is = let size : length f.body < 2 ^ 31 = omega (arith, is.within) in record { stream = is.stream; body_length = record { sfits = size } }

all_none : (a b c : Bool) (x y z : FrameError) → a ≡ false → b ≡ false → c ≡ false → cond a (Some x) (cond b (Some y) (cond c (Some z) None)) ≡ None
all_none a b c x y z p q r = rw (p, q, r) refl

pub frame_fault : (f : Frame) → IsFrame f → header_fault (header_of f) ≡ None
frame_fault f is = all_none _ (ltb (length f.body) 0) (ltb longest_body (length f.body)) _ _ _ is.uncompressed (le-ltb (length f.body) 0 (omega arith)) (le-ltb longest_body (length f.body) is.within)

same_frame_fields : (f g : Frame) → f.flags ≡ g.flags → f.stream ≡ g.stream → f.opcode ≡ g.opcode → f.body ≡ g.body → f ≡ g
same_frame_fields f g p q r s = λ i. record { flags = p i; stream = q i; opcode = r i; body = s i }

-- two parts of one list, of which the first are equally long
same_parts : (a b x y : List ℕ) → length a ≡ length b → a ++ x ≡ b ++ y → (a ≡ b) × (x ≡ y)
same_parts a b x y len e =
    let front : a ≡ b = sym (take_at a x (length a) refl) ∙ ap (take (length a)) e ∙ take_at b y (length a) (sym len) in
    let back : x ≡ y = sym (drop_at a x (length a) refl) ∙ ap (drop (length a)) e ∙ drop_at b y (length a) (sym len) in
    (front, back)

pos_is : (m n : ℕ) → pos m ≡ pos n → m ≡ n
pos_is m n e = cc

pub same_frame : (f g : Frame) (x y : List ℕ) → IsFrame f → IsFrame g → request_bytes f ++ x ≡ request_bytes g ++ y → (f ≡ g) × (x ≡ y)
same_frame f g x y p q e =
    let headers = same_header (header_of f) (header_of g) (f.body ++ x) (g.body ++ y) (frame_header f p) (frame_header g q) e in
    let size : length f.body ≡ length g.body = pos_is _ _ (ap (λ (h : Header). h.body_length) headers.0) in
    let bodies = same_parts f.body g.body x y size headers.1 in
    (same_frame_fields f g (ap (λ (h : Header). h.flags) headers.0) (ap (λ (h : Header). h.stream) headers.0) (ap (λ (h : Header). h.opcode) headers.0) bodies.0, bodies.1)

-- no frame begins the bytes
abbrev pub HasNoFrame : List ℕ → Type 0
HasNoFrame bytes = (f : Frame) (more : List ℕ) → IsFrame f → bytes ≡ request_bytes f ++ more → ⊥

-- what comes behind a header that may be this one is what it says
pub partial_body : (h : Header) (body : List ℕ) → IsHeader h → IsPartial (header_bytes 4 h ++ body) → pos (length body) <ℤ h.body_length
partial_body h body fits (nothing e) = absurd cc
partial_body h body fits (in_header rest e short) = absurd (omega (arith, short))
partial_body h body fits (in_body k begun other none e less) =
    let same = same_header h k body begun fits other e in
    let P : Header × List ℕ → Type 0 = λ p. pos (length p.1) <ℤ p.0.body_length in
    subst P (λ i. (sym same.0 i, sym same.1 i)) less

pub partial_has_none : (bytes : List ℕ) → IsPartial bytes → HasNoFrame bytes
partial_has_none bytes partial f more is e =
    let less = partial_body (header_of f) (f.body ++ more) (frame_header f is) (subst IsPartial e partial) in
    omega (arith, ints, length-append f.body more)

pub fault_has_none : (bytes : List ℕ) (error : FrameError) → IsFault bytes error → HasNoFrame bytes
fault_has_none bytes error (at_version version more other begins named) f x is e = other cc
fault_has_none bytes error (at_header h more fits fault begins) f x is e =
    let same = same_header h (header_of f) more (f.body ++ x) fits (frame_header f is) (sym begins ∙ e) in
    let none : header_fault h ≡ None = ap header_fault same.0 ∙ frame_fault f is in
    absurd cc

head_is : (a b : ℕ) (x y : List ℕ) → a ∷ x ≡ b ∷ y → a ≡ b
head_is a b x y e = cc

some_is : (a b : FrameError) → Some a ≡ Some b → a ≡ b
some_is a b e = cc

pub same_fault : (bytes : List ℕ) (a b : FrameError) → IsFault bytes a → IsFault bytes b → a ≡ b
same_fault bytes a b (at_version v x ne p named) (at_version w y ne' q named') = named ∙ ap Version (head_is v w x y (sym p ∙ q)) ∙ sym named'
same_fault bytes a b (at_version v x ne p named) (at_header k y fits fault q) = absurd (ne (head_is v 4 x _ (sym p ∙ q)))
same_fault bytes a b (at_header h x fits fault p) (at_version w y ne q named) = absurd (ne (head_is w 4 y _ (sym q ∙ p)))
same_fault bytes a b (at_header h x fits fault p) (at_header k y fits' fault' q) =
    let same = same_header h k x y fits fits' (sym p ∙ q) in
    some_is a b (sym fault ∙ ap header_fault same.0 ∙ fault')

pub partial_no_fault : (bytes : List ℕ) (error : FrameError) → IsPartial bytes → IsFault bytes error → ⊥
partial_no_fault bytes error (nothing e) (at_version v x ne p named) = absurd cc
partial_no_fault bytes error (nothing e) (at_header k y fits fault q) = absurd cc
partial_no_fault bytes error (in_header rest e short) (at_version v x ne p named) = ne (head_is v 4 x rest (sym p ∙ e))
partial_no_fault bytes error (in_header rest e short) (at_header k y fits fault q) = absurd (omega (arith, ap length q))
partial_no_fault bytes error (in_body h body fits none e less) (at_version v x ne p named) = ne (head_is v 4 x _ (sym p ∙ e))
partial_no_fault bytes error (in_body h body fits none e less) (at_header k y fits' fault q) =
    let same = same_header h k body y fits fits' (sym e ∙ q) in
    let both : header_fault k ≡ None = ap header_fault (sym same.0) ∙ none in
    absurd cc

-- ---- streams

pub same_frames : (f g : List Frame) (x y : List ℕ) → AllByRecursion IsFrame f → AllByRecursion IsFrame g → HasNoFrame x → HasNoFrame y
    → flat_map request_bytes f ++ x ≡ flat_map request_bytes g ++ y → (f ≡ g) × (x ≡ y)
same_frames [] [] x y p q none none' e = (refl, e)
same_frames [] (g ∷ gs) x y p q none none' e = absurd (none g (flat_map request_bytes gs ++ y) q.0 (e ∙ append_assoc (request_bytes g) (flat_map request_bytes gs) y))
same_frames (f ∷ fs) [] x y p q none none' e = absurd (none' f (flat_map request_bytes fs ++ x) p.0 (sym e ∙ append_assoc (request_bytes f) (flat_map request_bytes fs) x))
same_frames (f ∷ fs) (g ∷ gs) x y p q none none' e =
    let first = same_frame f g (flat_map request_bytes fs ++ x) (flat_map request_bytes gs ++ y) p.0 q.0
    (sym (append_assoc (request_bytes f) (flat_map request_bytes fs) x) ∙ e ∙ append_assoc (request_bytes g) (flat_map request_bytes gs) y) in
    let others = same_frames fs gs x y p.1 q.1 none none' first.1 in
    (λ i. first.0 i ∷ others.0 i, others.1)
