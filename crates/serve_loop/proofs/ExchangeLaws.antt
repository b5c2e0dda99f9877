-- Frames that are answered, one after another.
use Rattle.std.proofs.Common.{◌≡◌, ◌+◌, ◌<◌, ◌≤◌, ◌⊎◌, ℕ, ℤ, inl, inr, Bool, true, false, IsTrue, List, [], ◌∷◌, ◌++◌, length, get_or, take, drop, Option, Some, None, Ok, Err, refl, sym, ◌∙◌, ap, subst, append_assoc}
use Rattle.std.specs.Bool.{then_some}
use Rattle.std.specs.declared.alloc.AllocError.{AllocError}
use Rattle.std.proofs.lemmas.List.{append-nil, drop_more, take_all, take_more, take-append-drop}
use Rattle.client_desk.specs.Asks.{Asked}
use Rattle.frame_v4.specs.declared.error.FrameError.{FrameError}
use Rattle.frame_v4.specs.declared.frame.Frame.{Frame}
use Rattle.response_bodies.specs.declared.response.Response.{Response}
use Rattle.session_v4.specs.Sessions.{State}
use Rattle.serve_loop.specs.Exchanges.{AreBytesOf, IsExchange, Exchanges, IsCut, untaken, untold, unwritten}
use Rattle.serve_loop.specs.Steps.{SendsAll, SendsFront, DueAtOnce, DueByDesk, Finds, IsUntold, at_frame, at_answer, SendsFound, Steps, EndsAt, EndsAmong, EndsIn, ServesFrame, ServesFrames, ServesRead, ServesInput, TellsFault}
use Rattle.serve_loop.specs.declared.hearing.Input.{Input}
use Rattle.serve_loop.specs.declared.hearing.Input.TheVariants as inputs
use Rattle.serve_loop.specs.declared.served.Served.{Served}
use Rattle.serve_loop.specs.declared.served.Served.TheVariants as served
use Rattle.serve_loop.proofs.WriteLaws.{writes_none, writes_more, writes_still}

-- ---- one frame

pub exchange_of : (s : State) (f : Frame) (r : Response) (asked : List Asked) (bytes : List ℕ) (s' : State) → DueAtOnce s f r asked s' ⊎ DueByDesk s f r asked s' → AreBytesOf f.stream r bytes → IsExchange s f asked bytes s'
exchange_of s f r asked bytes s' (inl d) are = inl (record { response = r; due = d.due; unasked = d.unasked; are_bytes = are })
exchange_of s f r asked bytes s' (inr d) are =
    inr (record { waiting = d.waiting; ask = d.ask; answer = d.answer; response = r; due = d.due; is_asked = d.is_asked; answered = d.answered; runs = d.runs; told = d.told; are_bytes = are })

unsent : (s : State) (f : Frame) (r : Response) (asked : List Asked) (s' : State) → DueAtOnce s f r asked s' ⊎ DueByDesk s f r asked s' → IsCut s f asked []
unsent s f r asked s' (inl d) = untaken d.unasked refl
unsent s f r asked s' (inr d) = untold d.waiting d.ask d.due d.is_asked refl

unfound : (s : State) (f : Frame) (asked : List Asked) → IsUntold s f asked → IsCut s f asked []
unfound s f asked (at_frame e) = untaken e refl
unfound s f asked (at_answer waiting ask due e) = untold waiting ask due e refl

answered : (s s' : State) (f : Frame) (raised : Bool) (r : Response) (asks asks' : List Asked) (wrote wrote' : Option (List ℕ)) → Finds asks asks' s f raised (Ok (Some r)) s'
    → SendsAll wrote wrote' f.stream r → Steps (λ asked bytes. IsExchange s f asked bytes s') asks asks' wrote wrote'
answered s s' f raised r asks asks' wrote wrote' found sent = record {
  asked = found.asked;
  bytes = sent.bytes;
  is_asked = found.is_after;
  writes = sent.writes;
  comes_to = exchange_of s f r found.asked sent.bytes s' found.is_found sent.are_bytes;
}

cut_in_writing : (s s' : State) (f : Frame) (raised : Bool) (r : Response) (asks asks' : List Asked) (wrote wrote' : Option (List ℕ)) → Finds asks asks' s f raised (Ok (Some r)) s'
    → SendsFront wrote wrote' f.stream r → Steps (λ asked bytes. IsCut s f asked bytes) asks asks' wrote wrote'
cut_in_writing s s' f raised r asks asks' wrote wrote' found sent = record {
  asked = found.asked;
  bytes = take sent.writes.count sent.bytes;
  is_asked = found.is_after;
  writes = sent.writes.front;
  comes_to = unwritten sent.bytes s' sent.writes.count (exchange_of s f r found.asked sent.bytes s' found.is_found sent.are_bytes) refl sent.writes.short;
}

cut_before_writing : (s s' : State) (f : Frame) (raised : Bool) (r : Response) (asks asks' : List Asked) (wrote wrote' : Option (List ℕ)) → Finds asks asks' s f raised (Ok (Some r)) s' → wrote' ≡ wrote
    → Steps (λ asked bytes. IsCut s f asked bytes) asks asks' wrote wrote'
cut_before_writing s s' f raised r asks asks' wrote wrote' found same = record {
  asked = found.asked;
  bytes = [];
  is_asked = found.is_after;
  writes = writes_still wrote wrote' same;
  comes_to = unsent s f r found.asked s' found.is_found;
}

pub cut_before_answer : (s s' : State) (f : Frame) (raised : Bool) (e : AllocError) (asks asks' : List Asked) (wrote : Option (List ℕ)) → Finds asks asks' s f raised (Err e) s'
    → Steps (λ asked bytes. IsCut s f asked bytes) asks asks' wrote wrote
cut_before_answer s s' f raised e asks asks' wrote found = record {
  asked = found.asked;
  bytes = [];
  is_asked = found.is_after;
  writes = writes_none wrote;
  comes_to = unfound s f found.asked found.is_found;
}

-- nothing was asked, and nothing written
stands : (P : List Asked → List ℕ → Type 0) (asks : List Asked) (wrote : Option (List ℕ)) → P [] [] → Steps P asks asks wrote wrote
stands P asks wrote h = record { asked = []; bytes = []; is_asked = sym (append-nil asks); writes = writes_none wrote; comes_to = h }

-- the sign was raised
pub stopped : (raised : Bool) (s s' : State) (f : Frame) (asks : List Asked) (wrote : Option (List ℕ)) → raised ≡ true → Steps (λ asked bytes. ServesFrame (Some served.Ended) raised s f asked bytes s') asks asks wrote wrote
stopped raised s s' f asks wrote is = stands (λ asked bytes. ServesFrame (Some served.Ended) raised s f asked bytes s') asks wrote (inl (refl, refl, is))

-- what was found for a frame was told, or the connection ended
pub told : (end : Option Served) (raised : Bool) (found : Option Response) (s s' : State) (f : Frame) (asks asks' : List Asked) (wrote wrote' : Option (List ℕ)) → Finds asks asks' s f raised (Ok found) s'
    → SendsFound found end wrote wrote' f.stream → Steps (λ asked bytes. ServesFrame end raised s f asked bytes s') asks asks' wrote wrote'
told end raised None s s' f asks asks' wrote wrote' found h =
    let P : Option Served → Type 0 = λ e. Steps (λ asked bytes. ServesFrame e raised s f asked bytes s') asks asks' wrote wrote' in
    subst P (sym h.0) (record { asked = found.asked; bytes = []; is_asked = found.is_after; writes = writes_still wrote wrote' h.1; comes_to = inr (found.is_found, refl) })
told None raised (Some r) s s' f asks asks' wrote wrote' found sent = answered s s' f raised r asks asks' wrote wrote' found sent
told (Some served.Ended) raised (Some r) s s' f asks asks' wrote wrote' found h = absurd h
told (Some served.Closed) raised (Some r) s s' f asks asks' wrote wrote' found h = absurd h
told (Some served.LinkFault) raised (Some r) s s' f asks asks' wrote wrote' found sent = cut_in_writing s s' f raised r asks asks' wrote wrote' found sent
told (Some served.NoMemory) raised (Some r) s s' f asks asks' wrote wrote' found same = cut_before_writing s s' f raised r asks asks' wrote wrote' found same

-- one step behind another
pub steps_more : (P Q R : List Asked → List ℕ → Type 0) (asks mid asks' : List Asked) (wrote between wrote' : Option (List ℕ))
    → ((a b : List Asked) (x y : List ℕ) → P a x → Q b y → R (a ++ b) (x ++ y)) → Steps P asks mid wrote between → Steps Q mid asks' between wrote' → Steps R asks asks' wrote wrote'
steps_more P Q R asks mid asks' wrote between wrote' f p q = record {
  asked = p.asked ++ q.asked;
  bytes = p.bytes ++ q.bytes;
  is_asked = q.is_asked ∙ ap (λ (zs : List Asked). zs ++ q.asked) p.is_asked ∙ append_assoc asks p.asked q.asked;
  writes = writes_more wrote between wrote' p.bytes q.bytes p.writes q.writes;
  comes_to = f p.asked q.asked p.bytes q.bytes p.comes_to q.comes_to;
}

-- ---- frames

pub one_exchange : (s s' : State) (f : Frame) (asked : List Asked) (bytes : List ℕ) → IsExchange s f asked bytes s' → Exchanges (f ∷ []) s asked bytes s'
one_exchange s s' f asked bytes h = record {
  mid = s';
  first_asked = asked;
  later_asked = [];
  first_bytes = bytes;
  later_bytes = [];
  first = h;
  later = (refl, refl, refl);
  all_asked = sym (append-nil asked);
  all_bytes = sym (append-nil bytes);
}

-- frames behind none
behind_none : (gs : List Frame) (s mid s' : State) (a b : List Asked) (x y : List ℕ) → (a ≡ []) × (x ≡ []) × (mid ≡ s) → Exchanges gs mid b y s' → Exchanges gs s (a ++ b) (x ++ y) s'
behind_none gs s mid s' a b x y h later =
    let P : State → List Asked → List ℕ → Type 0 = λ t c z. Exchanges gs t c z s' in
    let there : Exchanges gs s b y s' = let Q : State → Type 0 = λ t. P t b y in subst Q h.2 later in
    let with_asked : Exchanges gs s (a ++ b) y s' = let Q : List Asked → Type 0 = λ c. P s (c ++ b) y in subst Q (sym h.0) there in
    let Q : List ℕ → Type 0 = λ z. P s (a ++ b) (z ++ y) in subst Q (sym h.1) with_asked

pub exchanges_more : (fs gs : List Frame) (s mid s' : State) (a b : List Asked) (x y : List ℕ) → Exchanges fs s a x mid → Exchanges gs mid b y s' → Exchanges (fs ++ gs) s (a ++ b) (x ++ y) s'
exchanges_more [] gs s mid s' a b x y h later = behind_none gs s mid s' a b x y h later
exchanges_more (f ∷ fs) gs s mid s' a b x y h later = record {
  mid = h.mid;
  first_asked = h.first_asked;
  later_asked = h.later_asked ++ b;
  first_bytes = h.first_bytes;
  later_bytes = h.later_bytes ++ y;
  first = h.first;
  later = exchanges_more fs gs h.mid mid s' h.later_asked b h.later_bytes y h.later later;
  all_asked = ap (λ (zs : List Asked). zs ++ b) h.all_asked ∙ append_assoc h.first_asked h.later_asked b;
  all_bytes = ap (λ (zs : List ℕ). zs ++ y) h.all_bytes ∙ append_assoc h.first_bytes h.later_bytes y;
}

-- ---- frames that are served in a loop

exchanged_more : (fs : List Frame) (f : Frame) (s mid s' : State) (a b : List Asked) (x y : List ℕ) → Exchanges fs s a x mid → IsExchange mid f b y s' → Exchanges (fs ++ f ∷ []) s (a ++ b) (x ++ y) s'
exchanged_more fs f s mid s' a b x y h e = exchanges_more fs (f ∷ []) s mid s' a b x y h (one_exchange mid s' f b y e)

-- one frame more was answered
pub one_served : (frames : List Frame) (i : ℕ) (f d : Frame) (s mid s' : State) (asks between asks' : List Asked) (wrote halfway wrote' : Option (List ℕ)) → i < length frames → f ≡ get_or frames i d
    → Steps (λ a x. Exchanges (take i frames) s a x mid) asks between wrote halfway → Steps (λ a x. IsExchange mid f a x s') between asks' halfway wrote'
    → Steps (λ a x. Exchanges (take (i + 1) frames) s a x s') asks asks' wrote wrote'
one_served frames i f d s mid s' asks between asks' wrote halfway wrote' within is p q =
    let whole : take i frames ++ f ∷ [] ≡ take (i + 1) frames = ap (λ (g : Frame). take i frames ++ g ∷ []) is ∙ sym (take_more frames i d within) in
    let P : List Frame → Type 0 = λ fs. Steps (λ a x. Exchanges fs s a x s') asks asks' wrote wrote' in
    subst P whole
    (steps_more (λ a x. Exchanges (take i frames) s a x mid) (λ a x. IsExchange mid f a x s') (λ a x. Exchanges (take i frames ++ f ∷ []) s a x s') asks between asks' wrote halfway wrote'
    (λ a b x y h e. exchanged_more (take i frames) f s mid s' a b x y h e) p q)

among : (end : Served) (raised : Bool) (frames front back : List Frame) (f : Frame) (s mid : State) (a b : List Asked) (x y : List ℕ) → frames ≡ front ++ f ∷ back
    → Exchanges front s a x mid → EndsAt end raised mid f b y → EndsAmong end raised s frames (a ++ b) (x ++ y)
among end raised frames front back f s mid a b x y is h e = record {
  front = front;
  frame = f;
  back = back;
  state = mid;
  first_asked = a;
  last_asked = b;
  first_bytes = x;
  last_bytes = y;
  all_frames = is;
  exchanges = h;
  ends = e;
  all_asked = refl;
  all_bytes = refl;
}

-- the connection ended at the next frame
pub ended_among : (end : Served) (raised : Bool) (frames : List Frame) (i : ℕ) (f d : Frame) (s mid : State) (asks between asks' : List Asked) (wrote halfway wrote' : Option (List ℕ)) → i < length frames → f ≡ get_or frames i d
    → Steps (λ a x. Exchanges (take i frames) s a x mid) asks between wrote halfway → Steps (λ a x. EndsAt end raised mid f a x) between asks' halfway wrote'
    → Steps (λ a x. EndsAmong end raised s frames a x) asks asks' wrote wrote'
ended_among end raised frames i f d s mid asks between asks' wrote halfway wrote' within is p q =
    let whole : frames ≡ take i frames ++ f ∷ drop (i + 1) frames =
    sym (take-append-drop i frames) ∙ ap (λ (zs : List Frame). take i frames ++ zs) (drop_more frames i d within ∙ ap (λ (g : Frame). g ∷ drop (i + 1) frames) (sym is)) in
    steps_more (λ a x. Exchanges (take i frames) s a x mid) (λ a x. EndsAt end raised mid f a x) (λ a x. EndsAmong end raised s frames a x) asks between asks' wrote halfway wrote'
    (λ a b x y h e. among end raised frames (take i frames) (drop (i + 1) frames) f s mid a b x y whole h e) p q

-- all frames were answered
pub all_served : (frames : List Frame) (i : ℕ) (s s' : State) (asks asks' : List Asked) (wrote wrote' : Option (List ℕ)) → length frames ≤ i
    → Steps (λ a x. Exchanges (take i frames) s a x s') asks asks' wrote wrote' → Steps (λ a x. Exchanges frames s a x s') asks asks' wrote wrote'
all_served frames i s s' asks asks' wrote wrote' past h =
    let P : List Frame → Type 0 = λ fs. Steps (λ a x. Exchanges fs s a x s') asks asks' wrote wrote' in subst P (take_all i frames past) h

-- ---- frames, and the fault behind them

pub ended_before_fault : (end : Served) (raised : Bool) (s s' : State) (frames : List Frame) (refusal : Option FrameError) (asks asks' : List Asked) (wrote wrote' : Option (List ℕ))
    → Steps (λ a x. ServesFrames (Some end) raised s frames a x s') asks asks' wrote wrote' → Steps (λ a x. ServesRead (Some end) raised s frames refusal a x s') asks asks' wrote wrote'
ended_before_fault end raised s s' frames None asks asks' wrote wrote' h = h
ended_before_fault end raised s s' frames (Some error) asks asks' wrote wrote' h =
    record { asked = h.asked; bytes = h.bytes; is_asked = h.is_asked; writes = h.writes; comes_to = inl h.comes_to }

closed_behind : (end : Served) (raised : Bool) (s mid : State) (frames : List Frame) (error : FrameError) (asks asks' : List Asked) (wrote halfway wrote' : Option (List ℕ))
    → Steps (λ a x. Exchanges frames s a x mid) asks asks' wrote halfway → TellsFault end error halfway wrote'
    → Steps (λ a x. EndsIn end raised s frames (Some error) a x) asks asks' wrote wrote'
closed_behind end raised s mid frames error asks asks' wrote halfway wrote' h tells = record {
  asked = h.asked;
  bytes = h.bytes ++ tells.bytes;
  is_asked = h.is_asked;
  writes = writes_more wrote halfway wrote' h.bytes tells.bytes h.writes tells.writes;
  comes_to = inr (record { state = mid; first_bytes = h.bytes; last_bytes = tells.bytes; exchanges = h.comes_to; closes = tells.closes; all_bytes = refl });
}

pub ended_behind_fault : (end : Served) (raised : Bool) (s mid s' : State) (frames : List Frame) (refusal : Option FrameError) (error : FrameError) (asks asks' : List Asked) (wrote halfway wrote' : Option (List ℕ))
    → refusal ≡ Some error → Steps (λ a x. Exchanges frames s a x mid) asks asks' wrote halfway → TellsFault end error halfway wrote'
    → Steps (λ a x. ServesRead (Some end) raised s frames refusal a x s') asks asks' wrote wrote'
ended_behind_fault end raised s mid s' frames refusal error asks asks' wrote halfway wrote' is h tells =
    let P : Option FrameError → Type 0 = λ r. Steps (λ a x. EndsIn end raised s frames r a x) asks asks' wrote wrote' in
    subst P (sym is) (closed_behind end raised s mid frames error asks asks' wrote halfway wrote' h tells)

pub all_read : (raised : Bool) (s s' : State) (frames : List Frame) (refusal : Option FrameError) (asks asks' : List Asked) (wrote wrote' : Option (List ℕ))
    → refusal ≡ None → Steps (λ a x. Exchanges frames s a x s') asks asks' wrote wrote' → Steps (λ a x. ServesRead None raised s frames refusal a x s') asks asks' wrote wrote'
all_read raised s s' frames refusal asks asks' wrote wrote' is h =
    record { asked = h.asked; bytes = h.bytes; is_asked = h.is_asked; writes = h.writes; comes_to = (h.comes_to, is) }

-- ---- what came of a peer that is no frames

idle_at : (b : Bool) (s : State) (asks : List Asked) (wrote : Option (List ℕ)) → Steps (λ a x. ServesInput (then_some b served.Ended) b inputs.Idle s a x s) asks asks wrote wrote
idle_at true s asks wrote = stands (λ a x. ServesInput (Some served.Ended) true inputs.Idle s a x s) asks wrote (refl, refl, refl, refl)
idle_at false s asks wrote = stands (λ a x. ServesInput None false inputs.Idle s a x s) asks wrote (refl, refl, refl)

pub idle_served : (end : Option Served) (b raised : Bool) (input : Input) (s : State) (asks : List Asked) (wrote : Option (List ℕ)) → input ≡ inputs.Idle → end ≡ then_some b served.Ended → b ≡ raised
    → Steps (λ a x. ServesInput end raised input s a x s) asks asks wrote wrote
idle_served end b raised input s asks wrote is e same =
    let P : Option Served → Bool → Input → Type 0 = λ o r i. Steps (λ a x. ServesInput o r i s a x s) asks asks wrote wrote in
    let with_raised : P (then_some b served.Ended) raised inputs.Idle = let Q : Bool → Type 0 = λ r. P (then_some b served.Ended) r inputs.Idle in subst Q same (idle_at b s asks wrote) in
    let with_end : P end raised inputs.Idle = let Q : Option Served → Type 0 = λ o. P o raised inputs.Idle in subst Q (sym e) with_raised in
    let Q : Input → Type 0 = λ i. P end raised i in subst Q (sym is) with_end

pub end_served : (raised : Bool) (input : Input) (s : State) (asks : List Asked) (wrote : Option (List ℕ)) → input ≡ inputs.End → Steps (λ a x. ServesInput (Some served.Ended) raised input s a x s) asks asks wrote wrote
end_served raised input s asks wrote is =
    let P : Input → Type 0 = λ i. Steps (λ a x. ServesInput (Some served.Ended) raised i s a x s) asks asks wrote wrote in
    subst P (sym is) (stands (λ a x. ServesInput (Some served.Ended) raised inputs.End s a x s) asks wrote (refl, refl, refl))

-- ---- the sign

-- a frame for which nothing was found ends the connection
pub ended_or_unraised : (end : Option Served) (raised : Bool) (found : Option Response) (before after : Option (List ℕ)) (stream : ℤ)
    → (raised ≡ false) ⊎ (found ≡ None) → SendsFound found end before after stream → (raised ≡ false) ⊎ (end ≡ Some served.Ended)
ended_or_unraised end raised found before after stream (inl e) h = inl e
ended_or_unraised end raised found before after stream (inr e) h =
    let P : Option Response → Type 0 = λ o. SendsFound o end before after stream in
    let none : SendsFound None end before after stream = subst P e h in inr none.0

-- a connection that goes on found the sign down
pub unraised : (end : Option Served) (raised : Bool) → end ≡ None → (raised ≡ false) ⊎ (end ≡ Some served.Ended) → raised ≡ false
unraised end raised none (inl e) = e
unraised end raised none (inr e) = cc

pub ended_by_sign : (end : Served) (raised : Bool) → (raised ≡ false) ⊎ (Some end ≡ Some served.Ended) → IsTrue raised → end ≡ served.Ended
ended_by_sign end raised (inl e) t = cc
ended_by_sign end raised (inr e) t = cc
