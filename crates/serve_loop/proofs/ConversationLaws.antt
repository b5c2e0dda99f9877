-- A conversation, read by read.
use Rattle.std.proofs.Common.{◌≡◌, ◌<◌, ℕ, inl, inr, Bool, List, [], ◌∷◌, ◌++◌, Option, Some, None, Result, Ok, Err, refl, sym, ◌∙◌, ap, subst, append_assoc}
use Rattle.std.specs.List.{All, flat_map}
use Rattle.std.proofs.lemmas.List.{append-nil}
use Rattle.std.proofs.lemmas.List.Elements.{All-append, All-nil, All-tail}
use Rattle.client_desk.specs.Asks.{Asked}
use Rattle.client_desk.specs.declared.answer.Answer.{Answer}
use Rattle.frame_v4.specs.Framer.{State as FramerState, fresh as fresh_framer}
use Rattle.frame_v4.specs.Spelling.{request_bytes}
use Rattle.frame_v4.specs.Stream.{Splits, Reads, nothing}
use Rattle.frame_v4.specs.declared.error.FrameError.{FrameError}
use Rattle.frame_v4.specs.declared.frame.Decoded.{Decoded}
use Rattle.frame_v4.specs.declared.frame.Frame.{Frame}
use Rattle.frame_v4.proofs.Streams.{goes_on}
use Rattle.frame_v4.proofs.Totality.{each_is_read}
use Rattle.schema_book.specs.Books.{Book}
use Rattle.session_v4.specs.Sessions.{State, fresh}
use Rattle.serve_loop.specs.Conversations.{AnswersFront, EndsAsking, IsCutBehind, BreaksOff, IsHeard, IsAtEnd, Ends, IsConversation}
use Rattle.serve_loop.specs.Exchanges.{Exchanges, untaken}
use Rattle.serve_loop.specs.Steps.{Writes, IsAsked, EndsAt, EndsAmong, EndsBehind, EndsIn, ClosesBy, TellsFront, ServesInput, Steps, IsInput, IsSound}
use Rattle.serve_loop.specs.declared.hearing.Input.{Input}
use Rattle.serve_loop.specs.declared.hearing.Input.TheVariants as inputs
use Rattle.serve_loop.specs.declared.served.Served.{Served}
use Rattle.serve_loop.specs.declared.served.Served.TheVariants as served
use Rattle.serve_loop.proofs.ExchangeLaws.{exchanges_more}
use Rattle.serve_loop.proofs.ResponseLaws.{refusal_untold}
use Rattle.serve_loop.proofs.WriteLaws.{writes_none, writes_more, writes_still}

-- what holds of all holds of those behind
behind : {X : Type 0} (P : X → Type 0) (xs ys : List X) → All P (xs ++ ys) → All P ys
behind P [] ys h = h
behind P (x ∷ xs) ys h = behind P xs ys (All-tail P x (xs ++ ys) h)

-- ---- what was heard

pub heard_none : (left : Option (List ℕ)) → IsHeard left [] left
heard_none None = tt
heard_none (Some bytes) = (bytes, refl, refl)

heard_behind : (bytes heard piece rest : List ℕ) (mid left : Option (List ℕ)) → bytes ≡ heard ++ rest → mid ≡ Some rest → IsHeard mid piece left → IsHeard (Some bytes) (heard ++ piece) left
heard_behind bytes heard piece rest mid left whole is h =
    let next : IsHeard (Some rest) piece left = let P : Option (List ℕ) → Type 0 = λ o. IsHeard o piece left in subst P is h in
    (next.0, whole ∙ ap (λ (x : List ℕ). heard ++ x) next.1 ∙ sym (append_assoc heard piece next.0), next.2)

pub heard_more : (before mid left : Option (List ℕ)) (heard piece : List ℕ) → IsHeard before heard mid → IsHeard mid piece left → IsHeard before (heard ++ piece) left
heard_more None mid left heard piece h k = tt
heard_more (Some bytes) mid left heard piece (rest, whole, is) k = heard_behind bytes heard piece rest mid left whole is k

at_end : (before mid left : Option (List ℕ)) (heard : List ℕ) → IsHeard before heard mid → IsAtEnd mid left → IsAtEnd before left
at_end None mid left heard h e = tt
at_end (Some bytes) mid left heard (rest, whole, is) e = let P : Option (List ℕ) → Type 0 = λ o. IsAtEnd o left in subst P is e

-- ---- a conversation that goes on

-- all whole frames that were heard are answered, and the framer holds what came behind them
pub record IsGoingOn (b : Book) (left left' : Option (List ℕ)) (asks asks' : List Asked) (wrote wrote' : Option (List ℕ)) (framer : FramerState) (s : State) : Type 0 where
  pub heard : List ℕ
  pub front : List Frame
  pub asked : List Asked
  pub written : List ℕ
  pub is_heard : IsHeard left heard left'
  pub are_bytes : All (λ byte. byte < 256) heard
  pub is_asked : asks' ≡ asks ++ asked
  pub is_written : Writes wrote wrote' written
  pub splits : Splits heard front framer.held
  pub unrefused : framer.refusal ≡ None
  pub exchanges : Exchanges front (fresh b) asked written s

begins : (b : Book) (left : Option (List ℕ)) (asks : List Asked) (wrote : Option (List ℕ)) (s : State) → s ≡ fresh b → IsGoingOn b left left asks asks wrote wrote fresh_framer s
begins b left asks wrote s is = record {
  heard = [];
  front = [];
  asked = [];
  written = [];
  is_heard = heard_none left;
  are_bytes = All-nil (λ byte. byte < 256);
  is_asked = sym (append-nil asks);
  is_written = writes_none wrote;
  splits = record { whole = refl; each = tt; partial = nothing refl };
  unrefused = refl;
  exchanges = (refl, refl, is);
}

pub going_on_from : (b : Book) (left : Option (List ℕ)) (asks : List Asked) (wrote : Option (List ℕ)) (framer : FramerState) (s : State) → framer ≡ fresh_framer → s ≡ fresh b → IsGoingOn b left left asks asks wrote wrote framer s
going_on_from b left asks wrote framer s is begun =
    let P : FramerState → Type 0 = λ f. IsGoingOn b left left asks asks wrote wrote f s in subst P (sym is) (begins b left asks wrote s begun)

-- ---- how it ends, from what was answered before

front_same : (b : Book) (heard : List ℕ) (a a' : List Asked) (x x' : List ℕ) (s : State) (back : List Frame) (refusal : Option FrameError) → a' ≡ a → x' ≡ x → AnswersFront b heard a x s back refusal → AnswersFront b heard a' x' s back refusal
front_same b heard a a' x x' s back refusal e e' h =
    let P : List Asked × List ℕ → Type 0 = λ p. AnswersFront b heard p.0 p.1 s back refusal in subst P (λ i. (sym e i, sym e' i)) h

ends_same : (b : Book) (end : Served) (raised : Bool) (left left' : Option (List ℕ)) (heard : List ℕ) (a a' : List Asked) (x x' : List ℕ) → a' ≡ a → x' ≡ x → Ends b end raised left left' heard a x → Ends b end raised left left' heard a' x'
ends_same b end raised left left' heard a a' x x' e e' h =
    let P : List Asked × List ℕ → Type 0 = λ p. Ends b end raised left left' heard p.0 p.1 in subst P (λ i. (sym e i, sym e' i)) h

module _ (b : Book) (left left' : Option (List ℕ)) (heard : List ℕ) (a : List Asked) (x : List ℕ) (s : State) where
  breaks_off : (back : List Frame) (refusal : Option FrameError) (a' : List Asked) (x' : List ℕ) → AnswersFront b heard a x s back refusal → IsCutBehind s back refusal a' x' → BreaksOff b heard (a ++ a') (x ++ x')
  breaks_off back refusal a' x' front cut = record {
    state = s;
    back = back;
    refusal = refusal;
    before_asked = a;
    before_written = x;
    last_asked = a';
    last_written = x';
    front = front;
    cut = cut;
    is_asked = refl;
    is_written = refl;
  }

  ended_asking : (f : Frame) (back : List Frame) (refusal : Option FrameError) (a' : List Asked) (x' : List ℕ) (answer : Option Answer)
      → AnswersFront b heard a x s (f ∷ back) refusal → IsAsked answer s f a' → x' ≡ [] → EndsAsking b answer heard (a ++ a') (x ++ x')
  ended_asking f back refusal a' x' answer front h unwritten =
      let no_bytes : x ++ x' ≡ x = ap (λ (zs : List ℕ). x ++ zs) unwritten ∙ append-nil x in
      record {
        state = s;
        frame = f;
        back = back;
        refusal = refusal;
        waiting = h.waiting;
        before = a;
        ask = h.ask;
        front = front_same b heard a a x (x ++ x') s (f ∷ back) refusal refl no_bytes front;
        due = h.due;
        answered = h.answered;
        is_asked = ap (λ (zs : List Asked). a ++ zs) h.is_asked;
      }

  ended_at : (end : Served) (raised : Bool) (f : Frame) (back : List Frame) (refusal : Option FrameError) (a' : List Asked) (x' : List ℕ)
      → AnswersFront b heard a x s (f ∷ back) refusal → EndsAt end raised s f a' x' → Ends b end raised left left' heard (a ++ a') (x ++ x')
  ended_at served.Ended raised f back refusal a' x' front (inl (unasked, unwritten, is)) =
      let no_asks : a ++ a' ≡ a = ap (λ (zs : List Asked). a ++ zs) unasked ∙ append-nil a in
      let no_bytes : x ++ x' ≡ x = ap (λ (zs : List ℕ). x ++ zs) unwritten ∙ append-nil x in
      inr (inl (record { state = s; back = f ∷ back; refusal = refusal; front = front_same b heard a (a ++ a') x (x ++ x') s (f ∷ back) refusal no_asks no_bytes front }, is))
  ended_at served.Ended raised f back refusal a' x' front (inr (inl down, unwritten)) = inr (inr (inl (ended_asking f back refusal a' x' _ front down unwritten)))
  ended_at served.Ended raised f back refusal a' x' front (inr (inr (left_so, is), unwritten)) = inr (inr (inr (ended_asking f back refusal a' x' _ front left_so unwritten, is)))
  ended_at served.Closed raised f back refusal a' x' front h = absurd h
  ended_at served.LinkFault raised f back refusal a' x' front cut = breaks_off (f ∷ back) refusal a' x' front cut
  ended_at served.NoMemory raised f back refusal a' x' front cut = breaks_off (f ∷ back) refusal a' x' front cut

  told_in_part : (error : FrameError) (x' : List ℕ) → AnswersFront b heard a x s [] (Some error) → TellsFront error x' → BreaksOff b heard (a ++ []) (x ++ x')
  told_in_part error x' front tells = breaks_off [] (Some error) [] x' front (refl, tells.whole, tells.count, tells.is_refusal, tells.short, tells.front)

  closed_by : (end : Served) (raised : Bool) (error : FrameError) (x' : List ℕ) → AnswersFront b heard a x s [] (Some error) → ClosesBy end error x' → Ends b end raised left left' heard (a ++ []) (x ++ x')
  closed_by served.Ended raised error x' front h = absurd h
  closed_by served.Closed raised error x' front told = record {
    state = s;
    error = error;
    before = x;
    refusal = x';
    all = front_same b heard a (a ++ []) x x s [] (Some error) (append-nil a) refl front;
    refused = told;
    is_written = refl;
  }
  closed_by served.LinkFault raised error x' front tells = told_in_part error x' front tells
  closed_by served.NoMemory raised error x' front tells = told_in_part error x' front tells

-- nothing was taken of what comes behind
cut_at_once : (s : State) (back : List Frame) (refusal : Option FrameError) → IsCutBehind s back refusal [] []
cut_at_once s [] None = (refl, refl)
cut_at_once s [] (Some error) = let t = refusal_untold error in (refl, t.whole, t.count, t.is_refusal, t.short, t.front)
cut_at_once s (f ∷ fs) refusal = untaken refl refl

module _ (b : Book) (left mid left' : Option (List ℕ)) (asks between asks' : List Asked) (wrote halfway wrote' : Option (List ℕ)) (framer : FramerState) (s : State)
    (g : IsGoingOn b left mid asks between wrote halfway framer s) where
  -- bytes that came behind those that were heard
  reads_on : (piece rest : List ℕ) (frames : List Frame) (refusal : Option FrameError) → Reads (framer.held ++ piece) frames rest refusal → Reads (g.heard ++ piece) (g.front ++ frames) rest refusal
  reads_on piece rest frames refusal reads = goes_on g.heard piece framer.held rest g.front frames refusal g.splits reads

  -- nothing came
  reads_still : (piece : List ℕ) → piece ≡ [] → Reads (g.heard ++ piece) g.front framer.held None
  reads_still piece e =
      let same : g.heard ≡ g.heard ++ piece = sym (ap (λ (x : List ℕ). g.heard ++ x) e ∙ append-nil g.heard) in
      let P : List ℕ → Type 0 = λ x. Splits x g.front framer.held in subst P same g.splits

  front_answered : (heard rest : List ℕ) (frames front back : List Frame) (refusal : Option FrameError) (state : State) (a : List Asked) (x : List ℕ)
      → Reads heard (g.front ++ frames) rest refusal → frames ≡ front ++ back → Exchanges front s a x state → AnswersFront b heard (g.asked ++ a) (g.written ++ x) state back refusal
  front_answered heard rest frames front back refusal state a x reads is exchanges = record {
    front = g.front ++ front;
    rest = rest;
    reads =
        let P : List Frame → Type 0 = λ fs. Reads heard fs rest refusal in
        subst P (ap (λ (fs : List Frame). g.front ++ fs) is ∙ sym (append_assoc g.front front back)) reads;
    exchanges = exchanges_more g.front front (fresh b) s state g.asked a g.written x g.exchanges exchanges;
  }

  -- none behind them
  all_answered : (heard rest : List ℕ) (frames : List Frame) (refusal : Option FrameError) (state : State) (a : List Asked) (x : List ℕ)
      → Reads heard (g.front ++ frames) rest refusal → Exchanges frames s a x state → AnswersFront b heard (g.asked ++ a) (g.written ++ x) state [] refusal
  all_answered heard rest frames refusal state a x reads exchanges = front_answered heard rest frames frames [] refusal state a x reads (sym (append-nil frames)) exchanges

  ended_among : (end : Served) (raised : Bool) (heard rest : List ℕ) (frames : List Frame) (refusal : Option FrameError) (a : List Asked) (x : List ℕ)
      → Reads heard (g.front ++ frames) rest refusal → EndsAmong end raised s frames a x → Ends b end raised left left' heard (g.asked ++ a) (g.written ++ x)
  ended_among end raised heard rest frames refusal a x reads h =
      ends_same b end raised left left' heard ((g.asked ++ h.first_asked) ++ h.last_asked) (g.asked ++ a) ((g.written ++ h.first_bytes) ++ h.last_bytes) (g.written ++ x)
      (ap (λ (zs : List Asked). g.asked ++ zs) h.all_asked ∙ sym (append_assoc g.asked h.first_asked h.last_asked))
      (ap (λ (zs : List ℕ). g.written ++ zs) h.all_bytes ∙ sym (append_assoc g.written h.first_bytes h.last_bytes))
      (ended_at b left left' heard (g.asked ++ h.first_asked) (g.written ++ h.first_bytes) h.state end raised h.frame h.back refusal h.last_asked h.last_bytes
      (front_answered heard rest frames h.front (h.frame ∷ h.back) refusal h.state h.first_asked h.first_bytes reads h.all_frames h.exchanges) h.ends)

  ended_behind : (end : Served) (raised : Bool) (heard rest : List ℕ) (frames : List Frame) (error : FrameError) (a : List Asked) (x : List ℕ)
      → Reads heard (g.front ++ frames) rest (Some error) → EndsBehind end s frames error a x → Ends b end raised left left' heard (g.asked ++ a) (g.written ++ x)
  ended_behind end raised heard rest frames error a x reads h =
      ends_same b end raised left left' heard ((g.asked ++ a) ++ []) (g.asked ++ a) ((g.written ++ h.first_bytes) ++ h.last_bytes) (g.written ++ x)
      (sym (append-nil (g.asked ++ a))) (ap (λ (zs : List ℕ). g.written ++ zs) h.all_bytes ∙ sym (append_assoc g.written h.first_bytes h.last_bytes))
      (closed_by b left left' heard (g.asked ++ a) (g.written ++ h.first_bytes) h.state end raised error h.last_bytes (all_answered heard rest frames (Some error) h.state a h.first_bytes reads h.exchanges) h.closes)

  ended_in : (end : Served) (raised : Bool) (heard rest : List ℕ) (frames : List Frame) (refusal : Option FrameError) (a : List Asked) (x : List ℕ)
      → Reads heard (g.front ++ frames) rest refusal → EndsIn end raised s frames refusal a x → Ends b end raised left left' heard (g.asked ++ a) (g.written ++ x)
  ended_in end raised heard rest frames None a x reads h = ended_among end raised heard rest frames None a x reads h
  ended_in end raised heard rest frames (Some error) a x reads (inl h) = ended_among end raised heard rest frames (Some error) a x reads h
  ended_in end raised heard rest frames (Some error) a x reads (inr h) = ended_behind end raised heard rest frames error a x reads h

  -- what was answered before, and nothing since
  still_answered : (piece : List ℕ) (a : List Asked) (x : List ℕ) → piece ≡ [] → a ≡ [] → x ≡ [] → AnswersFront b (g.heard ++ piece) (g.asked ++ a) (g.written ++ x) s [] None
  still_answered piece a x e no_asks no_bytes =
      front_same b (g.heard ++ piece) (g.asked ++ []) (g.asked ++ a) (g.written ++ []) (g.written ++ x) s [] None
      (ap (λ (zs : List Asked). g.asked ++ zs) no_asks) (ap (λ (zs : List ℕ). g.written ++ zs) no_bytes)
      (all_answered (g.heard ++ piece) framer.held [] None s [] []
      (let P : List Frame → Type 0 = λ fs. Reads (g.heard ++ piece) fs framer.held None in subst P (sym (append-nil g.front)) (reads_still piece e)) (refl, refl, refl))

  over : (end : Served) (raised : Bool) (piece : List ℕ) (a : List Asked) (x : List ℕ) → IsHeard mid piece left' → asks' ≡ between ++ a → Writes halfway wrote' x
      → Ends b end raised left left' (g.heard ++ piece) (g.asked ++ a) (g.written ++ x) → IsConversation b left left' asks asks' wrote wrote' raised end
  over end raised piece a x heard is writes ends = record {
    heard = g.heard ++ piece;
    asked = g.asked ++ a;
    written = g.written ++ x;
    is_heard = heard_more left mid left' g.heard piece g.is_heard heard;
    is_asked = is ∙ ap (λ (zs : List Asked). zs ++ a) g.is_asked ∙ append_assoc asks g.asked a;
    is_written = writes_more wrote halfway wrote' g.written x g.is_written writes;
    ends = ends;
  }

  ended_at_input : (end : Served) (raised : Bool) (input : Input) (piece : List ℕ) (framer' : FramerState) (s' : State) (a : List Asked) (x : List ℕ)
      → IsInput (Ok input) piece mid left' framer framer' → ServesInput (Some end) raised input s a x s' → Ends b end raised left left' (g.heard ++ piece) (g.asked ++ a) (g.written ++ x)
  ended_at_input end raised (inputs.Frames d) piece framer' s' a x is h =
      ended_in end raised (g.heard ++ piece) framer'.held d.frames d.refusal a x (reads_on piece framer'.held d.frames d.refusal is.0) h
  ended_at_input end raised inputs.Idle piece framer' s' a x is h =
      let P : Served → Type 0 = λ e. Ends b e raised left left' (g.heard ++ piece) (g.asked ++ a) (g.written ++ x) in
      subst P (sym h.2) (inr (inl (record { state = s; back = []; refusal = None; front = still_answered piece a x is.0 h.0 h.1 }, h.3)))
  ended_at_input end raised inputs.End piece framer' s' a x is h =
      let P : Served → Type 0 = λ e. Ends b e raised left left' (g.heard ++ piece) (g.asked ++ a) (g.written ++ x) in
      subst P (sym h.2) (inl (record { state = s; all = still_answered piece a x is.0 h.0 h.1 }, at_end left mid left' g.heard g.is_heard is.2))

  -- no memory for what came
  ended_at_piece : (raised : Bool) (piece : List ℕ) → All (λ byte. byte < 256) piece → Ends b served.NoMemory raised left left' (g.heard ++ piece) (g.asked ++ []) (g.written ++ [])
  ended_at_piece raised piece are =
      let P : List ℕ → Type 0 = All (λ byte. byte < 256) in
      let held : P framer.held = behind (λ byte. byte < 256) (flat_map request_bytes g.front) framer.held (subst P g.splits.whole g.are_bytes) in
      let read = each_is_read (framer.held ++ piece) (All-append (λ byte. byte < 256) framer.held piece held are) in
      breaks_off b left left' (g.heard ++ piece) g.asked g.written s read.0 read.2 [] []
      (front_same b (g.heard ++ piece) (g.asked ++ []) g.asked (g.written ++ []) g.written s read.0 read.2 (sym (append-nil g.asked)) (sym (append-nil g.written))
      (front_answered (g.heard ++ piece) read.1 read.0 [] read.0 read.2 s [] [] (reads_on piece read.1 read.0 read.2 read.3) refl (refl, refl, refl)))
      (cut_at_once s read.0 read.2)

  ended_at_hearing : (end : Served) (raised : Bool) (piece : List ℕ) (framer' : FramerState) → All (λ byte. byte < 256) piece
      → IsInput (Err end) piece mid left' framer framer' → Ends b end raised left left' (g.heard ++ piece) (g.asked ++ []) (g.written ++ [])
  ended_at_hearing served.Ended raised piece framer' are h = absurd h
  ended_at_hearing served.Closed raised piece framer' are h = absurd h
  ended_at_hearing served.LinkFault raised piece framer' are h =
      breaks_off b left left' (g.heard ++ piece) g.asked g.written s [] None [] []
      (front_same b (g.heard ++ piece) (g.asked ++ []) g.asked (g.written ++ []) g.written s [] None (sym (append-nil g.asked)) (sym (append-nil g.written)) (still_answered piece [] [] h.0 refl refl))
      (refl, refl)
  ended_at_hearing served.NoMemory raised piece framer' are h = ended_at_piece raised piece are

  on_at_input : (piece : List ℕ) (framer' : FramerState) (s' : State) (a : List Asked) (x : List ℕ) → All (λ byte. byte < 256) piece → IsHeard mid piece left'
      → asks' ≡ between ++ a → Writes halfway wrote' x
      → (frames : List Frame) → Splits (g.heard ++ piece) (g.front ++ frames) framer'.held → framer'.refusal ≡ None → Exchanges frames s a x s' → IsGoingOn b left left' asks asks' wrote wrote' framer' s'
  on_at_input piece framer' s' a x are heard is writes frames splits unrefused exchanges = record {
    heard = g.heard ++ piece;
    front = g.front ++ frames;
    asked = g.asked ++ a;
    written = g.written ++ x;
    is_heard = heard_more left mid left' g.heard piece g.is_heard heard;
    are_bytes = All-append (λ byte. byte < 256) g.heard piece g.are_bytes are;
    is_asked = is ∙ ap (λ (zs : List Asked). zs ++ a) g.is_asked ∙ append_assoc asks g.asked a;
    is_written = writes_more wrote halfway wrote' g.written x g.is_written writes;
    splits = splits;
    unrefused = unrefused;
    exchanges = exchanges_more g.front frames (fresh b) s s' g.asked a g.written x g.exchanges exchanges;
  }

-- ---- the loop

-- these bytes came, with which that came of the peer
abbrev IsHearing : (mid left' : Option (List ℕ)) → Result Input Served → FramerState → FramerState → Type 0
IsHearing mid left' input framer framer' = (piece : List ℕ) × All (λ byte. byte < 256) piece × IsHeard mid piece left' × IsInput input piece mid left' framer framer'

module _ (b : Book) (left mid : Option (List ℕ)) (asks between : List Asked) (wrote halfway : Option (List ℕ)) (framer : FramerState) (s : State)
    (g : IsGoingOn b left mid asks between wrote halfway framer s) where
  pub ended_unheard : (end : Served) (raised : Bool) (left' wrote' : Option (List ℕ)) (framer' : FramerState) → IsHearing mid left' (Err end) framer framer' → wrote' ≡ halfway
      → IsConversation b left left' asks between wrote wrote' raised end
  ended_unheard end raised left' wrote' framer' h same =
      over b left mid left' asks between between wrote halfway wrote' framer s g end raised h.0 [] [] h.2 (sym (append-nil between)) (writes_still halfway wrote' same)
      (ended_at_hearing b left mid left' asks between between wrote halfway wrote' framer s g end raised h.0 framer' h.1 h.3)

  ended_heard_at : (end : Served) (raised : Bool) (left' wrote' : Option (List ℕ)) (asks' : List Asked) (framer' : FramerState) (s' : State) (input : Input) → IsHearing mid left' (Ok input) framer framer'
      → Steps (λ a x. ServesInput (Some end) raised input s a x s') between asks' halfway wrote' → IsConversation b left left' asks asks' wrote wrote' raised end
  ended_heard_at end raised left' wrote' asks' framer' s' input h steps =
      over b left mid left' asks between asks' wrote halfway wrote' framer s g end raised h.0 steps.asked steps.bytes h.2 steps.is_asked steps.writes
      (ended_at_input b left mid left' asks between asks' wrote halfway wrote' framer s g end raised input h.0 framer' s' steps.asked steps.bytes h.3 steps.comes_to)

  pub ended_heard : (end : Served) (raised : Bool) (left' left'' half wrote' : Option (List ℕ)) (asks' : List Asked) (framer' : FramerState) (s' : State) (input : Input) → IsHearing mid left' (Ok input) framer framer'
      → half ≡ halfway → left'' ≡ left' → Steps (λ a x. ServesInput (Some end) raised input s a x s') between asks' half wrote' → IsConversation b left left'' asks asks' wrote wrote' raised end
  ended_heard end raised left' left'' half wrote' asks' framer' s' input h same unread steps =
      let P : Option (List ℕ) → Type 0 = λ o. IsConversation b left o asks asks' wrote wrote' raised end in
      let Q : Option (List ℕ) → Type 0 = λ o. Steps (λ a x. ServesInput (Some end) raised input s a x s') between asks' o wrote' in
      subst P (sym unread) (ended_heard_at end raised left' wrote' asks' framer' s' input h (subst Q same steps))

  goes_on_frames : (raised : Bool) (left' wrote' : Option (List ℕ)) (asks' : List Asked) (framer' : FramerState) (s' : State) (d : Decoded) (refusal : Option FrameError) (piece : List ℕ) (a : List Asked) (x : List ℕ)
      → All (λ byte. byte < 256) piece → IsHeard mid piece left' → Reads (framer.held ++ piece) d.frames framer'.held refusal → framer'.refusal ≡ None → asks' ≡ between ++ a → Writes halfway wrote' x
      → Exchanges d.frames s a x s' → refusal ≡ None → IsGoingOn b left left' asks asks' wrote wrote' framer' s'
  goes_on_frames raised left' wrote' asks' framer' s' d refusal piece a x are heard reads unrefused is writes exchanges none =
      let P : Option FrameError → Type 0 = λ r. Reads (g.heard ++ piece) (g.front ++ d.frames) framer'.held r in
      on_at_input b left mid left' asks between asks' wrote halfway wrote' framer s g piece framer' s' a x are heard is writes d.frames
      (subst P none (reads_on b left mid left' asks between asks' wrote halfway wrote' framer s g piece framer'.held d.frames refusal reads)) unrefused exchanges

  goes_on_at : (raised : Bool) (left' wrote' : Option (List ℕ)) (asks' : List Asked) (framer' : FramerState) (s' : State) (input : Input) (piece : List ℕ) (a : List Asked) (x : List ℕ)
      → All (λ byte. byte < 256) piece → IsHeard mid piece left' → IsInput (Ok input) piece mid left' framer framer' → asks' ≡ between ++ a → Writes halfway wrote' x
      → ServesInput None raised input s a x s' → IsGoingOn b left left' asks asks' wrote wrote' framer' s'
  goes_on_at raised left' wrote' asks' framer' s' (inputs.Frames d) piece a x are heard is asked writes h =
      goes_on_frames raised left' wrote' asks' framer' s' d d.refusal piece a x are heard is.0 (is.1 h.1) asked writes h.0 h.1
  goes_on_at raised left' wrote' asks' framer' s' inputs.Idle piece a x are heard is asked writes h =
      let P : FramerState → Type 0 = λ f. IsGoingOn b left left' asks asks' wrote wrote' f s' in
      let Q : List Frame → Type 0 = λ fs. Splits (g.heard ++ piece) fs framer.held in
      subst P (sym is.1)
      (on_at_input b left mid left' asks between asks' wrote halfway wrote' framer s g piece framer s' a x are heard asked writes []
      (subst Q (sym (append-nil g.front)) (reads_still b left mid left' asks between asks' wrote halfway wrote' framer s g piece is.0)) g.unrefused h)
  goes_on_at raised left' wrote' asks' framer' s' inputs.End piece a x are heard is asked writes h = absurd h

  pub goes_on_heard : (raised : Bool) (left' left'' half wrote' : Option (List ℕ)) (asks' : List Asked) (framer' : FramerState) (s' : State) (input : Input) → IsHearing mid left' (Ok input) framer framer'
      → half ≡ halfway → left'' ≡ left' → Steps (λ a x. ServesInput None raised input s a x s') between asks' half wrote' → IsGoingOn b left left'' asks asks' wrote wrote' framer' s'
  goes_on_heard raised left' left'' half wrote' asks' framer' s' input h same unread steps =
      let P : Option (List ℕ) → Type 0 = λ o. IsGoingOn b left o asks asks' wrote wrote' framer' s' in
      let W : Option (List ℕ) → Type 0 = λ o. Writes o wrote' steps.bytes in
      subst P (sym unread) (goes_on_at raised left' wrote' asks' framer' s' input h.0 steps.asked steps.bytes h.1 h.2 h.3 steps.is_asked (subst W same steps.writes) steps.comes_to)

  -- nothing more was done, for want of memory
  pub ended_unserved : (raised : Bool) → IsConversation b left mid asks between wrote halfway raised served.NoMemory
  ended_unserved raised =
      over b left mid mid asks between between wrote halfway halfway framer s g served.NoMemory raised [] [] [] (heard_none mid) (sym (append-nil between)) (writes_none halfway)
      (ended_at_hearing b left mid mid asks between between wrote halfway halfway framer s g served.NoMemory raised [] framer (All-nil (λ byte. byte < 256)) refl)

-- a connection that did not begin
pub ended_unbegun : (b : Book) (left : Option (List ℕ)) (asks : List Asked) (wrote : Option (List ℕ)) (raised : Bool) → IsConversation b left left asks asks wrote wrote raised served.NoMemory
ended_unbegun b left asks wrote raised = ended_unserved b left left asks asks wrote wrote fresh_framer (fresh b) (begins b left asks wrote (fresh b) refl) raised

pub input_is_sound : (input : Input) (piece : List ℕ) (left left' : Option (List ℕ)) (framer framer' : FramerState) → IsInput (Ok input) piece left left' framer framer' → IsSound input
input_is_sound (inputs.Frames d) piece left left' framer framer' h = h.2
input_is_sound inputs.Idle piece left left' framer framer' h = tt
input_is_sound inputs.End piece left left' framer framer' h = tt
