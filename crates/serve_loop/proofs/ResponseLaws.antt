-- Responses that are always there to be sent, and what is due for frames.
use Rattle.std.proofs.Common.{◌≡◌, ◌<◌, ◌^◌, ℕ, ℤ, inl, inr, List, [], length, take, Option, Some, None, Result, Ok, Err, IfOk, MatchOption, refl, sym, ◌∙◌, subst, arith}
use Rattle.frame_v4.specs.Spelling.{response_bytes}
use Rattle.frame_v4.specs.declared.error.FrameError.{FrameError}
use Rattle.frame_v4.specs.declared.error.FrameError.TheVariants as framing
use Rattle.response_bodies.specs.Spelling.{body}
use Rattle.response_bodies.specs.declared.response.Response.{Response}
use Rattle.session_v4.specs.Refusals.{frame_text, protocol_error, stream_of}
use Rattle.session_v4.specs.Words.{HasWord, wordless}
use Rattle.session_v4.specs.Sessions.{IsClosed}
use Rattle.session_v4.specs.declared.act.Act.{Act}
use Rattle.session_v4.specs.declared.act.Act.TheVariants as acts
use Rattle.serve_loop.specs.Conversations.{IsRefusal}
use Rattle.serve_loop.specs.Exchanges.{FitsFrame, AreBytesOf, frame_of}
use Rattle.serve_loop.specs.Steps.{SendsAll, SendsFront, TellsFront, TellsFault}
use Rattle.serve_loop.specs.declared.served.Served.TheVariants as served
use Rattle.serve_loop.proofs.WriteLaws.{writes_still}

-- ---- what can be sent

pub wordless_fits : FitsFrame wordless
unfolding FitsFrame HasWord
wordless_fits = ((omega arith, tt), omega arith)

refusal_fits : (error : FrameError) → FitsFrame (protocol_error (frame_text error))
unfolding FitsFrame HasWord
refusal_fits (framing.Version byte) = ((omega arith, tt), omega arith)
refusal_fits (framing.Compressed stream) = ((omega arith, tt), omega arith)
refusal_fits (framing.TooLong stream count) = ((omega arith, tt), omega arith)
refusal_fits (framing.NegativeLength stream count) = ((omega arith, tt), omega arith)
refusal_fits framing.NoMemory = ((omega arith, tt), omega arith)

refusal_of : (error : FrameError) (act : Act) (response : Response) (stream : ℤ) (bytes : List ℕ) → act ≡ acts.Close response → IsClosed error act → stream ≡ stream_of error → AreBytesOf stream response bytes → IsRefusal error bytes
refusal_of error act response stream bytes is due same are =
    record { response = response; due = sym is ∙ due; are_bytes = subst (λ (n : ℤ). AreBytesOf n response bytes) same are }

-- a refusal of which nothing was written
pub refusal_untold : (error : FrameError) → TellsFront error []
refusal_untold error =
    let response : Response = protocol_error (frame_text error) in
    record {
      whole = response_bytes (frame_of (stream_of error) response);
      count = 0;
      is_refusal = record { response = response; due = refl; are_bytes = record { sent = response; is_sent = inl (refusal_fits error, refl); spelled = refl } };
      short = omega arith;
      front = refl;
    }

-- ---- how a connection closes

module _ (error : FrameError) (act : Act) (response : Response) (stream : ℤ) (before after : Option (List ℕ)) (is : act ≡ acts.Close response) (due : IsClosed error act) (same : stream ≡ stream_of error) where
  pub closed : SendsAll before after stream response → TellsFault served.Closed error before after
  closed sent = record { bytes = sent.bytes; writes = sent.writes; closes = refusal_of error act response stream sent.bytes is due same sent.are_bytes }

  pub closed_in_part : SendsFront before after stream response → TellsFault served.LinkFault error before after
  closed_in_part sent = record {
    bytes = take sent.writes.count sent.bytes;
    writes = sent.writes.front;
    closes = record {
      whole = sent.bytes;
      count = sent.writes.count;
      is_refusal = refusal_of error act response stream sent.bytes is due same sent.are_bytes;
      short = sent.writes.short;
      front = refl;
    };
  }

pub closed_untold : (error : FrameError) (before after : Option (List ℕ)) → after ≡ before → TellsFault served.NoMemory error before after
closed_untold error before after same = record { bytes = []; writes = writes_still before after same; closes = refusal_untold error }

-- ---- what is sent for a response

body_of_fits : (r : Response) (b : List ℕ) → FitsFrame r → b ≡ body r → length b < 2 ^ 31
unfolding FitsFrame
body_of_fits r b fits is = subst (λ (x : List ℕ). length x < 2 ^ 31) (sym is) fits.1

-- a body that was found is short
pub body_is_short : (found : Option (List ℕ)) (r : Response) (b : List ℕ) → found ≡ Some b → MatchOption found (FitsFrame r → ⊥) (λ b. FitsFrame r × (b ≡ body r)) → length b < 2 ^ 31
body_is_short found r b is h =
    let P : Option (List ℕ) → Type 0 = λ o. MatchOption o (FitsFrame r → ⊥) (λ b. FitsFrame r × (b ≡ body r)) in
    let at_body : FitsFrame r × (b ≡ body r) = subst P is h in body_of_fits r b at_body.0 at_body.1

pub none_found : (found : Option (List ℕ)) (r : Response) → found ≡ None → MatchOption found (FitsFrame r → ⊥) (λ b. FitsFrame r × (b ≡ body r)) → FitsFrame r → ⊥
none_found found r is h =
    let P : Option (List ℕ) → Type 0 = λ o. MatchOption o (FitsFrame r → ⊥) (λ b. FitsFrame r × (b ≡ body r)) in subst P is h

pub wordless_sent : {E : Type 0} (r : Result (List ℕ) E) (stream : ℤ) (due : Response) → (FitsFrame due → ⊥) → IfOk r (λ bytes. bytes ≡ response_bytes (frame_of stream wordless)) → IfOk r (AreBytesOf stream due)
wordless_sent (Ok bytes) stream due not_fits is = record { sent = wordless; is_sent = inr (not_fits, refl); spelled = is }
wordless_sent (Err e) stream due not_fits is = tt
