-- What is read is spelled so, and what is spelled so is read.
use Rattle.std.proofs.Common.{◌≡◌, Result, Ok, Err, IfOk, subst, List, ℕ}
use Rattle.body_notations.specs.declared.fault.BodyError.{BodyError}
use Rattle.body_notations.specs.Reading.{Answers}
use Rattle.request_bodies.specs.Reading.{request_in}
use Rattle.request_bodies.specs.Requests.{IsRequest}
use Rattle.request_bodies.specs.declared.request.Request.{Request}
use Rattle.request_bodies.proofs.Words.{request_word, request_read}
use Rattle.request_bodies.proofs.request.decode_request.Goals as goal

found : (P : Request → Type 0) (r meaning : Result Request BodyError) → Answers r meaning → ((x : Request) → meaning ≡ Ok x → P x) → IfOk r P
found P (Ok x) meaning is h = h x is
found P (Err e) meaning is h = tt

pub returns-clause-found : goal.returns-clause-found
returns-clause-found c =
    let frame = c.args.frame.now in
    found (IsRequest frame.flags frame.opcode frame.body) c.read_request.result (request_in frame.flags frame.opcode frame.body)
    (subst (λ (b : List ℕ). Answers c.read_request.result (request_in frame.flags frame.opcode b)) c.as_slice.ensures c.read_request.ensures)
    (request_word frame.flags frame.opcode frame.body)

pub returns-clause-only : goal.returns-clause-only
returns-clause-only c =
    let frame = c.args.frame.now in
    λ r word. subst (Answers c.read_request.result) (request_read frame.flags frame.opcode frame.body r word)
    (subst (λ (b : List ℕ). Answers c.read_request.result (request_in frame.flags frame.opcode b)) c.as_slice.ensures c.read_request.ensures)
