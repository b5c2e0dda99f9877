-- What is read is spelled so, and what is spelled so is read.
use Rattle.std.proofs.Common.{◌≡◌, Result, Ok, Err, IfOk, subst}
use Rattle.body_notations.specs.declared.fault.BodyError.{BodyError}
use Rattle.body_notations.specs.Reading.{Answers}
use Rattle.response_bodies.specs.Reading.{response_in}
use Rattle.response_bodies.specs.Responses.{IsResponse}
use Rattle.response_bodies.specs.declared.response.Response.{Response}
use Rattle.response_bodies.proofs.Words.{response_word, response_read}
use Rattle.response_bodies.proofs.response.decode_response.Goals as goal

found : (P : Response → Type 0) (r meaning : Result Response BodyError) → Answers r meaning → ((x : Response) → meaning ≡ Ok x → P x) → IfOk r P
found P (Ok x) meaning is h = h x is
found P (Err e) meaning is h = tt

pub returns-clause-found : goal.returns-clause-found
returns-clause-found c =
    found (IsResponse c.args.opcode c.args.body.now) c.read_response.result (response_in c.args.opcode c.args.body.now) c.read_response.ensures (response_word c.args.opcode c.args.body.now)

pub returns-clause-only : goal.returns-clause-only
returns-clause-only c =
    λ r word. subst (Answers c.read_response.result) (response_read c.args.opcode c.args.body.now r word) c.read_response.ensures
