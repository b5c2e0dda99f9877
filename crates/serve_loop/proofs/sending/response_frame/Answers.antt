use Rattle.std.proofs.lemmas.Int.{to_z-of_z}
use Rattle.serve_loop.proofs.ResponseLaws.{body_is_short, none_found, wordless_sent}
use Rattle.serve_loop.proofs.sending.response_frame.Goals as goal

pub framed-requires-clause-short : goal.framed-requires-clause-short
framed-requires-clause-short c = body_is_short c.in_ok-body.field-0 c.args.response.now c.in-Some.body c.in-Some.is c.in_ok-body.ensures

pub returns-in-None : goal.returns-in-None
returns-in-None c =
    let fits = c.ranges.stream in
    wordless_sent c.wordless_bytes.result c.args.stream c.args.response.now (none_found c.in_ok-body.field-0 c.args.response.now c.in-None.is c.in_ok-body.ensures) (simp to_z-of_z at c.wordless_bytes.ensures)
