use Rattle.std.proofs.Common.{arith}
use Rattle.std.proofs.lemmas.Result.{err_from_is_err_and}
use Rattle.frame_v4.proofs.Headers.{IsBytes, read_is, passes, refused, is_partial, other_version, some_bytes}
use Rattle.frame_v4.proofs.header.request_header.Goals as goal

pub returns : goal.returns
returns c =
    let bytes = c.args.bytes.now in
    let fits : IsBytes bytes = λ i. omega (arith, c.type_inv.bytes i) in
    let is = read_is bytes _ _ fits c.from_be_bytes-stream.ensures c.from_be_bytes-body_len.ensures in
    passes bytes _ _ c.in_ok-header.ensures.0 c.in_ok-header.ensures.1 is fits (omega arith) (omega arith)

pub returns-in_err-header : goal.returns-in_err-header
returns-in_err-header c =
    let bytes = c.args.bytes.now in
    let fits : IsBytes bytes = λ i. omega (arith, c.type_inv.bytes i) in
    let is = read_is bytes _ _ fits c.from_be_bytes-stream.ensures c.from_be_bytes-body_len.ensures in
    let p = err_from_is_err_and c.from_residual.result c.from_residual.ensures.1 in
    rw (p.1, p.2) (refused bytes _ _ c.in_err-header.ensures is fits (omega arith) (omega arith))

pub returns-then-bytes-lt-HEADER_LEN : goal.returns-then-bytes-lt-HEADER_LEN
returns-then-bytes-lt-HEADER_LEN c =
    (is_partial c.args.bytes.now (some_bytes _ _ c.is_empty.ensures c.if-is_empty.false) (omega arith) (omega arith), omega arith)

pub returns-then-bytes-ne-REQUEST : goal.returns-then-bytes-ne-REQUEST
returns-then-bytes-ne-REQUEST c =
    other_version c.args.bytes.now (some_bytes _ _ c.is_empty.ensures c.if-is_empty.false) c.if-bytes-ne-REQUEST.true
