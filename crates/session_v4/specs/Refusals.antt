-- What a client is told that is refused something (native_protocol_v4.spec, section 9).
use Rattle.std.specs.Prelude.{ℕ, ℤ, pos, codes, List, ◌++◌, length}
use Rattle.std.specs.Fmt.{decimal}
use Rattle.body_notations.specs.declared.consistency.Consistency.{Consistency}
use Rattle.body_notations.specs.declared.fault.BodyError.{BodyError}
use Rattle.body_notations.specs.declared.fault.BodyError.TheVariants as body
use Rattle.cql_parser.specs.declared.error.ParseError.{ParseError}
use Rattle.cql_parser.specs.declared.error.ParseError.TheVariants as parsing
use Rattle.frame_v4.specs.declared.error.FrameError.{FrameError}
use Rattle.frame_v4.specs.declared.error.FrameError.TheVariants as framing
use Rattle.peer_messages.specs.declared.chronicle.Invalid.{Invalid as InvalidCause}
use Rattle.peer_messages.specs.declared.chronicle.Invalid.TheVariants as invalid
use Rattle.peer_messages.specs.declared.chronicle.Refusal.{Refusal}
use Rattle.peer_messages.specs.declared.chronicle.Refusal.TheVariants as refusal
use Rattle.response_bodies.specs.declared.error.ErrorCause.{ErrorCause}
use Rattle.response_bodies.specs.declared.error.ErrorCause.TheVariants as causes
use Rattle.response_bodies.specs.declared.error.WriteType.TheVariants.{Simple}
use Rattle.response_bodies.specs.declared.response.Response.{Response}
use Rattle.response_bodies.specs.declared.response.Response.TheVariants.{Error}
use Rattle.statement_plan.specs.Faults.{name_of}
use Rattle.session_v4.specs.declared.reason.Reason.{Reason}
use Rattle.session_v4.specs.declared.reason.Reason.TheVariants as reasons

abbrev pub error_of : ErrorCause → List ℕ → Response
error_of cause text = Error (record { cause = cause; text = text })

-- ---- a stream that is no stream of frames; the connection is closed

abbrev pub frame_text : FrameError → List ℕ
frame_text (framing.Version byte) = codes "bad version"
frame_text (framing.Compressed stream) = codes "compressed frame"
frame_text (framing.TooLong stream count) = codes "frame too long"
frame_text (framing.NegativeLength stream count) = codes "negative length"
frame_text framing.NoMemory = codes "no memory"

-- the stream of the response: that of the frame, if its header had one
abbrev pub stream_of : FrameError → ℤ
stream_of (framing.Version byte) = pos 0
stream_of (framing.Compressed stream) = stream
stream_of (framing.TooLong stream count) = stream
stream_of (framing.NegativeLength stream count) = stream
stream_of framing.NoMemory = pos 0

-- ---- bodies that are no requests

abbrev pub body_text : BodyError → List ℕ
body_text (body.Short at) = codes "short body"
body_text (body.Trailing count) = codes "trailing bytes"
body_text (body.BadValue n) = codes "bad value length"
body_text (body.Opcode code) = codes "bad opcode"
body_text body.BadFlag = codes "bad flag"
body_text (body.BadConsistency code) = codes "bad consistency"
body_text (body.NotUtf8 at) = codes "not utf-8"
body_text body.NoMemory = codes "no memory"

abbrev pub protocol_error : List ℕ → Response
protocol_error text = error_of causes.Protocol text

-- ---- texts that are no statements

-- where a text stops to be a statement; one of too many tokens does so at its end
abbrev pub place_of : List ℕ → ParseError → ℕ
place_of text (parsing.Char at) = at
place_of text (parsing.Unexpected at) = at
place_of text (parsing.Unclosed at) = at
place_of text parsing.TooLong = length text
place_of text parsing.NoMemory = length text

abbrev pub syntax_error : ℕ → Response
syntax_error at = error_of causes.Syntax (codes "syntax at " ++ decimal at)

-- ---- requests that ask for nothing that can be done

abbrev pub unprepared : List ℕ → Response
unprepared id = error_of (causes.Unprepared id) (codes "unprepared")

abbrev pub invalid_name : InvalidCause → List ℕ
invalid_name invalid.SerialWrite = codes "SerialWrite"
invalid_name invalid.Level = codes "Level"
invalid_name invalid.UnknownTable = codes "UnknownTable"
invalid_name invalid.PartitionTooLarge = codes "PartitionTooLarge"
invalid_name (invalid.Statement fault) = name_of fault

abbrev pub reason_name : Reason → List ℕ
reason_name (reasons.Invalid cause) = invalid_name cause
reason_name reasons.BadPaging = codes "BadPaging"
reason_name reasons.NoWord = codes "NotSupported"

abbrev pub invalid_error : Reason → Response
invalid_error reason = error_of causes.Invalid (reason_name reason)

-- ---- what a node refuses; the consistency is that of the request

abbrev pub refusal_error : Consistency → Refusal → Response
refusal_error c (refusal.Unavailable n m) =
    error_of (causes.Unavailable (record { consistency = c; required = pos n; alive = pos m })) (codes "unavailable")
refusal_error c (refusal.WriteTimeout n m) =
    error_of (causes.WriteTimeout (record { consistency = c; received = pos n; block_for = pos m; write_type = Simple })) (codes "write timeout")
refusal_error c (refusal.ReadTimeout n m present) =
    error_of (causes.ReadTimeout (record { consistency = c; received = pos n; block_for = pos m; data_present = present })) (codes "read timeout")
refusal_error c refusal.Overloaded = error_of causes.Overloaded (codes "overloaded")
refusal_error c (refusal.Invalid cause) = invalid_error (reasons.Invalid cause)
refusal_error c refusal.Down = error_of causes.Overloaded (codes "overloaded")

abbrev pub no_memory : Response
no_memory = error_of causes.Server (codes "no memory")
