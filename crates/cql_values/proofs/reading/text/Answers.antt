-- ASCII and UTF-8 are text.
use Rattle.std.proofs.Common.{sym, subst}
use Rattle.std.specs.Str.{IsUtf8}
use Rattle.std.proofs.lemmas.Bool.{false≢true}
use Rattle.cql_values.proofs.Columns.{text_utf8}
use Rattle.cql_values.proofs.reading.text.Goals as goal

pub unreachable-requires : goal.unreachable-requires
unreachable-requires c =
    false≢true (c.in-Err.ensures.succeeds (subst IsUtf8 (sym c.in_ok-bytes.ensures) (text_utf8 c.args.ty c.in_ok-content.content c.requires c.in_ok-content.ensures.1.0)))
