use Rattle.std.proofs.Common.{◌≡◌, string_bytes, ◌++◌}
use Rattle.std.specs.Str.{chars, encode_utf8_all, IsUtf8}
use Rattle.cql_parser.specs.Grammar.{unquoted, unquoted_from}
use Rattle.cql_parser.proofs.terms.unquoted.Given as goal

abbrev pub invariant-loop-c : goal.invariant-loop-c
invariant-loop-c l = record {
  content : string_bytes l.name ++ encode_utf8_all (unquoted_from l.after_quote (chars l.c-iterator.rest.now)) ≡ encode_utf8_all (unquoted (chars l.word));
  text : IsUtf8 l.c-iterator.rest.now;
}
