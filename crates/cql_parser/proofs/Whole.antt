-- The grammar's forms are plain.
use Rattle.std.proofs.Common.{◌≡◌, true, [], refl}
use Rattle.cql_parser.specs.Forms.{reserved}
use Rattle.cql_parser.specs.Grammar.{statement, statement_body, name, names, more_names, table_name, term, relation_operator, relation, relations, column_test, more_tests, condition_body, entry_value, entry, replication, durable_writes, keyspace_body, type_word, partition_key, key, item, direction, stated_order, clustering_order, option_value, table_option, table_options, table_body, terms_in_parentheses, insert_body, assignment, update_body, delete_body, selection, order, select_body, semicolon, modifications_form, batch_body}
use Rattle.cql_parser.proofs.Plain.{plain}

pub statement_plain : plain statement [] ≡ true
unfolding reserved statement statement_body name names more_names table_name term relation_operator relation relations column_test more_tests condition_body entry_value entry replication durable_writes keyspace_body type_word partition_key key item direction stated_order clustering_order option_value table_option table_options table_body terms_in_parentheses insert_body assignment update_body delete_body selection order select_body semicolon modifications_form batch_body
statement_plain = refl
