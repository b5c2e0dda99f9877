-- The definitions at worked rows.
use Rattle.std.proofs.Common.{◌≡◌, [], ◌∷◌, refl}
use Rattle.std.specs.Prelude.{pos, negsuc, false, codes}
use Rattle.std.specs.Fmt.{digits}
use Rattle.cs_base.specs.declared.level.Level.TheVariants as level
use Rattle.cs_store.specs.declared.mem_file.Outcome.TheVariants.{Lost, Torn}
use Rattle.cql_statement.specs.declared.statement.Statement.{Statement}
use Rattle.schema_book.specs.Books.{Book}
use Rattle.fault_script.specs.declared.script.Script.{Script}
use Rattle.fault_script.specs.declared.script.ScriptEvent.TheVariants as event
use Rattle.script_print.specs.Printed.{lines_unless, ring_line, event_line, printed}

ring : ring_line (pos 5 ∷ negsuc 2 ∷ pos 0 ∷ []) ≡ codes "ring 5 -3 0"
unfolding digits
ring = refl

-- no line for the usual number
usual : lines_unless 864000 (codes "grace") 864000 ≡ []
usual = refl

unusual : lines_unless 864000 (codes "grace") 5 ≡ codes "grace 5" ∷ []
unfolding digits
unusual = refl

put : event_line (event.Put (record { node = 1; level = level.LocalQuorum; key = codes "k"; row = codes "r"; timestamp = negsuc 0; value = codes "v=1" })) ≡ codes "put 1 LOCAL_QUORUM k r -1 v=1"
unfolding digits
put = refl

get : event_line (event.Get (record { node = 0; level = level.All; key = codes "k" })) ≡ codes "get 0 ALL k"
unfolding digits
get = refl

cql : (s : Statement) → event_line (event.Cql (record { node = 2; level = level.One; text = codes "USE  ks; "; statement = s })) ≡ codes "cql 2 ONE USE  ks; "
unfolding digits
cql s = refl

deliver : event_line (event.Deliver (record { from = 0; upto = 2; number = 10 })) ≡ codes "deliver 0 2 10"
unfolding digits
deliver = refl

drop : event_line (event.Drop (record { from = 2; upto = 0; number = 7 })) ≡ codes "drop 2 0 7"
unfolding digits
drop = refl

clock : event_line (event.Clock 1 5000001) ≡ codes "clock 1 5000001"
unfolding digits
clock = refl

mark : event_line (event.Mark 0 1 false) ≡ codes "mark 0 1 down"
unfolding digits
mark = refl

crash : event_line (event.Crash 0 Lost) ≡ codes "crash 0 lost"
unfolding digits
crash = refl

stop : event_line (event.StopAt 1 4 Torn) ≡ codes "stopat 1 4 torn"
unfolding digits
stop = refl

fail : event_line (event.FailAt 0 2) ≡ codes "failat 0 2"
unfolding digits
fail = refl

restart : event_line (event.Restart 1) ≡ codes "restart 1"
unfolding digits
restart = refl

-- a whole script, with the usual grace
abbrev small : Book → Script
small schema = record {
  ring = pos 7 ∷ negsuc 6 ∷ [];
  factor = 2;
  grace = 864000;
  expiry = 5000;
  statements = codes "USE ks" ∷ [];
  schema = schema;
  events = event.Settle 12 ∷ event.Get (record { node = 1; level = level.Quorum; key = codes "k" }) ∷ [];
}

whole : (schema : Book) → printed (small schema) ≡ codes "cassandra-script 1\nring 7 -7\nrf 2\nexpiry 5000\nschema USE ks\nrun\nsettle 12\nget 1 QUORUM k\n"
unfolding digits
whole schema = refl
