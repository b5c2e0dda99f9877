-- The definitions at worked rows: numbers where an id comes again and where a request has none, and lines.
use Rattle.std.proofs.Common.{◌≡◌, ℕ, Some, None, List, [], ◌∷◌, ◌++◌, refl}
use Rattle.std.specs.Prelude.{codes}
use Rattle.std.specs.Fmt.{digits}
use Rattle.cs_base.specs.declared.ids.ReqId.{ReqId}
use Rattle.cs_base.specs.declared.level.Level.TheVariants.{One}
use Rattle.changes.specs.declared.Query.{Query}
use Rattle.statement_plan.specs.declared.plan.Columns.TheVariants.{Count, Listed}
use Rattle.statement_plan.specs.declared.fault.Fault.TheVariants.{UnknownTable}
use Rattle.peer_messages.specs.declared.chronicle.Refusal.TheVariants.{Unavailable, Down}
use Rattle.peer_messages.specs.declared.chronicle.Invalid.TheVariants.{Statement}
use Rattle.peer_messages.specs.declared.chronicle.Entry.{Entry}
use Rattle.peer_messages.specs.declared.chronicle.Entry.TheVariants.{Asked, Acked, Began, Marks, Turned, Tables, Stopped}
use Rattle.chronicle_print.specs.Printed.{number_of, shape_of, IsInPrint, acked_line, refused_line, tables_line, stopped_line, invalid_text}

abbrev at : ℕ → ReqId
at time = record { node = 0; time = time }

-- the newest comes first: 7 came, then one without an id, then 9, then 7 again
abbrev asked : List Entry
asked = Asked (Some (at 7)) ∷ Asked (Some (at 9)) ∷ Asked None ∷ Asked (Some (at 7)) ∷ []

numbers : (number_of asked (at 7) ≡ 4) × (number_of asked (at 9) ≡ 3) × (number_of asked (at 8) ≡ 0)
numbers = (refl, refl, refl)

nothing : IsInPrint [] asked []
nothing = ([], [], ([], [], ([], [], ([], [], refl, refl, refl), refl, refl), refl, refl), refl, refl)

-- who is turned away has the number of the request that came last
lines : IsInPrint [] (Acked (at 9) One [] ∷ Turned 1 (Unavailable 2 1) ∷ asked) (refused_line 4 (Unavailable 2 1) ++ acked_line 3)
lines = (refused_line 4 (Unavailable 2 1), acked_line 3, ([], refused_line 4 (Unavailable 2 1), nothing, refl, refl), refl, refl)

-- a node stopped at the last request, is turned away at the next one, and has two tables once it runs again
stops : IsInPrint [] (Tables 1 2 ∷ Marks 1 (0 ∷ []) ∷ Turned 1 Down ∷ Asked None ∷ Stopped 1 ∷ asked) (stopped_line 1 ++ refused_line 5 Down ++ tables_line 1 2)
unfolding digits
stops =
    let stopped : IsInPrint [] (Stopped 1 ∷ asked) (stopped_line 1) = ([], stopped_line 1, nothing, refl, refl) in
    let came : IsInPrint [] (Asked None ∷ Stopped 1 ∷ asked) (stopped_line 1) = (stopped_line 1, [], stopped, refl, refl) in
    let turned : IsInPrint [] (Turned 1 Down ∷ Asked None ∷ Stopped 1 ∷ asked) (stopped_line 1 ++ refused_line 5 Down) = (stopped_line 1, refused_line 5 Down, came, refl, refl) in
    let marked : IsInPrint [] (Marks 1 (0 ∷ []) ∷ Turned 1 Down ∷ Asked None ∷ Stopped 1 ∷ asked) (stopped_line 1 ++ refused_line 5 Down) = (stopped_line 1 ++ refused_line 5 Down, [], turned, refl, refl) in
    (stopped_line 1 ++ refused_line 5 Down, tables_line 1 2, marked, refl, refl)

-- the last read of an id counts
shapes : (q r : Query) → shape_of (Began (at 9) q One Count ∷ Asked (Some (at 9)) ∷ Began (at 9) r One (Listed []) ∷ []) (at 9) ≡ Some (q.partition, Count)
shapes q r = refl

name : invalid_text (Statement UnknownTable) ≡ codes "UnknownTable"
name = refl

-- in a script's words
told : (tables_line 1 2 ≡ codes "tables 1 2" ++ 10 ∷ []) × (stopped_line 0 ≡ codes "stopped 0" ++ 10 ∷ []) × (refused_line 2 Down ≡ codes "2 down" ++ 10 ∷ [])
unfolding digits
told = (refl, refl, refl)
