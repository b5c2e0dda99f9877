use Rattle.std.proofs.Common.{◌≡◌, drop}
use Rattle.schema_book.specs.Books.{book_of, book_from}
use Rattle.schema_book.proofs.draft.Draft.from_statements.Given as goal

-- what is left to do
abbrev pub invariant-loop-statement : goal.invariant-loop-statement
invariant-loop-statement l =
    (l.index ≡ l.statement-index)
    × (book_of l.nodes l.rf l.grace l.statements ≡ book_from l.nodes l.grace l.index l.draft (drop l.statement-index l.statements))
