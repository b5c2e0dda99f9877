-- Responses that have a word, and what a client is told in the place of the others: who makes a frame of a response looks at that,
-- and at its whole length.
use Rattle.std.specs.Prelude.{◌≡◌, ◌⊎◌}
use Rattle.response_bodies.specs.Spelling.{Fits}
use Rattle.response_bodies.specs.declared.response.Response.{Response}
use Rattle.session_v4.specs.Refusals.{invalid_error}
use Rattle.session_v4.specs.declared.reason.Reason.TheVariants.{NoWord}

-- kept closed where it is carried through code: what fits is long to write out
unfoldable pub HasWord : Response → Type 0
HasWord r = Fits r

abbrev pub wordless : Response
wordless = invalid_error NoWord

-- the response that is due, or another where it has no word
abbrev pub IsWorded : Response → Response → Type 0
IsWorded due r = (HasWord due × (r ≡ due)) ⊎ ((HasWord due → ⊥) × (r ≡ wordless))
