-- A step of the scan.
use Rattle.std.proofs.Common.{◌≡◌, ◌<◌, ◌≤◌, ◌+◌, ◌-◌, ℕ, List, [], ◌∷◌, ◌++◌, length, take, drop, Option, Some, None, arith, sym, ap, ◌∙◌, subst, append_assoc, append-nil, length-drop}
use Rattle.std.proofs.lemmas.List.{drop-drop, drop_all, take_rest}
use Rattle.cql_tokens.specs.Tokens.{IsScanFrom}
use Rattle.cql_tokens.specs.Scanning.{found_of}
use Rattle.cql_tokens.specs.declared.token.TokenKind.{TokenKind}
use Rattle.cql_tokens.specs.declared.token.Token.{Token}
use Rattle.cql_tokens.specs.declared.token.Stop.{Stop}
use Rattle.cql_tokens.specs.declared.token.Stop.TheVariants as stops
use Rattle.cql_tokens.specs.declared.found.Found.{Found}
use Rattle.cql_tokens.specs.declared.found.Found.TheVariants as found
use Rattle.cql_tokens.proofs.Scans.{ends_here, found_some, found_token_some, scan_gap, scan_token, stops_char, stops_unclosed}

-- whatever the tokens of the rest are, with those so far before them they are those of the text
abbrev pub Scans : List ℕ → List Token → ℕ → Type 0
Scans bytes so_far at = (tokens : List Token) (stop : Option Stop) → IsScanFrom at (drop at bytes) tokens stop → IsScanFrom 0 bytes (so_far ++ tokens) stop

pub at_rest : (bytes : List ℕ) (at : ℕ) (f g : Found) → f ≡ found_of (take (length bytes - at) (drop at bytes)) → f ≡ g → found_of (drop at bytes) ≡ g
at_rest bytes at f g is same = ap found_of (sym (take_rest bytes at)) ∙ sym is ∙ same

pub gap_advances : (bytes : List ℕ) (at n : ℕ) → found_of (drop at bytes) ≡ found.Gap n → at < length bytes → (0 < n) × (at + n ≤ length bytes)
gap_advances bytes at n is inside =
    let p = found_some (drop at bytes) n is in
    let some : 0 < n = p.0 in
    let low : n ≤ length (drop at bytes) = p.1 in
    let long = length-drop at bytes in
    (some, omega (arith, low, long, inside))

pub token_advances : (bytes : List ℕ) (at n : ℕ) (kind : TokenKind) → found_of (drop at bytes) ≡ found.Token kind n → at < length bytes → (0 < n) × (at + n ≤ length bytes)
token_advances bytes at n kind is inside =
    let p = found_token_some (drop at bytes) kind n is in
    let some : 0 < n = p.0 in
    let low : n ≤ length (drop at bytes) = p.1 in
    let long = length-drop at bytes in
    (some, omega (arith, low, long, inside))

behind : (bytes : List ℕ) (at n : ℕ) (tokens : List Token) (stop : Option Stop) → IsScanFrom (at + n) (drop (at + n) bytes) tokens stop → IsScanFrom (at + n) (drop n (drop at bytes)) tokens stop
behind bytes at n tokens stop s = subst (λ (l : List ℕ). IsScanFrom (at + n) l tokens stop) (sym (drop-drop n at bytes)) s

pub step_gap : (bytes : List ℕ) (so_far : List Token) (at n : ℕ) → found_of (drop at bytes) ≡ found.Gap n → Scans bytes so_far at → Scans bytes so_far (at + n)
step_gap bytes so_far at n is scans tokens stop s = scans tokens stop (scan_gap at n (drop at bytes) tokens stop is (behind bytes at n tokens stop s))

pub step_token : (bytes : List ℕ) (so_far : List Token) (at n : ℕ) (kind : TokenKind) → found_of (drop at bytes) ≡ found.Token kind n → Scans bytes so_far at → Scans bytes (so_far ++ record { kind = kind; start = at; end = at + n } ∷ []) (at + n)
step_token bytes so_far at n kind is scans tokens stop s =
    subst (λ (ts : List Token). IsScanFrom 0 bytes ts stop) (sym (append_assoc so_far (record { kind = kind; start = at; end = at + n } ∷ []) tokens))
    (scans (record { kind = kind; start = at; end = at + n } ∷ tokens) stop (scan_token at n kind (drop at bytes) tokens stop is (behind bytes at n tokens stop s)))

nothing_more : (bytes : List ℕ) (so_far : List Token) (at : ℕ) (stop : Option Stop) → Scans bytes so_far at → IsScanFrom at (drop at bytes) [] stop → IsScanFrom 0 bytes so_far stop
nothing_more bytes so_far at stop scans s = subst (λ (ts : List Token). IsScanFrom 0 bytes ts stop) (append-nil so_far) (scans [] stop s)

pub stop_unclosed : (bytes : List ℕ) (so_far : List Token) (at : ℕ) → found_of (drop at bytes) ≡ found.Unclosed → Scans bytes so_far at → IsScanFrom 0 bytes so_far (Some (stops.Unclosed at))
stop_unclosed bytes so_far at is scans = nothing_more bytes so_far at _ scans (stops_unclosed at (drop at bytes) is)

pub stop_char : (bytes : List ℕ) (so_far : List Token) (at : ℕ) → found_of (drop at bytes) ≡ found.Nothing → at < length bytes → Scans bytes so_far at → IsScanFrom 0 bytes so_far (Some (stops.Char at))
stop_char bytes so_far at is inside scans =
    let long = length-drop at bytes in
    nothing_more bytes so_far at _ scans (stops_char at (drop at bytes) (omega (arith, long, inside)) is)

pub stop_none : (bytes : List ℕ) (so_far : List Token) (at : ℕ) → length bytes ≤ at → Scans bytes so_far at → IsScanFrom 0 bytes so_far None
stop_none bytes so_far at done scans =
    nothing_more bytes so_far at None scans (subst (λ (l : List ℕ). IsScanFrom at l [] None) (sym (drop_all at bytes done)) (ends_here at))
