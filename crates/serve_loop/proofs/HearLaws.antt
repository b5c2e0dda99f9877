-- What a read hears.
use Rattle.std.proofs.Common.{◌≡◌, ℕ, ◌≤◌, List, ◌++◌, length, take, drop, Option, Some, None, IfSome, sym, ◌∙◌, ap, subst, arith}
use Rattle.std.proofs.lemmas.List.{take-append-le, take_all, take-append-drop, length-take-le}
use Rattle.cs_io.specs.Links.{Hears}
use Rattle.cs_io.specs.Streams.{Takes}
use Rattle.cs_io.specs.declared.link.Heard.{Heard}
use Rattle.cs_io.specs.declared.link.Heard.TheVariants.{Bytes}
use Rattle.serve_loop.specs.Conversations.{IsHeard}

front_read : (rest buffer buffer' : List ℕ) (n : ℕ) → n ≤ length rest → buffer' ≡ take n rest ++ drop n buffer → take n buffer' ≡ take n rest
front_read rest buffer buffer' n within is =
    let long : length (take n rest) ≡ n = length-take-le n rest within in
    ap (take n) is ∙ take-append-le n (take n rest) (drop n buffer) (omega (arith, long)) ∙ take_all n (take n rest) (omega (arith, long))

heard_taken : (left left' : Option (List ℕ)) (n : ℕ) (buffer buffer' : List ℕ) → IfSome left (λ bytes. Takes n bytes buffer buffer' left') → IsHeard left (take n buffer') left'
heard_taken None left' n buffer buffer' t = tt
heard_taken (Some bytes) left' n buffer buffer' t =
    (drop n bytes, sym (take-append-drop n bytes) ∙ ap (λ (x : List ℕ). x ++ drop n bytes) (sym (front_read bytes buffer buffer' n t.within t.bytes)), t.rest)

-- the bytes that a read put into its buffer
pub heard_bytes : (heard : Heard) (n : ℕ) (left left' : Option (List ℕ)) (buffer buffer' : List ℕ) → heard ≡ Bytes n → IfSome left (λ bytes. Hears heard bytes buffer buffer' left') → IsHeard left (take n buffer') left'
heard_bytes heard n left left' buffer buffer' is h =
    let P : Heard → Type 0 = λ x. IfSome left (λ bytes. Hears x bytes buffer buffer' left') in heard_taken left left' n buffer buffer' (subst P is h)
