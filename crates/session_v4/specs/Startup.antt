-- STARTUP and OPTIONS (native_protocol_v4.spec, sections 4.1.1, 4.1.3 and 4.2.4).
use Rattle.std.specs.Prelude.{ℕ, ◌||◌, not, Bool, true, false, codes, List, [], ◌∷◌, Option, Some, None, if◌then◌else◌}
use Rattle.std.specs.List.{list_any}
use Rattle.std.specs.Str.{bytes_eq}
use Rattle.request_bodies.specs.declared.request.Request.{Request}
use Rattle.request_bodies.specs.declared.request.Request.TheVariants as requests
use Rattle.request_bodies.specs.declared.startup.StringPair.{StringPair}
use Rattle.response_bodies.specs.declared.response.Response.{Response}
use Rattle.response_bodies.specs.declared.response.Response.TheVariants as responses

abbrev pub has_key : List ℕ → List StringPair → Bool
has_key key options = list_any (λ p. bytes_eq p.key key) options

-- the version of CQL is missing, or frames are to be compressed
abbrev pub is_bad : List StringPair → Bool
is_bad options = not (has_key (codes "CQL_VERSION") options) || has_key (codes "COMPRESSION") options

-- why a STARTUP is refused by a connection that started, or has not
abbrev pub startup_fault : Bool → List StringPair → Option (List ℕ)
startup_fault started options =
    if started then Some (codes "startup twice") else (if is_bad options then Some (codes "bad startup") else None)

-- STARTUP and OPTIONS alone may stand before STARTUP
abbrev pub needs_startup : Request → Bool
needs_startup (requests.Startup options) = false
needs_startup requests.Options = false
needs_startup _ = true

-- the one version of CQL, and no compression
abbrev pub supported : Response
supported =
    responses.Supported (
    record { name = codes "CQL_VERSION"; values = codes "3.4.0" ∷ [] } ∷ record { name = codes "COMPRESSION"; values = [] } ∷ []
    )
