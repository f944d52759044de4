-- Between whom a call is. Words: is_at; is_between.
use Rattle.std.specs.Prelude.{ℕ, List, Bool, true, ◌==◌, ◌&&◌, ◌||◌, Option, Some, None}
use Rattle.std.specs.Str.{bytes_eq}
use Rattle.rohc_header.specs.declared.fields.Static.{Static}
use Rattle.rohctl_survey.specs.declared.address.Endpoint.{Endpoint}

-- a port, where each is as good if none is wanted
abbrev pub is_port : Option ℕ → ℕ → Bool
is_port (Some wanted) port = wanted == port
is_port None port = true

-- an address and a port are those of an endpoint
abbrev pub is_at : Endpoint → List ℕ → ℕ → Bool
is_at endpoint address port = bytes_eq endpoint.address address && is_port endpoint.port port

-- the endpoints are the source and the destination
abbrev pub leads : Endpoint → Endpoint → Static → Bool
leads from to fixed =
    is_at from fixed.source fixed.source_port && is_at to fixed.destination fixed.destination_port

-- a call has this end, and the other too if one is wanted, in either direction
abbrev pub is_between : Endpoint → Option Endpoint → Static → Bool
is_between first (Some second) fixed = leads first second fixed || leads second first fixed
is_between first None fixed =
    is_at first fixed.source fixed.source_port || is_at first fixed.destination fixed.destination_port
