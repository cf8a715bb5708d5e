-- What `serve` is told.
use Rattle.std.specs.Prelude.{◌^◌, ◌-◌, ◌==◌, ℕ, Bool, false, codes, if◌then◌else◌, Option, Some, None, option_and_then, option_map, unwrap_or}
use Rattle.std.specs.Str.{bytes_eq}
use Rattle.reg_model.specs.Registry.{Text}
use Rattle.reg_cli_args.specs.Orders.{Given, number_below, port_of}
use Rattle.reg_cli_run.specs.declared.service.Service.{Service}

-- a number among the words
abbrev pub number_in : Given → Text → Option ℕ
number_in given name = option_and_then (number_below (2 ^ 64)) (given name)

abbrev pub port_in : Given → Option ℕ
port_in given = option_and_then port_of (number_in given (codes "port"))

-- how many replies a connection has at most: one where it is not told, and not none
abbrev pub some_replies : ℕ → Option ℕ
some_replies count = if count == 0 then None else Some count

abbrev pub replies_in : Given → Option ℕ
replies_in given = option_and_then some_replies
    (number_below (2 ^ 64) (unwrap_or (given (codes "replies")) (codes "1")))

-- an option without a value: it is `true` where it stands
abbrev pub is_true : Option Text → Bool
is_true None = false
is_true (Some value) = bytes_eq value (codes "true")

abbrev pub trail_in : Given → Bool
trail_in given = is_true (given (codes "trail"))

abbrev pub service_with : Bool → ℕ → ℕ → ℕ → Service
service_with trail port connections replies =
    record { port = port; connections = connections; replies = replies; trail = trail }

-- the words tell a port, how many connections, how many replies, and whether a trail is kept
abbrev pub service_from : Given → Option Service
service_from given = option_and_then (λ port. option_and_then (λ connections.
    option_map (service_with (trail_in given) port connections) (replies_in given))
    (number_in given (codes "connections"))) (port_in given)

-- how many writes its trail takes: as many as can be counted, or none
abbrev pub writes_of : Service → ℕ
writes_of service = if service.trail then 2 ^ 64 - 1 else 0
