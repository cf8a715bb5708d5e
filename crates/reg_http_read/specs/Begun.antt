-- A request of which only a part was read, and what is written for it (RFC 9110, sections 9.3.2 and
-- 15.2.1; RFC 9112, section 8).
use Rattle.std.specs.Prelude.{◌≡◌, ◌⊎◌, ◌+◌, ◌<◌, Bool, if◌then◌else◌, [], ◌∷◌, length, take, codes}
use Rattle.std.specs.Str.{bytes_eq}
use Rattle.httparse.specs.Pieces.{is_newline}
use Rattle.reg_body.specs.declared.limits.Limits.{Limits}
use Rattle.reg_http_read.specs.Heads.{Facts, IsHeadAt, IsRefusedAt, IsUnfinished}
use Rattle.reg_model.specs.declared.rule.Rule.{Rule}
use Rattle.reg_model.specs.declared.rule.Rule.TheVariants as rule
use Rattle.reg_model.specs.Registry.{Text}

-- the method is HEAD: a refusal leaves its body out (RFC 9110, section 9.3.2)
abbrev pub is_head_only : Facts → Bool
is_head_only f = bytes_eq f.method (codes "HEAD")

-- the bytes behind the line ends at their front (RFC 9112, section 2.2)
abbrev pub skip_newlines : Text → Text
skip_newlines [] = []
skip_newlines (b ∷ bytes) = if is_newline b then skip_newlines bytes else b ∷ bytes

-- the request that begins in the bytes is for the method HEAD, as far as they tell
abbrev pub begins_head : Text → Bool
begins_head bytes = bytes_eq (codes "HEAD ") (take 5 (skip_newlines bytes))

-- the interim line (RFC 9110, section 15.2.1), where it is waited for
abbrev pub interim_line : Text
interim_line = codes "HTTP/1.1 100 Continue\r\n\r\n"

abbrev pub interim_if : Bool → Text
interim_if waits = if waits then interim_line else []

abbrev pub interim_of : Facts → Text
interim_of f = interim_if f.interim

-- A request that has only begun: its head is not whole, or its body is not. What was written for
-- it is its interim line.
abbrev pub IsBegun : Limits → Text → Text → Type 0
IsBegun limits rest more =
    (IsUnfinished limits rest × (more ≡ []))
    ⊎ ((f : Facts) × IsHeadAt limits rest f × (length rest < f.len + f.body_len)
    × (more ≡ interim_of f))

-- Memory was refused while a request was read: once something of it came and before anything was
-- written, or after. Where its head is whole, both tell the method alike (`first_bytes_law`).
abbrev pub HasNoRoom : Limits → Text → Text → Bool → Type 0
HasNoRoom limits rest more head_only =
    ((0 < length rest) × (more ≡ []) × (head_only ≡ begins_head rest))
    ⊎ ((f : Facts) × IsHeadAt limits rest f × (more ≡ interim_of f) × (head_only ≡ is_head_only f))

-- The rest is refused and the connection closes: for the rule that its head breaks, or for want of
-- memory; only the head of the reply is sent to a HEAD request.
abbrev pub IsRefused : Limits → Text → Text → Rule → Bool → Type 0
IsRefused limits rest more r head_only =
    (IsRefusedAt limits rest r head_only × (more ≡ []))
    ⊎ ((r ≡ rule.S1) × HasNoRoom limits rest more head_only)
