-- The heads of replies (RFC 9112, sections 4 and 5; RFC 9110, section 15).
use Rattle.std.specs.Prelude.{ℕ, ◌==◌, ◌++◌, Bool, if◌then◌else◌, [], Option, Some, None, codes, decimal}
use Rattle.reg_model.specs.declared.rule.Rule.{Rule}
use Rattle.reg_model.specs.Registry.{Text}
use Rattle.reg_model.specs.Events.{Answer}
use Rattle.reg_model.specs.Events.Answer.{Denied, Archive as archive_answer, File}
use Rattle.reg_policy.specs.Words.{status_of}
use Rattle.reg_api_replies.specs.declared.head.Kind.{Kind}
use Rattle.reg_api_replies.specs.declared.head.Kind.TheVariants as kind
use Rattle.reg_api_replies.specs.declared.head.Methods.{Methods}
use Rattle.reg_api_replies.specs.declared.head.Methods.TheVariants.{Delete, Get, GetPutDelete, Put}

-- what an answer refuses the request for
abbrev pub refusal_of : Answer → Option Rule
refusal_of (Denied r) = Some r
refusal_of _ = None

-- what the body of an answer is
abbrev pub kind_of : Answer → Kind
kind_of (File t) = kind.Text
kind_of (archive_answer t) = kind.Archive
kind_of _ = kind.Json

-- the status of a reply: that of the refusal, or success
abbrev pub code_of : Option Rule → ℕ
code_of None = 200
code_of (Some r) = status_of r

abbrev pub phrase_of : ℕ → Text
phrase_of code =
    if code == 200 then codes "OK" else
    if code == 400 then codes "Bad Request" else
    if code == 401 then codes "Unauthorized" else
    if code == 403 then codes "Forbidden" else
    if code == 404 then codes "Not Found" else
    if code == 405 then codes "Method Not Allowed" else
    if code == 409 then codes "Conflict" else
    if code == 411 then codes "Length Required" else
    if code == 413 then codes "Content Too Large" else
    if code == 431 then codes "Request Header Fields Too Large" else
    codes "Service Unavailable"

abbrev pub type_of : Kind → Text
type_of kind.Json = codes "application/json"
type_of kind.Text = codes "text/plain"
type_of kind.Archive = codes "application/octet-stream"

abbrev pub methods_text : Methods → Text
methods_text Get = codes "GET"
methods_text Put = codes "PUT"
methods_text Delete = codes "DELETE"
methods_text GetPutDelete = codes "GET, PUT, DELETE"

-- the lines that only some replies have
abbrev pub challenge_line : ℕ → Text
challenge_line code = if code == 401 then codes "www-authenticate: Cargo\r\n" else []

abbrev pub allow_line : ℕ → Option Methods → Text
allow_line code None = []
allow_line code (Some m) =
    if code == 405 then codes "allow: " ++ (methods_text m ++ codes "\r\n") else []

abbrev pub close_line : Bool → Text
close_line close = if close then codes "connection: close\r\n" else []

-- the status line, the header lines in their order, and the empty line
unfoldable pub head_text : ℕ → Kind → Option Methods → ℕ → Bool → Text
head_text status kind allow len close =
    codes "HTTP/1.1 " ++ decimal status ++ codes " " ++ phrase_of status
    ++ codes "\r\ncontent-type: " ++ type_of kind
    ++ codes "\r\ncontent-length: " ++ decimal len ++ codes "\r\n"
    ++ challenge_line status
    ++ allow_line status allow
    ++ close_line close
    ++ codes "\r\n"
