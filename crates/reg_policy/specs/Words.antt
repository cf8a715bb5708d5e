-- What a refusal is called: its status (RFC 9110, section 15; 431: RFC 6585, section 5) and its
-- words, of which the first is its code.
use Rattle.std.specs.Prelude.{ℕ, List, codes}
use Rattle.reg_body.specs.declared.frame.BodyFault.TheVariants as body
use Rattle.reg_body.specs.Words.{words_of as body_words}
use Rattle.reg_manifest.specs.declared.fault.ManifestFault.TheVariants as manifest
use Rattle.reg_manifest.specs.Words.{words_of as manifest_words}
use Rattle.reg_model.specs.declared.rule.Rule.{Rule}
use Rattle.reg_model.specs.declared.rule.Rule.TheVariants as rule
use Rattle.reg_model.specs.declared.rule.AdminRefusal.{AdminRefusal}
use Rattle.reg_model.specs.declared.rule.AdminRefusal.TheVariants as refusal

abbrev pub status_of : Rule → ℕ
status_of rule.H1 = 400
status_of rule.H2 = 431
status_of rule.H3 = 411
status_of rule.H4 = 400
status_of rule.H5 = 413
status_of rule.H6 = 404
status_of rule.H7 = 405
status_of rule.A1 = 401
status_of rule.A2 = 403
status_of rule.A3 = 403
status_of rule.A4 = 403
status_of rule.A6 = 403
status_of rule.A7 = 403
status_of rule.A8 = 404
status_of rule.A9 = 403
status_of rule.A10 = 404
status_of rule.B1 = 400
status_of rule.B2 = 400
status_of rule.B3 = 413
status_of rule.B4 = 400
status_of rule.B5 = 400
status_of rule.N1 = 400
status_of rule.N2 = 409
status_of rule.N3 = 409
status_of rule.V1 = 400
status_of rule.V2 = 409
status_of rule.M1 = 400
status_of rule.L1 = 409
status_of rule.L2 = 409
status_of rule.O1 = 400
status_of rule.O2 = 404
status_of rule.O3 = 400
status_of rule.O4 = 409
status_of rule.Q1 = 400
status_of rule.S1 = 503

abbrev pub text_of : Rule → List ℕ
text_of rule.H1 = codes "H1 bad request head"
text_of rule.H2 = codes "H2 request head too large"
text_of rule.H3 = codes "H3 transfer encoding not accepted"
text_of rule.H4 = codes "H4 bad content length"
text_of rule.H5 = codes "H5 request body too large"
text_of rule.H6 = codes "H6 no such route"
text_of rule.H7 = codes "H7 method not allowed"
text_of rule.A1 = codes "A1 no token"
text_of rule.A2 = codes "A2 unknown token"
text_of rule.A3 = codes "A3 token revoked"
text_of rule.A4 = codes "A4 user disabled"
text_of rule.A6 = codes "A6 endpoint not in token scope"
text_of rule.A7 = codes "A7 crate not in token scope"
text_of rule.A8 = codes "A8 no such crate"
text_of rule.A9 = codes "A9 not an owner of this crate"
text_of rule.A10 = codes "A10 no such version"
text_of rule.B1 = body_words body.Short
text_of rule.B2 = body_words body.Trailing
text_of rule.B3 = body_words body.TooLong
text_of rule.B4 = manifest_words manifest.NotJson
text_of rule.B5 = manifest_words manifest.Field
text_of rule.N1 = manifest_words manifest.Name
text_of rule.N2 = codes "N2 crate name is reserved"
text_of rule.N3 = codes "N3 crate exists under another spelling"
text_of rule.V1 = manifest_words manifest.Version
text_of rule.V2 = codes "V2 version already published"
text_of rule.M1 = manifest_words manifest.Dependency
text_of rule.L1 = codes "L1 too many versions"
text_of rule.L2 = codes "L2 too many crates"
text_of rule.O1 = codes "O1 bad owner request"
text_of rule.O2 = codes "O2 no such user"
text_of rule.O3 = codes "O3 user is not an owner"
text_of rule.O4 = codes "O4 no owner would be left"
text_of rule.Q1 = codes "Q1 bad per_page"
text_of rule.S1 = codes "S1 storage or memory"

abbrev pub admin_text_of : AdminRefusal → List ℕ
admin_text_of refusal.G1 = codes "G1 bad login or name"
admin_text_of refusal.G2 = codes "G2 login taken"
admin_text_of refusal.G3 = codes "G3 no such login"
admin_text_of refusal.G4 = codes "G4 bad pattern or crate name"
admin_text_of refusal.G5 = codes "G5 token digest taken"
admin_text_of refusal.G6 = codes "G6 no such token"
admin_text_of refusal.G7 = codes "G7 too many"
admin_text_of refusal.G8 = codes "G8 no such crate"
admin_text_of refusal.G9 = codes "G9 no endpoint"
admin_text_of refusal.G10 = codes "G10 storage or memory"
