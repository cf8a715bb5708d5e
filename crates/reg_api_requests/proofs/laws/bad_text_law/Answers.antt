use Rattle.std.proofs.Common.{ap}
use Rattle.std.proofs.lemmas.Bool.{cond-false}
use Rattle.std.specs.Str.{is_utf8}
use Rattle.reg_names.specs.Names.{is_name, name_at}
use Rattle.reg_versions.specs.Versions.{is_version}
use Rattle.reg_api_requests.proofs.laws.bad_text_law.Goals as goal

pub returns-clause-name : goal.returns-clause-name
returns-clause-name c = λ b bad. ap is_name (cond-false (is_utf8 b) _ _ bad)

pub returns-clause-version : goal.returns-clause-version
returns-clause-version c = λ b bad. ap is_version (cond-false (is_utf8 b) _ _ bad)

pub returns-clause-path : goal.returns-clause-path
returns-clause-path c = λ b bad. ap name_at (cond-false (is_utf8 b) _ _ bad)
