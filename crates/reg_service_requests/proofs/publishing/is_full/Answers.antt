use Rattle.reg_service_requests.proofs.publishing.is_full.Goals as goal

pub returns : goal.returns
returns g c = c.reaches_crates.ensures
