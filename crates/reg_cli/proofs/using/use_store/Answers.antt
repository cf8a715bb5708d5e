use Rattle.reg_cli.proofs.using.use_store.Goals as goal

pub returns : goal.returns
returns g c = record { used = (c.in_ok-registry.registry, c.use_it-exit.new.registry, c.in_ok-registry.ensures.begins, c.in_ok-registry.ensures.clean, c.use_it-exit.ensures) }
