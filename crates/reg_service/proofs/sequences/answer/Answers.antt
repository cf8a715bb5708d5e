use Rattle.reg_service.specs.Registries.{limits_of, tables_of}
use Rattle.reg_service.proofs.Histories.{read_command, read_request, told_command, told_request}
use Rattle.reg_service.proofs.sequences.answer.Goals as goal

pub returns-in-Request-clause-told : goal.returns-in-Request-clause-told
returns-in-Request-clause-told g c =
    told_request g.S.Store (limits_of c.args.registry.now) c.args.call.now (tables_of c.args.registry.now) (tables_of c.handle.new.self) c.in-Request.request c.handle.result c.in-Request.is c.handle.ensures.replies

pub returns-in-Command-clause-told : goal.returns-in-Command-clause-told
returns-in-Command-clause-told g c =
    told_command g.S.Store (limits_of c.args.registry.now) c.args.call.now (tables_of c.args.registry.now) (tables_of c.command.new.self) c.in-Command.command c.command.result c.in-Command.is c.command.ensures.answers

pub returns-in-Request-clause-read : goal.returns-in-Request-clause-read
returns-in-Request-clause-read g c =
    read_request g.S.Store (limits_of c.args.registry.now) c.args.call.now (tables_of c.args.registry.now) (tables_of c.handle.new.self) c.in-Request.request c.handle.result c.in-Request.is c.handle.ensures.read

pub returns-in-Command-clause-read : goal.returns-in-Command-clause-read
returns-in-Command-clause-read g c =
    read_command g.S.Store (limits_of c.args.registry.now) c.args.call.now (tables_of c.args.registry.now) (tables_of c.command.new.self) c.in-Command.command _ c.in-Command.is c.requires.fit
