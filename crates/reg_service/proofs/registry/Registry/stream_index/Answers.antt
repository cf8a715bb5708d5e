use Rattle.reg_service.proofs.Words.{refl}
use Rattle.reg_service.proofs.Rests.{left_looked}
use Rattle.reg_service.proofs.Streams.{file_streamed}
use Rattle.reg_service.proofs.registry.Registry.stream_index.Goals as goal

pub send_file-requires : goal.send_file-requires
send_file-requires g c = record { ours = c.self.invariant.ours; second = c.self.invariant.second; room = c.requires.room }

pub returns : goal.returns
returns g c =
    let found = c.self.inside.tables in
    let it = c.send_file.ensures in
    rw (← c.self.view_is) (record {
      streams = λ clean limits s digest asked old finds.
          file_streamed g.S.Store limits s digest asked c.args.file.now old found c.send_file.new.tables finds c.self.invariant.ours it.left clean c.args.close c.send_file.result c.args.writes _ _ (it.sends clean);
      leaves = record { some = it.some; begun = it.begun; unavailable = it.stopped };
      looked = left_looked g.S.Store found c.send_file.new.tables c.self.invariant it.left;
      limits = refl;
    })
