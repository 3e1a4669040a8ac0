use Rattle.inspector_script.specs.ScriptFile.{place_of}
use Rattle.inspector_script.proofs.Ports.{script_is_whole}
use Rattle.inspector_script.proofs.reading.Reader.finish.Goals as goal

pub new-requires : goal.new-requires
new-requires c =
    script_is_whole (place_of c.args.self) c.in-Some.block c.unwrap_or.result
    c.unwrap_or-in-Ok.result c.unwrap_or-in-Ok-2.result c.push.new.self.items c.requires
    c.in-Some.is c.unwrap_or.ensures c.in-Ok.ensures.items
