use Rattle.std.proofs.Common.{◌≡◌, ◌∙◌, true, sym}
use Rattle.inspector_script.specs.ScriptFile.{may_begin, place_of}
use Rattle.inspector_script.proofs.Ports.{port_begins}
use Rattle.inspector_script.proofs.reading.Reader.port.Goals as goal

pub returns-clause-sound : goal.returns-clause-sound
returns-clause-sound c =
    let may : may_begin (place_of c.args.self.now) c.args.port ≡ true =
    sym c.may_begin.ensures ∙ c.if-not-may_begin.false in
    port_begins (place_of c.args.self.now) (place_of c.shut.new.self) c.args.port
    c.push.new.self.items c.new.result c.requires.sound c.requires.line may
    c.in_ok-shut.ensures c.in_ok-push.ensures.items c.new.ensures
