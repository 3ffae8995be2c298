use Rattle.gltf_names.specs.Named.{named}
use Rattle.gltf_buffers.specs.Padding.{padded}
use Rattle.gltf_shared.proofs.Asked.{asked_sound}
use Rattle.gltf_shared.proofs.Noted.{none_put}
use Rattle.gltf_shared.proofs.held.Held.ask.Goals as goal

pub returns-in_ok-hold-in-Ok-clause-sound : goal.returns-in_ok-hold-in-Ok-clause-sound
returns-in_ok-hold-in-Ok-clause-sound g c =
    asked_sound (g.N.AskUpTo.names c.args.names.now) c.args.self.now c.hold.new.self
    (named c.args.name) c.in-Ok.bytes.items c.requires.sound c.in_ok-hold-in-Ok.ensures.put
    c.in-Ok.ensures.gives

pub returns-in_ok-hold-in-Ok-clause-none : goal.returns-in_ok-hold-in-Ok-clause-none
returns-in_ok-hold-in-Ok-clause-none g c = λ none.
    none_put c.args.self.now c.hold.new.self (named c.args.name) (padded c.in-Ok.bytes.items) none
    c.in_ok-hold-in-Ok.ensures.put
