use Rattle.std.proofs.Common.{refl}
use Rattle.gltf_lenient.proofs.options.Options.new.Goals as goal

pub returns-clause-mends : goal.returns-clause-mends
returns-clause-mends c =
    c.what_asks_for_nothing_mends_nothing.ensures _
    (record { channels = refl; attributes = refl; textures = refl })
