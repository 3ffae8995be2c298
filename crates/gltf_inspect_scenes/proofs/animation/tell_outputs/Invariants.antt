use Rattle.std.proofs.Common.{◌≡◌, drop}
use Rattle.gltf_validation.specs.Locations.{places_of}
use Rattle.gltf_findings.specs.Checks.{told_after}
use Rattle.gltf_inspect_scenes.specs.Animations.{outputs_checks}
use Rattle.gltf_inspect_scenes.proofs.animation.tell_outputs.Given as goal

-- what is left of the walk, after what was reported so far, is the whole of it
abbrev pub invariant-loop-channel : goal.invariant-loop-channel
invariant-loop-channel l =
    told_after l.findings (places_of l.location)
    (outputs_checks l.root l.samplers (drop l.channel-index l.channels))
    ≡ told_after l.initial.findings (places_of l.location)
    (outputs_checks l.root l.samplers l.channels)
