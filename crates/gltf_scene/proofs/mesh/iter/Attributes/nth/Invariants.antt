use Rattle.std.proofs.Common.{◌≡◌, ◌≤◌, drop}
use Rattle.gltf_scene.specs.Attributes.{attributes_left}
use Rattle.gltf_scene.proofs.mesh.iter.Attributes.nth.Given as goal

-- so many are passed over, and what follows them is left
abbrev pub invariant-loop-passed : goal.invariant-loop-passed
invariant-loop-passed g l =
    (goal.iterator-loop-passed g).can_next l.self × (goal.iterator-loop-passed g).is_finite l.self
    × (l.passed ≤ l.n)
    × ((attributes_left l.self).document ≡ (attributes_left l.fn.self).document)
    × ((attributes_left l.self).entries ≡ drop l.passed (attributes_left l.fn.self).entries)
