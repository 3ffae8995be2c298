use Rattle.std.proofs.Common.{◌≡◌, [], replicate, length, false, sym}
use Rattle.gltf_validation.specs.Locations.{places_of}
use Rattle.gltf_inspect.proofs.Marks.{none-marked, same_parents}
use Rattle.gltf_inspect.proofs.Once.{nothing_told}
use Rattle.gltf_inspect.proofs.parents.tell_parents.Goals as goal

pub returns-then-hierarchy : goal.returns-then-hierarchy
returns-then-hierarchy c =
    let ns = c.args.nodes.now in
    sym (nothing_told (length ns) ns c.args.findings.now (places_of c.args.location.now)
    (c.requires.once c.if-hierarchy.true))

pub returns : goal.returns
returns c =
    let marks : c.in_ok-marks.marks.items ≡ replicate (length c.args.nodes.now) false =
    c.in_ok-marks.ensures.items_if_clones_equal (λ y e. e) in
    rw (
      ← same_parents (length c.args.nodes.now) [] (replicate (length c.args.nodes.now) false) 0
          c.args.nodes.now (none-marked (length c.args.nodes.now)),
      ← marks,
    )
    c.tell_marked.ensures
