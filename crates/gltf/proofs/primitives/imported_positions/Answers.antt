use Rattle.std.proofs.Common.{rules}
use Rattle.std.specs.Prelude.{slice_get}
use Rattle.std.specs.BTreeMap.{get_by}
use Rattle.gltf_json_geometry.specs.Semantics.{semantic_cmp}
use Rattle.gltf_json_geometry.specs.declared.semantic.Semantic.TheVariants as attributes
use Rattle.gltf_read.specs.Kinds.{OfKind, three_floats}
use Rattle.gltf_read.specs.Members.{primitive_at}
use Rattle.gltf_read.specs.Reading.{AreItems, IsMember}
use Rattle.gltf_scene.specs.Meshes.{primitive_handle}
use Rattle.gltf.specs.Primitives.{stored_at}
use Rattle.gltf.specs.Shown.{bytes_of_each}
use Rattle.gltf.proofs.Vertices.{of_found, fresh_items, FreshItems}
use Rattle.gltf.proofs.primitives.imported_positions.Goals as goal

pub returns-clause-positions : goal.returns-clause-positions
returns-clause-positions c =
    let r = c.args.document.now in
    let answer = slice_get (bytes_of_each c.args.buffers.now) in
    let p = primitive_handle c.in_ok-primitive.primitive in
    of_found primitive_handle
    (λ d i. IsMember (OfKind three_floats AreItems) d answer i c.read_positions.result)
    (λ x. get_by (semantic_cmp attributes.Positions) x.attributes) r
    (primitive_at r c.args.mesh c.args.primitive) c.in_ok-primitive.primitive
    c.in_ok-primitive.ensures
    (c.typed_items_are_by_answers.ensures three_floats p.document answer
    (λ b given i is gave. search rules)
    (get_by (semantic_cmp attributes.Positions) p.json.attributes) c.read_positions.result
    c.read_positions.ensures)

pub returns-clause-fresh : goal.returns-clause-fresh
returns-clause-fresh c =
    let r = c.args.document.now in
    let p = primitive_handle c.in_ok-primitive.primitive in
    of_found primitive_handle (λ d i. FreshItems (stored_at d i) c.read_positions.result)
    (λ x. get_by (semantic_cmp attributes.Positions) x.attributes) r
    (primitive_at r c.args.mesh c.args.primitive) c.in_ok-primitive.primitive
    c.in_ok-primitive.ensures
    (fresh_items three_floats _ p.document
    (get_by (semantic_cmp attributes.Positions) p.json.attributes) c.read_positions.result
    c.read_positions.ensures)
