use Rattle.std.proofs.Common.{rules}
use Rattle.std.specs.Prelude.{slice_get}
use Rattle.gltf_read.specs.Indices.{AreIndices}
use Rattle.gltf_read.specs.Kinds.{OfKind, indices}
use Rattle.gltf_read.specs.Members.{primitive_at}
use Rattle.gltf_read.specs.Reading.{IsMember}
use Rattle.gltf_scene.specs.Meshes.{primitive_handle}
use Rattle.gltf.specs.Shown.{bytes_of_each}
use Rattle.gltf.specs.Primitives.{stored_at}
use Rattle.gltf.proofs.Vertices.{of_found, fresh_indices, FreshIndices}
use Rattle.gltf.proofs.primitives.imported_indices.Goals as goal

pub returns-clause-indices : goal.returns-clause-indices
returns-clause-indices c =
    let r = c.args.document.now in
    let answer = slice_get (bytes_of_each c.args.buffers.now) in
    let p = primitive_handle c.in_ok-primitive.primitive in
    of_found primitive_handle
    (λ d i. IsMember (OfKind indices AreIndices) d answer i c.read_indices.result)
    (λ x. x.indices) r
    (primitive_at r c.args.mesh c.args.primitive) c.in_ok-primitive.primitive
    c.in_ok-primitive.ensures
    (c.typed_indices_are_by_answers.ensures indices p.document answer
    (λ b given i is gave. search rules) (p.json.indices) c.read_indices.result
    c.read_indices.ensures)

pub returns-clause-fresh : goal.returns-clause-fresh
returns-clause-fresh c =
    let r = c.args.document.now in
    let p = primitive_handle c.in_ok-primitive.primitive in
    of_found primitive_handle (λ d i. FreshIndices (stored_at d i) c.read_indices.result)
    (λ x. x.indices) r
    (primitive_at r c.args.mesh c.args.primitive) c.in_ok-primitive.primitive
    c.in_ok-primitive.ensures
    (fresh_indices indices _ p.document p.json.indices c.read_indices.result
    c.read_indices.ensures)
