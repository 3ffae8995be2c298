use Rattle.std.proofs.Common.{◌≡◌, Some, rules, slice_get, subst}
use Rattle.gltf.specs.Shown.{bytes_of_each}
use Rattle.gltf_access.specs.Components.{ComponentsBy}
use Rattle.gltf_data.specs.Documents.{accessor_at}
use Rattle.gltf_c_bytes.proofs.read.read.Goals as goal

pub returns : goal.returns
returns c =
    let a = c.in-Some.accessor.inner in
    let answer = slice_get (bytes_of_each c.args.file.now.buffers.items) in
    let is : accessor_at c.args.file.now.document c.args.index ≡ Some a.json.now = search rules in
    let same : a.document.now ≡ c.args.file.now.document = search rules in
    let taken = c.write_components.ensures.taken in
    let reads : ComponentsBy answer c.args.file.now.document a.json.now
    c.write_components.ensures.items =
    subst (λ r. ComponentsBy answer r a.json.now c.write_components.ensures.items) same
    (taken.alike answer (λ b given i buffer gives. search rules)) in
    rw is (record {
      items = c.write_components.ensures.items;
      result = c.write_components.result;
      reads = reads;
      written = c.write_components.ensures.written;
      reported = c.status.ensures;
    })
