use Rattle.std.proofs.Common.{◌≡◌, ◌*◌, length, drop, rules}
use Rattle.std.proofs.lemmas.List.{take_at}
use Rattle.gltf_handles.specs.Sizes.{item_size}
use Rattle.gltf_access.proofs.Flattened.{written, not_written}
use Rattle.gltf_access.proofs.flat.to_bytes.Goals as goal

pub returns-in-Ok : goal.returns-in-Ok
returns-in-Ok g c =
    let a = c.args.accessor.inner in
    let out = c.write_bytes-2.new.out in
    let room : length c.deref_mut.result.now ≡ a.json.now.count * item_size a.json.now =
    search rules in
    let same : length out ≡ c.resize.new.self.len = search rules in
    rw (take_at out (drop (length out) c.resize.new.self.items) c.resize.new.self.len same)
    (written (λ b o. goal.F-post g c.args.get_buffer_data.now b o) (item_size a.json.now)
    a.document.now a.json.now c.write_bytes-2.result c.deref_mut.result.now out room
    c.in-Ok.field-0 c.in-Ok.is c.write_bytes-2.ensures)

pub returns-in-Err : goal.returns-in-Err
returns-in-Err g c =
    let a = c.args.accessor.inner in
    let room : length c.deref_mut.result.now ≡ a.json.now.count * item_size a.json.now =
    search rules in
    not_written (λ b o. goal.F-post g c.args.get_buffer_data.now b o) (item_size a.json.now)
    a.document.now a.json.now c.write_bytes-2.result c.deref_mut.result.now
    c.write_bytes-2.new.out room
    c.in-Err.field-0 c.in-Err.is c.write_bytes-2.ensures
