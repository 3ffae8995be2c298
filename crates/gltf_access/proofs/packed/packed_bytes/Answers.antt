use Rattle.std.proofs.Common.{subst}
use Rattle.std.specs.Prelude.{option_map}
use Rattle.gltf_access.specs.Raw.{shown}
use Rattle.gltf_access.specs.Packed.{ArePackedItems}
use Rattle.gltf_access.proofs.Joined.{packed_items}
use Rattle.gltf_access.proofs.packed.packed_bytes.Goals as goal

pub returns-in-Some : goal.returns-in-Some
returns-in-Some g c =
    let a = c.args.accessor.inner in
    subst (λ o. ArePackedItems (λ b o. goal.F-post g c.args.get_buffer_data.now b o)
    a.document.now a.json.now (option_map (λ b. b.bytes) (option_map shown o))) c.in-Some.is
    (packed_items (λ b o. goal.F-post g c.args.get_buffer_data.now b o) a.document.now a.json.now
    c.requires.packed (option_map shown c.accessor_bytes.result) c.accessor_bytes.ensures)

pub returns-in-None : goal.returns-in-None
returns-in-None g c =
    let a = c.args.accessor.inner in
    subst (λ o. ArePackedItems (λ b o. goal.F-post g c.args.get_buffer_data.now b o)
    a.document.now a.json.now (option_map (λ b. b.bytes) (option_map shown o))) c.in-None.is
    (packed_items (λ b o. goal.F-post g c.args.get_buffer_data.now b o) a.document.now a.json.now
    c.requires.packed (option_map shown c.accessor_bytes.result) c.accessor_bytes.ensures)
