use Rattle.std.proofs.Common.{ℕ, sym, subst}
use Rattle.gltf_access.specs.Flat.{IsFlatIn}
use Rattle.gltf_access.proofs.Sizes.{sized}
use Rattle.gltf_access.proofs.flat.write_bytes.Goals as goal

pub returns : goal.returns
returns g c =
    let a = c.args.accessor.inner in
    subst (λ (n : ℕ). IsFlatIn (λ b o. goal.F-post g c.args.get_buffer_data.now b o) n
    a.document.now a.json.now c.of_type.result c.args.out.now c.of_type.new.out)
    (sym (sized a.json.now c.data_type.result c.dimensions.result c.data_type.ensures
    c.dimensions.ensures))
    c.of_type.ensures
