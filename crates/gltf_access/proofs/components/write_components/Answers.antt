use Rattle.std.proofs.Common.{◌≡◌, sym, ap, ◌∙◌}
use Rattle.gltf_access.specs.Components.{laid_out, layout_of, bare_size}
use Rattle.gltf_access.proofs.Sizes.{laid, bare_item, some_item}
use Rattle.gltf_access.proofs.Zeroed.{zeros_in, flat_written, bare_written}
use Rattle.gltf_access.proofs.components.write_components.Goals as goal

pub returns-then-is_zeros : goal.returns-then-is_zeros
returns-then-is_zeros g c =
    let a = c.args.accessor.inner in
    zeros_in (λ b o. goal.F-post g c.args.get_buffer_data.now b o) a.document.now a.json.now
    c.write_zeros.result c.args.out.now c.write_zeros.new.out c.count.result c.size.result
    c.count.ensures c.size.ensures.gives (sym c.is_zeros.ensures ∙ c.if-is_zeros.true)
    c.write_zeros.ensures

pub returns-then-padding-eq0 : goal.returns-then-padding-eq0
returns-then-padding-eq0 g c =
    let a = c.args.accessor.inner in
    let l = c.layout_of-layout.result in
    let is : l ≡ layout_of a.json.now =
    c.layout_of-layout.ensures
    ∙ ap (λ k. laid_out k c.dimensions-shape.result) c.size-component.ensures.gives
    ∙ laid a.json.now c.data_type.result c.dimensions-shape.result c.data_type.ensures
    c.dimensions-shape.ensures in
    flat_written (λ b o. goal.F-post g c.args.get_buffer_data.now b o) l a.document.now a.json.now
    c.write_bytes.result c.args.out.now c.write_bytes.new.out is c.if-padding-eq0.true
    (ap bare_size is ∙ bare_item a.json.now)
    (some_item a.json.now c.data_type.result c.dimensions-shape.result c.data_type.ensures
    c.dimensions-shape.ensures)
    (sym c.is_zeros.ensures ∙ c.if-is_zeros.false) c.write_bytes.ensures

pub returns : goal.returns
returns g c =
    let a = c.args.accessor.inner in
    let l = c.layout_of-layout.result in
    let is : l ≡ layout_of a.json.now =
    c.layout_of-layout.ensures
    ∙ ap (λ k. laid_out k c.dimensions-shape.result) c.size-component.ensures.gives
    ∙ laid a.json.now c.data_type.result c.dimensions-shape.result c.data_type.ensures
    c.dimensions-shape.ensures in
    bare_written (λ b o. goal.F-post g c.args.get_buffer_data.now b o) l a.document.now a.json.now
    c.write_matrices.result c.args.out.now c.write_matrices.new.out is
    (ap bare_size is ∙ bare_item a.json.now)
    (sym c.is_zeros.ensures ∙ c.if-is_zeros.false) c.write_matrices.ensures
