use Rattle.std.proofs.Common.{◌-◌, ◌∙◌, sym, arith}
use Rattle.gltf_data.specs.Iter.{counted_items}
use Rattle.gltf_access.proofs.Sizes.{ends, padding_within, last_padded}
use Rattle.gltf_access.proofs.Zeroed.{sized_in}
use Rattle.gltf_access.proofs.components.write_matrices.Goals as goal

pub overflow_sub-size : goal.overflow_sub-size
overflow_sub-size g c =
    padding_within c.args.layout c.args.apart c.requires.same c.requires.padded.some

pub returns-then-size-eq6 : goal.returns-then-size-eq6
returns-then-size-eq6 g c =
    let l = c.args.layout in
    let a = c.args.accessor.inner in
    sized_in (λ b o. goal.F-post g c.args.get_buffer_data.now b o) l a.document.now a.json.now
    c.write_padded.result c.args.out.now c.write_padded.new.out c.args.apart 6
    (λ it. (counted_items it).items) c.read-sixes.result (omega arith)
    (sym (ends l c.args.apart c.requires.same c.requires.padded.some)
    ∙ c.if-size-eq6.true)
    c.requires.same c.read-sixes.ensures c.write_padded.ensures

pub returns-then-size-eq11 : goal.returns-then-size-eq11
returns-then-size-eq11 g c =
    let l = c.args.layout in
    let a = c.args.accessor.inner in
    sized_in (λ b o. goal.F-post g c.args.get_buffer_data.now b o) l a.document.now a.json.now
    c.write_padded-then-size-eq11.result c.args.out.now c.write_padded-then-size-eq11.new.out c.args.apart 11
    (λ it. (counted_items it).items) c.read-elevens.result (omega arith)
    (sym (ends l c.args.apart c.requires.same c.requires.padded.some)
    ∙ c.if-size-eq11.true)
    c.requires.same c.read-elevens.ensures c.write_padded-then-size-eq11.ensures

pub returns : goal.returns
returns g c =
    let l = c.args.layout in
    let a = c.args.accessor.inner in
    sized_in (λ b o. goal.F-post g c.args.get_buffer_data.now b o) l a.document.now a.json.now
    c.write_padded-2.result c.args.out.now c.write_padded-2.new.out c.args.apart 22
    (λ it. (counted_items it).items) c.read-others.result (omega arith)
    (last_padded l (c.args.apart - l.padding) c.requires.padded
    (ends l c.args.apart c.requires.same c.requires.padded.some) c.if-size-eq6.false
    c.if-size-eq11.false)
    c.requires.same c.read-others.ensures c.write_padded-2.ensures
