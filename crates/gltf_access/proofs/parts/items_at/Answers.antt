use Rattle.std.proofs.Common.{sym, subst}
use Rattle.std.specs.Prelude.{Some}
use Rattle.gltf_data.specs.Parts.{part_of}
use Rattle.gltf_access.specs.Raw.{shown, IsLent, IsRawPart}
use Rattle.gltf_access.specs.Taken.{TakesPart}
use Rattle.gltf_access.proofs.Taken.{part_taken}
use Rattle.gltf_access.proofs.parts.items_at.Goals as goal

pub returns : goal.returns
returns g c =
    let v = c.args.view.inner in
    let p = part_of v.json.now c.args.offset c.args.count g.T.Item.size in
    let lent : IsLent (λ b o. goal.F-post g c.args.get_buffer_data.now b o) v.document.now
    (Some v.json.now) (λ given. IsRawPart (Some p) given (Some (shown c.in_ok-raw.raw))) =
    subst (λ n. IsLent (λ b o. goal.F-post g c.args.get_buffer_data.now b o) v.document.now
    (Some v.json.now) (λ given. IsRawPart
    (Some (part_of v.json.now c.args.offset c.args.count n)) given
    (Some (shown c.in_ok-raw.raw)))) c.size.ensures c.in_ok-raw.ensures in
    subst (λ xs. TakesPart (λ b o. goal.F-post g c.args.get_buffer_data.now b o) g.T.Item.value
    v.document.now (Some p) (Some xs)) (sym c.new.ensures)
    (part_taken g.T.Item.value p c.items_of_a_cut.ensures (Some (shown c.in_ok-raw.raw)) lent)
