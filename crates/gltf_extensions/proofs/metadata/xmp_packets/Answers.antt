use Rattle.std.specs.Prelude.{codes}
use Rattle.std.proofs.Common.{sym, ap, ◌∙◌, List, map}
use Rattle.serde_json.specs.View.{view}
use Rattle.serde_json.specs.declared.value.Value.{Value}
use Rattle.gltf_json_record.specs.Member.{member_at}
use Rattle.gltf_extensions.proofs.Packets.{of_array}
use Rattle.gltf_extensions.proofs.metadata.xmp_packets.Goals as goal

pub returns-in-Some-as_array : goal.returns-in-Some-as_array
returns-in-Some-as_array c =
    ap (λ (vs : List Value). map view vs) c.as_slice.ensures.value
    ∙ sym (of_array (member_at (codes "packets") (view c.args.extension.now))
    (view c.in-Some.packets.now) c.in-Some-as_array.packets.now.items
    (sym c.in-Some.ensures) (sym c.in-Some-as_array.ensures))
