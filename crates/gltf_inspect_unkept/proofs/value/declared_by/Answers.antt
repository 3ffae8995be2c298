use Rattle.std.proofs.Common.{◌≡◌, ◌∙◌, ap, map, ℕ, List}
use Rattle.std.proofs.lemmas.Result.{IfOk-weaker}
use Rattle.std.specs.String.{string_bytes}
use Rattle.serde_json.specs.View.{view}
use Rattle.gltf_json_record.specs.Member.{is_one_of}
use Rattle.gltf_inspect_meshes.specs.Names.{has_name, is_among}
use Rattle.gltf_inspect_unkept.specs.Documents.{declared_by}
use Rattle.gltf_inspect_unkept.proofs.value.declared_by.Goals as goal

pub returns : goal.returns
returns c =
    IfOk-weaker c.of.result (λ set. has_name set ≡ is_among c.as_slice.result.now)
    (λ set. has_name set ≡ declared_by (view c.args.value.now))
    (λ set is. is ∙ ap (λ (names : List (List ℕ)). is_one_of names)
    (ap (map string_bytes) c.as_slice.ensures.value ∙ c.in_ok-names.ensures)) c.of.ensures
