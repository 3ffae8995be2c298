use Rattle.std.proofs.Common.{◌≡◌, ◌++◌, ◌∙◌, ◌<◌, ◌^◌, ℕ, List, [], Option, ap, sym, subst, arith}
use Rattle.gltf_edit.specs.Joined.{joined}
use Rattle.gltf_glb.specs.Bytes.{bin_tag, magic, word}
use Rattle.gltf_glb.specs.Written.{json_chunk, total_of, container_bytes}
use Rattle.gltf.specs.Shown.{bytes_of_each}
use Rattle.gltf_bundle.proofs.Written.{joined_fours, some_blob, container_pieces}
use Rattle.gltf_bundle.proofs.joining.joined_container.Goals as goal

pub length_of-requires : goal.length_of-requires
length_of-requires c =
    let fours = joined_fours (bytes_of_each c.args.buffers.now) in
    let count = c.requires in
    omega arith

pub returns-clause-written : goal.returns-clause-written
returns-clause-written c =
    let json = c.args.json.now in
    let bytes = joined (bytes_of_each c.args.buffers.now) in
    let none : c.in_ok-out.out.items ≡ [] = c.in_ok-out.ensures.items in
    let some = some_blob c.args.buffers.now (grind arith) in
    let whole = c.in-Some.ensures bytes (sym c.requires) in
    let pieces : c.put_joined.new.out.items
    ≡ (((magic ++ (word 2 ++ word c.in-Some.whole)) ++ json_chunk json)
    ++ (word c.args.total ++ bin_tag)) ++ bytes =
    c.in_ok-put_joined.ensures ∙ ap (λ (t : List ℕ). t ++ bytes)
    (c.in_ok-put_blob_header.ensures ∙ ap (λ (t : List ℕ). t ++ (word c.args.total ++ bin_tag))
    (c.in_ok-put_text.ensures ∙ ap (λ (t : List ℕ). t ++ json_chunk json)
    (c.in_ok-put_header.ensures
    ∙ ap (λ (t : List ℕ). t ++ (magic ++ (word 2 ++ word c.in-Some.whole))) none))) in
    subst (λ (b : Option (List ℕ)).
    (total_of json b < 2 ^ 32) × (c.put_joined.new.out.items ≡ container_bytes json b)) (sym some) (
      whole.0,
      pieces
          ∙ container_pieces json bytes c.in-Some.whole c.args.total
          (joined_fours (bytes_of_each c.args.buffers.now)) whole.1 c.requires,
    )
