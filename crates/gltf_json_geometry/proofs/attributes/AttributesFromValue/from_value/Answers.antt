use Rattle.std.proofs.Common.{◌≡◌, map, string_bytes, rules, sym, ap, ◌∙◌}
use Rattle.std.proofs.lemmas.List.{map-append}
use Rattle.std.proofs.lemmas.Map.Iter.{iter_end}
use Rattle.std.specs.BTreeMap.{IsOrdered, keys}
use Rattle.std.specs.Map.Iter.{deref}
use Rattle.serde_json.specs.View.{view}
use Rattle.gltf_json_geometry.specs.AttributeKind.{attributes}
use Rattle.gltf_json_geometry.specs.Attributes.{names_of}
use Rattle.gltf_json_geometry.proofs.Orders.{stated}
use Rattle.gltf_json_geometry.proofs.AttributesRead.{read_none, read_absent, read_put, read_all}
use Rattle.gltf_json_geometry.proofs.AttributesRead.{names_map, no_object, no_index}
use Rattle.gltf_json_geometry.proofs.attributes.AttributesFromValue.from_value.Goals as goal

pub returns-in_default-clause-err : goal.returns-in_default-clause-err
unfolding attributes
returns-in_default-clause-err c =
    no_object (view c.args.value.now) c.wrong_kind.result (search rules) c.wrong_kind.ensures

pub loop-name-init : goal.loop-name-init
loop-name-init c = read_none (view c.args.value.now) _ c.new.ensures.empty
    (stated (λ R. IsOrdered R c.new.result) c.new.ensures.ordered) c.new-2.ensures.items

pub loop-name-preserved-in_ok-put-in-Ok : goal.loop-name-preserved-in_ok-put-in-Ok
loop-name-preserved-in_ok-put-in-Ok c =
    simp (map-append) (read_put (view c.args.value.now) (view c.in-Some-member.found.now)
    (map string_bytes (map deref c.loop-name.yielded)) (string_bytes c.in-Some-name.name.now)
    c.in-Ok.index c.loop-name.attributes c.put.new.self (search rules) c.in-Ok.ensures.ok
    (search rules) c.loop-name.invariant)

pub returns-in-Err-clause-err : goal.returns-in-Err-clause-err
unfolding attributes
returns-in-Err-clause-err c =
    no_index (view c.args.value.now) (view c.in-Some-member.found.now)
    (string_bytes c.in-Some-name.name.now) c.in-Err.error c.under.result
    (search rules) c.in-Err.ensures.err (search rules)

pub loop-name-preserved : goal.loop-name-preserved
loop-name-preserved c =
    simp (map-append) (read_absent (view c.args.value.now)
    (map string_bytes (map deref c.loop-name.yielded))
    (string_bytes c.in-Some-name.name.now) c.loop-name.attributes
    (search rules) c.loop-name.invariant)

pub returns-clause-ok : goal.returns-clause-ok
unfolding attributes
returns-clause-ok c =
    let d = view c.args.value.now in
    let members = c.in-Some.members.now in
    let yielded : map deref c.loop-name.yielded ≡ keys members =
    (iter_end deref (keys members) c.loop-name.yielded c.into_iter-name-iterator.result
    c.loop-name.name-iterator c.next.new.self c.next.result
    (c.into_iter-name-iterator.ensures.into_iter_gives ∙ c.keys-name-items.ensures.rest)
    c.loop-name.yielded_by c.in-None.is c.next.ensures.steps).0 in
    let names : names_of d ≡ map string_bytes (map deref c.loop-name.yielded) =
    names_map d members.entries (search rules) ∙ ap (map string_bytes) (sym yielded) in
    read_all d c.loop-name.attributes (search rules) (rw names c.loop-name.invariant)
