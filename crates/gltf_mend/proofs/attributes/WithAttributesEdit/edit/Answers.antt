use Rattle.std.proofs.Common.{◌≡◌, true, false, map, string_bytes, rules, ap, ◌∙◌}
use Rattle.std.proofs.lemmas.List.{map-append}
use Rattle.std.proofs.lemmas.Map.Iter.{iter_end}
use Rattle.std.specs.BTreeMap.{keys}
use Rattle.std.specs.Map.Iter.{deref}
use Rattle.serde_json.specs.View.{view}
use Rattle.gltf_edit.specs.Embedded.{without_member}
use Rattle.gltf_mend.specs.Attributes.{is_attribute}
use Rattle.gltf_mend.proofs.Named.{left_by, left_first, left_without, left_same, left_last}
use Rattle.gltf_mend.proofs.attributes.WithAttributesEdit.edit.Goals as goal

pub loop-name-init : goal.loop-name-init
loop-name-init c =
    let same : view c.in_ok-left.left ≡ view c.args.value.now = search rules in
    same ∙ left_first (view c.args.value.now)

pub loop-name-preserved-then-not-branch : goal.loop-name-preserved-then-not-branch
loop-name-preserved-then-not-branch c =
    let name = string_bytes c.in-Some-name.name.now in
    let none : is_attribute name ≡ false = search rules in
    let out : view c.without_member-left.result ≡ without_member name (view c.loop-name.left) =
    search rules in
    simp (map-append) (out ∙ ap (without_member name) c.loop-name.invariant
    ∙ left_without (map string_bytes (map deref c.loop-name.yielded)) name
    (view c.args.value.now) none)

pub loop-name-preserved : goal.loop-name-preserved
loop-name-preserved c =
    let name = string_bytes c.in-Some-name.name.now in
    let known : is_attribute name ≡ true = search rules in
    simp (map-append) (c.loop-name.invariant
    ∙ left_same (map string_bytes (map deref c.loop-name.yielded)) name
    (view c.args.value.now) known)

pub returns : goal.returns
returns c =
    let d = view c.args.value.now in
    let members = c.in-Some.members.now in
    let yielded : map deref c.loop-name.yielded ≡ keys members =
    (iter_end deref (keys members) c.loop-name.yielded c.into_iter-name-iterator.result
    c.loop-name.name-iterator c.next.new.self c.next.result
    (c.into_iter-name-iterator.ensures.into_iter_gives ∙ c.keys-name-items.ensures.rest)
    c.loop-name.yielded_by c.in-None.is c.next.ensures.steps).0 in
    c.loop-name.invariant ∙ ap (λ names. left_by (map string_bytes names) d) yielded
    ∙ left_last d members.entries (search rules)
