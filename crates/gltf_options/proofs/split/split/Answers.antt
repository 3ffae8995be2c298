use Rattle.std.proofs.Common.{◌≡◌, true, false, length, map, string_bytes, sym, ap, ◌∙◌}
use Rattle.std.proofs.lemmas.Iterator.Adapters.{YieldsList-from_vec}
use Rattle.std.proofs.lemmas.Iterator.Consumers.{YieldsList-from_enumerate, YieldsList-end}
use Rattle.gltf_json_record.specs.Member.{is_one_of}
use Rattle.gltf_options.proofs.Parted.{one_taken, one_left, all_places}
use Rattle.gltf_options.proofs.split.split.Goals as goal

-- a name of the list
pub loop-place-preserved-in-Continue-1 : goal.loop-place-preserved-in-Continue-1
loop-place-preserved-in-Continue-1 c =
    let also = map (λ k. k.now) c.args.also.now in
    let is : is_one_of also (string_bytes c.in-Some.name) ≡ true =
    ap (is_one_of also) (sym c.as_str.ensures.value) ∙ sym c.is_one_of.ensures
    ∙ c.if-is_one_of.true in
    one_taken also c.loop-place.yielded c.loop-place.left.items c.loop-place.taken.items
    c.push.new.self.items c.loop-place.places.items c.in-Some.place c.in-Some.name
    c.loop-place.invariant is c.in_ok-push.ensures.items

-- any other name
pub loop-place-preserved : goal.loop-place-preserved
loop-place-preserved c =
    let also = map (λ k. k.now) c.args.also.now in
    let is : is_one_of also (string_bytes c.in-Some.name) ≡ false =
    ap (is_one_of also) (sym c.as_str.ensures.value) ∙ sym c.is_one_of.ensures
    ∙ c.if-is_one_of.false in
    one_left also c.loop-place.yielded c.loop-place.left.items c.loop-place.taken.items
    c.push-else-is_one_of.new.self.items c.loop-place.places.items
    c.push-else-is_one_of-2.new.self.items c.in-Some.place c.in-Some.name
    c.loop-place.invariant is c.in_ok-push-2.ensures.items c.in_ok-push-3.ensures.items

pub returns-clause-places : goal.returns-clause-places
returns-clause-places c =
    let it = c.into_iter-place-iterator.result in
    let all : it.iter.rest.items ≡ c.args.names.items = cc in
    let many : it.iter.rest.len ≡ length c.args.names.items = cc in
    let first : it.count ≡ 0 = cc in
    let chain = YieldsList-from_enumerate {s = it}
    (YieldsList-from_vec {s = it.iter} c.args.names.items all many) first in
    let end = YieldsList-end chain c.loop-place.yielded c.loop-place.place-iterator
    c.loop-place.yielded_by c.next.result c.next.new.self c.in-None.is c.next.ensures.steps in
    c.loop-place.invariant.1
    ∙ all_places (map (λ k. k.now) c.args.also.now) c.loop-place.yielded c.args.names.items end.0
