use Rattle.std.proofs.Common.{Some, refl, inl, rules}
use Rattle.std.specs.BTreeMap.{Updates, IsOrdered}
use Rattle.gltf_json_geometry.proofs.Orders.{stated}
use Rattle.gltf_json_geometry.proofs.attributes.Attributes.put.Goals as goal

pub returns-in_ok-insert-in-Some : goal.returns-in_ok-insert-in-Some
returns-in_ok-insert-in-Some c = inl (record {
  semantic = c.in-Some.semantic;
  named = search rules;
  known = stated (λ R. Updates R c.args.self.now.known c.insert.new.self c.in-Some.semantic
      (Some c.args.index)) c.in_ok-insert-in-Some.ensures.updates;
  ordered = stated (λ R. IsOrdered R c.insert.new.self) c.in_ok-insert-in-Some.ensures.ordered;
  unknown = refl;
})
