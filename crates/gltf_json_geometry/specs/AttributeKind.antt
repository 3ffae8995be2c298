-- The kind of the attributes of a primitive.
use Rattle.std.specs.Prelude.{ℕ, List, map, string_bytes}
use Rattle.std.proofs.lemmas.Map.Lookups.{map_keys}
use Rattle.gltf_json_record.specs.Kind.{Kind}
use Rattle.gltf_json_record.specs.MemberLaws.{pair_alike}
use Rattle.gltf_json_geometry.specs.Attributes.{FitAttributes, AreAttributes, AttributeFault}
use Rattle.gltf_json_geometry.specs.AttributeLaws.{attributes_apart, attributes_either, known_alike}
use Rattle.gltf_json_geometry.specs.AttributeLaws.{names_alike}
use Rattle.gltf_json_geometry.specs.Semantics.{semantic_name}
use Rattle.gltf_json_geometry.specs.declared.attributes.Attributes.{Attributes}

-- the attributes show their names and indices, in the order of their meanings, and the unknown
-- names
unfoldable pub attributes : Kind Attributes
attributes = record {
  is = AreAttributes;
  fits = FitAttributes;
  fault = AttributeFault;
  Content = List (List ℕ × ℕ) × List (List ℕ);
  content = λ a. (map_keys semantic_name a.known.entries, map string_bytes a.unknown.items);
  needs = λ d a is. is.fit;
  apart = attributes_apart;
  either = attributes_either;
  alike = λ d a b x y. pair_alike (known_alike d a b x y) (names_alike d a b x y);
}
