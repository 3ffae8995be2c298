-- The steps that lead to a place of the walk.
use Rattle.std.specs.Prelude.{List, [], ◌∷◌, ◌++◌}
use Rattle.gltf_json_record.specs.Place.{Place, named, numbered, keyed}
use Rattle.gltf_json_geometry.specs.Semantics.{semantic_name}
use Rattle.gltf_validation.specs.declared.location.Location.{Location, Whole, Member', Item'}
use Rattle.gltf_validation.specs.declared.location.Location.{Attribute', UnknownAttribute'}

abbrev pub places_of : Location → List Place
places_of Whole = []
places_of (Member' p above name) = places_of above ++ named name.now ∷ []
places_of (Item' p above i) = places_of above ++ numbered i ∷ []
places_of (Attribute' p above semantic) = places_of above ++ keyed (semantic_name semantic.now) ∷ []
places_of (UnknownAttribute' p above name) = places_of above ++ keyed name.now ∷ []
