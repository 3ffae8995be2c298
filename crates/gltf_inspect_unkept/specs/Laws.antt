-- Where nothing is found of the extensions of objects of which no record keeps them.
use Rattle.std.specs.Prelude.{◌≡◌, ◌==◌, List, [], ◌∷◌, length, Bool, true, ◌&&◌, is_none}
use Rattle.serde_json.specs.Data.{Data}
use Rattle.gltf_json.specs.declared.root.Root.{Root}
use Rattle.gltf_json_geometry.specs.declared.accessor.Accessor.{Accessor}
use Rattle.gltf_findings.specs.Checks.{findings_of}
use Rattle.gltf_inspect_unkept.specs.Documents.{unkept_checks}

abbrev pub FindsNothing : Data → Type 0
FindsNothing d = findings_of [] (unkept_checks d) ≡ []

abbrev pub none_is_sparse : List Accessor → Bool
none_is_sparse [] = true
none_is_sparse (a ∷ more) = is_none a.sparse && none_is_sparse more

-- a document has no animation, and no accessor with a sparse part
abbrev pub has_none : Root → Bool
has_none r = (length r.animations.items == 0) && none_is_sparse r.accessors.items
