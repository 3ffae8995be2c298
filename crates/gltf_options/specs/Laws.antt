-- What a list of names changes: which extensions a document may require, and nothing where it
-- requires none of the list (glTF 2.0, section 3.12).
use Rattle.std.specs.Prelude.{◌≡◌, ◌↔◌, ◌⊎◌, ℕ, List, [], map, All, IsTrue, codes}
use Rattle.gltf_json_record.specs.Member.{is_one_of}
use Rattle.gltf_json.specs.Documents.{root}
use Rattle.gltf_json.specs.declared.root.Root.{Root}
use Rattle.gltf_validation.specs.declared.counts.Counts.{Counts}
use Rattle.gltf_validation.specs.Documents.{Faults, counts_of, first_members_rules}
use Rattle.gltf_validation.specs.Documents.{root_extensions_rules, supported_extensions}
use Rattle.gltf_validation.specs.Members.{member, index_rules, optional_rules, list_rules}
use Rattle.gltf_validation.specs.Rules.{Rules, ◌&◌, Hold}
use Rattle.gltf_validation.specs.Scenes.{scene_rules}
use Rattle.gltf_validation.specs.Skins.{skin_rules}
use Rattle.gltf_validation.specs.Textures.{texture_rules}
use Rattle.gltf_buffers.specs.Names.{Names}
use Rattle.gltf.specs.Import.{AcceptsWith}
use Rattle.gltf_options.specs.Besides.{IsBesides, required_of}
use Rattle.gltf_options.specs.Broken.{faults_besides}
use Rattle.gltf_options.specs.Import.{AcceptsBesides}
use Rattle.gltf_options.specs.Names.{taken_of}
use Rattle.gltf_options.specs.Places.{places_left, in_file}

-- what is accepted with nothing left out is accepted with no list, and shows the same
abbrev pub AcceptedWithNoList : Type 0
AcceptedWithNoList =
    (also : List (List ℕ)) (names : Names) (bytes : List ℕ) (r : Root) (buffers : List (List ℕ))
    → AcceptsBesides also names bytes r [] buffers
    → (s : Root) × AcceptsWith names bytes s buffers × (root.content s ≡ root.content r)

-- what is accepted with no list, and requires no name of a list, is accepted with it, as it is
abbrev pub AcceptedWithList : Type 0
AcceptedWithList =
    (also : List (List ℕ)) (names : Names) (bytes : List ℕ) (r : Root) (buffers : List (List ℕ))
    → AcceptsWith names bytes r buffers → taken_of also (required_of r) ≡ []
    → AcceptsBesides also names bytes r [] buffers

-- nothing is left out by an empty list
abbrev pub EmptyListTakesNothing : Type 0
EmptyListTakesNothing = (names : List (List ℕ)) → taken_of [] names ≡ []

-- the rules of every member but `extensionsRequired`
abbrev pub other_rules : Counts → Root → Rules
other_rules c r =
    first_members_rules c r
    & member (codes "scene") (optional_rules (index_rules c.scenes) r.scene)
    & member (codes "scenes") (list_rules (scene_rules c) r.scenes.items)
    & member (codes "skins") (list_rules (skin_rules c) r.skins.items)
    & member (codes "textures") (list_rules (texture_rules c) r.textures.items)
    & member (codes "extensions") (optional_rules (root_extensions_rules c) r.extensions)

-- the loader supports an extension
abbrev pub IsSupported : List ℕ → Type 0
IsSupported name = IsTrue (is_one_of supported_extensions name)

-- it does, or the extension is in the list
abbrev pub IsHandled : List (List ℕ) → List ℕ → Type 0
IsHandled also name = IsSupported name ⊎ IsTrue (is_one_of also name)

abbrev pub AreHandled : List (List ℕ) → List (List ℕ) → Type 0
AreHandled also names = All (IsHandled also) names

-- without the names of a list no rule is broken exactly where the rules of every other member hold,
-- and each required extension is supported or in the list
abbrev pub HoldsWhereHandled : Type 0
HoldsWhereHandled =
    (also : List (List ℕ)) (r s : Root) → IsBesides also r s
    → (Faults s ≡ []) ↔ (Hold (other_rules (counts_of r) r) × AreHandled also (required_of r))

-- the rules that a file breaks, but those of the names of a list, are those that it breaks without
-- these names, each at its place in the file
abbrev pub AreBrokenWithout : Type 0
AreBrokenWithout =
    (also : List (List ℕ)) (r s : Root) → IsBesides also r s
    → faults_besides also r ≡ map (in_file (places_left also (required_of r))) (Faults s)
