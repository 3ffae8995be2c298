-- The lists that indices point into.
use Rattle.std.specs.Prelude.{ℕ, List, [], ◌∷◌, codes}
use Rattle.gltf_validation.specs.declared.counts.Counts.{Counts}
use Rattle.gltf_uses.specs.declared.kind.Kind.{Kind}
use Rattle.gltf_uses.specs.declared.kind.Kind.TheVariants as list

-- a number for each, and no two have the same
abbrev pub number : Kind → ℕ
number list.Accessor = 0
number list.Buffer = 1
number list.Camera = 2
number list.Image = 3
number list.Light = 4
number list.Material = 5
number list.Mesh = 6
number list.Node = 7
number list.Sampler = 8
number list.Scene = 9
number list.Skin = 10
number list.Texture = 11
number list.View = 12

-- all of them, in the order of their numbers
abbrev pub all_kinds : List Kind
all_kinds =
    list.Accessor ∷ list.Buffer ∷ list.Camera ∷ list.Image ∷ list.Light ∷ list.Material ∷ list.Mesh
    ∷ list.Node ∷ list.Sampler ∷ list.Scene ∷ list.Skin ∷ list.Texture ∷ list.View ∷ []

-- the member that is the list (glTF 2.0, section 5.17, "glTF"; `KHR_lights_punctual`)
abbrev pub list_name : Kind → List ℕ
list_name list.Accessor = codes "accessors"
list_name list.Buffer = codes "buffers"
list_name list.Camera = codes "cameras"
list_name list.Image = codes "images"
list_name list.Light = codes "lights"
list_name list.Material = codes "materials"
list_name list.Mesh = codes "meshes"
list_name list.Node = codes "nodes"
list_name list.Sampler = codes "samplers"
list_name list.Scene = codes "scenes"
list_name list.Skin = codes "skins"
list_name list.Texture = codes "textures"
list_name list.View = codes "bufferViews"

-- the length of the list
abbrev pub count_of : Kind → Counts → ℕ
count_of list.Accessor c = c.accessors
count_of list.Buffer c = c.buffers
count_of list.Camera c = c.cameras
count_of list.Image c = c.images
count_of list.Light c = c.lights
count_of list.Material c = c.materials
count_of list.Mesh c = c.meshes
count_of list.Node c = c.nodes
count_of list.Sampler c = c.samplers
count_of list.Scene c = c.scenes
count_of list.Skin c = c.skins
count_of list.Texture c = c.textures
count_of list.View c = c.views
