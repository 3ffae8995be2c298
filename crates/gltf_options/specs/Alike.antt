-- What documents that show the same have in common: what is left of them without the names of a
-- list (glTF 2.0, section 3.12), the rules that they break then, and the bytes of their buffers
-- (section 3.6.1).
use Rattle.std.specs.Prelude.{◌≡◌, ℕ, List, length, Option}
use Rattle.gltf_json.specs.Documents.{root}
use Rattle.gltf_json.specs.declared.root.Root.{Root}
use Rattle.gltf_buffers.specs.Buffers.{BufferFault, sources_of, AreBytes, HasBufferFault}
use Rattle.gltf_buffers.specs.Names.{Names, AreKnown}
use Rattle.gltf_options.specs.Besides.{IsBesides, required_of}
use Rattle.gltf_options.specs.Broken.{faults_besides}

-- they require the same names, and what is left of them shows the same
abbrev pub AreLeftAlike : Type 0
AreLeftAlike =
    (also : List (List ℕ)) (r s a b : Root) → root.content r ≡ root.content s
    → IsBesides also r a → IsBesides also s b
    → (root.content a ≡ root.content b) × (required_of r ≡ required_of s)

-- they break the same rules but for those of these names, at the same places
abbrev pub BreakTheSameBesides : Type 0
BreakTheSameBesides =
    (also : List (List ℕ)) (r s : Root) → root.content r ≡ root.content s
    → faults_besides also r ≡ faults_besides also s

-- where it is known what names hold, their buffers have the same bytes
abbrev pub HaveOneBuffers : Type 0
HaveOneBuffers =
    (names : Names) (r s : Root) (blob : Option (List ℕ)) (buffers others : List (List ℕ))
    → AreKnown names → root.content r ≡ root.content s
    → AreBytes names (sources_of r) blob (length (sources_of r)) buffers
    → AreBytes names (sources_of s) blob (length (sources_of s)) others
    → buffers ≡ others

-- and where a buffer of the one has a fault, those of the other have no bytes
abbrev pub HaveNoBuffers : Type 0
HaveNoBuffers =
    (names : Names) (r s : Root) (blob : Option (List ℕ)) (fault : BufferFault)
    (others : List (List ℕ)) → AreKnown names → root.content r ≡ root.content s
    → HasBufferFault names (sources_of r) blob fault
    → AreBytes names (sources_of s) blob (length (sources_of s)) others → ⊥
