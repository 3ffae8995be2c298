-- Which bytes are accepted where the caller handles the extensions of a list, and what is wrong
-- with the others. The layers are those of `gltf`: container, text and records of the bytes as they
-- stand; then the rules and the buffers of the document without these names.
use Rattle.std.specs.Prelude.{◌≡◌, ◌⊎◌, ℕ, List, [], length, Option}
use Rattle.gltf_glb.specs.declared.error.Error.{Error}
use Rattle.gltf_json.specs.Documents.{root}
use Rattle.gltf_json.specs.declared.root.Root.{Root}
use Rattle.gltf_validation.specs.Documents.{Faults}
use Rattle.gltf_buffers.specs.Buffers.{sources_of, AreBytes, HasBufferFault}
use Rattle.gltf_buffers.specs.Errors.{NamesFault}
use Rattle.gltf_buffers.specs.Names.{Names}
use Rattle.gltf.specs.Import.{IsDocument, RefusesRecords}
use Rattle.gltf_options.specs.Besides.{IsBesides, required_of}
use Rattle.gltf_options.specs.Broken.{RefusesBesides}
use Rattle.gltf_options.specs.Names.{taken_of}

-- container, text and records hold: r is the root without the names of the list, `taken` are those
-- that it had, and blob is the binary buffer
pub record IsDocumentBesides (also : List (List ℕ)) (bytes : List ℕ) (r : Root)
    (taken : List (List ℕ)) (blob : Option (List ℕ)) : Type 0 where
  pub whole : Root
  pub document : IsDocument bytes whole blob
  pub besides : IsBesides also whole r
  pub named : taken ≡ taken_of also (required_of whole)

-- the rules of r hold too
pub record IsValidBesides (also : List (List ℕ)) (bytes : List ℕ) (r : Root)
    (taken : List (List ℕ)) (blob : Option (List ℕ)) : Type 0 where
  pub document : IsDocumentBesides also bytes r taken blob
  pub rules : Faults r ≡ []

-- all five layers hold: these are the bytes of the buffers of r
pub record AcceptsBesides (also : List (List ℕ)) (names : Names) (bytes : List ℕ) (r : Root)
    (taken buffers : List (List ℕ)) : Type 0 where
  pub blob : Option (List ℕ)
  pub valid : IsValidBesides also bytes r taken blob
  pub data_ : AreBytes names (sources_of r) blob (length (sources_of r)) buffers

-- container, text and records hold; the error has all rules that are broken without these names, at
-- the places of the file
pub record RefusesRulesBesides (also : List (List ℕ)) (bytes : List ℕ) (e : Error)
    : Type 0 where
  pub whole : Root
  pub blob : Option (List ℕ)
  pub document : IsDocument bytes whole blob
  pub fails : RefusesBesides also whole e

-- the rules hold too; the error names the fault of the first buffer with one
pub record RefusesBuffersBesides (also : List (List ℕ)) (names : Names) (bytes : List ℕ)
    (e : Error) : Type 0 where
  pub root : Root
  pub taken : List (List ℕ)
  pub blob : Option (List ℕ)
  pub valid : IsValidBesides also bytes root taken blob
  pub fails : NamesFault (HasBufferFault names (sources_of root) blob) e

-- container, text or records do not hold, or the rules do not without these names
abbrev pub RefusesDocumentBesides : List (List ℕ) → List ℕ → Error → Type 0
RefusesDocumentBesides also bytes e = RefusesRecords bytes e ⊎ RefusesRulesBesides also bytes e

-- one of these does not hold, or the buffers do not
abbrev pub RefusesImportBesides : List (List ℕ) → Names → List ℕ → Error → Type 0
RefusesImportBesides also names bytes e =
    RefusesDocumentBesides also bytes e ⊎ RefusesBuffersBesides also names bytes e

-- of no other root can these bytes be the document, but for how it lies in memory, with no other
-- names left out and no other blob
abbrev pub IsOnlyBesides : List (List ℕ) → List ℕ → Root → List (List ℕ) → Option (List ℕ)
    → Type 0
IsOnlyBesides also bytes r taken blob =
    (s : Root) (others : List (List ℕ)) (rest : Option (List ℕ))
    → IsDocumentBesides also bytes s others rest
    → (root.content s ≡ root.content r) × (others ≡ taken) × (rest ≡ blob)

-- the same of the root, the names and the bytes of the buffers
abbrev pub IsOnlyImportBesides : List (List ℕ) → Names → List ℕ → Root → List (List ℕ)
    → List (List ℕ) → Type 0
IsOnlyImportBesides also names bytes r taken buffers =
    (s : Root) (others data_ : List (List ℕ)) → AcceptsBesides also names bytes s others data_
    → (root.content s ≡ root.content r) × (others ≡ taken) × (data_ ≡ buffers)

abbrev pub IsNoValidBesides : List (List ℕ) → List ℕ → Type 0
IsNoValidBesides also bytes =
    (s : Root) (taken : List (List ℕ)) (blob : Option (List ℕ))
    → IsValidBesides also bytes s taken blob → ⊥

abbrev pub IsNotAcceptedBesides : List (List ℕ) → Names → List ℕ → Type 0
IsNotAcceptedBesides also names bytes =
    (s : Root) (taken buffers : List (List ℕ))
    → AcceptsBesides also names bytes s taken buffers → ⊥
