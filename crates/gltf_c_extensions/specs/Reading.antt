-- Extensions that the loader keeps as JSON (glTF 2.0, section 3.12): which value is read, what its
-- reading is, and why there is none.
use Rattle.std.specs.Prelude.{◌≡◌, ◌⊎◌, ℕ, List, Option, Some, None, Result, Ok, Err, ⊤}
use Rattle.serde_json.specs.Data.{Data}
use Rattle.serde_json.specs.View.{view}
use Rattle.serde_json.specs.declared.value.Value.{Value}
use Rattle.gltf_json.specs.declared.root.Root.{Root}
use Rattle.gltf_json_record.specs.Kind.{Kind}
use Rattle.gltf_validation.specs.Documents.{counts_of}
use Rattle.gltf_validation.specs.Rules.{Rules, Hold}
use Rattle.gltf_validation.specs.declared.counts.Counts.{Counts}
use Rattle.gltf_c_look.specs.Json.{extension_at}
use Rattle.gltf_c_scene.specs.declared.kind.Kind.{Kind as RecordKind}
use Rattle.gltf_c_extensions.specs.declared.reading.Missing.{Missing}
use Rattle.gltf_c_extensions.specs.declared.reading.Missing.TheVariants.{Absent, Bad, Memory}

-- a reading breaks a rule in the document r
abbrev pub Breaks : {T : Type 0} → Kind T → (Counts → T → Rules) → Root → Data → Type 0
Breaks {T} K R r d = (x : T) × K.is d x × (Hold (R (counts_of r) x) → ⊥)

-- the reading of a value by a table, whose rules hold in the document r; there is none where the
-- value does not fit the table, or its reading breaks a rule
abbrev pub IsValid : {T : Type 0} → Kind T → (Counts → T → Rules) → Root → Data → Result T Missing
    → Type 0
IsValid K R r d (Ok x) = K.is d x × Hold (R (counts_of r) x)
IsValid K R r d (Err Absent) = ⊥
IsValid K R r d (Err Bad) = (K.fits d → ⊥) ⊎ Breaks K R r d
IsValid K R r d (Err Memory) = ⊤

-- the same of a value that may be absent
abbrev pub IsRead : {T : Type 0} → Kind T → (Counts → T → Rules) → Root → Option Value
    → Result T Missing → Type 0
IsRead K R r None result = result ≡ Err Absent
IsRead K R r (Some v) result = IsValid K R r (view v) result

-- what C sees of a reading
abbrev pub shown_of : {T S : Type 0} → (T → S) → Result T Missing → Result S Missing
shown_of shown (Ok x) = Ok (shown x)
shown_of shown (Err why) = Err why

-- of an extension of the record of a kind at an index, by its name
abbrev pub IsShown : {T S : Type 0} → Kind T → (Counts → T → Rules) → (T → S)
    → RecordKind → List ℕ → ℕ → Root → Result S Missing → Type 0
IsShown {T} {S} K R shown kind name index r result =
    (found : Result T Missing) × IsRead K R r (extension_at name kind index r) found
    × (result ≡ shown_of shown found)
