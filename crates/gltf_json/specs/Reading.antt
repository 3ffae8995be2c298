-- Which bytes are the text of a value, and which errors may be answered for the others.
use Rattle.std.specs.Prelude.{◌≡◌, ℕ, List, Some, ⊤, IsUtf8}
use Rattle.serde_json.specs.Data.{Data}
use Rattle.serde_json.specs.Errors.{IsMemory}
use Rattle.serde_json.specs.Read.{read}
use Rattle.gltf_json_record.specs.declared.error.Error.{Error}
use Rattle.gltf_json_record.specs.declared.error.Error.TheVariants.{Text, Record, Memory}
use Rattle.gltf_json.specs.Documents.{root}

-- the bytes are JSON text in UTF-8, and d is its value (glTF 2.0, section 2.7, "JSON Encoding";
-- what a JSON text is, is said by the specs of `serde_json`)
abbrev pub Reads : List ℕ → Data → Type 0
Reads bytes d = IsUtf8 bytes × (read bytes ≡ Some d)

-- the error says why the bytes are no document: they are no JSON text, or the fault stands in
-- their value at that place; out of memory says nothing of them
abbrev pub Refuses : List ℕ → Error → Type 0
Refuses bytes (Text refused) = ¬ IsMemory refused × ((d : Data) → Reads bytes d → ⊥)
Refuses bytes (Record path fault) = (d : Data) × Reads bytes d × root.fault d path fault
Refuses bytes Memory = ⊤
