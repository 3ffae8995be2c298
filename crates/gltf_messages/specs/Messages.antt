-- What a finding says, and where it stands.
use Rattle.std.specs.Prelude.{◌≡◌, ℕ, List, ◌++◌, ◌==◌, length, if◌then◌else◌, codes}
use Rattle.gltf_findings.specs.declared.code.Code.{Code}
use Rattle.gltf_findings.specs.Codes.{sentence}

-- the sentence of the code, and after it maybe what was found and what was wanted
abbrev pub IsSaidOf : Code → List ℕ → Type 0
IsSaidOf code says = (more : List ℕ) × (says ≡ sentence code ++ more)

-- a text with something appended
abbrev pub IsLonger : List ℕ → List ℕ → Type 0
IsLonger old new = (more : List ℕ) × (new ≡ old ++ more)

-- the pointer of the whole document is empty, and is shown as a dash
abbrev pub shown : List ℕ → List ℕ
shown pointer = if length pointer == 0 then codes "-" else pointer
