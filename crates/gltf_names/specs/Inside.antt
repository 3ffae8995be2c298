-- Names that lead nowhere but into the folder of a document: a relative reference follows that
-- folder (glTF 2.0, section 2.8), and is a path of parts (RFC 3986, sections 3.3 and 4.2).
use Rattle.std.specs.Prelude.{◌≡◌, ◌≢◌, ℕ, ◌<◌, List, [], ◌∷◌, ◌++◌, take, Bool, true, not, ◌||◌, nat_eq}
use Rattle.std.specs.Prelude.{nat_le, ◌&&◌, ◌==◌, IsTrue, All, count_by, codes, Result, Ok, Err}
use Rattle.std.specs.List.{slice_split, starts_with}
use Rattle.std.specs.Str.{bytes_eq}
use Rattle.std.specs.declared.vec.Vec.{Vec}
use Rattle.std.specs.declared.alloc.Global.{Global}
use Rattle.std.specs.IoError.{error_kind}
use Rattle.std.specs.declared.io.ErrorKind.TheVariants.{PermissionDenied}
use Rattle.gltf_names.specs.declared.name.NamedFault.{NamedFault}
use Rattle.gltf_names.specs.declared.name.NamedFault.TheVariants.{Io, Memory}
use Rattle.gltf_names.specs.declared.outside.Outside.{Outside}
use Rattle.gltf_names.specs.declared.outside.Outside.TheVariants as why
use Rattle.gltf_names.specs.Named.{Named, File, Relative}

-- a path that begins with `/` (RFC 3986, section 4.2: an absolute-path or a network-path reference)
abbrev pub IsAbsolute : List ℕ → Type 0
IsAbsolute path = IsTrue (starts_with nat_eq path (codes "/"))

-- ALPHA (RFC 3986, section 1.3)
abbrev pub is_letter : ℕ → Bool
is_letter b = (nat_le 65 b && nat_le b 90) || (nat_le 97 b && nat_le b 122)

-- ALPHA, DIGIT, `+`, `-` or `.` (RFC 3986, section 3.1)
abbrev pub is_in_scheme : ℕ → Bool
is_in_scheme b = is_letter b || (nat_le 48 b && nat_le b 57) || b == 43 || b == 45 || b == 46

-- bytes of a scheme stand at the front, and a `:` behind them
abbrev pub EndsScheme : List ℕ → Type 0
EndsScheme text =
    (more : List ℕ) × (rest : List ℕ) × (text ≡ more ++ 58 ∷ rest)
    × All (λ b. is_in_scheme b ≡ true) more

-- a scheme and a `:` stand at the front: a letter, and any number of bytes of a scheme (RFC 3986,
-- sections 3 and 3.1)
abbrev pub HasScheme : List ℕ → Type 0
HasScheme path =
    (first : ℕ) × (more : List ℕ) × (path ≡ first ∷ more) × (is_letter first ≡ true)
    × EndsScheme more

-- the parts of a path, between its slashes (RFC 3986, section 3.3: segments)
abbrev pub parts_of : List ℕ → List (List ℕ)
parts_of path = slice_split (λ b. b == 47) path

-- the part `..` leads one folder up (RFC 3986, section 3.3)
abbrev pub is_up : List ℕ → Bool
is_up part = bytes_eq part (codes "..")

-- the empty part and `.` lead nowhere, as a file system has it
abbrev pub is_still : List ℕ → Bool
is_still part = bytes_eq part [] || bytes_eq part (codes ".")

-- each other part leads one folder down, or names the file
abbrev pub is_down : List ℕ → Bool
is_down part = not (is_up part || is_still part)

-- somewhere on its way, more parts have led up than down: it is above the folder there
abbrev pub Climbs : List ℕ → Type 0
Climbs path =
    (k : ℕ) × (count_by is_down (take k (parts_of path)) < count_by is_up (take k (parts_of path)))

-- it leads out of the folder, for this reason
abbrev pub IsOutside : Outside → List ℕ → Type 0
IsOutside why.Absolute path = IsAbsolute path
IsOutside why.Scheme path = HasScheme path
IsOutside why.Climbs path = Climbs path

-- it begins with no `/`, has no scheme and climbs nowhere
pub record IsInside (path : List ℕ) : Type 0 where
  pub relative : ¬ IsAbsolute path
  pub bare : ¬ HasScheme path
  pub below : ¬ Climbs path

-- a source may be asked for the document by its own path, and for what stays inside its folder
abbrev pub MayBeAsked : List ℕ → Named → Type 0
MayBeAsked document (File path) = path ≡ document
MayBeAsked document (Relative path) = IsInside path

-- it may not be asked for, for this reason: a path but the document's is that of a `file:` URI
abbrev pub IsRefused : Outside → List ℕ → Named → Type 0
IsRefused reason document (File path) = (path ≢ document) × (reason ≡ why.Scheme)
IsRefused reason document (Relative path) = IsOutside reason path

-- a read failed, and no permission is the reason
abbrev pub IsForbidden : Result (Vec ℕ Global) NamedFault → Type 0
IsForbidden (Ok bytes) = ⊥
IsForbidden (Err (Io cause)) = error_kind cause ≡ PermissionDenied
IsForbidden (Err Memory) = ⊥
