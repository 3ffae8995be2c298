-- The versions of an asset. Both are of the form `^[0-9]+\.[0-9]+$` (glTF 2.0, section 5.9); the
-- major version is 2, and `minVersion` "MUST NOT be greater than the asset version" (section 3.2).
use Rattle.std.specs.Prelude.{ℕ, suc, Bool, false, ◌==◌, ◌&&◌, ◌||◌, not, nat_lt, bytes_eq}
use Rattle.std.specs.Prelude.{if◌then◌else◌, List, [], ◌∷◌, length, take, drop, get_or, codes}
use Rattle.std.specs.Prelude.{string_bytes}
use Rattle.gltf_json_scene.specs.declared.asset.Asset.{Asset}
use Rattle.gltf_findings.specs.declared.code.Code.TheVariants.{PatternMismatch, UnknownMajorVersion}
use Rattle.gltf_findings.specs.declared.code.Code.TheVariants.{MinVersionGreaterThanVersion}
use Rattle.gltf_findings.specs.Checks.{Checks, Condition, ◌&◌, member, optional_checks}

abbrev pub is_digit : ℕ → Bool
is_digit b = not (nat_lt b 48) && nat_lt b 58

-- how many digits a text begins with
abbrev pub digits_in_front : List ℕ → ℕ
digits_in_front [] = 0
digits_in_front (b ∷ s) = if is_digit b then suc (digits_in_front s) else 0

-- these digits, and what stands behind the sign after them
abbrev pub major_of : List ℕ → List ℕ
major_of t = take (digits_in_front t) t

abbrev pub minor_of : List ℕ → List ℕ
minor_of t = drop (suc (digits_in_front t)) t

-- digits, a point, digits
abbrev pub is_version : List ℕ → Bool
is_version t =
    nat_lt 0 (digits_in_front t) && get_or t (digits_in_front t) 0 == 46
    && nat_lt 0 (length (minor_of t)) && digits_in_front (minor_of t) == length (minor_of t)

-- digits without the zeros in front
abbrev pub significant : List ℕ → List ℕ
significant [] = []
significant (b ∷ s) = if b == 48 then significant s else b ∷ s

abbrev pub is_two : List ℕ → Bool
is_two digits = bytes_eq (significant digits) (codes "2")

-- of as many digits: the first that differs is greater
abbrev pub first_greater : List ℕ → List ℕ → Bool
first_greater [] b = false
first_greater (x ∷ xs) [] = false
first_greater (x ∷ xs) (y ∷ ys) = if x == y then first_greater xs ys else nat_lt y x

abbrev pub digits_greater : List ℕ → List ℕ → Bool
digits_greater a b =
    if length a == length b then first_greater a b else nat_lt (length b) (length a)

-- the number that digits spell is greater
abbrev pub is_greater : List ℕ → List ℕ → Bool
is_greater a b = digits_greater (significant a) (significant b)

-- a version is later: the major version is greater, or not less, and the minor one is greater
abbrev pub is_later : List ℕ → List ℕ → Bool
is_later a b =
    is_greater (major_of a) (major_of b)
    || not (is_greater (major_of b) (major_of a)) && is_greater (minor_of a) (minor_of b)

abbrev pub version_checks : List ℕ → Checks
version_checks t =
    Condition (is_version t) PatternMismatch
    & Condition (not (is_version t) || is_two (major_of t)) UnknownMajorVersion

abbrev pub min_version_checks : List ℕ → List ℕ → Checks
min_version_checks version t =
    Condition (is_version t) PatternMismatch
    & Condition (not (is_version t && is_version version && is_later t version))
    MinVersionGreaterThanVersion

abbrev pub asset_checks : Asset → Checks
asset_checks a =
    member (codes "version") (version_checks (string_bytes a.version))
    & member (codes "minVersion") (optional_checks
    (λ t. min_version_checks (string_bytes a.version) (string_bytes t)) a.min_version)
