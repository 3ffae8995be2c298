-- Names of files as contracts see them (glTF 2.0, section 2.8).
use Rattle.std.specs.Prelude.{◌≡◌, ℕ, List, [], ◌∷◌, Option, Some, None, IfSome, Bool, false, ◌⊎◌}
use Rattle.std.specs.Prelude.{string_bytes}
use Rattle.std.specs.Coded.{Coded, coded_list, coded⊎, coded_ℕ, code_by}
use Rattle.std.specs.Str.{bytes_eq}
use Rattle.std.specs.declared.alloc.Global.{Global}
use Rattle.std.specs.declared.string.String.{String}
use Rattle.std.proofs.Common.{refl, inl, inr}
use Rattle.gltf_names.specs.declared.name.Name as code
use Rattle.gltf_names.specs.declared.name.Name.TheVariants as code_name

-- a file's path or a relative reference, by its bytes
pub data Named : Type 0 where
  File : List ℕ → Named
  Relative : List ℕ → Named

-- the name that a value of the code is
abbrev pub named : code.Name → Named
named (code_name.File text) = File text.now
named (code_name.Relative text) = Relative text.now

-- names are one where kind and text are
abbrev pub is_same : Named → Named → Bool
is_same (File one) (File other) = bytes_eq one other
is_same (File one) (Relative other) = false
is_same (Relative one) (File other) = false
is_same (Relative one) (Relative other) = bytes_eq one other

abbrev pub text_of : Named → List ℕ
text_of (File text) = text
text_of (Relative text) = text

-- the text of the name that failed last, where one did
abbrev pub text_of_last : List Named → Option (List ℕ)
text_of_last [] = None
text_of_last (name ∷ earlier) = Some (text_of name)

-- a text that was kept is that of the name that failed last
abbrev pub IsTextOfLast : List Named → Option (String Global) → Type 0
IsTextOfLast names kept = IfSome kept (λ text. text_of_last names ≡ Some (string_bytes text))

abbrev pub split : Named → List ℕ ⊎ List ℕ
split (File text) = inl text
split (Relative text) = inr text

abbrev pub join : List ℕ ⊎ List ℕ → Named
join (inl text) = File text
join (inr text) = Relative text

pub join-split : (name : Named) → join (split name) ≡ name
join-split (File text) = refl
join-split (Relative text) = refl

-- a list of names can stand in a ghost field
abbrev pub coded_names : Coded (List Named)
coded_names =
    coded_list
    (code_by (List ℕ ⊎ List ℕ)
    (coded⊎ (coded_list coded_ℕ) (coded_list coded_ℕ)) split join join-split)
